use native.Mathlib.Omega.{arith}
use mathlib.Core.Path.{sym, ap, ◌∙◌}
use Rattle.std.specs.Prelude.{Some, Err}
use Rattle.model.proofs.Numbered.{passed_on}
use Rattle.placing.proofs.Storing.{asked_none, asked_some, spot_over, spot_broken, spot_there, spot_full, spot_new}
use Rattle.placing.proofs.spot_of.Goals as goal

pub returns-then-used-shelf : goal.returns-then-used-shelf
returns-then-used-shelf c = spot_over _ _ _ (omega arith)

pub returns-in_err-n : goal.returns-in_err-n
returns-in_err-n c =
    let n = asked_none _ _ _ c.in_err-n.ensures.value in
    passed_on _ _ c.from_residual.ensures ∙ (ap Err n.1 ∙ spot_broken _ _ _ (omega arith) (n.0 ∙ c.search.ensures))

pub returns-then-shelf-used : goal.returns-then-shelf-used
returns-then-shelf-used c =
    spot_full _ _ _ (omega arith) _ _ (ap Some (sym c.in-Missing.is) ∙ (asked_some _ _ _ c.in_ok-n.ensures.value ∙ c.search.ensures)) (omega arith)

pub returns-in-There : goal.returns-in-There
returns-in-There c =
    spot_there _ _ _ (omega arith) _ _ (ap Some (sym c.in-There.is) ∙ (asked_some _ _ _ c.in_ok-n.ensures.value ∙ c.search.ensures))

pub returns-else-shelf-used : goal.returns-else-shelf-used
returns-else-shelf-used c =
    spot_new _ _ _ (omega arith) _ _ (ap Some (sym c.in-Missing.is) ∙ (asked_some _ _ _ c.in_ok-n.ensures.value ∙ c.search.ensures)) (omega arith)
