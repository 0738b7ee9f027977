use native.Mathlib.Omega.{arith}
use mathlib.Core.Path.{sym, ap, ◌∙◌}
use Rattle.std.specs.Prelude.{Ok}
use Rattle.model.proofs.Numbered.{passed_on}
use Rattle.placing.proofs.Storing.{placed_refused, placed_there, placed_new, new_fits}
use Rattle.placing.proofs.place.Goals as goal

pub returns-in_err-number : goal.returns-in_err-number
returns-in_err-number c =
    let p = placed_refused _ _ _ _ c.in_err-number.ensures in
    (passed_on _ _ c.from_residual.ensures ∙ p.0, p.1)

pub put-requires : goal.put-requires
put-requires c = new_fits _ _ _ _ (ap Ok (sym c.in-New.is) ∙ c.in_ok-number.ensures)

pub overflow_add-end : goal.overflow_add-end
overflow_add-end c =
    let f = new_fits c.args.«record».now c.args.shelf.now c.args.used _ (ap Ok (sym c.in-New.is) ∙ c.in_ok-number.ensures) in
    omega arith

pub returns-in-There : goal.returns-in-There
returns-in-There c = placed_there _ _ _ _ (ap Ok (sym c.in-There.is) ∙ c.in_ok-number.ensures)

pub returns-in-New : goal.returns-in-New
returns-in-New c = placed_new _ _ _ _ (ap Ok (sym c.in-New.is) ∙ c.in_ok-number.ensures) _ c.put.ensures
