use mathlib.Core.Path.{refl, sym, ap, ◌∙◌}
use Rattle.model.specs.Refusals.{number_of}
use Rattle.model.proofs.Numbered.{passed_on}
use Rattle.decoding.specs.Planned.{decided}
use Rattle.decoding.proofs.Outcomes.{checked_ok, checked_none, planned_judged, verdict_early}
use Rattle.decoding.proofs.verdict.Goals as goal

pub returns-in_err-head : goal.returns-in_err-head
returns-in_err-head c = verdict_early _ _ _ _ _ (ap number_of (sym c.in_err-head.was) ∙ c.checked.ensures.number) (passed_on _ _ c.from_residual.ensures)

pub judge_mesh-requires-clause-checked : goal.judge_mesh-requires-clause-checked
judge_mesh-requires-clause-checked c = (c.args.table, refl, checked_ok _ _ _ _ _ c.in_ok-head.was c.checked.ensures.number c.checked.ensures.fields)

pub returns-then-head-eq3 : goal.returns-then-head-eq3
returns-then-head-eq3 c =
    let k = checked_ok _ _ _ _ _ c.in_ok-head.was c.checked.ensures.number c.checked.ensures.fields in
    decided (checked_none _ _ _ _ k) (c.judge_mesh.ensures _ k.stands refl)

pub read_core-requires : goal.read_core-requires
read_core-requires c =
    let k = checked_ok _ _ _ _ _ c.in_ok-head.was c.checked.ensures.number c.checked.ensures.fields in
    ((c.args.table, k.stands, refl), k.passed, k.room, λ three. c.if-head-eq3.false (k.kind ∙ three))

pub returns : goal.returns
returns c =
    let k = checked_ok _ _ _ _ _ c.in_ok-head.was c.checked.ensures.number c.checked.ensures.fields in
    decided (checked_none _ _ _ _ k) (planned_judged _ _ _ _ (c.read_core.ensures _ k.stands refl))
