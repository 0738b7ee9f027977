use native.Mathlib.Omega.{arith}
use mathlib.Core.Path.{refl, sym, ap, ◌∙◌}
use Rattle.model.specs.Refusals.{number_of}
use Rattle.model.proofs.Numbered.{passed_on}
use Rattle.decoding.specs.Planned.{Checked}
use Rattle.decoding.proofs.Outcomes.{checked_ok}
use Rattle.reading.proofs.Outcomes.{out_record, out_output, out_mesh, out_read, out_not_read}
use Rattle.reading.proofs.read_out.Goals as goal

pub returns-in_err-head : goal.returns-in_err-head
returns-in_err-head c = out_record _ _ _ _ _ _ (passed_on _ _ c.from_residual.ensures) (ap number_of (sym c.in_err-head.was) ∙ c.checked.ensures.number)

pub returns-then-out-m : goal.returns-then-out-m
returns-then-out-m c = out_output _ _ _ _ (checked_ok _ _ _ _ _ c.in_ok-head.was c.checked.ensures.number c.checked.ensures.fields) _ (omega arith)

pub read_mesh-requires-clause-checked : goal.read_mesh-requires-clause-checked
read_mesh-requires-clause-checked c = (c.args.table, refl, checked_ok _ _ _ _ _ c.in_ok-head.was c.checked.ensures.number c.checked.ensures.fields)

pub returns-then-head-eq3 : goal.returns-then-head-eq3
returns-then-head-eq3 c =
    let k = checked_ok _ _ _ _ _ c.in_ok-head.was c.checked.ensures.number c.checked.ensures.fields in
    out_mesh _ _ _ _ k _ c.if-out-m.false _ _ (c.read_mesh.ensures _ k.stands refl)

pub read_core-requires : goal.read_core-requires
read_core-requires c =
    let k = checked_ok _ _ _ _ _ c.in_ok-head.was c.checked.ensures.number c.checked.ensures.fields in
    ((c.args.table, k.stands, refl), k.passed, k.room, λ three. c.if-head-eq3.false (k.kind ∙ three))

pub returns-in_err-back : goal.returns-in_err-back
returns-in_err-back c =
    let k = checked_ok _ _ _ _ _ c.in_ok-head.was c.checked.ensures.number c.checked.ensures.fields in
    out_not_read _ _ _ _ k _ c.if-out-m.false _ _ _ _ c.in_err-back.was (c.read_core.ensures _ k.stands refl) (passed_on _ _ c.from_residual-in_err-back.ensures)

pub copy_front-requires : goal.copy_front-requires
copy_front-requires c =
    let k : Checked c.args.table c.in_ok-head.head c.args.«record».now _ = checked_ok _ _ _ _ _ c.in_ok-head.was c.checked.ensures.number c.checked.ensures.fields in
    (omega (arith, k.room, k.edges, c.read_core.auto.w), omega arith)

pub returns : goal.returns
returns c =
    let k = checked_ok _ _ _ _ _ c.in_ok-head.was c.checked.ensures.number c.checked.ensures.fields in
    out_read _ _ _ _ k _ c.if-out-m.false _ _ _ _ c.in_ok-back.was (c.read_core.ensures _ k.stands refl) c.copy_front.ensures
