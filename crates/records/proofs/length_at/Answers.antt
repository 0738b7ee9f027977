use native.Mathlib.Omega.{arith}
use mathlib.Core.Path.{sym, ap, ◌∙◌}
use lib.ListN.{length}
use Rattle.model.proofs.Numbered.{ok_zero, err_some}
use Rattle.records.proofs.Stands.{record_short, record_long, length_refused, length_passes, length_some}
use Rattle.records.proofs.length_at.Goals as goal

pub returns-then-at-bytes-clause-length : goal.returns-then-at-bytes-clause-length
returns-then-at-bytes-clause-length c = sym (ap length (record_short c.args.bytes.now c.args.at (omega arith)))

pub returns-then-left-lt6-clause-length : goal.returns-then-left-lt6-clause-length
returns-then-left-lt6-clause-length c = sym (ap length (record_short c.args.bytes.now c.args.at (omega arith)))

pub returns-then-length-left-clause-length : goal.returns-then-length-left-clause-length
returns-then-length-left-clause-length c = sym (ap length (record_long c.args.bytes.now c.args.at _ c.field-length.ensures (omega arith)))

pub returns-then-is_err-clause-length : goal.returns-then-is_err-clause-length
returns-then-is_err-clause-length c =
    length_refused _ _ _ c.field-length.ensures _ c.parse.ensures.number (err_some _ (sym c.is_err.ensures.value ∙ c.if-is_err.true))

pub returns-clause-length : goal.returns-clause-length
returns-clause-length c =
    length_passes _ _ _ c.field-length.ensures _ c.parse.ensures.number (ok_zero _ (sym c.is_err.ensures.value ∙ c.if-is_err.false)) (omega arith)

pub returns-clause-some : goal.returns-clause-some
returns-clause-some c =
    length_some _ _ _ c.field-length.ensures _ c.parse.ensures.number (ok_zero _ (sym c.is_err.ensures.value ∙ c.if-is_err.false))
