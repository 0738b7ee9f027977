use mathlib.Core.Path.{sym}
use Rattle.model.proofs.Fitness.{count_parts}
use Rattle.model.proofs.Numbered.{passed_on}
use Rattle.measure_checks.proofs.Refusing.{early_parts}
use Rattle.measuring.proofs.Making.{turned_away, judged_refused, to_copy, made}
use Rattle.measuring.proofs.made.Goals as goal

pub returns-in_err-early : goal.returns-in_err-early
returns-in_err-early c =
    rw (passed_on _ _ c.from_residual.ensures) (turned_away c.in_err-early.ensures)

pub invariant_of-rotation : goal.invariant_of-rotation
invariant_of-rotation c = let q = early_parts _ _ (sym c.in_ok-early.ensures) in record { sized = q.count; entries = q.entries }

pub invariant_of-plan : goal.invariant_of-plan
invariant_of-plan c = record { dart = (count_parts _ (early_parts _ _ (sym c.in_ok-early.ensures)).count).0 }

pub judge-requires : goal.judge-requires
judge-requires c = (early_parts _ _ (sym c.in_ok-early.ensures)).room

pub returns-in_err-faces : goal.returns-in_err-faces
returns-in_err-faces c =
    rw (passed_on _ _ c.from_residual-in_err-faces.ensures) (judged_refused (record { passed = sym c.in_ok-early.ensures; judged = c.in_err-faces.ensures }))

pub copied-requires : goal.copied-requires
copied-requires c = to_copy (record { passed = sym c.in_ok-early.ensures; judged = c.in_ok-faces.ensures })

pub returns : goal.returns
returns c = made (record { passed = sym c.in_ok-early.ensures; judged = c.in_ok-faces.ensures }) _ c.copied.ensures
