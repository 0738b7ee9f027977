use native.Mathlib.Omega.{arith}
use mathlib.Core.Path.{◌≡◌, refl, sym, ◌∙◌}
use mathlib.Core.Bool.{false}
use borrow.Author.Tests.{not-true, not-false}
use Rattle.model.specs.Calls.{table_refused}
use Rattle.model.proofs.Fitness.{count_parts}
use Rattle.model.proofs.Numbered.{passed_on}
use Rattle.write_checks.proofs.Refusing.{early_parts}
use Rattle.writing.proofs.Making.{no_table, turned_away, Begun, walk_fits, made_laid, walk_unfit, made_refused}
use Rattle.writing.proofs.made.Goals as goal
use Rattle.writing.proofs.made.Goals.{Else-bad_table, After-walked}

stood : (c : Else-bad_table) → table_refused c.args.table ≡ false
stood c = not-true _ (sym c.is_loaded-bad_table.ensures ∙ c.if-bad_table.false)

-- the early refusals are passed, and the plan is walked
begun : (c : After-walked) →
    Begun c.args.kind (record { rotation = c.args.order.now; root = c.args.root; outside = c.args.outside }) c.args.w.now c.args.out.now
    c.entries_good-good.new.w c.walked.new.w c.walked.result
begun c = record { kept = c.entries_good-good.auto.w; passes = sym c.in_ok-early.ensures; walk = c.walked.ensures }

pub returns-then-bad_table : goal.returns-then-bad_table
returns-then-bad_table c = no_table (not-false _ (sym c.is_loaded-bad_table.ensures ∙ c.if-bad_table.true))

pub early-requires : goal.early-requires
early-requires c = λ l. c.entries_good-good.ensures.answer l

pub returns-in_err-early : goal.returns-in_err-early
returns-in_err-early c =
    rw (passed_on _ _ c.from_residual.ensures)
    (turned_away (stood (goal.at.returns-in_err-early c).Else-bad_table) c.entries_good-good.auto.w c.in_err-early.ensures)

pub invariant_of-rotation : goal.invariant_of-rotation
invariant_of-rotation c = let q = early_parts _ _ _ _ (sym c.in_ok-early.ensures) in record { sized = q.count; entries = q.entries }

pub invariant_of-plan : goal.invariant_of-plan
invariant_of-plan c = record { dart = (early_parts _ _ _ _ (sym c.in_ok-early.ensures)).root }

pub walked-requires : goal.walked-requires
walked-requires c =
    let q = early_parts _ _ _ _ (sym c.in_ok-early.ensures) in
    let g = c.entries_good-good in
    let good = g.ensures.answer (count_parts _ q.count).2 ∙ q.entries in
    (q.room, g.ensures.zeros good (omega (arith, q.room, g.auto.w)))

pub refused-requires : goal.refused-requires
refused-requires c = walk_unfit (begun (goal.at.refused-requires c).After-walked) c.if-not-walked.true

pub returns-then-not-walked : goal.returns-then-not-walked
returns-then-not-walked c =
    let at = goal.at.returns-then-not-walked c in
    made_refused (begun at.After-walked) c.if-not-walked.true _ (stood at.Else-bad_table) _ _ c.refused.ensures

pub laid-requires : goal.laid-requires
laid-requires c = walk_fits (begun (goal.at.laid-requires c).After-walked) c.if-not-walked.false

pub returns : goal.returns
returns c =
    let at = goal.at.returns c in
    made_laid (begun at.After-walked) c.if-not-walked.false _ (stood at.Else-bad_table) _ _ _ (c.laid.ensures c.args.table refl)
