use Rattle.std.proofs.Common.{◌≡◌, ◌≤◌}
use Rattle.model.specs.Numbers.{count}
use Rattle.table_test.specs.Tested.{is_mark}
use Rattle.table_test.proofs.marks.Given as goal

abbrev pub invariant-loop-entry : goal.invariant-loop-entry
invariant-loop-entry l = (l.marks ≤ l.entry-index) × (l.marks ≡ count (is_mark l.inverse) l.entry-index)
