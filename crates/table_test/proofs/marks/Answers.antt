use Rattle.std.proofs.Common.{◌≡◌, refl, arith, rules}
use Rattle.model.specs.Numbers.{count}
use Rattle.table_test.proofs.Exact.{mark_more, mark_same}
use Rattle.table_test.proofs.marks.Goals as goal
use Rattle.table_test.proofs.marks.Goals.{then-entry, else-entry}

pub loop-entry-init : goal.loop-entry-init
unfolding count
loop-entry-init c = (search rules, refl)

pub loop-entry-preserved : goal.loop-entry-preserved
loop-entry-preserved c =
    let l = c.loop-entry in
    elim c.if-entry.branch [
      | then-entry w ↦ (omega arith, rw w.marks-is (mark_more _ l.entry-index _ w.if-entry.true l.invariant.1))
      | else-entry w ↦ (omega arith, rw w.marks-is (mark_same _ l.entry-index _ w.if-entry.false l.invariant.1))
    ]

pub returns : goal.returns
returns c = let all : c.loop-entry.entry-index ≡ 256 = omega arith in rw all at c.loop-entry.invariant.1
