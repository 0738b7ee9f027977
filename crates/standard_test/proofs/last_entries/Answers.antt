use Rattle.std.proofs.Common.{arith}
use borrow.Author.Tests.{eqb-true}
use Rattle.standard_test.proofs.Bits.{or_none}
use Rattle.standard_test.proofs.Entries.{alike_none, alike_to, alike_on}
use Rattle.standard_test.proofs.last_entries.Goals as goal

pub loop-b-init : goal.loop-b-init
loop-b-init c = λ e. alike_none _ 224 _

pub loop-b-preserved : goal.loop-b-preserved
loop-b-preserved c = λ e. let (before, here) = or_none _ _ e in alike_on _ 224 c.loop-b.b _ _ here c.standard_entry.ensures (c.loop-b.invariant before)

pub returns : goal.returns
returns c = λ e. alike_to _ 224 256 c.loop-b.b _ (omega arith) (c.loop-b.invariant (eqb-true _ 0 e))
