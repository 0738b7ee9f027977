use Rattle.std.proofs.Common.{refl, arith}
use Rattle.standard_test.proofs.Bits.{or_none}
use Rattle.standard_test.proofs.Entries.{alike_none, alike_to, alike_on}
use borrow.Author.Tests.{eqb-true}
use Rattle.standard_test.proofs.last_bytes.Goals as goal

pub loop-v-init : goal.loop-v-init
loop-v-init c = λ e. alike_none _ 224 _

pub loop-v-preserved : goal.loop-v-preserved
loop-v-preserved c = λ e. let (before, here) = or_none _ _ e in alike_on _ 224 c.loop-v.v _ _ here refl (c.loop-v.invariant before)

pub returns : goal.returns
returns c = λ e. alike_to _ 224 243 c.loop-v.v _ (omega arith) (c.loop-v.invariant (eqb-true _ 0 e))
