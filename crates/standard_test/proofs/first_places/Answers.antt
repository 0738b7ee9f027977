use Rattle.std.proofs.Common.{refl, arith}
use borrow.Author.Tests.{eqb-true}
use Rattle.standard_test.proofs.Bits.{or_none}
use Rattle.standard_test.proofs.Entries.{alike_none, alike_to, alike_on}
use Rattle.standard_test.proofs.first_places.Goals as goal

pub loop-v-init : goal.loop-v-init
loop-v-init c = λ e. (alike_none _ 0 _, alike_none _ 0 _)

pub loop-v-preserved : goal.loop-v-preserved
loop-v-preserved c = λ e.
    let (before, here) = or_none _ _ e in
    let (bytes, inverse) = or_none _ _ here in
    let (so_far, so-far-inverse) = c.loop-v.invariant before in
    (alike_on _ 0 c.loop-v.v _ _ bytes refl so_far, alike_on _ 0 c.loop-v.v _ _ inverse refl so-far-inverse)

pub returns : goal.returns
returns c = λ e.
    let (bytes, inverse) = c.loop-v.invariant (eqb-true _ 0 e) in
    (alike_to _ 0 224 c.loop-v.v _ (omega arith) bytes, alike_to _ 0 224 c.loop-v.v _ (omega arith) inverse)
