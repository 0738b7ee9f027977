use Rattle.std.proofs.Common.{refl, arith, length-set}
use Rattle.tables.proofs.Filling.{one_filled, all_filled}
use Rattle.tables.proofs.numbers.Goals as goal

pub loop-v-preserved : goal.loop-v-preserved
loop-v-preserved c =
    let l = c.loop-v in
    (simp length-set l.invariant.0, one_filled (λ i. i) l.v _ l.bytes (omega (arith, l.invariant.0)) refl l.invariant.1)

pub returns : goal.returns
returns c = let l = c.loop-v in all_filled (λ i. i) 243 l.v l.bytes l.invariant.0 (omega arith) l.invariant.1
