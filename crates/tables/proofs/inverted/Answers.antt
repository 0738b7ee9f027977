use Rattle.std.proofs.Common.{◌≡◌, ◌-◌, ◌∙◌, arith, rules}
use Rattle.tables.proofs.Inverting.{none_so_far, one_so_far, all_so_far}
use Rattle.tables.proofs.inverted.Goals as goal

pub loop-v-init : goal.loop-v-init
loop-v-init c = none_so_far _ c.told-bytes

pub loop-v-preserved : goal.loop-v-preserved
loop-v-preserved c =
    let v = c.loop-v.v - 1 in
    one_so_far _ c.told-bytes v c.loop-v.v _ (omega arith) (omega arith) (search rules) c.loop-v.invariant

pub returns : goal.returns
returns c = let none : c.loop-v.v ≡ 0 = omega arith in rw none at c.loop-v.invariant ∙ all_so_far _
