use Rattle.std.proofs.Common.{◌∙◌, arith}
use Rattle.grouping.proofs.Packed.{part_low, rest_is, packed_none, packed_more}
use Rattle.grouping.proofs.put_rest.Goals as goal

pub loop-j-init : goal.loop-j-init
loop-j-init g c = packed_none _ _ c.args.ds.now

pub digits-requires : goal.digits-requires
digits-requires g c = (c.requires.0, c.requires.1, part_low _ _ _ c.args.ds.now c.requires.2)

pub loop-j-preserved : goal.loop-j-preserved
loop-j-preserved g c =
    let is = rest_is _ _ c.args.ds.now _ _ c.min-from.ensures in
    packed_more _ _ c.args.ds.now c.loop-j.j _ _ (omega arith) c.loop-j.invariant (c.digits.ensures ∙ is)
