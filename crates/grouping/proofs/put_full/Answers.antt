use Rattle.std.proofs.Common.{◌*◌, ◌∙◌, arith}
use Rattle.grouping.proofs.Packed.{part_low, group_fits, full_is, packed_none, packed_more}
use Rattle.grouping.proofs.put_full.Goals as goal

pub loop-i-init : goal.loop-i-init
loop-i-init g c = packed_none _ _ c.args.ds.now

pub digits-requires : goal.digits-requires
digits-requires g c = (c.requires.0, c.requires.1, part_low _ _ _ c.args.ds.now c.requires.2)

pub loop-i-preserved : goal.loop-i-preserved
loop-i-preserved g c =
    let fits = group_fits g.row.WIDTH _ c.loop-i.i c.loop-i-test.true in
    let is = full_is g.row.BASE g.row.WIDTH c.args.ds.now (c.loop-i.i * g.row.WIDTH) (omega (arith, c.requires.3)) in
    packed_more _ _ c.args.ds.now c.loop-i.i _ _ (omega arith) c.loop-i.invariant (c.digits.ensures ∙ is)
