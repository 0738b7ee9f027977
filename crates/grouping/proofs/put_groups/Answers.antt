use Rattle.grouping.proofs.Packed.{part_low, rest_fits, packed_all}
use Rattle.grouping.proofs.put_groups.Goals as goal

pub put_rest-requires : goal.put_rest-requires
put_rest-requires g c =
    let p = c.requires in
    (p.0, p.1, part_low _ _ _ c.args.ds.now p.2, rest_fits _ _ _ _ c.split_at_mut-first.ensures.back_len p.3)

pub returns : goal.returns
returns g c =
    let cut = c.split_at_mut-first.ensures in
    packed_all _ _ c.args.ds.now _ _ _ _ _ _ cut.front_len cut.back_len c.put_full.ensures c.put_rest.ensures
