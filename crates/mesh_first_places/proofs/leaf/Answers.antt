use Rattle.std.proofs.Common.{refl, arith}
use Rattle.mesh_second_places.proofs.Turns.{stepped_since}
use Rattle.mesh_first_places.proofs.Firsts.{first_ranges, first_in}
use Rattle.mesh_first_places.proofs.Turns.{first_goes_on}
use Rattle.mesh_first_places.proofs.leaf.Goals as goal

pub put_edge-requires : goal.put_edge-requires
put_edge-requires c =
    let a = c.requires.0 in
    let r = first_ranges _ _ _ _ a in
    (r.few_darts, a.held.view.room, first_in _ _ _ _ a, r.edges, r.waiting)

pub overflow_add-t : goal.overflow_add-t
overflow_add-t c = let r = first_ranges _ _ _ _ c.requires.0 in omega arith

pub overflow_add-t-2 : goal.overflow_add-t-2
overflow_add-t-2 c = let r = first_ranges _ _ _ _ c.requires.0 in omega arith

pub overflow_sub-s : goal.overflow_sub-s
overflow_sub-s c = let r = first_ranges _ _ _ _ c.requires.0 in omega arith

pub second_place-requires : goal.second_place-requires
second_place-requires c = first_goes_on _ _ _ _ c.requires.0 _ refl _ c.put_edge.auto.w c.requires.1 c.put_edge.ensures

pub returns : goal.returns
returns c = stepped_since _ _ _ _ _ _ _ _ refl (omega arith) c.put_edge.auto.w _ _ c.second_place.ensures
