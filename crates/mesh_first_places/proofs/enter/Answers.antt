use Rattle.std.proofs.Common.{refl, sym, ap, ◌∙◌, arith, length-set}
use Rattle.model.specs.Map.{face_next}
use Rattle.mesh_second_places.proofs.Turns.{stepped_since}
use Rattle.mesh_first_places.proofs.Faces.{next_below}
use Rattle.mesh_first_places.proofs.Firsts.{down_ranges, down_in, down_over, down_next}
use Rattle.mesh_first_places.proofs.Turns.{enters, enter_unfit}
use Rattle.mesh_first_places.proofs.enter.Goals as goal

pub other-o-requires : goal.other-o-requires
other-o-requires c = let r = down_ranges _ _ _ c.requires in let l = down_in _ _ _ c.requires in omega arith

pub offset_bounds-order-s : goal.offset_bounds-order-s
offset_bounds-order-s c = let r = down_ranges _ _ _ c.requires in let l = down_in _ _ _ c.requires in omega arith

pub bounds-order-s : goal.bounds-order-s
bounds-order-s c = down_in _ _ _ c.requires

pub along-y-requires : goal.along-y-requires
along-y-requires c =
    let a = c.requires in
    let e = down_next _ _ _ a in
    let l = next_below _ a.held.count a.held.perm _ (down_over _ _ _ a) in
    (a.held.count, omega arith)

pub mark_face-requires : goal.mark_face-requires
mark_face-requires c =
    let a = c.requires in
    let l = down_over _ _ _ a in
    (record { count = a.held.count; perm = a.held.perm; room = a.held.view.room }, omega arith, down_next _ _ _ a ∙ ap (face_next _) (sym c.other-o.ensures), c.along-y.ensures)

pub returns-then-not-mark_face : goal.returns-then-not-mark_face
returns-then-not-mark_face c =
    let f = c.mark_face in
    enter_unfit _ _ _ c.requires _ _ _ c.other-o.ensures _ _ f.ensures c.if-not-mark_face.true f.auto.w

pub overflow_cast-w : goal.overflow_cast-w
overflow_cast-w c = let r = down_ranges _ _ _ c.requires in omega arith

pub overflow_add-w : goal.overflow_add-w
overflow_add-w c = let r = down_ranges _ _ _ c.requires in omega arith

pub offset_bounds-w-s : goal.offset_bounds-w-s
offset_bounds-w-s c = let r = down_ranges _ _ _ c.requires in let l = down_in _ _ _ c.requires in omega arith

pub bounds-w-s : goal.bounds-w-s
bounds-w-s c = let l = down_in _ _ _ c.requires in omega (arith, c.requires.held.view.room, c.mark_face.auto.w)

pub overflow_add-t : goal.overflow_add-t
overflow_add-t c = let r = down_ranges _ _ _ c.requires in omega arith

pub overflow_add-t-2 : goal.overflow_add-t-2
overflow_add-t-2 c = let r = down_ranges _ _ _ c.requires in omega arith

pub first_place-requires : goal.first_place-requires
first_place-requires c =
    let a = c.requires in
    let o = c.other-o.ensures in
    enters _ _ _ a _ _ _ o (down_next _ _ _ a ∙ ap (face_next _) (sym o)) c.along-y.ensures _ _ c.mark_face.ensures c.if-not-mark_face.false

pub returns : goal.returns
returns c =
    let k = c.mark_face.auto.w in
    stepped_since _ _ _ _ _ _ _ _ refl (omega arith) (simp length-set k) _ _ c.first_place.ensures
