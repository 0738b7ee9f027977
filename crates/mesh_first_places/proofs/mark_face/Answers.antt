use Rattle.std.proofs.Common.{inl, inr, arith, length-set}
use Rattle.trace_steps.proofs.Grounds.{few}
use Rattle.mesh_first_places.proofs.Faces.{faced, unfaced, x_in, y_in}
use Rattle.mesh_first_places.proofs.mark_face.Goals as goal
use Rattle.mesh_first_places.proofs.mark_face.Goals.{
  then-z-o-via-then-z-o,
  then-z-o-via-else-z-o+then-o-x,
  then-z-o-via-else-z-o+else-o-x+then-x-y,
  then-z-o-via-else-z-o+else-o-x+else-x-y+then-y-o,
}

pub along-z-requires : goal.along-z-requires
along-z-requires c = let p = c.requires in (p.0.count, y_in p.0 p.1 p.2 p.3)

pub offset_bounds-w-x : goal.offset_bounds-w-x
offset_bounds-w-x c = let p = c.requires in let f = few p.0 in let l = x_in p.0 p.1 p.2 in omega arith

pub bounds-w-x : goal.bounds-w-x
bounds-w-x c = let p = c.requires in let r = p.0.room in let l = x_in p.0 p.1 p.2 in simp length-set (omega arith)

pub offset_bounds-w-y : goal.offset_bounds-w-y
offset_bounds-w-y c = let p = c.requires in let f = few p.0 in let l = y_in p.0 p.1 p.2 p.3 in omega arith

pub bounds-w-y : goal.bounds-w-y
bounds-w-y c = let p = c.requires in let r = p.0.room in let l = y_in p.0 p.1 p.2 p.3 in simp length-set (omega arith)

pub returns-then-z-o : goal.returns-then-z-o
returns-then-z-o c =
    unfaced _ _ _ _ _ c.requires.2 c.requires.3 c.along-z.ensures
    (elim c.then-z-o.branch [
      | then-z-o-via-then-z-o u ↦ inl u.if-z-o.true
      | then-z-o-via-else-z-o+then-o-x u ↦ inr (inl u.if-o-x.true)
      | then-z-o-via-else-z-o+else-o-x+then-x-y u ↦ inr (inr (inl u.if-x-y.true))
      | then-z-o-via-else-z-o+else-o-x+else-x-y+then-y-o u ↦ inr (inr (inr u.if-y-o.true))
    ])
    _

pub returns : goal.returns
returns c = let p = c.requires in faced _ _ _ _ _ p.2 p.3 c.along-z.ensures c.if-z-o.false c.if-o-x.false c.if-x-y.false c.if-y-o.false _
