use Rattle.std.proofs.Common.{ℕ, ◌<◌, length}
use Rattle.model.specs.Map.{face_next}
use Rattle.outer_face.proofs.Ahead.{ahead}
use Rattle.outer_face.proofs.Rising.{Rising}
use Rattle.outer_face.proofs.is_lowest.Given as goal

abbrev pub invariant-loop-d : goal.invariant-loop-d
invariant-loop-d l = (l.d < length l.rotation.order.now) × ((j : ℕ) × Rising (face_next l.rotation.order.now) l.x j l.d)

abbrev pub decreases-loop-d : goal.decreases-loop-d
decreases-loop-d l = ahead (face_next l.rotation.order.now) l.x (length l.rotation.order.now) l.d
