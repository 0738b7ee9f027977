use Rattle.std.proofs.Common.{ℕ, ◌<◌, length}
use Rattle.model.specs.Map.{face_next}
use Rattle.outer_face.specs.Marks.{number_by}
use Rattle.outer_face.proofs.Ahead.{ahead}
use Rattle.outer_face.proofs.Along.{Along}
use Rattle.outer_face.proofs.lowest.Given as goal

abbrev pub invariant-loop-x : goal.invariant-loop-x
invariant-loop-x l = (l.x < length l.order) × ((k : ℕ) × Along (face_next l.order) (number_by l.w) l.outside k l.x l.least)

abbrev pub decreases-loop-x : goal.decreases-loop-x
decreases-loop-x l = ahead (face_next l.order) l.outside (length l.order) l.x
