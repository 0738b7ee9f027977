use Rattle.std.proofs.Common.{◌∙◌, ap}
use Rattle.std.proofs.lemmas.List.{length-take-le}
use Rattle.model.specs.Map.{dart_count_fits}
use Rattle.work.specs.Area.{region}
use Rattle.named_outside.proofs.Faces.{face_zero_is}
use Rattle.named_outside.proofs.is_face.Goals as goal

pub invariant_of-is_lowest : goal.invariant_of-is_lowest
unfolding region
invariant_of-is_lowest c = record {
  sized = ap dart_count_fits (length-take-le c.args.n c.args.w.now c.requires.1) ∙ c.requires.0;
  entries = c.requires.2;
}

pub returns-then-zero : goal.returns-then-zero
returns-then-zero c = face_zero_is _ _ _ c.requires.0 c.if-zero.true
