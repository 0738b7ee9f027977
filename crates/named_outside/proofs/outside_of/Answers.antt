use Rattle.std.proofs.Common.{arith}
use Rattle.named_outside.proofs.Faces.{outer_head}
use Rattle.named_outside.proofs.outside_of.Goals as goal

pub field-requires : goal.field-requires
field-requires c = let h = outer_head _ c.requires.0 (cc) in omega arith
