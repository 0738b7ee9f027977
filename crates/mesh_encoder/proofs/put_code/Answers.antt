use Rattle.std.proofs.Common.{arith}
use Rattle.mesh_encoder.proofs.Coding.{put_two, put_one}
use Rattle.mesh_encoder.proofs.put_code.Goals as goal

pub returns-then-t-lt3 : goal.returns-then-t-lt3
returns-then-t-lt3 c = let p = c.requires in put_two _ _ _ _ p.1 p.2 p.4 c.if-t-lt3.true

pub returns : goal.returns
returns c = let p = c.requires in put_one _ _ _ _ p.1 p.2 p.3 (omega (arith, c.if-t-lt3.false))
