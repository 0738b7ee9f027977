use Rattle.mesh_writing.proofs.Coding.{some_face, types_asked, types_coded}
use Rattle.mesh_writing.proofs.coded.Goals as goal

pub overflow_sub-n : goal.overflow_sub-n
overflow_sub-n c = some_face _ _ c.requires

pub codes-requires : goal.codes-requires
codes-requires c = types_asked _ _ c.requires

pub returns : goal.returns
returns c = types_coded _ _ c.requires _ _ c.codes.ensures
