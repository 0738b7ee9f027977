use Rattle.mesh_codewords.proofs.Codes.{reading_start}
use Rattle.mesh_codewords.proofs.read_windows.Goals as goal

pub loop-s-init : goal.loop-s-init
loop-s-init c = reading_start _ _ _ _
