use Rattle.permutation.proofs.Zeros.{zero_bits}
use Rattle.permutation.proofs.is_permutation.Goals as goal

pub marked-requires : goal.marked-requires
marked-requires c = (c.requires, zero_bits 1024)
