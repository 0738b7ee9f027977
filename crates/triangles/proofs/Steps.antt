-- The next dart of a face is a dart.
use Prim.Native.Nat.{ℕ, ◌<◌}
use mathlib.Core.Path.{◌≡◌}
use mathlib.Core.Bool.{true}
use mathlib.Core.List.{List}
use lib.ListN.{length}
use Rattle.model.specs.Numbers.{is_permutation}
use Rattle.model.specs.Map.{face_next, dart_count_fits}
use Rattle.model.proofs.Fitness.{count_even}
use Rattle.orbits.proofs.Maps.{face_perm}

pub step_bound : (rot : List ℕ) (d : ℕ) → dart_count_fits (length rot) ≡ true → is_permutation rot ≡ true → d < length rot → face_next rot d < length rot
step_bound rot d size entries = (face_perm rot entries (count_even (length rot) size)).bound d
