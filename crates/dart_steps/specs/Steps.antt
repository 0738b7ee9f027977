-- The step from dart to dart.
--
--   step_of rot across    the step round a vertex, or along a face
--   Permutes of           the step `of rot` permutes the darts of the rotation rot
use Rattle.std.specs.Prelude.{ℕ, ◌≡◌, Bool, true, false, List, length}
use Rattle.model.specs.Numbers.{is_permutation}
use Rattle.model.specs.Map.{next, face_next, dart_count_fits}
use Rattle.orbits.specs.Permutation.{Perm}

abbrev pub step_of : List ℕ → Bool → ℕ → ℕ
step_of rot false = next rot
step_of rot true = face_next rot

abbrev pub Permutes : (List ℕ → ℕ → ℕ) → Type 0
Permutes of = (rot : List ℕ) → is_permutation rot ≡ true → dart_count_fits (length rot) ≡ true → Perm (length rot) (of rot)
