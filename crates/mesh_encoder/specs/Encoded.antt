-- What is left in the work area.
--
--   CodesOf              the bits and digits of types, and how many there are
use Rattle.std.specs.Prelude.{ℕ, ◌*◌, ◌≤◌, ◌≡◌, List, length}
use Rattle.model.specs.Mesh.{type_bits, type_digits}
use Rattle.work.specs.Map.{BITS, LABELS}
use Rattle.work.specs.Area.{region}
use Rattle.mesh_encoder.specs.declared.Sizes.{Sizes}

pub record CodesOf (n : ℕ) (ts w : List ℕ) (r : Sizes) (w' : List ℕ) : Type 0 where
  pub bit_count : r.bits ≡ length (type_bits ts)
  pub digit_count : r.digits ≡ length (type_digits ts)
  pub bits_fit : r.bits ≤ n
  pub digits_fit : r.digits ≤ n
  pub bits : region (BITS * n) r.bits w' ≡ type_bits ts
  pub digits : region (LABELS * n) r.digits w' ≡ type_digits ts
  pub kept : length w' ≡ length w
