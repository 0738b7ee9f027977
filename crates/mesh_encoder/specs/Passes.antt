-- One type.
--
--   Put n t s w r w'       the type t is put behind the bits and digits
use Rattle.std.specs.Prelude.{ℕ, ◌+◌, ◌*◌, ◌≤◌, ◌≡◌, List, ◌++◌, length}
use Rattle.model.specs.Mesh.{code_a, digit_of}
use Rattle.work.specs.Map.{TYPES, BITS, LABELS}
use Rattle.work.specs.Area.{region}
use Rattle.mesh_encoder.specs.declared.Sizes.{Sizes}

pub record Put (n t : ℕ) (s : Sizes) (w : List ℕ) (r : Sizes) (w' : List ℕ) : Type 0 where
  pub bits : region (BITS * n) r.bits w' ≡ region (BITS * n) s.bits w ++ code_a t
  pub digits : region (LABELS * n) r.digits w' ≡ region (LABELS * n) s.digits w ++ digit_of t
  pub few_bits : r.bits ≤ s.bits + 2
  pub few_digits : r.digits ≤ s.digits + 1
  pub types : (k : ℕ) → k ≤ n → region (TYPES * n) k w' ≡ region (TYPES * n) k w
  pub kept : length w' ≡ length w
