-- What the test of a table looks at.
--
--   is_mark inv b         the inverse inv says that the byte b stands for no group
--   LeadsBack bs inv     each value's byte leads back to it
--   Decides P r          the answer r says whether P holds
use Rattle.std.specs.Prelude.{ℕ, ◌<◌, ◌≡◌, Bool, true, false, List, eqb, get_or}

abbrev pub is_mark : List ℕ → ℕ → Bool
is_mark inv b = eqb (get_or inv b 0) 243

abbrev pub LeadsBack : List ℕ → List ℕ → Type 0
LeadsBack bs inv = (v : ℕ) → v < 243 → get_or inv (get_or bs v 0) 0 ≡ v

pub record Decides (P : Type 0) (r : Bool) : Type 0 where
  pub yes : r ≡ true → P
  pub no : r ≡ false → P → ⊥
