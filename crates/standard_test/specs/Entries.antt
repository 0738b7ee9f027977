-- The entries by which the standard table is told.
--
--   standard_entry b      the entry of the standard table's inverse at place b
--   Alike g from to xs   the entries from one place to another are those of g
use Rattle.std.specs.Prelude.{ℕ, ◌≤◌, ◌<◌, ◌≡◌, cond, List, ltb, get_or}

unfoldable pub standard_entry : ℕ → ℕ
standard_entry b = cond (ltb b 243) b 243

pub record Alike (g : ℕ → ℕ) (from to : ℕ) (xs : List ℕ) : Type 0 where
  pub alike : (i : ℕ) → from ≤ i → i < to → get_or xs i 0 ≡ g i
