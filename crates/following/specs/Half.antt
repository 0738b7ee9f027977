-- The names of cycles half-way: those below d stand in the work area, and the cycle of d is followed.
--
--   unnamed              no cycle's name
--   name_below f n d x    the name of x's cycle if it is below d; unnamed otherwise
--   names_below f n d     these names of the darts below n
--   HalfNamed            from place a on stand the names below d, and d is the least dart of its cycle
--   Followed             the cycle of d has its names too, and its size is told
use Rattle.std.specs.Prelude.{ℕ, ◌+◌, ◌≤◌, ◌<◌, ◌≡◌, true, cond, List, ltb, length}
use Rattle.model.specs.Numbers.{least, cycle_size, is_permutation, tabulate}
use Rattle.model.specs.Map.{dart_count_fits}
use Rattle.work.specs.Area.{region, placed}

abbrev pub unnamed : ℕ
unnamed = 65535

unfoldable pub name_below : (ℕ → ℕ) → ℕ → ℕ → ℕ → ℕ
name_below f n d x = cond (ltb (least f n x) d) (least f n x) unnamed

unfoldable pub names_below : (ℕ → ℕ) → ℕ → ℕ → List ℕ
names_below f n d = tabulate (name_below f n d) 0 n

pub record HalfNamed (step : List ℕ → ℕ → ℕ) (rot : List ℕ) (a d : ℕ) (w : List ℕ) : Type 0 where
  pub size : dart_count_fits (length rot) ≡ true
  pub entries : is_permutation rot ≡ true
  pub below : d < length rot
  pub fits : a + length rot ≤ length w
  pub names : region a (length rot) w ≡ names_below (step rot) (length rot) d
  pub own : least (step rot) (length rot) d ≡ d

pub record Followed (f : ℕ → ℕ) (n a d : ℕ) (w : List ℕ) (steps : ℕ) (w' : List ℕ) : Type 0 where
  pub size : steps ≡ cycle_size f n d
  pub names : w' ≡ placed a (names_below f n (d + 1)) w
