-- A list is tested for a permutation by marks: as many as it has entries, all set, and one struck at each entry.
--
--   struck xs w        the marks w, struck at the numbers of xs
--   Struck             the marks are struck at all entries, if these are below the list's length; what stands behind that many marks is kept
--   Tested             whether a list is a permutation, with zeros where the marks stood if it is; what stands behind them is kept
use Rattle.std.specs.Prelude.{ℕ, ◌≡◌, Bool, true, List, [], ◌∷◌, length, set, drop, replicate}
use Rattle.model.specs.Numbers.{all_below, is_permutation}
use Rattle.work.specs.Area.{region}

unfoldable pub struck : List ℕ → List ℕ → List ℕ
struck [] w = w
struck (x ∷ xs) w = struck xs (set w x 0)

pub record Struck (order w : List ℕ) (r : Bool) (w' : List ℕ) : Type 0 where
  pub below : r ≡ all_below (length order) order
  pub marks : r ≡ true → w' ≡ struck order w
  pub rest : drop (length order) w' ≡ drop (length order) w

pub record Tested (order w : List ℕ) (r : Bool) (w' : List ℕ) : Type 0 where
  pub answer : r ≡ is_permutation order
  pub zeros : r ≡ true → region 0 (length order) w' ≡ replicate (length order) 0
  pub rest : drop (length order) w' ≡ drop (length order) w
  pub kept : length w' ≡ length w
