-- Marks of darts, from which their standard numbers are read off.
--
--   number_by w x         the standard number of dart x: its own mark tells the edge if it is met first, its opposite's otherwise
--   Marked p w           the work area begins with the marks of the darts of p, and p is fit for kind 104h
use Rattle.std.specs.Prelude.{ℕ, ◌+◌, ◌*◌, ◌%◌, ◌≤◌, ◌<◌, ◌≡◌, true, cond, List, ltb, length, get_or}
use Rattle.model.specs.Map.{Plan, darts, opposite, fit}
use Rattle.model.specs.Traversal.{standard_numbers}

-- the mark of a dart that is met first is below 32,768, and the number of its edge modulo 8,192
unfoldable pub number_by : List ℕ → ℕ → ℕ
number_by w x = cond (ltb (get_or w x 0) 32768) (2 * (get_or w x 0 % 8192)) (2 * (get_or w (opposite x) 0 % 8192) + 1)

pub record Marked (p : Plan) (w : List ℕ) : Type 0 where
  pub fits : fit 0x104 p ≡ true
  pub room : darts p ≤ length w
  pub numbers : (x : ℕ) → x < darts p → number_by w x ≡ get_or (standard_numbers p) x 0
