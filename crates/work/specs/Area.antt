-- Parts of a list: what a function does to one part of the work area and leaves of the others.
--
--   region a n w         the n entries of w from place a on
--   placed a xs w        w with the entries of xs from place a on
--   stack a k w          the k entries of w from place a on, the last first
use Rattle.std.specs.Prelude.{ℕ, zero, suc, ◌+◌, List, [], ◌∷◌, ◌++◌, length, get_or, take, drop}

unfoldable pub region : ℕ → ℕ → List ℕ → List ℕ
region a n w = take n (drop a w)

unfoldable pub placed : ℕ → List ℕ → List ℕ → List ℕ
placed a xs w = take a w ++ (xs ++ drop (a + length xs) w)

unfoldable pub stack : ℕ → ℕ → List ℕ → List ℕ
stack a zero w = []
stack a (suc k) w = get_or w (a + k) 0 ∷ stack a k w
