-- The contour walk without an end: where it is after k steps, whether or not it has been at the root again.
--
--   State                a dart that is to be met, the letters' codes and the marks of vertices so far
--   letter rot s         the letter of that dart
--   step rot s           the state after it is met
--   start rot r          the state at the root r, whose vertex is marked
--   at rot r k           the state after k steps from there
--   dart, letter_after, mark, seen_mark   its dart, that dart's letter, the code at a dart x, the mark at x's vertex
--   tree rot r k x       the edge of x went down within k steps
use Rattle.std.specs.Prelude.{ℕ, zero, suc, Bool, ◌||◌, List, eqb, length, get_or, set, replicate}
use Rattle.model.specs.Map.{opposite, vertex_of}
use Rattle.model.specs.Traversal.{Letter, down, code, letter_at, onward, seen_after}

pub record State : Type 0 where
  pub dart : ℕ
  pub met : List ℕ
  pub seen : List ℕ

unfoldable pub letter : List ℕ → State → Letter
letter rot s = letter_at rot s.met s.seen s.dart

unfoldable pub step : List ℕ → State → State
step rot s = record {
  dart = onward rot (letter rot s) s.dart;
  met = set s.met s.dart (code (letter rot s));
  seen = seen_after rot (letter rot s) s.dart s.seen;
}

unfoldable pub start : List ℕ → ℕ → State
start rot r = record { dart = r; met = replicate (length rot) 0; seen = set (replicate (length rot) 0) (vertex_of rot r) 1 }

unfoldable pub at : List ℕ → ℕ → ℕ → State
at rot r zero = start rot r
at rot r (suc k) = step rot (at rot r k)

unfoldable pub dart : List ℕ → ℕ → ℕ → ℕ
dart rot r k = (at rot r k).dart

unfoldable pub letter_after : List ℕ → ℕ → ℕ → Letter
letter_after rot r k = letter rot (at rot r k)

unfoldable pub mark : List ℕ → ℕ → ℕ → ℕ → ℕ
mark rot r k x = get_or (at rot r k).met x 0

unfoldable pub seen_mark : List ℕ → ℕ → ℕ → ℕ → ℕ
seen_mark rot r k x = get_or (at rot r k).seen (vertex_of rot x) 0

unfoldable pub tree : List ℕ → ℕ → ℕ → ℕ → Bool
tree rot r k x = eqb (mark rot r k x) (code down) || eqb (mark rot r k (opposite x)) (code down)
