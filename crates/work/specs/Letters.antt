-- The contour word in the work area, as codes of letters by position, and what of a record is made from it.
--
--   to_letter x           the letter with the code x
--   letters_in n w        the word in the work area
--   Coded n w            the entries that hold it are codes of letters
--   work_bits, work_labels   the tree bits and the labels in the work area
use Rattle.std.specs.Prelude.{ℕ, ◌*◌, ◌/◌, ◌≡◌, cond, List, map, eqb}
use Rattle.model.specs.Traversal.{Letter, down, up, first, second, code}
use Rattle.work.specs.Map.{LETTERS, BITS, LABELS}
use Rattle.work.specs.Area.{region}

unfoldable pub to_letter : ℕ → Letter
to_letter x = cond (eqb x (code down)) down (cond (eqb x (code up)) up (cond (eqb x (code first)) first second))

unfoldable pub letters_in : ℕ → List ℕ → List Letter
letters_in n w = map to_letter (region (LETTERS * n) n w)

abbrev pub Coded : ℕ → List ℕ → Type 0
Coded n w = region (LETTERS * n) n w ≡ map code (letters_in n w)

unfoldable pub work_bits : ℕ → List ℕ → List ℕ
work_bits n w = region (BITS * n) n w

unfoldable pub work_labels : ℕ → List ℕ → List ℕ
work_labels n w = region (LABELS * n) (n / 2) w
