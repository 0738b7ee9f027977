-- The letter by its digit. Assumes nothing.
--
--   letter_down, letter_up, letter_first, letter_second   the four of them
use Prim.Native.Nat.{ℕ}
use mathlib.Core.Path.{◌≡◌}
use Rattle.model.specs.Traversal.{down, up, first, second}
use Rattle.packing.specs.Letters.{digit_letter}

pub letter_down : (x : ℕ) → x ≡ 0 → digit_letter x ≡ down
unfolding digit_letter
letter_down x e = rw e

pub letter_up : (x : ℕ) → x ≡ 1 → digit_letter x ≡ up
unfolding digit_letter
letter_up x e = rw e

pub letter_first : (x : ℕ) → x ≡ 2 → digit_letter x ≡ first
unfolding digit_letter
letter_first x e = rw e

pub letter_second : (x : ℕ) → x ≡ 3 → digit_letter x ≡ second
unfolding digit_letter
letter_second x e = rw e
