-- Laws of the word in the work area.
--
--   letter_code        the letter with a letter's code is that letter
--   map_code           the same for a word
--   letters_code       where the codes of v stand, the word is v
--   is_down_lem, is_up, is_first_lem, is_second_lem   which letter a code stands for
--   length_letters     as many letters as darts
--   letters_from       the word from position i on begins with the letter at i
use mathlib.Core.Path.{◌≡◌, refl, ap, ◌∙◌}
use mathlib.Core.List.{List, [], ◌∷◌, map}
use mathlib.Core.Logic.{◌≢◌}
use Prim.Native.Nat.{ℕ, ◌+◌, ◌*◌, ◌≤◌, ◌<◌}
use native.Mathlib.Numerals.{add-one}
use native.Mathlib.Omega.{arith}
use lib.ListN.{length, get_or, drop, get_or-map, length-map}
use lib.Seq.{drop-cons}
use borrow.Author.Tests.{ne_eqb}
use Rattle.model.specs.Traversal.{Letter, down, up, first, second, code}
use Rattle.work.specs.Map.{LETTERS, FACES}
use Rattle.work.specs.Area.{region}
use Rattle.work.proofs.Regions.{length_region, getD-region}
use Rattle.work.specs.Letters.{to_letter, letters_in}

-- ---- one code

pub letter_code : (l : Letter) → to_letter (code l) ≡ l
unfolding to_letter
letter_code down = refl
letter_code up = refl
letter_code first = refl
letter_code second = refl

pub is_down_lem : (x : ℕ) → x ≡ code down → to_letter x ≡ down
is_down_lem x e = rw e (letter_code down)

pub is_up : (x : ℕ) → x ≡ code up → to_letter x ≡ up
is_up x e = rw e (letter_code up)

pub is_first_lem : (x : ℕ) → x ≡ code first → to_letter x ≡ first
is_first_lem x e = rw e (letter_code first)

pub is_second_lem : (x : ℕ) → x ≢ code down → x ≢ code up → x ≢ code first → to_letter x ≡ second
unfolding to_letter
is_second_lem x a b c = simp (ne_eqb _ _ a, ne_eqb _ _ b, ne_eqb _ _ c)

-- ---- the word

pub map_code : (v : List Letter) → map to_letter (map code v) ≡ v
map_code [] = refl
map_code (l ∷ v) = rw (letter_code l, map_code v)

module _ (n : ℕ) (w : List ℕ) where
  pub letters_code : (v : List Letter) → region (LETTERS * n) n w ≡ map code v → letters_in n w ≡ v
  unfolding letters_in
  letters_code v e = ap (map to_letter) e ∙ map_code v

  pub length_letters : FACES * n ≤ length w → length (letters_in n w) ≡ n
  unfolding letters_in
  length_letters h = length-map (region (LETTERS * n) n w) to_letter ∙ length_region (LETTERS * n) n w (omega arith)

  letter_at : (i : ℕ) → i < n → get_or (letters_in n w) i (to_letter 0) ≡ to_letter (get_or w (LETTERS * n + i) 0)
  unfolding letters_in
  letter_at i h = get_or-map to_letter (region (LETTERS * n) n w) i 0 ∙ ap to_letter (getD-region (LETTERS * n) n w i h)

  pub letters_from : (i : ℕ) → FACES * n ≤ length w → i < n
      → drop i (letters_in n w) ≡ to_letter (get_or w (LETTERS * n + i) 0) ∷ drop (i + 1) (letters_in n w)
  letters_from i h l = let e = length_letters h in rw (add-one, ← letter_at i l) (drop-cons (letters_in n w) i (to_letter 0) (omega arith))
