-- The tree bits of a word, written forward: each position of the traversal gives its own.
--
--   bits_from p j       the tree bits of the positions from j on
--   bits_start, bits_end, bits_left   at the beginning all of the word's, at the end none; a position's bits, then those after it
-- of lists B j that begin with none and grow by the bits of each position:
--   bits_so_far        B j and what is left at j are the word's bits
--   bits_by_place      in the end B has them all
--   bits_to_lem            and so has `bits_to`
use Prim.Native.Nat.{ℕ, zero, suc, ◌≤◌, ◌<◌}
use native.Mathlib.Omega.{arith}
use mathlib.Core.Path.{◌≡◌, refl, sym, ap, ◌∙◌}
use mathlib.Core.Bool.{Bool, true, false, cond}
use mathlib.Core.List.{List, [], ◌∷◌, ◌++◌, append-nil, append_assoc}
use lib.ListN.{drop}
use Rattle.model.specs.Map.{Plan, darts, dart_count_fits}
use Rattle.model.specs.Traversal.{Letter, down, up, first, second, word}
use Rattle.words.specs.Word.{starts_second, word_bits}
use Rattle.words.specs.Toured.{Toured, Bracketed, letter_of}
use Rattle.words.specs.Entered.{is_down}
use Rattle.words.proofs.Positions.{word_left, word_end}
use Rattle.labelling.proofs.Bare.{after_down, bare_up}
use Rattle.forward.specs.Bits.{bits_by, bits_at, bits_to}

unfoldable pub bits_from : Plan → ℕ → List ℕ
bits_from p j = word_bits (after_down p j) (drop j (word p))

pub bits_start : (p : Plan) → bits_from p 0 ≡ word_bits false (word p)
unfolding bits_from after_down
bits_start p = refl

module _ (p : Plan) (t : Toured p) (b : Bracketed p) (fits : dart_count_fits (darts p) ≡ true) where
  pub bits_end : bits_from p (darts p) ≡ []
  unfolding bits_from word_bits
  bits_end = ap (word_bits (after_down p (darts p))) (word_end p t)

  left : (j : ℕ) → j < darts p → (l : Letter) → letter_of p j ≡ l
      → word_bits (after_down p j) (l ∷ drop (suc j) (word p)) ≡ bits_by p j l ++ word_bits (is_down l) (drop (suc j) (word p))
  unfolding word_bits bits_by
  left j h down e = refl
  left j h up e =
      ap (λ (c : Bool). cond c (starts_second (drop (suc j) (word p))) 0 ∷ word_bits false (drop (suc j) (word p))) (sym (bare_up p t b fits j h e))
  left j h first e = refl
  left j h second e = refl

  pub bits_left : (j : ℕ) → j < darts p → bits_from p j ≡ bits_at p j ++ bits_from p (suc j)
  unfolding bits_from bits_at after_down
  bits_left j h = ap (word_bits (after_down p j)) (word_left p t j h) ∙ left j h (letter_of p j) refl

  -- ---- written forward

  module _ (B : ℕ → List ℕ) (none : B 0 ≡ []) (more : (j : ℕ) → j < darts p → B (suc j) ≡ B j ++ bits_at p j) where
    pub bits_so_far : (j : ℕ) → j ≤ darts p → B j ++ bits_from p j ≡ word_bits false (word p)
    bits_so_far zero h = ap (λ (bits : List ℕ). bits ++ bits_from p 0) none ∙ bits_start p
    bits_so_far (suc j) h =
        ap (λ (bits : List ℕ). bits ++ bits_from p (suc j)) (more j h) ∙ append_assoc (B j) (bits_at p j) (bits_from p (suc j))
        ∙ ap (λ (bits : List ℕ). B j ++ bits) (sym (bits_left j h)) ∙ bits_so_far j (omega arith)

    pub bits_by_place : B (darts p) ≡ word_bits false (word p)
    bits_by_place =
        sym (append-nil (B (darts p))) ∙ ap (λ (bits : List ℕ). B (darts p) ++ bits) (sym bits_end) ∙ bits_so_far (darts p) (omega arith)

  pub bits_to_lem : bits_to p (darts p) ≡ word_bits false (word p)
  unfolding bits_to
  bits_to_lem = bits_by_place (bits_to p) refl (λ j h. refl)
