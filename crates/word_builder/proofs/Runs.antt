-- The loop over the letters: the next of the word may come, since the word is nested, and its step moves on. w⁻ is the work area with the word in it, w₀ that
-- with the rotation filled with zeros, w that after i letters, and x the code that is read then. Assumes nothing.
--
--   Blank m w⁻ w₀         what is known of w₀: the word is there, and it is nested
--   blank                 it holds after the filling
--   next_able             the next letter may come
--   next_moved            its step moves on
--   all_built             after the last letter the rotation is the word's
use Prim.Native.Nat.{ℕ, ◌+◌, ◌*◌, ◌%◌, ◌≤◌, ◌<◌}
use native.Mathlib.Omega.{arith}
use mathlib.Core.Path.{◌≡◌, sym, ap, ◌∙◌, subst}
use mathlib.Core.Bool.{true}
use mathlib.Core.List.{List, [], ◌∷◌, ◌++◌, append-nil, map}
use lib.ListN.{length, get_or, set, drop, replicate, length-set, drop_of_length-le}
use Rattle.model.specs.Traversal.{Letter, code}
use Rattle.words.specs.Word.{nested, rotation_of}
use Rattle.work.specs.Map.{LETTERS}
use Rattle.work.specs.Area.{region, placed, stack}
use Rattle.work.specs.Letters.{to_letter, letters_in, Coded}
use Rattle.work.proofs.Regions.{getD-region}
use Rattle.work.proofs.Letters.{length_letters, letters_from}
use Rattle.builder.specs.declared.State.{State}
use Rattle.builder.specs.Steps.{parts_of, parts_at, first_state, begun_after}
use Rattle.builder.specs.Moves.{goes_on, Left, Able, Moved}
use Rattle.builder.proofs.Whole.{blank_area}
use Rattle.builder.proofs.Moves.{able, now_first, moved_on, moved_end, left_start, whole_moved}
use Rattle.word_builder.specs.Built.{Built}
use Rattle.word_builder.proofs.Letters.{code_at, begun_odd}

pub record Blank (m : ℕ) (w⁻ w₀ : List ℕ) : Type 0 where
  pub room : 32 * m ≤ length w₀
  pub clear : region 0 (2 * m) w₀ ≡ replicate (2 * m) 0
  pub coded : Coded (2 * m) w₀
  pub nests : nested true 1 0 [] [] (letters_in (2 * m) w₀) ≡ true
  pub same : letters_in (2 * m) w₀ ≡ letters_in (2 * m) w⁻
  pub kept : length w₀ ≡ length w⁻

pub blank : (m : ℕ) (w⁻ w₀ : List ℕ) → 32 * m ≤ length w⁻ → Coded (2 * m) w⁻ → nested true 1 0 [] [] (letters_in (2 * m) w⁻) ≡ true
    → w₀ ≡ placed 0 (replicate (2 * m) 0) w⁻ → length w₀ ≡ length w⁻ → Blank m w⁻ w₀
unfolding letters_in
blank m w⁻ w₀ r c t f l =
    let (room, clear, others) = blank_area m w⁻ w₀ r f in
    let there = others (LETTERS * (2 * m)) (2 * m) (omega arith) in
    let same : letters_in (2 * m) w₀ ≡ letters_in (2 * m) w⁻ = ap (map to_letter) there in
    record { room = room; clear = clear; coded = there ∙ c ∙ ap (map code) (sym same); nests = rw same t; same = same; kept = l }

-- ---- the next letter

module _ (m : ℕ) (w⁻ w₀ : List ℕ) (b : Blank m w⁻ w₀) where
  abbrev n : ℕ
  n = 2 * m

  abbrev v : List Letter
  v = letters_in n w₀

  size : length v ≡ n
  size = let r = b.room in length_letters n w₀ (omega arith)

  module _ (s : State) (e : ℕ) (w : List ℕ) (i : ℕ) (y : Moved v (drop i v) m w₀ first_state 0 s e w) where
    module _ (h : i < n) where
      abbrev x : ℕ
      x = get_or w (LETTERS * n + i) 0

      there : region (LETTERS * n) n w ≡ region (LETTERS * n) n w₀
      there = y.beside (LETTERS * n) n (omega arith) (λ l. omega arith)

      x_entry : x ≡ get_or (region (LETTERS * n) n w₀) i 0
      x_entry = sym (getD-region (LETTERS * n) n w i h) ∙ ap (λ (xs : List ℕ). get_or xs i 0) there

      x_is : x ≡ get_or w₀ (LETTERS * n + i) 0
      x_is = x_entry ∙ getD-region (LETTERS * n) n w₀ i h

      x_coded : x ≡ code (to_letter x)
      x_coded =
          let l = size in
          let q : x ≡ get_or (map code v) i 0 = x_entry ∙ ap (λ (xs : List ℕ). get_or xs i 0) b.coded in
          rw q (code_at v i (omega arith))

      next : drop i v ≡ (to_letter x ∷ []) ++ drop (i + 1) v
      next = let r = b.room in rw x_is (letters_from n w₀ i (omega arith) h)

      front : (u : List Letter) → drop i v ++ u ≡ to_letter x ∷ (drop (i + 1) v ++ u)
      front = now_first v m w₀ first_state 0 (drop i v) s e w y (to_letter x ∷ []) (drop (i + 1) v) next

      pub next_able : Able (to_letter x) m (parts_at m w s) s e
      unfolding parts_of stack
      next_able =
          able m w s e (to_letter x) (drop (i + 1) v ++ [])
          (subst (Left m s e) (front []) (y.left [] (left_start m v size)))
          (ap (goes_on m w s) (sym (front [])) ∙ y.nests [] ∙ ap (nested true 1 0 [] []) (append-nil v) ∙ b.nests)

      pub next_moved : (t : State) (w' : List ℕ) → Moved (to_letter x ∷ []) [] m w s e t (begun_after (to_letter x) e) w'
          → Moved v (drop (i + 1) v) m w₀ first_state 0 t (e + x % 2) w'
      next_moved t w' z =
          rw (ap (λ (a : ℕ). e + a % 2) x_coded ∙ begun_odd (to_letter x) e)
          (moved_on v m w₀ first_state 0 (drop i v) s e w y (to_letter x ∷ []) (drop (i + 1) v) next t (begun_after (to_letter x) e) w' z)

    pub all_built : n ≤ i → Built n w⁻ (set w s.place 0)
    all_built h =
        let l = size in
        let z = moved_end v m w₀ first_state 0 (drop i v) s e w (drop_of_length-le v {i = i} (omega arith)) y in
        record {
          rotation = whole_moved m v w₀ size b.clear s e w z b.nests ∙ ap rotation_of b.same;
          kept = length-set w s.place 0 ∙ y.kept ∙ b.kept;
        }
