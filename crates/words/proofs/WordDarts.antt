-- The darts that `word_darts` gives.
--
--   length_word_darts  there is one for each letter
--   word_darts_at      the dart at position i
use Prim.Native.Nat.{ℕ, zero, suc, ◌≤◌, ◌<◌}
use native.Mathlib.Nat.{le_of_lt}
use mathlib.Core.Path.{◌≡◌, refl, ap}
use mathlib.Core.List.{List, [], ◌∷◌, map}
use lib.ListN.{length, get_or, drop}
use lib.Seq.{drop-cons}
use Rattle.model.specs.Numbers.{count}
use Rattle.model.specs.Traversal.{Letter, down, up, first, second}
use Rattle.orbits.specs.Stack.{close, push, stack}
use Rattle.words.specs.Word.{word_darts, tail}
use Rattle.words.specs.Brackets.{letter, tree_stack, chord_stack}
use Rattle.words.specs.Position.{opened, dart_no}

pub length_word_darts : (e : ℕ) (trees chords : List ℕ) (w : List Letter) → length (word_darts e trees chords w) ≡ length w
unfolding word_darts
length_word_darts e trees chords [] = refl
length_word_darts e trees chords (down ∷ w) = ap suc (length_word_darts (suc e) (e ∷ trees) chords w)
length_word_darts e trees chords (up ∷ w) = ap suc (length_word_darts e (tail trees) chords w)
length_word_darts e trees chords (first ∷ w) = ap suc (length_word_darts (suc e) trees (e ∷ chords) w)
length_word_darts e trees chords (second ∷ w) = ap suc (length_word_darts e trees (tail chords) w)

tail_map : (f : ℕ → ℕ) (i : ℕ) (s : List ℕ) → tail (map f s) ≡ map f (push close i s)
tail_map f i [] = refl
tail_map f i (a ∷ s) = refl

module _ (w : List Letter) where
  abbrev ℓ : ℕ → Letter
  ℓ = letter w

  -- the darts from position i on, where the letters from there on are v
  abbrev rest : ℕ → List Letter → List ℕ
  rest i v = word_darts (opened ℓ i) (map (opened ℓ) (tree_stack ℓ i)) (map (opened ℓ) (chord_stack ℓ i)) v

  rest_step : (i : ℕ) (l : Letter) (v : List Letter) → ℓ i ≡ l → rest i (l ∷ v) ≡ dart_no ℓ i ∷ rest (suc i) v
  unfolding word_darts dart_no opened count stack
  rest_step i down v e = rw e
  rest_step i up v e = rw (e, tail_map (opened ℓ) i (tree_stack ℓ i))
  rest_step i first v e = rw e
  rest_step i second v e = rw (e, tail_map (opened ℓ) i (chord_stack ℓ i))

  from : (i : ℕ) → i ≤ length w → drop i (word_darts 0 [] [] w) ≡ rest i (drop i w)
  unfolding stack opened count
  from zero h = refl
  from (suc i) h =
      let ih = from i (le_of_lt h) in
      let l = drop-cons w i second h in
      let x = drop-cons (word_darts 0 [] [] w) i 0 (rw length_word_darts h) in
      let s = rest_step i (ℓ i) (drop (suc i) w) refl in
      cc

  pub word_darts_at : (i : ℕ) → i < length w → get_or (word_darts 0 [] [] w) i 0 ≡ dart_no ℓ i
  word_darts_at i h =
      let at = from i (le_of_lt h) in
      let l = drop-cons w i second h in
      let x = drop-cons (word_darts 0 [] [] w) i 0 (rw length_word_darts h) in
      let s = rest_step i (ℓ i) (drop (suc i) w) refl in
      cc
