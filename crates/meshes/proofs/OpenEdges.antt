-- Which edges are open at a position of the walk of a plan that is fit for kind 2.
--
--   open_trees, open_chords q i   the positions before i where tree edges are open, and other edges, the last opened first
--   after_down_lem, after_up, after_first, after_second   how they change where each letter stands
--   chords_end        nothing is open at the end
--   front             a letter of the word from its place on
--   In x xs           x is an entry of xs
--   open_chord, chord_open   open at i are those that begin before i and do not end there
use Prim.Native.Nat.{ℕ, zero, suc, ◌≤◌, ◌<◌}
use native.Mathlib.Nat.{not-suc-le-zero}
use native.Mathlib.Omega.{arith}
use mathlib.Core.Path.{◌≡◌, refl, sym, ap, subst}
use mathlib.Core.Logic.{◌⊎◌, inl, inr}
use mathlib.Core.Bool.{Bool, true, false, false≢true}
use mathlib.Core.List.{List, [], ◌∷◌}
use lib.Dec.{leb}
use lib.ListN.{drop, drop_of_length-le}
use borrow.Author.Tests.{leb-true, le-leb}
use Rattle.model.specs.Map.{Plan, darts, fit}
use Rattle.model.specs.Traversal.{Letter, down, up, first, second, opens, word}
use Rattle.model.proofs.Fitness.{Fit, fit_parts}
use Rattle.orbits.specs.Stack.{push, stack, keep, pending}
use Rattle.orbits.proofs.Order.{lt_or_le, lt_suc_split}
use Rattle.words.specs.Toured.{Toured, letter_of, mate_of, is_tree, is_chord, matching}
use Rattle.words.specs.Brackets.{bracket, tree_stack, chord_stack}
use Rattle.words.proofs.Letters.{tree_fellow}
use Rattle.words.proofs.Positions.{word_length, word_left, mate_before}
use Rattle.words.proofs.OpenEdges.{chord_whole, matching_in, part_split, part_pending, part_top, part_balanced}
use Rattle.fit_plans.proofs.FitPlans.{fit_toured, fit_bracketed}

abbrev pub open_trees : Plan → ℕ → List ℕ
open_trees q i = tree_stack (letter_of q) i

abbrev pub open_chords : Plan → ℕ → List ℕ
open_chords q i = chord_stack (letter_of q) i

-- ---- pending positions

abbrev pub In : ℕ → List ℕ → Type 0
In x [] = ⊥
In x (y ∷ ys) = (x ≡ y) ⊎ In x ys

pending_in : (μ : ℕ → ℕ) (i j x : ℕ) → In x (pending μ i j) → (x < j) × (i ≤ μ x)
unfolding pending
pending_in μ i zero x p = absurd p
pending_in μ i (suc a) x p = go (leb i (μ a)) refl p (pending_in μ i a x)
  where
    go : (c : Bool) → leb i (μ a) ≡ c → In x (keep c a (pending μ i a)) → (In x (pending μ i a) → (x < a) × (i ≤ μ x)) → (x < suc a) × (i ≤ μ x)
    go true e (inl q) ih = (omega arith, subst (λ (y : ℕ). i ≤ μ y) (sym q) (leb-true i (μ a) e))
    go true e (inr r) ih = let (l, h) = ih r in (omega arith, h)
    go false e r ih = let (l, h) = ih r in (omega arith, h)

in_pending : (μ : ℕ → ℕ) (i j x : ℕ) → x < j → i ≤ μ x → In x (pending μ i j)
unfolding pending
in_pending μ i zero x l h = absurd (not-suc-le-zero l)
in_pending μ i (suc a) x l h =
    lt_suc_split l (λ e. there e) (λ k. later (leb i (μ a)) (in_pending μ i a x k h))
  where
    there : x ≡ a → In x (keep (leb i (μ a)) a (pending μ i a))
    there e = subst (λ (c : Bool). In x (keep c a (pending μ i a))) (sym (le-leb i (μ a) (subst (λ (y : ℕ). i ≤ μ y) e h))) (inl e)

    later : (c : Bool) → In x (pending μ i a) → In x (keep c a (pending μ i a))
    later true p = inr p
    later false p = p

first_only : (l : Letter) → is_chord l ≡ true → opens l ≡ true → l ≡ first
first_only down e o = absurd (false≢true e)
first_only up e o = absurd (false≢true e)
first_only first e o = refl
first_only second e o = absurd (false≢true o)

-- one letter more, for the edges of a part
pushed : (part : Letter → Bool) (ℓ : ℕ → Letter) (i : ℕ) (l : Letter) → ℓ i ≡ l
    → stack (λ j. bracket part (ℓ j)) (suc i) ≡ push (bracket part l) i (stack (λ j. bracket part (ℓ j)) i)
unfolding stack
pushed part ℓ i l e = ap (λ (c : Letter). push (bracket part c) i (stack (λ j. bracket part (ℓ j)) i)) e

module _ (q : Plan) (fits : fit 2 q ≡ true) where
  abbrev N : ℕ
  N = darts q

  abbrev parts : Fit 2 q
  parts = fit_parts 2 q fits

  abbrev toured : Toured q
  toured = fit_toured 2 q fits

  -- ---- letter by letter

  pub after_down_lem : (i : ℕ) → letter_of q i ≡ down → (open_trees q (suc i) ≡ i ∷ open_trees q i) × (open_chords q (suc i) ≡ open_chords q i)
  after_down_lem i e = (pushed is_tree (letter_of q) i down e, pushed is_chord (letter_of q) i down e)

  pub after_up : (i : ℕ) → i < darts q → letter_of q i ≡ up
      → (open_trees q i ≡ mate_of q i ∷ open_trees q (suc i)) × (open_chords q (suc i) ≡ open_chords q i)
  after_up i h e = (
    part_top is_tree tree_fellow q toured parts.count (fit_bracketed 2 q fits).trees i h (ap is_tree e) (ap opens e),
    pushed is_chord (letter_of q) i up e,
  )

  pub after_first : (i : ℕ) → letter_of q i ≡ first → (open_trees q (suc i) ≡ open_trees q i) × (open_chords q (suc i) ≡ i ∷ open_chords q i)
  after_first i e = (pushed is_tree (letter_of q) i first e, pushed is_chord (letter_of q) i first e)

  pub after_second : (i : ℕ) → i < darts q → letter_of q i ≡ second
      → (open_trees q (suc i) ≡ open_trees q i) × (open_chords q i ≡ mate_of q i ∷ open_chords q (suc i))
  after_second i h e = (
    pushed is_tree (letter_of q) i second e,
    part_top is_chord chord_whole q toured parts.count (fit_bracketed 2 q fits).chords i h (ap is_chord e) (ap opens e),
  )

  pub chords_end : open_chords q (darts q) ≡ []
  chords_end = (part_balanced is_chord chord_whole q toured parts.count (fit_bracketed 2 q fits).chords).ended

  -- a letter of the word, and what follows
  pub front : (i : ℕ) (l : Letter) (r : List Letter) → drop i (word q) ≡ l ∷ r → (i < darts q) × (letter_of q i ≡ l) × (drop (suc i) (word q) ≡ r)
  front i l r e = lt_or_le i N
      (λ h. let w = word_left q toured i h in (h, cc, cc))
      (λ h.
      let w = drop_of_length-le (word q) {i = i} (omega (arith, word_length q toured)) in
      let z : ◌≡◌ {A = ℕ} 0 1 = cc in absurd (omega arith))

  -- ---- edges outside the tree

  abbrev μ : ℕ → ℕ
  μ = matching is_chord q

  chords_pending : (i : ℕ) → i ≤ N → open_chords q i ≡ pending μ i i
  chords_pending = part_pending is_chord chord_whole q toured parts.count (fit_bracketed 2 q fits).chords

  -- what is sent onward begins an edge
  begins : (x : ℕ) → x < N → x < μ x → (letter_of q x ≡ first) × (μ x ≡ mate_of q x)
  begins x h l = part_split is_chord q x
      (λ c e. (go c e (opens (letter_of q x)) refl, e))
      (λ c e. absurd (omega arith))
    where
      go : is_chord (letter_of q x) ≡ true → μ x ≡ mate_of q x → (o : Bool) → opens (letter_of q x) ≡ o → letter_of q x ≡ first
      go c e true o = first_only (letter_of q x) c o
      go c e false o = absurd (omega (arith, mate_before q toured parts.count x h o))

  pub open_chord : (i x : ℕ) → i ≤ darts q → In x (open_chords q i) → (x < i) × (letter_of q x ≡ first) × (i ≤ mate_of q x)
  open_chord i x h p =
      let (l, k) = pending_in μ i i x (subst (In x) (chords_pending i h) p) in
      let (f, e) = begins x (omega arith) (omega arith) in
      (l, f, omega arith)

  pub chord_open : (i x : ℕ) → i ≤ darts q → x < i → letter_of q x ≡ first → i ≤ mate_of q x → In x (open_chords q i)
  chord_open i x h l f k =
      subst (In x) (sym (chords_pending i h))
      (in_pending μ i i x l (subst (λ (y : ℕ). i ≤ y) (sym (matching_in is_chord q x (ap is_chord f))) k))
