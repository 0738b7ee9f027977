-- The edges of a tour as a matching of positions, the tree edges or the others; where they match like brackets, those that are open at a position
-- form a stack, and what ends an edge finds it on top.
--
--   chord_whole           opposite darts are both of an edge outside the tree or both not
--   matching_in, matching_out, part_split, matching_inv    the matching of a part is an involution
--   brackets_nested, nested_brackets   it is nested exactly where the edges of the part match like brackets
-- then, of the stack of the part:
--   part_pending          on it are the positions before i whose edges end at i or later
--   part_top              what ends an edge finds it on top
--   part_balanced         the brackets of the part are balanced
--   part_head             what is on top opens an edge that ends at i or later
--   part_holds            an edge that ends at i or later is no higher than the top
--   part_matched          the stack machine finds the matching
--   tour_balance          where both parts match like brackets, the word is balanced
--   onward_matching       the traversal goes on at the entry of the dart that the tree's matching tells
use Prim.Native.Nat.{ℕ, suc, ◌≤◌, ◌<◌}
use native.Mathlib.Omega.{arith}
use mathlib.Core.Path.{◌≡◌, refl, sym, ap, subst, ◌∙◌}
use mathlib.Core.Bool.{Bool, true, false, not, cond}
use mathlib.Core.List.{List, ◌∷◌}
use Rattle.model.specs.Map.{Plan, darts, next, dart_count_fits}
use Rattle.model.specs.Traversal.{Letter, opens, onward}
use Rattle.orbits.specs.Chord.{Involution, Nested}
use Rattle.orbits.specs.Stack.{Kind, flat, open', close, kind, kind_of, top, stack, pending, matched, Balanced}
use Rattle.orbits.proofs.Stack.{kind_open, kind_close, kind_flat, stack_pending, stack_top, stack_balanced, stack_head, stack_holds}
use Rattle.orbits.proofs.Match.{matched_is}
use Rattle.words.specs.Toured.{dart_at, letter_of, mate_of, fellow, is_tree, is_chord, matching, Brackets, Bracketed, Toured}
use Rattle.words.specs.Brackets.{bracket}
use Rattle.words.specs.Position.{Balance}
use Rattle.words.proofs.Letters.{tree_fellow, onward_tree, onward_flat}
use Rattle.words.proofs.Positions.{mate_bound, mate_back, mate_before, mate_dart}

pub chord_whole : (l : Letter) → is_chord (fellow l) ≡ is_chord l
chord_whole l = ap not (tree_fellow l)

-- ---- the matching of a part

module _ (part : Letter → Bool) (p : Plan) (i : ℕ) where
  pub matching_in : part (letter_of p i) ≡ true → matching part p i ≡ mate_of p i
  unfolding matching
  matching_in e = ap (λ (b : Bool). cond b (mate_of p i) i) e

  pub matching_out : part (letter_of p i) ≡ false → matching part p i ≡ i
  unfolding matching
  matching_out e = ap (λ (b : Bool). cond b (mate_of p i) i) e

  -- a position is of the part or not
  pub part_split : {C : Type 0} → (part (letter_of p i) ≡ true → matching part p i ≡ mate_of p i → C)
      → (part (letter_of p i) ≡ false → matching part p i ≡ i → C) → C
  part_split {C} u v = go (part (letter_of p i)) refl
    where
      go : (b : Bool) → part (letter_of p i) ≡ b → C
      go true e = u e (matching_in e)
      go false e = v e (matching_out e)

-- an edge is of the part with both its darts or with none
module _ (part : Letter → Bool) (whole : (l : Letter) → part (fellow l) ≡ part l) (p : Plan) (t : Toured p)
    (fits : dart_count_fits (darts p) ≡ true) where
  mate_part : (i : ℕ) → i < darts p → part (letter_of p (mate_of p i)) ≡ part (letter_of p i)
  mate_part i h = ap part (t.fellows i h) ∙ whole (letter_of p i)

  pub matching_inv : Involution (darts p) (matching part p)
  matching_inv = record {
    bound = λ i h. part_split part p i (λ u e. rw e (mate_bound p t fits i h)) (λ u e. rw e h);
    back = λ i h.
        part_split part p i
        (λ u e. ap (matching part p) e ∙ matching_in part p (mate_of p i) (mate_part i h ∙ u) ∙ mate_back p t fits i h)
        (λ u e. ap (matching part p) e ∙ e);
  }

  pub brackets_nested : Brackets part p → Nested (matching part p) (darts p)
  brackets_nested brackets a h l x u v =
      part_split part p a
      (λ s e. part_split part p x (λ w f. let r = brackets a x h s u (omega arith) w in (omega arith, omega arith)) (λ w f. (omega arith, omega arith)))
      (λ s e. absurd (omega arith))

  pub nested_brackets : Nested (matching part p) (darts p) → Brackets part p
  nested_brackets nested i x h s u v w =
      let e = matching_in part p i s in
      let f = matching_in part p x w in
      let r = nested i h (omega arith) x u (omega arith) in
      (omega arith, omega arith)

  -- ---- the stack of the part

  module _ (brackets : Brackets part p) where
    abbrev K : ℕ → Kind
    K i = bracket part (letter_of p i)

    same : (i : ℕ) → i < darts p → K i ≡ kind (matching part p) i
    same i h = go (part (letter_of p i)) (opens (letter_of p i)) refl refl
      where
        go : (b o : Bool) → part (letter_of p i) ≡ b → opens (letter_of p i) ≡ o → cond b (cond o open' close) flat ≡ kind_of i (matching part p i)
        go true true u o = sym (ap (kind_of i) (matching_in part p i u) ∙ kind_open i (mate_of p i) (t.opens_first i h o))
        go true false u o = sym (ap (kind_of i) (matching_in part p i u) ∙ kind_close i (mate_of p i) (mate_before p t fits i h o))
        go false o u w = sym (kind_flat i (matching part p i) (matching_out part p i u))

    pub part_pending : (i : ℕ) → i ≤ darts p → stack K i ≡ pending (matching part p) i i
    part_pending = stack_pending (darts p) (matching part p) matching_inv (brackets_nested brackets) K same

    ends : (i : ℕ) → i < darts p → part (letter_of p i) ≡ true → opens (letter_of p i) ≡ false → matching part p i < i
    ends i h u o = subst (λ (k : ℕ). k < i) (sym (matching_in part p i u)) (mate_before p t fits i h o)

    pub part_top : (i : ℕ) → i < darts p → part (letter_of p i) ≡ true → opens (letter_of p i) ≡ false → stack K i ≡ mate_of p i ∷ stack K (suc i)
    part_top i h u o =
        stack_top (darts p) (matching part p) matching_inv (brackets_nested brackets) K same i h (ends i h u o)
        ∙ ap (λ (k : ℕ). k ∷ stack K (suc i)) (matching_in part p i u)

    pub part_balanced : Balanced K (darts p)
    part_balanced = stack_balanced (darts p) (matching part p) matching_inv (brackets_nested brackets) K same

    pub part_head : (i : ℕ) → i ≤ darts p → (a : ℕ) (s : List ℕ) → stack K i ≡ a ∷ s
        → (a < i) × (part (letter_of p a) ≡ true) × (opens (letter_of p a) ≡ true) × (i ≤ mate_of p a)
    part_head i h a s e =
        let (l, u) = stack_head (darts p) (matching part p) matching_inv (brackets_nested brackets) K same i h a s e in
        part_split part p a (λ w f. (l, w, opener (opens (letter_of p a)) refl (omega arith), omega arith)) (λ w f. absurd (omega arith))
      where
        opener : (o : Bool) → opens (letter_of p a) ≡ o → (a < i) × (i ≤ mate_of p a) → opens (letter_of p a) ≡ true
        opener true o z = o
        opener false o z = absurd (omega (arith, mate_before p t fits a (omega arith) o))

    pub part_holds : (i a : ℕ) → i ≤ darts p → a < i → part (letter_of p a) ≡ true → i ≤ mate_of p a → a < top (stack K i)
    part_holds i a h l w u =
        stack_holds (darts p) (matching part p) matching_inv (brackets_nested brackets) K same i h a l (rw (matching_in part p a w) u)

    pub part_matched : (i : ℕ) → i < darts p → matched K (darts p) i ≡ matching part p i
    part_matched = matched_is K (darts p) part_balanced (matching part p) matching_inv (brackets_nested brackets) same

module _ (p : Plan) (t : Toured p) (fits : dart_count_fits (darts p) ≡ true) where
  pub tour_balance : Bracketed p → Balance (letter_of p) (darts p)
  tour_balance b = record { trees = part_balanced is_tree tree_fellow p t fits b.trees; chords = part_balanced is_chord chord_whole p t fits b.chords }

  pub onward_matching : (k : ℕ) → k < darts p → onward p.rotation (letter_of p k) (dart_at p k) ≡ next p.rotation (dart_at p (matching is_tree p k))
  onward_matching k h =
      part_split is_tree p k
      (λ u e. onward_tree p.rotation (letter_of p k) (dart_at p k) u ∙ ap (next p.rotation) (sym (mate_dart p t fits k h) ∙ ap (dart_at p) (sym e)))
      (λ u e. onward_flat p.rotation (letter_of p k) (dart_at p k) u ∙ ap (λ (j : ℕ). next p.rotation (dart_at p j)) (sym e))
