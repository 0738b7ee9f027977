-- Marking decides whether a list is a permutation.
--
--   run n xs marks       every number of xs is below n and finds its mark not set
--   decides              from no marks, that is `is_permutation`
--   next, stop_big, stop_seen, end   one turn of the loop
use mathlib.Core.Path.{◌≡◌, refl, sym, ap, ◌∙◌}
use mathlib.Core.Logic.{◌≢◌}
use mathlib.Core.Bool.{Bool, true, false, not, ◌&&◌, false≢true, true≢false}
use mathlib.Core.List.{List, [], ◌∷◌}
use Prim.Native.Nat.{ℕ, suc, ◌+◌, ◌≤◌, ◌<◌}
use native.Mathlib.Nat.{suc-ne-zero}
use native.Mathlib.Decide.{ℕ_discrete}
use native.Mathlib.Omega.{arith}
use native.Mathlib.Numerals.{add-one}
use lib.Dec.{eqb, ltb}
use lib.ListN.{length, get_or, set, drop, replicate, length-set, get_or-replicate, length-replicate}
use lib.Seq.{get_or-set_same, get_or-set_other, drop-cons, drop-length}
use borrow.Author.Tests.{ltb-true, lt-ltb, le-ltb, eqb-true, eq-eqb, ne_eqb, not-true}
use Rattle.model.specs.Numbers.{elem, distinct, all_below, is_permutation}
use Rattle.model.proofs.Booleans.{and_left, and_right, both, not_intro, bool_ext}
use Rattle.model.proofs.Fitness.{below_all}
use Rattle.model.proofs.Permutations.{elem_at, at_elem}

-- ---- the loop as a function of lists

-- what is left of the loop, at the numbers still to come and the marks so far
unfoldable pub run : ℕ → List ℕ → List ℕ → Bool
run n [] w = true
run n (x ∷ xs) w = ltb x n && (eqb (get_or w x 0) 0 && run n xs (set w x 1))

record Good (n : ℕ) (xs w : List ℕ) : Type 0 where
  below : all_below n xs ≡ true
  differ : distinct xs ≡ true
  fresh : (y : ℕ) → elem y xs ≡ true → get_or w y 0 ≡ 0

elem_head : (x : ℕ) (xs : List ℕ) → elem x (x ∷ xs) ≡ true
unfolding elem
elem_head x xs = simp (eq-eqb x x refl)

elem_tail : (y x : ℕ) (xs : List ℕ) → elem y xs ≡ true → elem y (x ∷ xs) ≡ true
elem_tail y x xs e = let r = elem_at y xs e in at_elem y (x ∷ xs) (suc r.0) (omega arith) r.2

elem_cases : (y x : ℕ) (xs : List ℕ) → elem y (x ∷ xs) ≡ true → y ≢ x → elem y xs ≡ true
unfolding elem
elem_cases y x xs e h = simp (ne_eqb y x h) at e

sound : (n : ℕ) (xs w : List ℕ) → n ≤ length w → run n xs w ≡ true → Good n xs w
unfolding run distinct all_below elem
sound n [] w h e = record { below = refl; differ = refl; fresh = λ y i. absurd (false≢true i) }
sound n (x ∷ xs) w h e =
    let lt = ltb-true x n (and_left _ (eqb (get_or w x 0) 0 && run n xs (set w x 1)) e) in
    let e₁ = and_right (ltb x n) _ e in
    let z = eqb-true (get_or w x 0) 0 (and_left _ (run n xs (set w x 1)) e₁) in
    let g = sound n xs (set w x 1) (simp length-set (omega arith)) (and_right (eqb (get_or w x 0) 0) _ e₁) in
    record {
      below = both (lt-ltb x n lt) g.below;
      differ = both (ap not (not_intro (elem x xs) (λ i. suc-ne-zero _ (sym (get_or-set_same w x 1 0 (omega arith)) ∙ g.fresh x i)))) g.differ;
      fresh = λ y i. elim (ℕ_discrete y x) [ yes s ↦ rw s z | no d ↦ sym (get_or-set_other w x y 1 0 d) ∙ g.fresh y (elem_cases y x xs i d) ];
    }

complete : (n : ℕ) (xs w : List ℕ) → Good n xs w → run n xs w ≡ true
unfolding run distinct all_below
complete n [] w g = refl
complete n (x ∷ xs) w g =
    both (and_left (ltb x n) (all_below n xs) g.below)
    (both (eq-eqb (get_or w x 0) 0 (g.fresh x (elem_head x xs)))
    (complete n xs (set w x 1) (record {
      below = and_right (ltb x n) _ g.below;
      differ = and_right (not (elem x xs)) _ g.differ;
      fresh = λ y i.
          let new = not-true (elem x xs) (and_left (not (elem x xs)) (distinct xs) g.differ) in
          get_or-set_other w x y 1 0 (λ s. true≢false (sym (rw s at i) ∙ new)) ∙ g.fresh y (elem_tail y x xs i);
    })))

pub decides : (p : List ℕ) (m : ℕ) → length p ≤ m → run (length p) p (replicate m 0) ≡ is_permutation p
unfolding is_permutation
decides p m h =
    bool_ext _ _
    (λ e. let g = sound (length p) p (replicate m 0) (simp length-replicate (omega arith)) e in both g.below g.differ)
    (λ e. complete (length p) p (replicate m 0) (record {
      below = and_left _ (distinct p) e;
      differ = and_right (all_below (length p) p) _ e;
      fresh = λ y i.
          let r = elem_at y p i in
          let low = below_all (length p) p (and_left _ (distinct p) e) r.0 r.1 in
          get_or-replicate m y 0 0 (omega (arith, r.2));
    }))

pub next : (n : ℕ) (p w : List ℕ) (i : ℕ) → i < length p → get_or p i 0 < n → get_or w (get_or p i 0) 0 ≡ 0
    → run n (drop i p) w ≡ run n (drop (i + 1) p) (set w (get_or p i 0) 1)
unfolding run
next n p w i h lt z = rw (add-one, drop-cons p i 0) (simp (lt-ltb _ _ lt, eq-eqb _ _ z))

pub stop_big : (n : ℕ) (p w : List ℕ) (i : ℕ) → i < length p → n ≤ get_or p i 0 → run n (drop i p) w ≡ false
unfolding run
stop_big n p w i h le = rw (drop-cons p i 0) (simp (le-ltb _ _ le))

pub stop_seen : (n : ℕ) (p w : List ℕ) (i : ℕ) → i < length p → get_or p i 0 < n → (get_or w (get_or p i 0) 0 ≡ 0 → ⊥) → run n (drop i p) w ≡ false
unfolding run
stop_seen n p w i h lt d = rw (drop-cons p i 0) (simp (lt-ltb _ _ lt, ne_eqb _ _ d))

pub end : (n : ℕ) (p w : List ℕ) (i : ℕ) → i ≡ length p → run n (drop i p) w ≡ true
unfolding run
end n p w i h = rw (h, drop-length)
