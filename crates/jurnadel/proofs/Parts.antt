-- A fetched record as a place and a length: s is the shelf, u its used length, n the record's number.
--
--   fetch_refused, fetch_fine   the two ways out
use mathlib.Core.Path.{◌≡◌, refl, sym, ap, ◌∙◌}
use mathlib.Core.List.{List, [], ◌∷◌}
use Prim.Native.Nat.{ℕ, zero, suc, ◌+◌, ◌-◌, ◌≤◌}
use native.Mathlib.Decide.{ℕ_discrete}
use native.Mathlib.Omega.{arith}
use lib.ListN.{length, take, drop, length-take}
use lib.Seq.{take-take}
use borrow.Author.Tests.{eq-eqb, ne_eqb}
use Rattle.model.specs.Calls.{fetch_refusal, fetched}
use Rattle.model.specs.ShelfWalk.{record_at, begin_place, Begun}
use Rattle.model.specs.Parts.{fetched_place}
use Rattle.model.specs.Exports.{FetchExport}
use Rattle.records.proofs.Stands.{fits_here, part_none, part_is}
use Rattle.shelf.proofs.Walking.{first_record_lem}

part_of_part : (l u p : ℕ) (s : List ℕ) → p + l ≤ u → take l (drop p (take u s)) ≡ take l (drop p s)
part_of_part l u zero s h = take-take l u s (omega arith)
part_of_part l zero (suc p) s h = let z : ⊥ = omega arith in absurd z
part_of_part l (suc u) (suc p) [] h = refl
part_of_part l (suc u) (suc p) (x ∷ s) h = part_of_part l u p s (omega arith)

record_part : (s : List ℕ) (u at l : ℕ) → l ≡ length (record_at (take u s) at) → take l (drop at s) ≡ record_at (take u s) at
record_part s u at l e = go (ℕ_discrete l 0)
  where
    go : Dec (l ≡ 0) → take l (drop at s) ≡ record_at (take u s) at
    go (yes z) = ap (λ (k : ℕ). take k (drop at s)) z ∙ part_none (take u s) at l e z
    go (no d) =
        let w = fits_here (take u s) at l e d in
        let n = length-take u s in
        let k : at + l - at ≡ l = omega arith in
        sym (part_of_part l u at s (omega arith)) ∙ (ap (λ (j : ℕ). take j (drop at (take u s))) (sym k) ∙ part_is (take u s) at l e d)

same_place : (s : List ℕ) (u n : ℕ) → fetch_refusal s u n ≡ 0 → begin_place s u n ≡ fetched_place s u n
unfolding begin_place fetched_place
same_place s u n z = rw (eq-eqb (fetch_refusal s u n) 0 z)

module _ (s : List ℕ) (u n p x : ℕ) (b : Begun s u n p x) where
  pub fetch_refused : (x ≡ 0 → ⊥) → FetchExport s u n x 0 0
  unfolding fetched_place fetched
  fetch_refused d =
      let t = ne_eqb (fetch_refusal s u n) 0 (λ z. d (b.number_is ∙ z)) in
      record { refusal_is = b.number_is; place_is = rw t; length_is = rw t; part_is = rw t }

  pub fetch_fine : x ≡ 0 → (l : ℕ) → l ≡ length (record_at (take u s) p) → FetchExport s u n 0 p l
  fetch_fine e l l-is =
      let z = sym b.number_is ∙ e in
      let f = ap (record_at (take u s)) b.place_is ∙ first_record_lem s u n in
      record {
        refusal_is = sym z;
        place_is = b.place_is ∙ same_place s u n z;
        length_is = l-is ∙ ap length f;
        part_is = record_part s u p l l-is ∙ f;
      }
