-- A walk along the cycle of x that has met no number below it.
--
--   Rising f x j d       the walk stands at d after j steps, and was above x before
--   rising_start, rising_step   it begins, and goes on where it is above x
--   rising_gone          it was not back at x before
--   risen, fallen        back at x, x is the least of its cycle; below x, it is not
--   walk_ends            so that is told by where it ends
use Prim.Native.Nat.{ℕ, zero, suc, ◌+◌, ◌-◌, ◌≤◌, ◌<◌}
use native.Mathlib.Nat.{le_antisymm}
use native.Mathlib.Omega.{arith}
use native.Mathlib.Numerals.{add-one}
use mathlib.Core.Path.{◌≡◌, refl, sym, ap, subst, ◌∙◌}
use lib.Dec.{eqb}
use borrow.Author.Tests.{eq-eqb, ne_eqb}
use Rattle.model.specs.Numbers.{iter, least}
use Rattle.orbits.specs.Permutation.{Perm}
use Rattle.orbits.proofs.Order.{le_split, lt_suc_split}
use Rattle.orbits.proofs.Cycle.{iter_out, least_le, least_in, least_iter, on_iter}
use Rattle.outer_face.proofs.Ahead.{Gone}

pub record Rising (f : ℕ → ℕ) (x j d : ℕ) : Type 0 where
  pub some : 0 < j
  pub next : d ≡ iter f j x
  pub above : (i : ℕ) → 0 < i → i < j → x < iter f i x

module _ (n : ℕ) (f : ℕ → ℕ) (perm : Perm n f) (x : ℕ) (h : x < n) where
  pub rising_start : Rising f x 1 (f x)
  unfolding iter
  rising_start = record { some = omega arith; next = refl; above = λ i a b. absurd (omega arith) }

  module _ {j d : ℕ} (r : Rising f x j d) where
    pub rising_step : x < d → Rising f x (j + 1) (f d)
    rising_step up = record {
      some = omega arith;
      next = ap f r.next ∙ sym (iter_out f j x) ∙ ap (λ (k : ℕ). iter f k x) (sym (add-one j));
      above = λ i a b. lt_suc_split {a = i} {b = j} (omega arith)
          (λ e. subst (λ (k : ℕ). x < iter f k x) (sym e) (subst (λ (y : ℕ). x < y) r.next up)) (r.above i a);
    }

    pub rising_gone : Gone f x j d
    rising_gone = record { some = r.some; at = r.next; new = λ i a b same. let up = r.above i a b in absurd (omega arith) }

    fallen : d < x → least f n x ≡ x → ⊥
    fallen down own =
        let l = least_le f n d in
        let same : least f n d ≡ least f n x = ap (least f n) r.next ∙ least_iter n f perm j x h in
        omega arith

    risen : d ≡ x → least f n x ≡ x
    unfolding iter
    risen here =
        le_antisymm (least_le f n x)
        (go (least_in f (λ z. (k : ℕ) × (iter f k x ≡ z)) (λ z w. (suc w.0, iter_out f w.0 x ∙ ap f w.1)) n x (zero, refl)))
      where
        q : ℕ
        q = j - 1

        whole : suc q ≡ j
        whole = let z = r.some in omega arith

        up : (i : ℕ) → i < j → iter f i x ≡ least f n x → x ≤ least f n x
        up zero hi ei = omega arith
        up (suc i) hi ei = let z = r.above (suc i) (omega arith) hi in omega arith

        go : (k : ℕ) × (iter f k x ≡ least f n x) → x ≤ least f n x
        go (k, e) =
            let (i, hi, ei) = on_iter f q x (ap (λ (a : ℕ). iter f a x) whole ∙ sym r.next ∙ here) k in
            up i (omega (arith, whole)) (ei ∙ e)

    pub walk_ends : d ≤ x → eqb d x ≡ eqb (least f n x) x
    walk_ends low = le_split low
        (λ here. eq-eqb d x here ∙ sym (eq-eqb (least f n x) x (risen here)))
        (λ down. ne_eqb d x (λ same. omega arith) ∙ sym (ne_eqb (least f n x) x (fallen down)))
