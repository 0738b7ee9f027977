-- Families whose records hold tree bits and labels: 1 and 2. Assumes nothing.
--
--   labelled_cases       what holds of 1 and 2 holds of every such family
--   labelled_family, labelled_strict   it is a family, and takes no loops, so is not 4
--   labelled_two         it is 2 if it is not 1
--   labelled_other, labelled_or_four   every family but 3 and 4 is such a one
--   labelled_not_three   it is not 3
use Prim.Native.Nat.{ℕ}
use native.Mathlib.Omega.{arith}
use mathlib.Core.Path.{◌≡◌, refl, sym, subst}
use mathlib.Core.Logic.{◌≢◌}
use mathlib.Core.Bool.{Bool, true, false}
use lib.Dec.{eqb}
use borrow.Author.Tests.{eqb-true, eqb-false}
use Rattle.model.specs.Numbers.{elem}
use Rattle.model.specs.Map.{is_family, takes_loops}
use Rattle.model.proofs.Booleans.{or_split}
use Rattle.model.proofs.Heads.{family_cases}
use Rattle.packing.specs.Payload.{has_labels}

pub labelled_cases : (P : ℕ → Type 0) → P 1 → P 2 → (k : ℕ) → has_labels k ≡ true → P k
unfolding has_labels
labelled_cases P p q k e =
    or_split (eqb k 1) (eqb k 2) e (λ t. subst P (sym (eqb-true k 1 t)) p) (λ t. subst P (sym (eqb-true k 2 t)) q)

pub labelled_family : (k : ℕ) → has_labels k ≡ true → is_family k ≡ true
unfolding is_family elem
labelled_family = labelled_cases (λ (x : ℕ). is_family x ≡ true) refl refl

pub labelled_strict : (k : ℕ) → has_labels k ≡ true → takes_loops k ≡ false
labelled_strict = labelled_cases (λ (x : ℕ). takes_loops x ≡ false) refl refl

pub labelled_not_three : (k : ℕ) → has_labels k ≡ true → k ≢ 3
labelled_not_three = labelled_cases (λ (x : ℕ). x ≢ 3) (λ e. absurd (omega (arith, e))) (λ e. absurd (omega (arith, e)))

pub labelled_other : (k : ℕ) → is_family k ≡ true → k ≢ 3 → k ≢ 4 → has_labels k ≡ true
unfolding has_labels
labelled_other k kind = family_cases (λ (x : ℕ). x ≢ 3 → x ≢ 4 → has_labels x ≡ true)
    (λ c d. refl) (λ c d. refl) (λ c d. absurd (c refl)) (λ c d. absurd (d refl)) k kind

pub labelled_two : (k : ℕ) → has_labels k ≡ true → k ≢ 1 → k ≡ 2
labelled_two = labelled_cases (λ (x : ℕ). x ≢ 1 → x ≡ 2) (λ d. absurd (d refl)) (λ d. refl)

pub labelled_or_four : {P : Type 0} (k : ℕ) → is_family k ≡ true → k ≢ 3 → (has_labels k ≡ true → P) → (k ≡ 4 → P) → P
labelled_or_four {P} k kind other f g =
    go (eqb k 4) refl
  where
    go : (b : Bool) → eqb k 4 ≡ b → P
    go true e = g (eqb-true k 4 e)
    go false e = f (labelled_other k kind other (eqb-false k 4 e))
