-- A walk along the cycle of o that keeps the least value met.
--
--   Along f v o k x m    the walk stands at x after k steps and was not back at o before; m is the least of the values at the k numbers met
--   along_start          it begins
--   along_low, along_keep   it goes on past a value that is lower, or is not
--   along_on             it goes on with a number that is one of the two, and above neither
--   along_gone           it was not back at o before
--   along_end            back at o, m is the least value of the whole cycle
use Prim.Native.Nat.{ℕ, zero, suc, ◌+◌, ◌-◌, ◌≤◌, ◌<◌}
use native.Mathlib.Omega.{arith}
use native.Mathlib.Numerals.{add-one}
use mathlib.Core.Path.{◌≡◌, refl, sym, ap, subst, ◌∙◌}
use mathlib.Core.Logic.{◌≢◌, ◌⊎◌, inl, inr}
use Rattle.model.specs.Numbers.{iter}
use Rattle.orbits.proofs.Order.{le_split, lt_suc_split}
use Rattle.orbits.proofs.Cycle.{iter_out, on_iter}
use Rattle.outer_face.proofs.Ahead.{Gone}

pub record Along (f v : ℕ → ℕ) (o k x m : ℕ) : Type 0 where
  pub some : 0 < k
  pub at : x ≡ iter f k o
  pub new : (j : ℕ) → 0 < j → j < k → iter f j o ≢ o
  pub least : (j : ℕ) → j < k → m ≤ v (iter f j o)
  pub met : (j : ℕ) × (m ≡ v (iter f j o))

module _ (f v : ℕ → ℕ) (o : ℕ) where
  pub along_start : Along f v o 1 (f o) (v o)
  unfolding iter
  along_start = record {
    some = omega arith;
    at = refl;
    new = λ j a b. absurd (omega arith);
    least = λ j h. let z : j ≡ 0 = omega arith in rw z (omega arith);
    met = (zero, refl);
  }

  module _ {k x m : ℕ} (r : Along f v o k x m) where
    -- a step from x, which is not o, with what is the least then
    onward : x ≢ o → (l : ℕ) → l ≤ m → l ≤ v x → (j : ℕ) × (l ≡ v (iter f j o)) → Along f v o (k + 1) (f x) l
    onward away l low own met = record {
      some = omega arith;
      at = ap f r.at ∙ sym (iter_out f k o) ∙ ap (λ (j : ℕ). iter f j o) (sym (add-one k));
      new = λ j a b. lt_suc_split {a = j} {b = k} (omega arith)
          (λ e back. away (r.at ∙ ap (λ (i : ℕ). iter f i o) (sym e) ∙ back)) (r.new j a);
      least = λ j h. lt_suc_split {a = j} {b = k} (omega arith)
          (λ e. subst (λ (y : ℕ). l ≤ v y) (r.at ∙ ap (λ (i : ℕ). iter f i o) (sym e)) own) (λ b. let z = r.least j b in omega arith);
      met = met;
    }

    pub along_low : x ≢ o → v x < m → Along f v o (k + 1) (f x) (v x)
    along_low away low = onward away (v x) (omega arith) (omega arith) (k, ap v r.at)

    pub along_keep : x ≢ o → m ≤ v x → Along f v o (k + 1) (f x) m
    along_keep away high = onward away m (omega arith) high r.met

    -- with a number that is one of the two, and above neither
    pub along_on : x ≢ o → (l : ℕ) → l ≤ m → l ≤ v x → (l ≡ v x) ⊎ (l ≡ m) → Along f v o (k + 1) (f x) l
    along_on away l low own (inl e) =
        let below : v x ≤ m = omega arith in
        rw e (le_split below (λ same. rw same (along_keep away (omega arith))) (along_low away))
    along_on away l low own (inr e) = rw e (along_keep away (omega arith))

    pub along_gone : Gone f o k x
    along_gone = record { some = r.some; at = r.at; new = r.new }

    pub along_end : x ≡ o → (j : ℕ) → m ≤ v (iter f j o)
    along_end back j =
        let some = r.some in
        let whole : suc (k - 1) ≡ k = omega arith in
        let (i, hi, e) = on_iter f (k - 1) o (ap (λ (a : ℕ). iter f a o) whole ∙ sym r.at ∙ back) j in
        subst (λ (y : ℕ). m ≤ v y) e (r.least i (omega arith))
