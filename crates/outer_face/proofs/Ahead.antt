-- How far it is round a cycle, back to where a walk began: the measure of the walks along a face.
--
--   ahead f o n x        how many steps lead from x to o, if n do or fewer
--   Gone f o k x         the walk from o is at x after k steps, and was not back before
--   ahead_less           a step from x, which is not o, leaves fewer
use Prim.Native.Nat.{ℕ, zero, suc, ◌+◌, ◌-◌, ◌≤◌, ◌<◌}
use native.Mathlib.Decide.{dec_le}
use native.Mathlib.Omega.{arith}
use mathlib.Core.Path.{◌≡◌, refl, sym, ap, ◌∙◌}
use mathlib.Core.Logic.{◌≢◌}
use mathlib.Core.Bool.{cond}
use lib.Dec.{eqb}
use borrow.Author.Tests.{eq-eqb, ne_eqb}
use Rattle.model.specs.Numbers.{iter}
use Rattle.orbits.specs.Permutation.{Perm}
use Rattle.orbits.proofs.Order.{le_split}
use Rattle.orbits.proofs.Cycle.{iter_out, first_back}

unfoldable pub ahead : (ℕ → ℕ) → ℕ → ℕ → ℕ → ℕ
ahead f o zero x = 0
ahead f o (suc n) x = cond (eqb x o) 0 (suc (ahead f o n (f x)))

pub record Gone (f : ℕ → ℕ) (o k x : ℕ) : Type 0 where
  pub some : 0 < k
  pub at : x ≡ iter f k o
  pub new : (j : ℕ) → 0 < j → j < k → iter f j o ≢ o

module _ (f : ℕ → ℕ) (o : ℕ) where
  iter_more : (i k : ℕ) → iter f i (iter f k o) ≡ iter f (i + k) o
  unfolding iter
  iter_more zero k = let e : 0 + k ≡ k = omega arith in rw e
  iter_more (suc i) k = let e : suc i + k ≡ suc (i + k) = omega arith in
      iter_out f i (iter f k o) ∙ ap f (iter_more i k) ∙ sym (iter_out f (i + k) o) ∙ ap (λ (j : ℕ). iter f j o) (sym e)

  -- the first time that o is met
  ahead_is : (n k x : ℕ) → k ≤ n → iter f k x ≡ o → ((i : ℕ) → i < k → iter f i x ≢ o) → ahead f o n x ≡ k
  unfolding ahead iter
  ahead_is zero zero x h e new = refl
  ahead_is (suc n) zero x h e new = rw (eq-eqb x o e)
  ahead_is zero (suc k) x h e new = absurd (omega arith)
  ahead_is (suc n) (suc k) x h e new =
      rw (ne_eqb x o (new 0 (omega arith))) (ap suc (ahead_is n k (f x) (omega arith) e (λ i l. new (suc i) (omega arith))))

  module _ (n : ℕ) (perm : Perm n f) (h : o < n) where
    -- back at o after q + 1 steps, and not before
    ahead_of : (q k x : ℕ) → q < n → iter f (suc q) o ≡ o → ((r : ℕ) → r < q → iter f (suc r) o ≢ o) → 0 < k → k ≤ suc q → x ≡ iter f k o
        → ahead f o n x ≡ suc q - k
    ahead_of q k x few back never some low at = ahead_is n (suc q - k) x (omega arith)
        (let e : (suc q - k) + k ≡ suc q = omega arith in rw at (iter_more (suc q - k) k ∙ rw e back))
        (λ i l e. let w : i + k ≡ suc ((i + k) - 1) = omega arith in
        never ((i + k) - 1) (omega arith) (rw (← w, ← iter_more i k, ← at) e))

    pub ahead_less : {k x : ℕ} → Gone f o k x → x ≢ o → ahead f o n (f x) < ahead f o n x
    ahead_less {k} {x} g away =
        let (q, few, back, never) = first_back n f perm o h in
        let some = g.some in
        let low : k ≤ q = elim (dec_le k q) [
          | yes l ↦ l
          | no l ↦ le_split {a = suc q} {b = k} (omega arith)
              (λ e. absurd (away (g.at ∙ ap (λ (j : ℕ). iter f j o) (sym e) ∙ back)))
              (λ late. absurd (g.new (suc q) (omega arith) late back))
        ] in
        let here = ahead_of q k x few back never some (omega arith) g.at in
        let next = ahead_of q (suc k) (f x) few back never (omega arith) (omega arith) (ap f g.at ∙ sym (iter_out f k o)) in
        omega arith
