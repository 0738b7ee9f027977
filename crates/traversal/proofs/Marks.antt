-- Lists of marks: 0 at a number that is not marked.
--
--   Marked m x            x is marked
--   zeros_at              a list of zeros has no mark
--   set_here, set_still   a number is marked: then it is, and what was marked still is
--   set_in                what is marked then was so before, or is that number
--   is_marked m x          the same as a test, and marked-is, is-marked both ways
--   marks_some            the count of marks
use Prim.Native.Nat.{ℕ, zero, suc, ◌<◌}
use native.Mathlib.Omega.{arith}
use mathlib.Core.Path.{◌≡◌, refl, sym, subst, ◌∙◌}
use mathlib.Core.Logic.{◌≢◌}
use mathlib.Core.Bool.{Bool, not}
use mathlib.Core.List.{List}
use lib.Dec.{T, T_not, not_T, eqb, eqb→eq}
use lib.ListN.{length, get_or, set, replicate}
use lib.Seq.{get_or-set_same, get_or-set_other, set_out}
use Rattle.model.specs.Numbers.{count}
use Rattle.orbits.proofs.Order.{eq_split, lt_or_le, eq→eqb}
use Rattle.orbits.proofs.Tally.{count_except}

abbrev pub Marked : List ℕ → ℕ → Type 0
Marked m x = get_or m x 0 ≢ 0

-- a list of zeros has nothing but zeros, beyond its end too
pub zeros_at : (n i : ℕ) → ◌≡◌ {A = ℕ} (get_or (replicate n 0) i 0) 0
zeros_at zero i = refl
zeros_at (suc n) zero = refl
zeros_at (suc n) (suc i) = zeros_at n i

module _ (m : List ℕ) (w : ℕ) where
  pub set_here : w < length m → Marked (set m w 1) w
  set_here h e = let one = get_or-set_same m w 1 0 h in omega arith

  pub set_still : (x : ℕ) → Marked m x → Marked (set m w 1) x
  set_still x s = eq_split x w
      (λ e. lt_or_le w (length m)
      (λ h. subst (Marked (set m w 1)) (sym e) (set_here h))
      (λ g. subst (λ (l : List ℕ). Marked l x) (sym (set_out m w 1 g)) s))
      (λ n z. s (sym (get_or-set_other m w x 1 0 n) ∙ z))

  pub set_in : (S : ℕ → Type 0) → S w → ((x : ℕ) → Marked m x → S x) → (x : ℕ) → Marked (set m w 1) x → S x
  set_in S s all x k = eq_split x w (λ e. subst S (sym e) s) (λ n. all x (λ z. k (get_or-set_other m w x 1 0 n ∙ z)))

-- ---- how many are marked

abbrev pub is_marked : List ℕ → ℕ → Bool
is_marked m x = not (eqb (get_or m x 0) 0)

module _ (m : List ℕ) where
  pub marked_is : (x : ℕ) → Marked m x → T (is_marked m x)
  marked_is x s = not_T (eqb (get_or m x 0) 0) (λ t. s (eqb→eq (get_or m x 0) 0 t))

  pub is_marked_lem : (x : ℕ) → T (is_marked m x) → Marked m x
  is_marked_lem x t e = T_not (eqb (get_or m x 0) 0) t (eq→eqb (get_or m x 0) 0 e)

  pub marks_some : (n x : ℕ) → x < n → Marked m x → 0 < count (is_marked m) n
  marks_some n x h s = omega (arith, count_except (is_marked m) x n h (marked_is x s))
