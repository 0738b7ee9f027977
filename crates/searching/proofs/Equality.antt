-- The test for equal bytes.
--
--   same_unlike                   lists of two lengths fail
--   same_turn, same_stops, same_ends    one turn of its loop
--   kinds_unlike                  records of two kinds fail
use mathlib.Core.Path.{◌≡◌, sym, ap, ◌∙◌, subst}
use mathlib.Core.Bool.{true, false}
use mathlib.Core.List.{List}
use Prim.Native.Nat.{ℕ, suc, ◌≤◌}
use native.Mathlib.Omega.{arith}
use lib.ListN.{length, get_or, drop}
use lib.Seq.{drop-cons, drop-length}
use borrow.Author.Tests.{eq-eqb}
use Rattle.model.specs.Shelf.{word16, kind_of, same}
use Rattle.model.proofs.Booleans.{not_intro}
use Rattle.model.proofs.Same.{same_eq}

pub same_unlike : (xs ys : List ℕ) → (length xs ≡ length ys → ⊥) → same xs ys ≡ false
same_unlike xs ys d = not_intro _ (λ e. d (ap length (same_eq xs ys e)))

module _ (xs ys : List ℕ) (i : ℕ) where
  -- the entry before those from place j on
  pub same_turn : (j : ℕ) → j ≡ suc i → j ≤ length xs → j ≤ length ys → get_or xs i 0 ≡ get_or ys i 0 → same (drop j xs) (drop j ys) ≡ true
      → same (drop i xs) (drop i ys) ≡ true
  unfolding same
  same_turn j n h k e s =
      let t : same (drop (suc i) xs) (drop (suc i) ys) ≡ true = subst (λ (m : ℕ). same (drop m xs) (drop m ys) ≡ true) n s in
      rw (drop-cons xs i 0 (omega arith), drop-cons ys i 0 (omega arith), eq-eqb _ _ e) t

  pub same_stops : (get_or xs i 0 ≡ get_or ys i 0 → ⊥) → same xs ys ≡ false
  same_stops d = not_intro _ (λ e. d (ap (λ (zs : List ℕ). get_or zs i 0) (same_eq xs ys e)))

  pub same_ends : i ≡ length xs → i ≡ length ys → same (drop i xs) (drop i ys) ≡ true
  unfolding same
  same_ends e f = rw (ap (λ (k : ℕ). drop k xs) e, ap (λ (k : ℕ). drop k ys) f, drop-length xs, drop-length ys)

pub kinds_unlike : (r s : List ℕ) (k : ℕ) → k ≡ kind_of r → (word16 s 2 ≡ k → ⊥) → same r s ≡ false
kinds_unlike r s k e d = not_intro _ (λ t. d (sym (e ∙ ap kind_of (same_eq r s t))))
