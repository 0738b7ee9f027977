-- Lists that are filled in place.
--
--   filled n q y k   n zeros, after y i was entered at place q i for each i below k
--   length_filled    its length
--   filled_at        an entry that was made
--   head_drop        the head of what is left after i entries
use Prim.Native.Nat.{ℕ, zero, suc, ◌≤◌, ◌<◌}
use native.Mathlib.Nat.{not-suc-le-zero, le_of_lt, add-zero}
use native.Mathlib.Omega.{arith}
use mathlib.Core.Path.{◌≡◌, sym, ap, subst, ◌∙◌}
use mathlib.Core.Logic.{◌≢◌}
use mathlib.Core.List.{List}
use lib.ListN.{length, get_or, set, drop, replicate, length-set, length-replicate}
use lib.Seq.{get_or-set_same, get_or-set_other, get_or-drop}
use Rattle.orbits.specs.Permutation.{Perm}
use Rattle.orbits.proofs.Order.{lt_suc_split}
use Rattle.words.specs.Word.{head}
use Rattle.words.proofs.Plans.{head_at}

unfoldable pub filled : ℕ → (ℕ → ℕ) → (ℕ → ℕ) → ℕ → List ℕ
filled n q y zero = replicate n 0
filled n q y (suc k) = set (filled n q y k) (q k) (y k)

pub length_filled : (n : ℕ) (q y : ℕ → ℕ) (k : ℕ) → length (filled n q y k) ≡ n
unfolding filled
length_filled n q y zero = length-replicate n 0
length_filled n q y (suc k) = length-set (filled n q y k) (q k) (y k) ∙ length_filled n q y k

module _ (n : ℕ) (q y : ℕ → ℕ) (perm : Perm n q) where
  new_at : (k : ℕ) → k < n → get_or (filled n q y (suc k)) (q k) 0 ≡ y k
  unfolding filled
  new_at k h = get_or-set_same (filled n q y k) (q k) (y k) 0 (subst (λ (l : ℕ). q k < l) (sym (length_filled n q y k)) (perm.bound k h))

  old_at : (j k : ℕ) → j < n → k < n → j ≢ k → get_or (filled n q y (suc k)) (q j) 0 ≡ get_or (filled n q y k) (q j) 0
  unfolding filled
  old_at j k hj hk d = get_or-set_other (filled n q y k) (q k) (q j) (y k) 0 (λ e. d (perm.inj j k hj hk e))

  pub filled_at : (k : ℕ) → k ≤ n → (j : ℕ) → j < k → get_or (filled n q y k) (q j) 0 ≡ y j
  filled_at zero h j l = absurd (not-suc-le-zero l)
  filled_at (suc k) h j l =
      let ih = filled_at k (le_of_lt h) j in
      lt_suc_split l
      (λ e. subst (λ (i : ℕ). get_or (filled n q y (suc k)) (q i) 0 ≡ y i) (sym e) (new_at k h))
      (λ m. old_at j k (omega arith) h (λ e. omega arith) ∙ ih m)

pub head_drop : (xs : List ℕ) (i : ℕ) → head (drop i xs) ≡ get_or xs i 0
head_drop xs i = head_at (drop i xs) ∙ get_or-drop i xs 0 0 ∙ ap (λ (k : ℕ). get_or xs k 0) (add-zero i)
