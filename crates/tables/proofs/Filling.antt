-- An array filled from the first entry on.
--
--   Filled g v xs        the first v entries of xs are those of g
--   one_filled           one entry more
--   all_filled           in the end it is the table of g
use Prim.Native.Nat.{ℕ, ◌+◌, ◌<◌}
use native.Mathlib.Nat.{zero-add}
use native.Mathlib.Omega.{arith}
use mathlib.Core.Path.{◌≡◌, refl, sym, ap, ◌∙◌}
use mathlib.Core.Bool.{Bool, true, false}
use mathlib.Core.List.{List}
use lib.Dec.{eqb}
use lib.ListN.{length, get_or, set}
use lib.Seq.{get_or-set_same, get_or-set_other}
use borrow.Author.Tests.{eqb-true, eqb-false}
use Rattle.model.specs.Numbers.{tabulate}
use Rattle.model.proofs.Tabulated.{is_tabulate}

abbrev pub Filled : (ℕ → ℕ) → ℕ → List ℕ → Type 0
Filled g v xs = (i : ℕ) → i < v → get_or xs i 0 ≡ g i

pub one_filled : (g : ℕ → ℕ) (v x : ℕ) (xs : List ℕ) → v < length xs → x ≡ g v → Filled g v xs → Filled g (v + 1) (set xs v x)
one_filled g v x xs h e filled i l = go (eqb i v) refl
  where
    go : (b : Bool) → eqb i v ≡ b → get_or (set xs v x) i 0 ≡ g i
    go true s = ap (λ (j : ℕ). get_or (set xs v x) j 0) (eqb-true i v s) ∙ get_or-set_same xs v x 0 h ∙ e ∙ ap g (sym (eqb-true i v s))
    go false s = let d = eqb-false i v s in get_or-set_other xs v i x 0 d ∙ filled i (omega arith)

pub all_filled : (g : ℕ → ℕ) (n v : ℕ) (xs : List ℕ) → length xs ≡ n → v ≡ n → Filled g v xs → xs ≡ tabulate g 0 n
all_filled g n v xs long end filled = is_tabulate g 0 n xs long (λ i h. filled i (omega arith) ∙ ap g (sym (zero-add i)))
