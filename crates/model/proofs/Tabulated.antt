-- Laws of lists made of functions. Assumes nothing.
--
--   length_tabulate, get_d_tabulate   a table's length and entries
--   tabulate_at                      the entries of a table that begins with g 0
--   tabulate_ext, is_tabulate        tables with equal entries; a list with a table's entries
use Prim.Native.Nat.{ℕ, zero, suc, ◌+◌, ◌<◌}
use native.Mathlib.Nat.{not-suc-le-zero, le_of_suc-le-suc, suc-add, add-suc, zero-add, add-zero}
use native.Mathlib.Omega.{arith}
use mathlib.Core.Path.{◌≡◌, refl, sym, ap, ◌∙◌}
use mathlib.Core.List.{List}
use lib.ListN.{length, get_or}
use lib.Seq.{ext_get_or}
use Rattle.model.specs.Numbers.{tabulate}

pub length_tabulate : (g : ℕ → ℕ) (s n : ℕ) → length (tabulate g s n) ≡ n
unfolding tabulate
length_tabulate g s zero = refl
length_tabulate g s (suc n) = ap suc (length_tabulate g (suc s) n)

pub get_d_tabulate : (g : ℕ → ℕ) (s n i : ℕ) → i < n → get_or (tabulate g s n) i 0 ≡ g (s + i)
unfolding tabulate
get_d_tabulate g s zero i h = absurd (not-suc-le-zero h)
get_d_tabulate g s (suc n) zero h = ap g (sym (add-zero s))
get_d_tabulate g s (suc n) (suc i) h = get_d_tabulate g (suc s) n i (le_of_suc-le-suc h) ∙ ap g (suc-add s i ∙ sym (add-suc s i))

pub tabulate_at : (g : ℕ → ℕ) (n i : ℕ) → i < n → get_or (tabulate g 0 n) i 0 ≡ g i
tabulate_at g n i h = get_d_tabulate g 0 n i h ∙ ap g (zero-add i)

pub is_tabulate : (g : ℕ → ℕ) (s n : ℕ) (xs : List ℕ) → length xs ≡ n → ((i : ℕ) → i < n → get_or xs i 0 ≡ g (s + i)) → xs ≡ tabulate g s n
is_tabulate g s n xs e h =
    ext_get_or 0 xs (tabulate g s n) (e ∙ sym (length_tabulate g s n))
    (λ i l. h i (omega arith) ∙ sym (get_d_tabulate g s n i (omega arith)))

pub tabulate_ext : (g h : ℕ → ℕ) (s n : ℕ) → ((i : ℕ) → i < n → g (s + i) ≡ h (s + i)) → tabulate g s n ≡ tabulate h s n
tabulate_ext g h s n e = is_tabulate h s n (tabulate g s n) (length_tabulate g s n) (λ i l. get_d_tabulate g s n i l ∙ e i l)
