-- What callers use of `Named`: n names stand from place a on, the sizes from place b on, and the rest is as it was.
--
--   named_length       the work area is as long
--   named_names        the names
--   named_sizes        the sizes
use mathlib.Core.Path.{◌≡◌, sym, ap, ◌∙◌}
use mathlib.Core.List.{List}
use Prim.Native.Nat.{ℕ, ◌+◌, ◌≤◌}
use native.Mathlib.Omega.{arith}
use lib.ListN.{length}
use Rattle.model.specs.Numbers.{least, is_least, cycles, cycle_sizes}
use Rattle.model.specs.Numbers.{tabulate}
use Rattle.work.specs.Area.{region, placed}
use Rattle.orbits.proofs.Tally.{count_le}
use Rattle.model.proofs.Tabulated.{length_tabulate}
use Rattle.orbits.proofs.Sizes.{length_sizes}
use Rattle.work.proofs.Regions.{length_placed, region_placed, region_placed_other}
use Rattle.cycles.specs.Cycles.{Named}

module _ (f : ℕ → ℕ) (n a b : ℕ) (w : List ℕ) (c : ℕ) (w' : List ℕ) (apart : a + n ≤ b) (fits : b + n ≤ length w) (s : Named f n a b w c w') where
  abbrev names : List ℕ
  names = tabulate (least f n) 0 n

  first_fits : a + length names ≤ length w
  first_fits = omega (arith, length_tabulate (least f n) 0 n)

  as_long : length (placed a names w) ≡ length w
  as_long = length_placed a names w first_fits

  few : length (cycle_sizes f n) ≤ n
  unfolding cycle_sizes
  few = omega (arith, length_sizes f n n, count_le (is_least f n) n)

  second_fits : b + length (cycle_sizes f n) ≤ length (placed a names w)
  second_fits = omega (arith, few, as_long)

  pub named_length : length w' ≡ length w
  named_length = ap length s.named ∙ length_placed b (cycle_sizes f n) (placed a names w) second_fits ∙ as_long

  pub named_names : region a n w' ≡ names
  named_names =
      ap (region a n) s.named
      ∙ region_placed_other b (cycle_sizes f n) (placed a names w) second_fits a n (λ h. absurd (omega arith))
      ∙ region_placed a names w first_fits n (sym (length_tabulate (least f n) 0 n))

  pub named_sizes : region b (cycles f n) w' ≡ cycle_sizes f n
  unfolding cycles cycle_sizes
  named_sizes = ap (region b (cycles f n)) s.named ∙ region_placed b (cycle_sizes f n) (placed a names w) second_fits (cycles f n) (sym (length_sizes f n n))
