-- The lengths are copied from their part of the work area.
--
--   copied_part          the part of the work area that is copied
use Prim.Native.Nat.{ℕ, ◌-◌, ◌*◌}
use native.Mathlib.Nat.{add-zero}
use native.Mathlib.Omega.{arith}
use mathlib.Core.Path.{◌≡◌, ap, ◌∙◌}
use mathlib.Core.List.{List}
use lib.ListN.{length}
use Rattle.work.specs.Map.{LENGTHS}
use Rattle.work.specs.Area.{region}
use Rattle.work.proofs.Regions.{region_region}
use Rattle.measure_checks.specs.Early.{Lengths}

module _ (n count : ℕ) (w : List ℕ) (l : Lengths n count w) where
  pub copied_part : region 0 count (region (LENGTHS * n) (length w - LENGTHS * n) w) ≡ region (LENGTHS * n) count w
  copied_part =
      region_region (LENGTHS * n) (length w - LENGTHS * n) 0 count w (omega (arith, l.few, l.room))
      ∙ ap (λ (a : ℕ). region a count w) (add-zero (LENGTHS * n))
