-- Measuring's early refusals.
--
--   early_refusals        their list
--   Passed, early_parts  what a call that passes them is handed
--   early_not_ten        an early refusal is not 10
use Prim.Native.Nat.{ℕ, ◌*◌, ◌≤◌}
use native.Mathlib.Omega.{arith}
use mathlib.Core.Path.{◌≡◌, refl}
use mathlib.Core.Bool.{true, false, not}
use mathlib.Core.List.{List, [], ◌∷◌}
use lib.Dec.{eqb, ltb}
use lib.ListN.{length}
use borrow.Author.Tests.{ltb-false, not-false}
use Rattle.model.specs.Numbers.{Check, refuse, is_permutation}
use Rattle.model.specs.Map.{edges, dart_count_fits}
use Rattle.model.proofs.Fitness.{count_parts}
use Rattle.model.proofs.Refusals.{none_holds, first_lacks}
use Rattle.measure_checks.specs.Early.{early_refusal}

module _ (rot : List ℕ) (wl : ℕ) where
  abbrev pub early_refusals : List Check
  early_refusals = refuse 3 (not (dart_count_fits (length rot))) ∷ refuse 6 (not (is_permutation rot)) ∷ refuse 7 (ltb wl (32 * edges rot)) ∷ []

pub record Passed (rot : List ℕ) (wl : ℕ) : Type 0 where
  pub count : dart_count_fits (length rot) ≡ true
  pub entries : is_permutation rot ≡ true
  pub room : 16 * length rot ≤ wl

pub early_parts : (rot : List ℕ) (wl : ℕ) → early_refusal rot wl ≡ 0 → Passed rot wl
unfolding early_refusal edges
early_parts rot wl e =
    let no = none_holds (early_refusals rot wl) refl e in
    let fits = not-false _ (no 3) in
    let even = (count_parts (length rot) fits).1 in
    let wide = ltb-false wl (32 * edges rot) (no 7) in
    record { count = fits; entries = not-false _ (no 6); room = omega arith }

pub early_not_ten : (rot : List ℕ) (wl : ℕ) → eqb (early_refusal rot wl) 10 ≡ false
unfolding early_refusal
early_not_ten rot wl = first_lacks 10 (early_refusals rot wl) refl refl
