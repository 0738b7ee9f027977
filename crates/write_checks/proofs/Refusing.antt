-- The early refusals of writing.
--
--   Passed, early_parts  what a call that passes them is handed
use Prim.Native.Nat.{ℕ, ◌*◌, ◌≤◌, ◌<◌}
use native.Mathlib.Omega.{arith}
use mathlib.Core.Path.{◌≡◌, refl}
use mathlib.Core.Bool.{true, false}
use borrow.Author.Tests.{ltb-true, ltb-false, not-false}
use Rattle.model.specs.Numbers.{is_permutation}
use Rattle.model.specs.Map.{Plan, darts, edges, is_kind, dart_count_fits}
use Rattle.model.specs.Record.{length_varies, record_length}
use Rattle.model.specs.Calls.{early_refusals}
use Rattle.model.proofs.Fitness.{even_darts}
use Rattle.model.proofs.Refusals.{none_holds}
use Rattle.write_checks.specs.Early.{early_refusal}

pub record Passed (k : ℕ) (p : Plan) (wl ol : ℕ) : Type 0 where
  pub kind : is_kind k ≡ true
  pub count : dart_count_fits (darts p) ≡ true
  pub root : p.root < darts p
  pub entries : is_permutation p.rotation ≡ true
  pub room : 16 * darts p ≤ wl
  pub space : length_varies k ≡ false → record_length k (edges p.rotation) ≤ ol

pub early_parts : (k : ℕ) (p : Plan) (wl ol : ℕ) → early_refusal k p wl ol ≡ 0 → Passed k p wl ol
unfolding early_refusal early_refusals
early_parts k p wl ol e =
    let no = none_holds (early_refusals k p wl ol) refl e in
    let fits = not-false _ (no 3) in
    let even = even_darts p fits in
    let wide = ltb-false wl (32 * edges p.rotation) (no 7) in
    record {
      kind = not-false _ (no 2);
      count = fits;
      root = ltb-true _ _ (not-false _ (no 4));
      entries = not-false _ (no 6);
      room = omega arith;
      space = λ fixed. ltb-false ol (record_length k (edges p.rotation)) (rw fixed at (no 8));
    }
