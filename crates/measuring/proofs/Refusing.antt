-- Measuring's refusals: the early ones, then 9 and 10, which are those of a plan in kind 4, then 8.
--
--   rooted rot           the plan that is judged, with root 0
--   eight_if              8 if the list is too short
--   refusal_split        measuring's refusal is the early one, else the plan's, else 8
use Prim.Native.Nat.{ℕ}
use mathlib.Core.Path.{◌≡◌, refl, sym, ap, ◌∙◌}
use mathlib.Core.Bool.{not, cond}
use mathlib.Core.List.{List, [], ◌∷◌, ◌++◌}
use lib.Dec.{eqb, ltb}
use lib.ListN.{length}
use Rattle.model.specs.Numbers.{Check, refuse, first_refusal}
use Rattle.model.specs.Map.{Plan, face_lengths, connected, planar, loop_refused, face_refused, degree_refused}
use Rattle.model.specs.Calls.{late_refusals, measure_refusal}
use Rattle.model.proofs.Refusals.{first_append}
use Rattle.fitting.specs.Judged.{late_refusal}
use Rattle.measure_checks.specs.Early.{early_refusal}
use Rattle.measure_checks.proofs.Refusing.{early_refusals}

-- the root does not matter
abbrev pub rooted : List ℕ → Plan
rooted rot = record { rotation = rot; root = 0; outside = 0 }

module _ (rot : List ℕ) where
  abbrev plan_refusals : List Check
  plan_refusals = refuse 9 (not (connected rot)) ∷ refuse 10 (not (planar rot)) ∷ []

  -- 11 and 12 never concern kind 4
  four : late_refusal 4 (rooted rot) ≡ first_refusal plan_refusals
  unfolding late_refusal late_refusals first_refusal loop_refused face_refused degree_refused
  four = refl

  abbrev pub eight_if : ℕ → ℕ
  eight_if ll = first_refusal (refuse 8 (ltb ll (length (face_lengths rot))) ∷ [])

  pub refusal_split : (wl ll : ℕ) → measure_refusal rot wl ll
      ≡ cond (eqb (early_refusal rot wl) 0) (cond (eqb (late_refusal 4 (rooted rot)) 0) (eight_if ll) (late_refusal 4 (rooted rot))) (early_refusal rot wl)
  unfolding measure_refusal early_refusal
  refusal_split wl ll =
      let last : List Check = refuse 8 (ltb ll (length (face_lengths rot))) ∷ [] in
      first_append (early_refusals rot wl) (plan_refusals ++ last) refl
      ∙ ap (λ (r : ℕ). cond (eqb (first_refusal (early_refusals rot wl)) 0) r (first_refusal (early_refusals rot wl)))
      (first_append plan_refusals last refl ∙ ap (λ (r : ℕ). cond (eqb r 0) (eight_if ll) r) (sym four))
