-- What an answer tells of the first late refusal.
--
--   verdict_refused      some refusal is the first, and which it is
--   verdict_number       its number is the first late refusal
--   verdict_curved       refusal 10, and its characteristic
--   verdict_planar       a refusal that is not NotPlanar: the first is not 10
--   verdict_fits         there is none, and how many faces the plan has
use Prim.Native.Nat.{ℕ}
use mathlib.Core.Path.{◌≡◌, refl, sym, ap, ◌∙◌}
use mathlib.Core.Logic.{◌≢◌}
use mathlib.Core.Bool.{Bool, true, false, cond}
use lib.Dec.{eqb}
use lib.IntN.{ℤ}
use borrow.Author.Tests.{eqb-true, eqb-false}
use Rattle.std.specs.Prelude.{Result, Ok, Err}
use Rattle.model.specs.declared.Refusal.{Refusal}
use Rattle.model.specs.declared.Refusal.TheVariants.{NotPlanar}
use Rattle.model.specs.Refusals.{number_of_refusal, numbered}
use Rattle.model.specs.Map.{Plan, characteristic, faces}
use Rattle.model.specs.Calls.{late_refusals}
use Rattle.model.proofs.Numbered.{number_first}
use Rattle.fitting.specs.Judged.{late_refusal, verdict_of}

module _ (k : ℕ) (p : Plan) where
  abbrev late : ℕ
  late = late_refusal k p

  abbrev told : Bool → Result ℕ Refusal
  told none = cond none (Ok (faces p.rotation)) (Err (numbered late (characteristic p.rotation)))

  pub verdict_refused : {e : Refusal} → Err e ≡ verdict_of k p → (late ≢ 0) × (e ≡ numbered late (characteristic p.rotation))
  unfolding verdict_of
  verdict_refused {e} q = go (eqb late 0) refl q
    where
      go : (b : Bool) → eqb late 0 ≡ b → Err e ≡ told b → (late ≢ 0) × (e ≡ numbered late (characteristic p.rotation))
      go true u q = absurd (cc)
      go false u q = (eqb-false late 0 u, cc)

  pub verdict_number : {e : Refusal} → Err e ≡ verdict_of k p → late ≡ number_of_refusal e
  unfolding late_refusal late_refusals numbered
  verdict_number q = let (some, is) = verdict_refused q in sym (number_first _ _ refl some) ∙ ap number_of_refusal (sym is)

  -- the refusal with number 10
  ten : {e : Refusal} → Err e ≡ verdict_of k p → late ≡ 10 → e ≡ NotPlanar (characteristic p.rotation)
  unfolding numbered
  ten q t = (verdict_refused q).1 ∙ ap (λ (r : ℕ). numbered r (characteristic p.rotation)) t

  pub verdict_curved : {x : ℤ} → Err (NotPlanar x) ≡ verdict_of k p → (late ≡ 10) × (x ≡ characteristic p.rotation)
  verdict_curved q = let t = verdict_number q in let e = ten q t in (t, cc)

  pub verdict_planar : {e : Refusal} → Err e ≡ verdict_of k p → ((x : ℤ) → e ≢ NotPlanar x) → late ≢ 10
  verdict_planar q other t = other _ (ten q t)

  pub verdict_fits : {n : ℕ} → Ok n ≡ verdict_of k p → (late ≡ 0) × (n ≡ faces p.rotation)
  unfolding verdict_of
  verdict_fits {n} q = go (eqb late 0) refl q
    where
      go : (b : Bool) → eqb late 0 ≡ b → Ok n ≡ told b → (late ≡ 0) × (n ≡ faces p.rotation)
      go true u q = (eqb-true late 0 u, cc)
      go false u q = absurd (cc)
