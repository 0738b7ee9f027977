-- Refusals and their numbers.
--
--   named x rs           each number of the list is that of the refusal with this number
--   number_first         so the first refusal's number is that of the refusal which it names
--   numbered_number      a refusal other than 10 is the one with its number
--   refused_so           so it is what is answered where the first refusal has its number
--   refusal_some         a refusal's number is not 0
--   ok_zero, err_some    so 0 is the number of an answer that is not refused, and of no other
--   passed_on            a refusal that `?` hands on
use Prim.Native.Nat.{ℕ}
use lib.IntN.{ℤ}
use mathlib.Core.Path.{◌≡◌, refl, sym, ap, ◌∙◌}
use mathlib.Core.Logic.{◌≢◌}
use mathlib.Core.Bool.{Bool, true, false, ◌&&◌, cond, true≢false}
use mathlib.Core.List.{List, [], ◌∷◌}
use lib.Dec.{eqb}
use borrow.Author.Tests.{eqb-true}
use native.Mathlib.Nat.{suc-ne-zero}
use Rattle.std.specs.Prelude.{Result, Ok, Err, is_err, IsErr, IsErrAnd}
use Rattle.model.specs.declared.Refusal.{Refusal}
use Rattle.model.specs.declared.Refusal.TheVariants.{RecordCut, BadKind, BadCount, BadStart, BadLength, BadEntry, ShortWork, ShortOutput, NotConnected, NotPlanar, HasLoop, HasDegreeOne, NoFitPlan, ShelfBroken, NoSuchRecord, ShelfFull, BadOutside, NotTriangles, BadTable}
use Rattle.model.specs.Numbers.{Check, first_refusal}
use Rattle.model.specs.Refusals.{number_of_refusal, numbered, number_of}
use Rattle.model.proofs.Booleans.{and_left, and_right}

module _ (x : ℤ) where
  abbrev pub named : List Check → Bool
  named [] = true
  named (r ∷ rs) = eqb (number_of_refusal (numbered r.number x)) r.number && named rs

  pub number_first : (rs : List Check) → named rs ≡ true → first_refusal rs ≢ 0 → number_of_refusal (numbered (first_refusal rs) x) ≡ first_refusal rs
  unfolding first_refusal
  number_first [] n some = absurd (some refl)
  number_first (r ∷ rs) n some = go r.holds some (number_first rs (and_right _ (named rs) n))
    where
      go : (b : Bool) → cond b r.number (first_refusal rs) ≢ 0
          → (first_refusal rs ≢ 0 → number_of_refusal (numbered (first_refusal rs) x) ≡ first_refusal rs)
          → number_of_refusal (numbered (cond b r.number (first_refusal rs)) x) ≡ cond b r.number (first_refusal rs)
      go true s ih = eqb-true _ r.number (and_left _ (named rs) n)
      go false s ih = ih s

  pub numbered_number : (e : Refusal) → eqb (number_of_refusal e) 10 ≡ false → numbered (number_of_refusal e) x ≡ e
  unfolding numbered
  numbered_number RecordCut d = refl
  numbered_number BadKind d = refl
  numbered_number BadCount d = refl
  numbered_number BadStart d = refl
  numbered_number BadLength d = refl
  numbered_number BadEntry d = refl
  numbered_number ShortWork d = refl
  numbered_number ShortOutput d = refl
  numbered_number NotConnected d = refl
  numbered_number (NotPlanar y) d = absurd (true≢false d)
  numbered_number HasLoop d = refl
  numbered_number HasDegreeOne d = refl
  numbered_number NoFitPlan d = refl
  numbered_number ShelfBroken d = refl
  numbered_number NoSuchRecord d = refl
  numbered_number ShelfFull d = refl
  numbered_number BadOutside d = refl
  numbered_number NotTriangles d = refl
  numbered_number BadTable d = refl

  pub refused_so : {A : Type 0} (a : Result A Refusal) (e : Refusal) (r : ℕ) → a ≡ Err e → number_of_refusal e ≡ r → eqb r 10 ≡ false → a ≡ Err (numbered r x)
  refused_so a e r is n d =
      is ∙ ap Err (sym (numbered_number e (ap (λ (k : ℕ). eqb k 10) n ∙ d)) ∙ ap (λ (k : ℕ). numbered k x) n)

-- a refusal has a number
pub refusal_some : (e : Refusal) → number_of_refusal e ≢ 0
refusal_some RecordCut = suc-ne-zero 0
refusal_some BadKind = suc-ne-zero 1
refusal_some BadCount = suc-ne-zero 2
refusal_some BadStart = suc-ne-zero 3
refusal_some BadLength = suc-ne-zero 4
refusal_some BadEntry = suc-ne-zero 5
refusal_some ShortWork = suc-ne-zero 6
refusal_some ShortOutput = suc-ne-zero 7
refusal_some NotConnected = suc-ne-zero 8
refusal_some (NotPlanar x) = suc-ne-zero 9
refusal_some HasLoop = suc-ne-zero 10
refusal_some HasDegreeOne = suc-ne-zero 11
refusal_some NoFitPlan = suc-ne-zero 12
refusal_some ShelfBroken = suc-ne-zero 13
refusal_some NoSuchRecord = suc-ne-zero 14
refusal_some ShelfFull = suc-ne-zero 15
refusal_some BadOutside = suc-ne-zero 16
refusal_some NotTriangles = suc-ne-zero 17
refusal_some BadTable = suc-ne-zero 18

module _ {A : Type 0} where
  pub ok_zero : (a : Result A Refusal) → is_err a ≡ false → number_of a ≡ 0
  ok_zero (Ok x) t = refl
  ok_zero (Err e) t = absurd (true≢false t)

  pub err_some : (a : Result A Refusal) → is_err a ≡ true → number_of a ≢ 0
  err_some (Ok x) t = absurd (true≢false (sym t))
  err_some (Err e) t = refusal_some e

  -- what `?` hands on
  pub passed_on : (e : Refusal) (a : Result A Refusal) → IsErr a × IsErrAnd a (λ x. x ≡ e) → a ≡ Err e
  passed_on e (Ok x) (_, p) = absurd p
  passed_on e (Err x) (_, p) = ap Err p
