-- The answer and the list of measuring, by the way on which the call ends.
--
--   turned_away          an early refusal
--   Told                 a call that passes them, with the plan's verdict
--   judged_refused       9 and 10
--   to_copy              the lengths of a plan that fits are ready to be copied
--   made                 and what is then answered
use Prim.Native.Nat.{ℕ, ◌*◌, ◌≤◌}
use native.Mathlib.Omega.{arith}
use mathlib.Core.Path.{◌≡◌, refl, sym, ap, ◌∙◌}
use mathlib.Core.Bool.{Bool, true, false, cond}
use mathlib.Core.List.{List}
use lib.Dec.{eqb, ltb}
use lib.ListN.{length}
use borrow.Author.Tests.{ne_eqb}
use Rattle.std.specs.Prelude.{Result, Ok, Err}
use Rattle.model.specs.declared.Refusal.{Refusal}
use Rattle.model.specs.declared.Refusal.TheVariants.{ShortOutput}
use Rattle.model.specs.Numbers.{is_least, cycles, first_refusal}
use Rattle.model.specs.Map.{face_next, faces, face_lengths, characteristic}
use Rattle.model.specs.Refusals.{number_of_refusal, numbered}
use Rattle.model.specs.Calls.{front, measure_refusal, measure_answer, measured_list}
use Rattle.model.proofs.Fitness.{count_parts}
use Rattle.model.proofs.Numbered.{numbered_number, refusal_some}
use Rattle.orbits.proofs.Tally.{count_le}
use Rattle.orbits.proofs.Faces.{lengths_many}
use Rattle.work.specs.Map.{LENGTHS}
use Rattle.work.specs.Area.{region}
use Rattle.fitting.specs.Judged.{late_refusal, Judged}
use Rattle.fitting.proofs.Verdicts.{verdict_refused, verdict_fits}
use Rattle.measure_checks.specs.Early.{early_refusal, Lengths, Copied}
use Rattle.measure_checks.proofs.Refusing.{early_not_ten, early_parts}
use Rattle.measuring.specs.Made.{Made}
use Rattle.measuring.proofs.Refusing.{rooted, eight_if, refusal_split}

pub turned_away : {rot w list : List ℕ} {e : Refusal} → number_of_refusal e ≡ early_refusal rot (length w) → Made rot w list (Err e) w list
unfolding measure_answer measured_list
turned_away {rot} {w} {list} {e} q =
    let r = number_of_refusal e in
    let some = ne_eqb r 0 (refusal_some e) in
    let whole : measure_refusal rot (length w) (length list) ≡ r = refusal_split rot (length w) (length list) ∙ rw (sym q, some) in
    record {
      answered = rw (whole, some) (ap Err (sym (numbered_number _ e (ap (λ (x : ℕ). eqb x 10) q ∙ early_not_ten rot (length w)))));
      filled = rw (whole, some);
      kept = refl;
    }

pub record Told (rot w : List ℕ) (v : Result ℕ Refusal) (w₁ : List ℕ) : Type 0 where
  pub passed : early_refusal rot (length w) ≡ 0
  pub judged : Judged 4 (rooted rot) w v w₁

abbrev late : List ℕ → ℕ
late rot = late_refusal 4 (rooted rot)

whole : {rot w : List ℕ} {v : Result ℕ Refusal} {w₁ : List ℕ} → Told rot w v w₁ → (list : List ℕ)
    → measure_refusal rot (length w) (length list) ≡ cond (eqb (late rot) 0) (eight_if rot (length list)) (late rot)
whole {rot} {w} t list = refusal_split rot (length w) (length list) ∙ rw t.passed

pub judged_refused : {rot w list w₁ : List ℕ} {e : Refusal} → Told rot w (Err e) w₁ → Made rot w list (Err e) w₁ list
unfolding measure_answer measured_list
judged_refused {rot} {w} {list} t =
    let (some, e) = verdict_refused 4 (rooted rot) t.judged.answered in
    let n = ne_eqb (late rot) 0 some in
    record { answered = rw (whole t list, n, n) (ap Err e); filled = rw (whole t list, n, n); kept = t.judged.kept }

module _ {rot w : List ℕ} {n : ℕ} {w₁ : List ℕ} (t : Told rot w (Ok n) w₁) where
  none : late rot ≡ 0
  none = (verdict_fits 4 (rooted rot) t.judged.answered).0

  many : n ≡ faces rot
  many = (verdict_fits 4 (rooted rot) t.judged.answered).1

  few : n ≤ length rot
  unfolding faces cycles
  few = omega (arith, many, count_le (is_least (face_next rot) (length rot)) (length rot))

  pub to_copy : Lengths (length rot) n w₁
  to_copy =
      let q = early_parts rot (length w) t.passed in
      record { few = few; small = (count_parts (length rot) q.count).2; room = omega (arith, q.room, t.judged.kept) }

  lengths : region (LENGTHS * length rot) n w₁ ≡ face_lengths rot
  lengths = ap (λ (k : ℕ). region (LENGTHS * length rot) k w₁) many ∙ t.judged.lengths none

  module _ (list : List ℕ) where
    abbrev short : Bool
    short = ltb (length list) n

    eight : measure_refusal rot (length w) (length list) ≡ cond short 8 0
    unfolding first_refusal
    eight = whole t list ∙ rw (none, many, lengths_many rot)

    pub made : {answer : Result ℕ Refusal} {list' : List ℕ} → Copied (length rot) n w₁ list answer list' → Made rot w list answer w₁ list'
    unfolding measure_answer measured_list numbered
    made {answer} {list'} c = record {
      answered = c.answered ∙ rw (eight, lengths_many rot, sym many) (told short);
      filled = c.filled ∙ rw (eight, lengths) (put short);
      kept = t.judged.kept;
    }
      where
        told : (short : Bool) → cond short (Err ShortOutput) (Ok n)
            ≡ (let r = cond short 8 0 in cond (eqb r 0) (Ok n) (Err (numbered r (characteristic rot))))
        told true = refl
        told false = refl

        put : (short : Bool) → cond short list (front (face_lengths rot) list) ≡ cond (eqb (cond short 8 0) 0) (front (face_lengths rot) list) list
        put true = refl
        put false = refl
