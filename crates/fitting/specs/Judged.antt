-- What the checks of a plan in the work area find: refusals 9 to 12 and 18.
--
--   Surveyed             how many vertices, whether some edge is a loop that the family does not take, and how many darts are met
--   late_refusal f p      the first of 9, 10, 11, 18, 12 that concerns the plan; 0 if none does
--   verdict_of f p        the same as an answer, 10 with the characteristic; of a plan that fits, how many faces it has
--   Judged               this answer, and in the work area the lengths of the faces of a plan that fits
use Rattle.std.specs.Prelude.{ℕ, ◌*◌, ◌≡◌, cond, List, eqb, length, Result, Ok, Err}
use Rattle.model.specs.declared.Refusal.{Refusal}
use Rattle.model.specs.Numbers.{first_refusal}
use Rattle.model.specs.Refusals.{numbered}
use Rattle.model.specs.Map.{Plan, darts, characteristic, vertices, faces, face_lengths, loop_refused}
use Rattle.model.specs.Traversal.{visits}
use Rattle.model.specs.Calls.{late_refusals}
use Rattle.work.specs.Map.{LENGTHS}
use Rattle.work.specs.Area.{region}
use Rattle.fitting.specs.declared.Survey.{Survey}

pub record Surveyed (f : ℕ) (p : Plan) (w : List ℕ) (s : Survey) (w' : List ℕ) : Type 0 where
  pub counted : s.vertices ≡ vertices p.rotation
  pub searched : s.looped ≡ loop_refused f p.rotation
  pub all_met : s.met ≡ length (visits p)
  pub kept : length w' ≡ length w

unfoldable pub late_refusal : ℕ → Plan → ℕ
late_refusal f p = first_refusal (late_refusals f p)

unfoldable pub verdict_of : ℕ → Plan → Result ℕ Refusal
verdict_of f p =
    let r = late_refusal f p in
    cond (eqb r 0) (Ok (faces p.rotation)) (Err (numbered r (characteristic p.rotation)))

pub record Judged (f : ℕ) (p : Plan) (w : List ℕ) (verdict : Result ℕ Refusal) (w' : List ℕ) : Type 0 where
  pub answered : verdict ≡ verdict_of f p
  pub lengths : late_refusal f p ≡ 0 → region (LENGTHS * darts p) (faces p.rotation) w' ≡ face_lengths p.rotation
  pub kept : length w' ≡ length w
