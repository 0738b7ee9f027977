-- The answer and the output of writing, by the way on which the call ends.
--
--   no_table             the table's refusal
--   turned_away          an early one
--   sound_late, late_sound   a plan of another kind than 3 is sound exactly if no late refusal concerns it
--   fit_late             none concerns a plan that fits
--   Begun                the early refusals are passed, and the plan is walked
--   walk_fits, made_laid     what laying out asks of a plan that the walk has found fit, and what is then answered
--   walk_unfit, made_refused what judging asks of another, and what is then answered
--   other_laid           what is laid out of a plan of another kind than 3
--   mesh_laid            what is laid out of a mesh
--   told_err, told_refused   a plan that does not fit is refused by judging it
use Prim.Native.Nat.{ℕ, ◌+◌, ◌*◌, ◌%◌, ◌≤◌, ◌<◌}
use native.Mathlib.Omega.{arith}
use mathlib.Core.Path.{◌≡◌, refl, sym, ap, subst, ◌∙◌}
use mathlib.Core.Logic.{◌≢◌}
use mathlib.Core.Bool.{Bool, true, false, not, ◌&&◌, cond, false≢true}
use mathlib.Core.List.{List, map}
use lib.Dec.{eqb, ltb}
use lib.ListN.{length, get_or}
use borrow.Author.Tests.{eq-eqb, ne_eqb, not-false}
use Rattle.model.specs.declared.Table.{Table}
use Rattle.std.specs.Prelude.{Result, Ok, Err, IsErr}
use Rattle.model.specs.declared.Refusal.{Refusal}
use Rattle.model.specs.declared.Refusal.TheVariants.{ShortOutput, BadTable}
use Rattle.model.specs.Numbers.{elem, first_refusal}
use Rattle.model.specs.Map.{Plan, darts, edges, characteristic, stores_outside, family, has_loop, has_dead_end, loop_refused, face_refused, degree_refused, fit}
use Rattle.model.specs.Traversal.{Letter, down, up, first, second, code, opens, visits, word}
use Rattle.model.specs.Record.{headed, mesh_payload, payload_of, outside_bytes, record_of}
use Rattle.model.specs.Refusals.{number_of_refusal, numbered}
use Rattle.model.specs.Calls.{front, table_refused, late_refusals, last_refusals, write_refusal, answer_of}
use Rattle.model.proofs.Outside.{with_outside, same_word, same_dead_ends, fit_outside, fit_widest}
use Rattle.model.proofs.Fitness.{fit_parts, count_parts}
use Rattle.model.proofs.Heads.{family_not_three}
use Rattle.model.proofs.Numbered.{refused_so, refusal_some}
use Rattle.model.proofs.Refusals.{none_holds, passed_fit}
use Rattle.orbits.proofs.Order.{eq_split}
use Rattle.words.specs.Word.{word_bits, word_labels}
use Rattle.words.specs.Position.{opened}
use Rattle.words.specs.Toured.{darts_met, dart_at, letter_of}
use Rattle.fit_plans.proofs.FitPlans.{fit_toured}
use Rattle.forward.proofs.Labels.{opened_bound}
use Rattle.marks.specs.Marks.{mark_of}
use Rattle.fitting.specs.Judged.{late_refusal, verdict_of, Judged}
use Rattle.fitting.proofs.Verdicts.{verdict_refused, verdict_fits}
use Rattle.meshes.proofs.Meshes.{types_outside}
use Rattle.tracing.specs.Tracing.{Sound, Fitting}
use Rattle.outer_face.specs.Marks.{Marked}
use Rattle.outer_face.proofs.Marking.{marked_by}
use Rattle.laying.specs.Laid.{ToLay, Recorded}
use Rattle.mesh_writing.specs.Recorded.{MeshRecorded}
use Rattle.write_checks.specs.Early.{early_refusal}
use Rattle.write_checks.proofs.Refusing.{Passed, early_parts}
use Rattle.writing.specs.Made.{Made, Laid, last_refusal, Walked, Unfit, Refused, Fits}
use Rattle.writing.proofs.Refusing.{refusal_table, refusal_split, early_not_ten}

pub no_table : {table : Table} {k : ℕ} {p : Plan} {w out : List ℕ} → table_refused table ≡ true → Made table k p w out (Err BadTable) w out
unfolding answer_of numbered
no_table {table} {k} {p} {w} {out} bad =
    let first = refusal_table table k p (length w) (length out) bad in
    record { answered = rw first; filled = rw first; kept = refl }

pub turned_away : {table : Table} {k : ℕ} {p : Plan} {w out w₁ : List ℕ} {e : Refusal} → table_refused table ≡ false → length w₁ ≡ length w
    → number_of_refusal e ≡ early_refusal k p (length w₁) (length out) → Made table k p w out (Err e) w₁ out
unfolding answer_of
turned_away {table} {k} {p} {w} {out} {w₁} {e} stands kept q₁ =
    let r = early_refusal k p (length w) (length out) in
    let q : number_of_refusal e ≡ r = q₁ ∙ ap (λ (l : ℕ). early_refusal k p l (length out)) kept in
    let some : eqb r 0 ≡ false = ne_eqb r 0 (λ z. refusal_some e (q ∙ z)) in
    let first : write_refusal table k p (length w) (length out) ≡ r = refusal_split table k p (length w) (length out) stands ∙ rw some in
    record {
      answered = rw (first, some) (refused_so (characteristic p.rotation) (Err e) e r refl q (early_not_ten k p (length w) (length out)));
      filled = rw (first, some);
      kept = kept;
    }

-- the checks know nothing of the outside
same_late : (f : ℕ) (p : Plan) → late_refusal f (with_outside p 0) ≡ late_refusal f p
unfolding late_refusal late_refusals degree_refused
same_late f p = rw (same_dead_ends p 0)

mesh_outside_free : (p : Plan) → fit 3 p ≡ true → fit 3 (with_outside p 0) ≡ true
unfolding stores_outside elem
mesh_outside_free p e = fit_outside p 0 3 e (λ s. absurd (false≢true s))

passed : (k : ℕ) (p : Plan) (w o : ℕ) → early_refusal k p w o ≡ 0 → late_refusal (family k) p ≡ 0 → fit k p ≡ true
unfolding early_refusal late_refusal
passed k p w o e l = passed_fit k p w o e l

-- ---- sound plans

module _ (f : ℕ) (p : Plan) (other : f ≢ 3) where
  pub sound_late : Sound f (with_outside p 0) → late_refusal f p ≡ 0
  unfolding late_refusal late_refusals first_refusal loop_refused face_refused degree_refused
  sound_late s = rw (s.joined, s.flat, loops, ne_eqb f 3 other, ends)
    where
      loops : (not (eqb f 4) && has_loop p.rotation) ≡ false
      loops = eq_split f 4 (λ e. rw (eq-eqb f 4 e)) (λ n. rw (ne_eqb f 4 n, s.no_loop n))

      ends : (eqb f 1 && has_dead_end p) ≡ false
      ends = eq_split f 1 (λ e. rw (eq-eqb f 1 e, sym (same_dead_ends p 0), s.no_leaf e)) (λ n. rw (ne_eqb f 1 n))

  pub late_sound : late_refusal f p ≡ 0 → Sound f (with_outside p 0)
  unfolding late_refusal late_refusals loop_refused degree_refused
  late_sound e =
      let holds = none_holds (late_refusals f p) refl e in
      record {
        joined = not-false _ (holds 9);
        flat = not-false _ (holds 10);
        no_loop = λ n. rw (ne_eqb f 4 n) at (holds 11);
        no_leaf = λ q. same_dead_ends p 0 ∙ (rw (eq-eqb f 1 q) at (holds 12));
      }

pub fit_late : (k : ℕ) (p : Plan) → fit k p ≡ true → late_refusal (family k) p ≡ 0
unfolding late_refusal late_refusals first_refusal
fit_late k p e = let f = fit_parts k p e in rw (f.joined, f.flat, f.loops, f.triangles, f.degrees)

-- ---- the marks of a plan that fits tell its standard numbers

open_mark : (a : Letter) (e : ℕ) → opens a ≡ true → e < 8192 → (mark_of a + e < 32768) × ((mark_of a + e) % 8192 ≡ e)
open_mark down e o h = (omega arith, omega arith)
open_mark up e o h = absurd (false≢true o)
open_mark first e o h = (omega arith, omega arith)
open_mark second e o h = absurd (false≢true o)

marked : (f : ℕ) (p : Plan) (w : List ℕ) → fit 0x104 p ≡ true → darts p ≤ length w → Fitting f (with_outside p 0) w → Marked p w
unfolding dart_at darts_met letter_of word visits
marked f p w fits room g = marked_by p w fits room
    (λ j h o.
    let e : get_or w (dart_at p j) 0 ≡ mark_of (letter_of p j) + opened (letter_of p) j = g.begun j h o in
    let few : opened (letter_of p) j < 8192 =
    (let z = opened_bound p (fit_toured 0x104 p fits) (fit_parts 0x104 p fits).count j h o in
    let c = count_parts (darts p) (fit_parts 0x104 p fits).count in omega arith) in
    subst (λ (m : ℕ). (m < 32768) × (m % 8192 ≡ opened (letter_of p) j)) (sym e) (open_mark (letter_of p j) (opened (letter_of p) j) o few))
    (λ j h o. g.ended j h o)

-- ---- what is left after the early refusals

-- w₁ is the work area when the entries are tested, w₂ when the plan is walked
pub record Begun (k : ℕ) (p : Plan) (w out w₁ w₂ : List ℕ) (b : Bool) : Type 0 where
  pub kept : length w₁ ≡ length w
  pub passes : early_refusal k p (length w₁) (length out) ≡ 0
  pub walk : Walked k (with_outside p 0) w₁ b w₂

module _ {k : ℕ} {p : Plan} {w out w₁ w₂ : List ℕ} {b : Bool} (begun : Begun k p w out w₁ w₂ b) where
  handed : Passed k p (length w₁) (length out)
  handed = early_parts k p (length w₁) (length out) begun.passes

  abbrev late : ℕ
  late = late_refusal (family k) p

  left : (table : Table) → table_refused table ≡ false
      → write_refusal table k p (length w) (length out) ≡ cond (eqb late 0) (last_refusal table k p (length out)) late
  unfolding last_refusal
  left table stands = refusal_split table k p (length w) (length out) stands
      ∙ rw (ap (λ (l : ℕ). early_refusal k p l (length out)) (sym begun.kept) ∙ begun.passes)

  kept : length w₂ ≡ length w
  kept = begun.walk.kept ∙ begun.kept

  room : 16 * darts p ≤ length w₂
  room = omega (arith, handed.room, begun.walk.kept)

  other_family : k ≢ 3 → family k ≢ 3
  other_family = family_not_three k handed.kind

  module _ (yes : b ≡ true) where
    none_late : late_refusal (family k) p ≡ 0
    none_late = eq_split k 3
        (λ q. sym (same_late (family k) p) ∙ subst (λ (j : ℕ). late_refusal (family j) (with_outside p 0) ≡ 0) (sym q) (fit_late 3 (with_outside p 0) (begun.walk.mesh yes q).mesh))
        (λ n. sound_late (family k) p (other_family n) (begun.walk.fits yes n).sound)

    module _ (n : k ≢ 3) where
      fitting : Fitting (family k) (with_outside p 0) w₂
      fitting = begun.walk.fits yes n

      fits : fit k p ≡ true
      fits = passed k p (length w₁) (length out) begun.passes none_late

      to_lay : ToLay k p w₂ out
      to_lay = record {
        other = n;
        fits = fits;
        spelt = record {
          letters = λ f. fitting.letters f ∙ ap (map code) (same_word p 0);
          bits = λ f. fitting.bits f ∙ ap (word_bits false) (same_word p 0);
          labels = λ f. fitting.labels f ∙ ap word_labels (same_word p 0);
        };
        marks = λ s. marked (family k) p w₂ (fit_widest k p fits s) (omega (arith, room)) fitting;
        room = room;
        space = handed.space (ne_eqb k 3 n);
      }

    pub walk_fits : Fits k p w₂ out
    walk_fits = record { other = to_lay; mesh = begun.walk.mesh yes }

    pub made_laid : (table : Table) → table_refused table ≡ false → (a : Result ℕ Refusal) (w₃ out' : List ℕ)
        → Laid table k p w₂ out a w₃ out' → Made table k p w out a w₃ out'
    made_laid table stands a w₃ out' r =
        let last : write_refusal table k p (length w) (length out) ≡ last_refusal table k p (length out) = left table stands ∙ rw none_late in
        record { answered = r.answered ∙ rw last; filled = r.filled ∙ rw last; kept = r.kept ∙ kept }

  module _ (no : b ≡ false) where
    some_late : late_refusal (family k) p ≢ 0
    some_late e = eq_split k 3
        (λ q. begun.walk.no_mesh no q (mesh_outside_free p (subst (λ (j : ℕ). fit j p ≡ true) q (passed k p (length w₁) (length out) begun.passes e))))
        (λ n. begun.walk.unfit no n (late_sound (family k) p (other_family n) e))

    pub walk_unfit : Unfit k (with_outside p 0) w₂
    walk_unfit = record {
      room = room;
      late = λ e. some_late (sym (same_late (family k) p) ∙ e);
    }

    pub made_refused : (table : Table) → table_refused table ≡ false → (e : Refusal) (w₃ : List ℕ) → Refused k (with_outside p 0) w₂ e w₃
        → Made table k p w out (Err e) w₃ out
    unfolding answer_of
    made_refused table stands e w₃ r =
        let some = ne_eqb late 0 some_late in
        let first : write_refusal table k p (length w) (length out) ≡ late = left table stands ∙ rw some in
        record {
          answered = rw (first, some) (ap Err (r.answered ∙ ap (λ (n : ℕ). numbered n (characteristic p.rotation)) (same_late (family k) p)));
          filled = rw (first, some);
          kept = r.kept ∙ kept;
        }

-- ---- a plan of another kind than 3

pub other_laid : (t : Table) (k : ℕ) (p : Plan) (w out : List ℕ) (n : ℕ) (out' : List ℕ) → k ≢ 3 → Recorded t k p out n out'
    → Laid t k p w out (Ok n) w out'
unfolding last_refusal last_refusals first_refusal answer_of
other_laid t k p w out n out' other r = record { answered = rw (ne_eqb k 3 other, r.answered); filled = r.filled ∙ rw (ne_eqb k 3 other); kept = refl }

-- ---- a mesh

-- a mesh's record knows nothing of the outside
mesh_record : (t : Table) (p : Plan) → record_of t 3 (with_outside p 0) ≡ record_of t 3 p
unfolding record_of payload_of outside_bytes family stores_outside elem
mesh_record t p = ap (λ (ts : List ℕ). headed 3 (edges p.rotation) (mesh_payload t ts)) (types_outside p 0)

module _ (t : Table) {bs : List ℕ} (p : Plan) {w out : List ℕ} {a : Result ℕ Refusal} {w' out' : List ℕ} (same : t.bytes ≡ bs)
    (m : MeshRecorded bs (with_outside p 0) w out a w' out') where
  abbrev full : ℕ
  full = length (record_of t 3 p)

  answered : a ≡ cond (ltb (length out) full) (Err ShortOutput) (Ok full)
  answered = rw (← mesh_record t p) (m.answered t same)

  filled : out' ≡ cond (ltb (length out) full) out (front (record_of t 3 p) out)
  filled = rw (← mesh_record t p) (m.filled t same)

  as_three : Laid t 3 p w out a w' out'
  unfolding last_refusal last_refusals first_refusal answer_of numbered
  as_three = go (ltb (length out) full) refl
    where
      go : (b : Bool) → ltb (length out) full ≡ b → Laid t 3 p w out a w' out'
      go true e = record { answered = answered ∙ rw e; filled = filled ∙ rw e; kept = m.kept }
      go false e = record { answered = answered ∙ rw e; filled = filled ∙ rw e; kept = m.kept }

  pub mesh_laid : (k : ℕ) → k ≡ 3 → Laid t k p w out a w' out'
  mesh_laid k q = subst (λ (j : ℕ). Laid t j p w out a w' out') (sym q) as_three

-- ---- the refusal of a plan that does not fit

module _ (k f : ℕ) {p : Plan} {w : List ℕ} {v : Result ℕ Refusal} {w₁ : List ℕ} (of : f ≡ family k) (judged : Judged f p w v w₁)
    (some : late_refusal (family k) p ≢ 0) where
  found : v ≡ verdict_of (family k) p
  found = judged.answered ∙ ap (λ (g : ℕ). verdict_of g p) of

  pub told_err : IsErr v
  told_err = go v found
    where
      go : (a : Result ℕ Refusal) → a ≡ verdict_of (family k) p → IsErr a
      go (Ok n) e = absurd (some (verdict_fits (family k) p e).0)
      go (Err x) e = refl

  pub told_refused : {e : Refusal} → v ≡ Err e → Refused k p w e w₁
  told_refused z = record { answered = (verdict_refused (family k) p (sym z ∙ found)).1; kept = judged.kept }
