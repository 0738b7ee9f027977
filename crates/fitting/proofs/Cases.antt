-- The verdict, by the way on which the checks end, at plain values.
--
--   vertices_named, surveyed   what naming the vertices and walking leave
--   Looked               a plan that is judged, and its work area after it is surveyed
--   parted               not every dart is met
--   Counted              the same, every dart being met and the faces counted
--   few_counts           the counts are small
--   curved               the characteristic is not 2
--   flat_refused, flat_fits   it is, and 11, 18 or 12 is found, or none
use Prim.Native.Nat.{ℕ, ◌+◌, ◌*◌, ◌/◌, ◌≤◌, ◌<◌}
use native.Mathlib.Nat.{suc-ne-zero}
use native.Mathlib.Omega.{arith}
use mathlib.Core.Path.{◌≡◌, refl, sym, ap, ◌∙◌}
use mathlib.Core.Logic.{◌≢◌}
use mathlib.Core.Bool.{Bool, true, false, cond}
use mathlib.Core.List.{List}
use lib.IntN.{ℤ, pos, ◌+ℤ◌, ◌-ℤ◌}
use lib.ListN.{length}
use lib.Dec.{eqb}
use borrow.Author.Tests.{ne_eqb}
use Rattle.std.specs.Prelude.{Result, Ok, Err}
use Rattle.model.specs.declared.Refusal.{Refusal}
use Rattle.model.specs.declared.Refusal.TheVariants.{NotConnected, NotPlanar}
use Rattle.model.specs.Numbers.{is_least, cycles, first_refusal, is_permutation}
use Rattle.model.specs.Map.{Plan, darts, edges, next, face_next, vertex_of, vertices, faces, face_lengths, connected, planar, characteristic, is}
use Rattle.model.specs.Map.{loop_refused, face_refused, degree_refused, dart_count_fits}
use Rattle.model.specs.Refusals.{number_of_refusal, numbered}
use Rattle.model.specs.Calls.{late_refusals}
use Rattle.model.proofs.Booleans.{not_intro}
use Rattle.model.proofs.Numbered.{numbered_number, refusal_some}
use Rattle.model.proofs.Fitness.{count_parts}
use Rattle.orbits.proofs.Tally.{count_le}
use Rattle.traversal.proofs.Complete.{connected_long, long_connected}
use Rattle.work.specs.Map.{FACES, DEGREES, LENGTHS}
use Rattle.work.specs.Area.{region}
use Rattle.cycles.specs.Cycles.{Named}
use Rattle.cycles.proofs.Names.{named_length, named_names, named_sizes}
use Rattle.contour.specs.Steps.{VerticesNamed}
use Rattle.contour.specs.Walked.{Walked}
use Rattle.local_checks.specs.Local.{local_refusal}
use Rattle.fitting.specs.declared.Survey.{Survey}
use Rattle.fitting.specs.Judged.{Surveyed, late_refusal, verdict_of, Judged}

-- ---- the names and the walk

module _ (p : Plan) (w w₁ : List ℕ) (v : ℕ) (room : 16 * darts p ≤ length w) (s : Named (next p.rotation) (darts p) 0 (DEGREES * darts p) w v w₁) where
  pub vertices_named : VerticesNamed p.rotation w₁
  unfolding vertex_of
  vertices_named = named_names (next p.rotation) (darts p) 0 (DEGREES * darts p) w v w₁ (omega arith) (omega arith) s

  pub surveyed : (k : ℕ) (w₂ : List ℕ) (met : ℕ) (loop : Bool) → loop ≡ loop_refused k p.rotation → Walked p w₁ met w₂
      → Surveyed k p w (record { vertices = v; looped = loop; met = met }) w₂
  unfolding vertices
  surveyed k w₂ met loop l t = record {
    counted = s.counted;
    searched = l;
    all_met = t.counted;
    kept = t.kept ∙ named_length (next p.rotation) (darts p) 0 (DEGREES * darts p) w v w₁ (omega arith) (omega arith) s;
  }

-- ---- the verdict

-- there are at most as many cycles as darts
few : (f : ℕ → ℕ) (n : ℕ) → n ≤ 8192 → cycles f n ≤ 8192
unfolding cycles
few f n h = let l = count_le (is_least f n) n in omega arith

-- refusal 10 is none of 11, 18 and 12
not_ten : (k : ℕ) (p : Plan) → eqb (local_refusal k p) 10 ≡ false
unfolding local_refusal
not_ten k p = either (loop_refused k p.rotation) (face_refused k p.rotation) (degree_refused k p)
  where
    either : (loop face end : Bool) → eqb (cond loop 11 (cond face 18 (cond end 12 0))) 10 ≡ false
    either true face end = refl
    either false true end = refl
    either false false true = refl
    either false false false = refl

pub record Looked (k : ℕ) (p : Plan) (w : List ℕ) (s : Survey) (w₁ : List ℕ) : Type 0 where
  pub fits : dart_count_fits (darts p) ≡ true
  pub entries : is_permutation p.rotation ≡ true
  pub low : p.root < darts p
  pub room : 16 * darts p ≤ length w
  pub survey : Surveyed k p w s w₁

module _ {k : ℕ} {p : Plan} {w : List ℕ} {s : Survey} {w₁ : List ℕ} (a : Looked k p w s w₁) where
  pub parted : (s.met ≢ darts p) → Judged k p w (Err NotConnected) w₁
  unfolding verdict_of late_refusal late_refusals first_refusal numbered
  parted ne =
      let apart : connected p.rotation ≡ false =
      not_intro (connected p.rotation) (λ e. ne (a.survey.all_met ∙ connected_long p a.fits a.low a.entries e)) in
      record {
        answered = rw apart;
        lengths = λ z. absurd (suc-ne-zero 8 (rw apart at z));
        kept = a.survey.kept;
      }

pub record Counted (k : ℕ) (p : Plan) (w : List ℕ) (s : Survey) (w₁ : List ℕ) (f : ℕ) (w₂ : List ℕ) : Type 0 where
  pub looked : Looked k p w s w₁
  pub all : s.met ≡ darts p
  pub named : Named (face_next p.rotation) (darts p) (FACES * darts p) (LENGTHS * darts p) w₁ f w₂

module _ {k : ℕ} {p : Plan} {w : List ℕ} {s : Survey} {w₁ : List ℕ} {f : ℕ} {w₂ : List ℕ} (b : Counted k p w s w₁ f w₂) where
  abbrev a : Looked k p w s w₁
  a = b.looked

  joined : connected p.rotation ≡ true
  joined = long_connected p a.fits a.low a.entries (sym a.survey.all_met ∙ b.all)

  behind : FACES * darts p + darts p ≤ LENGTHS * darts p
  behind = omega arith

  inside : LENGTHS * darts p + darts p ≤ length w₁
  inside = omega (arith, a.survey.kept, a.room)

  length_kept : length w₂ ≡ length w
  length_kept = named_length (face_next p.rotation) (darts p) (FACES * darts p) (LENGTHS * darts p) w₁ f w₂ behind inside b.named ∙ a.survey.kept

  measured : region (LENGTHS * darts p) (faces p.rotation) w₂ ≡ face_lengths p.rotation
  unfolding faces face_lengths
  measured = named_sizes (face_next p.rotation) (darts p) (FACES * darts p) (LENGTHS * darts p) w₁ f w₂ behind inside b.named

  pub few_counts : (s.vertices ≤ 8192) × (darts p / 2 ≤ 8192) × (f ≤ 8192)
  unfolding vertices
  few_counts =
      let n = (count_parts (darts p) a.fits).2 in
      let v = few (next p.rotation) (darts p) n in
      let g = few (face_next p.rotation) (darts p) n in
      (omega (arith, a.survey.counted), omega arith, omega (arith, b.named.counted))

  module _ {x : ℤ} (e : x ≡ (pos s.vertices -ℤ pos (darts p / 2)) +ℤ pos f) where
    euler : x ≡ characteristic p.rotation
    unfolding characteristic vertices faces edges
    euler = rw (sym a.survey.counted, sym b.named.counted) e

    pub curved : is x 2 ≡ false → Judged k p w (Err (NotPlanar x)) w₂
    unfolding verdict_of late_refusal late_refusals first_refusal planar numbered
    curved u = let u' = rw euler at u in
        record { answered = rw (joined, u', euler); lengths = λ z. measured; kept = length_kept }

    module _ (u : is x 2 ≡ true) where
      late_local : late_refusal k p ≡ local_refusal k p
      unfolding late_refusal late_refusals first_refusal planar local_refusal
      late_local = let u' = rw euler at u in rw (joined, u')

      -- what is found of 11, 18 and 12 makes the verdict
      found : {v : Result ℕ Refusal} → v ≡ verdict_of k p → Judged k p w v w₂
      found q = record { answered = q; lengths = λ z. measured; kept = length_kept }

      pub flat_refused : {e : Refusal} → number_of_refusal e ≡ local_refusal k p → Judged k p w (Err e) w₂
      unfolding verdict_of
      flat_refused {e} q = found (rw (late_local, sym q, ne_eqb (number_of_refusal e) 0 (refusal_some e))
          (ap Err (sym (numbered_number (characteristic p.rotation) e (ap (λ (y : ℕ). eqb y 10) q ∙ not_ten k p)))))

      pub flat_fits : 0 ≡ local_refusal k p → Judged k p w (Ok f) w₂
      unfolding verdict_of faces
      flat_fits q = found (rw (late_local, sym q) (ap Ok b.named.counted))
