-- Each way out of decoding a record whose head passes, at plain values.
--
--   checked_so, checked_none   where no refusal of a record but 8 and 13 holds, from that fact and to it
--   checked_ok           the same from what `read_checks::checked` answers
--   checked_core, checked_under   so it is under each table that loading gives, by the fields of the head, and by another table
--   under, spelt_under   tables with one inverse read alike
--   read_so m x          what reading answers where there is a plan
--   face_asked           where a word is found, what testing the outside asks
--   core_read, core_unsound, core_unreadable   the ways out of a record of a kind other than 3
--   planned_judged       where the plan stands in the work area, there is one
--   verdict_early        a refusal that needs no payload
--   mesh_had, mesh_not_had   the ways out of the verdict on a record of kind 3
use Prim.Native.Nat.{ℕ, ◌*◌, ◌≤◌}
use native.Mathlib.Omega.{arith}
use mathlib.Core.Path.{◌≡◌, refl, sym, ap, ap₂, subst, ◌∙◌}
use mathlib.Core.Logic.{◌≢◌}
use mathlib.Core.Bool.{Bool, true, false, ◌&&◌, true≢false}
use mathlib.Core.List.{List}
use lib.Dec.{eqb, ltb}
use lib.IntN.{pos}
use lib.ListN.{length}
use borrow.Author.Tests.{ltb-true, lt-ltb, eqb-true, eq-eqb}
use Rattle.std.specs.Prelude.{Result, Ok, Err, IfOk}
use Rattle.model.specs.declared.Table.{Table}
use Rattle.model.specs.declared.Refusal.{Refusal}
use Rattle.model.specs.declared.Refusal.TheVariants.{NoFitPlan}
use Rattle.model.specs.declared.ReadBack.{ReadBack}
use Rattle.model.specs.Numbers.{all_below, is_permutation}
use Rattle.model.specs.Map.{face_of, dart_count_fits}
use Rattle.model.specs.Traversal.{Letter}
use Rattle.model.specs.Shelf.{kind_of, edges_of, passes, head_refusals}
use Rattle.model.specs.Refusals.{number_of_refusal, number_of}
use Rattle.model.specs.Calls.{table_refused, record_refusals, record_refusal}
use Rattle.model.proofs.Booleans.{and_left, and_right, both}
use Rattle.model.proofs.Numbered.{refused_so, refusal_some}
use Rattle.model.proofs.Reading.{record_clear, clear_record}
use Rattle.model.proofs.Refusals.{first_lacks}
use Rattle.words.specs.Word.{found, rotation_of, rooted}
use Rattle.lists.specs.Coder.{outside_of}
use Rattle.heads.specs.declared.Head.{Head}
use Rattle.coding.specs.Payloads.{decode_record, decode_mesh_record, mesh_rotation}
use Rattle.coding.proofs.Records.{none_has, decodes_map, Sound, has_sound, given, decodes_has, decodes_standard, decodes_outside}
use Rattle.coding.proofs.MeshRecords.{mesh_none_has, mesh_decodes_has, mesh_decodes_outside}
use Rattle.mesh_reading.specs.Stages.{Spelt}
use Rattle.work.specs.Area.{region}
use Rattle.builder.specs.Decoded.{Answered}
use Rattle.decoding.specs.Planned.{Checked, CheckedUnder, Planned, planned, no_plan, Judged, had, not_had, Verdict, early}

pub checked_so : (t : Table) (h : Head) (r : List ℕ) (n : ℕ) → 0 ≡ record_refusal t r n → (h.kind ≡ kind_of r) × (h.edges ≡ edges_of r) → Checked t h r n
checked_so t h r n none says =
    let c = record_clear t r n (sym none) in
    record { stands = c.stands; passed = c.passed; room = c.room; kind = says.0; edges = says.1 }

pub checked_ok : (t : Table) (h : Head) (r : List ℕ) (n : ℕ) (a : Result Head Refusal) → a ≡ Ok h → number_of a ≡ record_refusal t r n
    → IfOk a (λ g. (g.kind ≡ kind_of r) × (g.edges ≡ edges_of r)) → Checked t h r n
checked_ok t h r n a was number fields =
    checked_so t h r n (ap number_of (sym was) ∙ number) (subst (λ (b : Result Head Refusal). IfOk b (λ g. (g.kind ≡ kind_of r) × (g.edges ≡ edges_of r))) was fields)

pub checked_none : (t : Table) (h : Head) (r : List ℕ) (n : ℕ) → Checked t h r n → record_refusal t r n ≡ 0
checked_none t h r n k = clear_record t r n (record { stands = k.stands; passed = k.passed; room = k.room })

module _ (t : Table) (stands : table_refused t ≡ false) (r : List ℕ) (n : ℕ) where
  pub checked_core : passes r ≡ true → 32 * edges_of r ≤ n → (kind edges : ℕ) → kind ≡ kind_of r → edges ≡ edges_of r → Checked t (record { kind = kind; edges = edges }) r n
  checked_core passed room kind edges k e = record { stands = stands; passed = passed; room = room; kind = k; edges = e }

  pub checked_under : (inv : List ℕ) (h : Head) → CheckedUnder inv h r n → Checked t h r n
  checked_under inv h (u, same, k) = record { stands = stands; passed = k.passed; room = k.room; kind = k.kind; edges = k.edges }

-- a table with this inverse
pub under : (t : Table) (inv r : List ℕ) (b : Bool) (w : List ℕ) → t.inverse ≡ inv → Answered (decode_record inv r) (2 * edges_of r) b w
    → Answered (decode_record t.inverse r) (2 * edges_of r) b w
under t inv r b w same = subst (λ (i : List ℕ). Answered (decode_record i r) (2 * edges_of r) b w) (sym same)

abbrev pub read_so : ℕ → ℕ → Result ReadBack Refusal
read_so m x = Ok (record { edges = m; outside = x })

-- w is the work area that decoding leaves
module _ (t : Table) (h : Head) (r : List ℕ) (n : ℕ) (k : Checked t h r n) (bytes : all_below 256 r ≡ true) (other : kind_of r ≢ 3) (b : Bool) (w : List ℕ)
    (decoded : Answered (decode_record t.inverse r) (2 * edges_of r) b w) where
  pub core_unreadable : b ≡ false → Planned t r (Err NoFitPlan) w
  core_unreadable e = no_plan (none_has t k.stands r other (decoded.none_found e)) refl

  module _ (e : b ≡ true) where
    abbrev v : List Letter
    v = (decoded.word_found e).0

    is_word : decode_record t.inverse r ≡ found v
    is_word = (decoded.word_found e).1

    in_work : region 0 (2 * edges_of r) w ≡ rotation_of v
    in_work = (decoded.word_found e).2

    long : length v ≡ 2 * edges_of r
    long = (decodes_map t k.stands r other v k.passed bytes is_word).2

    -- what the search for a lower dart asks
    pub face_asked : (dart_count_fits (2 * h.edges) ≡ true) × (is_permutation (region 0 (2 * h.edges) w) ≡ true)
    face_asked =
        let (entries, count, same) = decodes_map t k.stands r other v k.passed bytes is_word in
        (rw (k.edges, ← same) count, rw (k.edges, in_work) entries)

    module _ (x : ℕ) (x_is : x ≡ outside_of r) (c : Bool) (told : c ≡ (ltb x (2 * h.edges) && eqb (face_of (region 0 (2 * h.edges) w) x) x)) where
      -- the test, and what it says of the record
      test : c ≡ (ltb (outside_of r) (2 * edges_of r) && eqb (face_of (rotation_of v) (outside_of r)) (outside_of r))
      test = rw (k.edges, x_is, in_work) at told

      pub core_read : c ≡ true → Planned t r (read_so h.edges x) w
      core_read so =
          let told-so = sym test ∙ so in
          let low = ltb-true (outside_of r) (2 * edges_of r) (and_left (ltb (outside_of r) (2 * edges_of r)) _ told-so) in
          let sound : Sound r v = (omega (arith, long), eqb-true _ (outside_of r) (and_right (ltb (outside_of r) (2 * edges_of r)) _ told-so)) in
          planned (given t k.stands r other v k.passed bytes is_word sound) (decodes_has t k.stands r other v k.passed bytes is_word sound)
          (ap₂ read_so k.edges (x_is ∙ sym (decodes_outside t k.stands r other v k.passed bytes is_word sound)))
          (in_work ∙ sym (decodes_standard t k.stands r other v k.passed bytes is_word sound))

      pub core_unsound : c ≡ false → Planned t r (Err NoFitPlan) w
      core_unsound off = no_plan (λ p has.
          let sound = has_sound t k.stands r other v is_word p has in
          true≢false (sym (both (lt-ltb (outside_of r) (2 * edges_of r) (omega (arith, sound.0, long))) (eq-eqb _ (outside_of r) sound.1)) ∙ sym test ∙ off)) refl

pub planned_judged : (t : Table) (r : List ℕ) (a : Result ReadBack Refusal) (w : List ℕ) → Planned t r a w → Judged t r a
planned_judged t r a w (planned p has e s) = had p has e
planned_judged t r a w (no_plan never e) = not_had never e

pub verdict_early : (t : Table) (r : List ℕ) (n : ℕ) (e : Refusal) (a : Result ReadBack Refusal) → number_of_refusal e ≡ record_refusal t r n → a ≡ Err e → Verdict t r n a
unfolding record_refusal record_refusals head_refusals
verdict_early t r n e a q is =
    early (λ z. refusal_some e (q ∙ z)) (refused_so (pos 0) a e _ is q (first_lacks 10 (record_refusals t r n) refl refl))

-- ---- a mesh

pub spelt_under : (t : Table) (inv r : List ℕ) (m : ℕ) (b : Bool) (w w' : List ℕ) → t.inverse ≡ inv → Spelt (decode_mesh_record inv r) m b w w'
    → Spelt (decode_mesh_record t.inverse r) m b w w'
spelt_under t inv r m b w w' same = subst (λ (i : List ℕ). Spelt (decode_mesh_record i r) m b w w') (sym same)

module _ (t : Table) (h : Head) (r : List ℕ) (n : ℕ) (k : Checked t h r n) (three : kind_of r ≡ 3) (b : Bool) (w w' : List ℕ)
    (spelt : Spelt (decode_mesh_record t.inverse r) h.edges b w w') where
  pub mesh_not_had : b ≡ false → Judged t r (Err NoFitPlan)
  mesh_not_had e = not_had (mesh_none_has t k.stands r three (spelt.none_found e)) refl

  pub mesh_had : all_below 256 r ≡ true → b ≡ true → Judged t r (read_so h.edges 0)
  mesh_had bytes e =
      let (v, is_word, word, long, there) = spelt.word_found e in
      had (rooted (mesh_rotation v)) (mesh_decodes_has t k.stands r three v k.passed bytes is_word)
      (ap₂ read_so k.edges (sym (mesh_decodes_outside t k.stands r three v k.passed bytes is_word)))
