-- Reading and writing undo each other under one table, over the contracts of the two calls alone.
--
--   read_record          reading a fit plan's record with room answers m and the outside, and gives the standard plan
--   wrote_fit, wrote_stands, wrote_bytes, wrote_has   a call that wrote was handed a fit plan and a table that loading gives, and the bytes are its record
--   read_written         reading what writing wrote answers m and the outside, and gives the standard plan
--   write_fit            writing a fit plan with room gives its record
--   plan_in m x out       the plan with the first 2m entries, root 0 and outside x
--   given_plan           what reading gave is fit for the record's kind, and the record is its record
--   written_read         writing what reading gave, in the record's kind, gives the same bytes
use Prim.Native.Nat.{ℕ, ◌*◌, ◌≤◌}
use native.Mathlib.Omega.{arith}
use mathlib.Core.Path.{◌≡◌, refl, sym, ap, ap₂, subst, ◌∙◌}
use mathlib.Core.Bool.{Bool, true, false, not, ◌&&◌, cond}
use mathlib.Core.List.{List}
use lib.Dec.{ltb}
use lib.ListN.{length, take, drop}
use lib.Seq.{take_at}
use borrow.Author.Tests.{lt-ltb, le-ltb, eq-eqb}
use Rattle.std.specs.Prelude.{Result, Ok}
use Rattle.model.specs.declared.Table.{Table}
use Rattle.model.specs.declared.Refusal.{Refusal}
use Rattle.model.specs.declared.ReadBack.{ReadBack}
use Rattle.model.specs.Numbers.{first_refusal}
use Rattle.model.specs.Map.{Plan, edges, fit}
use Rattle.model.specs.Traversal.{standard_rotation, standard_plan}
use Rattle.model.specs.Record.{length_varies, record_length, record_of}
use Rattle.model.specs.Shelf.{kind_of, edges_of}
use Rattle.model.specs.Calls.{front, table_refused, early_refusals, late_refusals, last_refusals, write_refusal, answer_of, write_answer, written_output, Wrote, read_refusal, HasRecord, outside_read, Reads, refused, read, unreadable, ReadCall, edges_of_read, outside_of_read}
use Rattle.model.specs.Writings.{Writing, MeetsContract, is_accepted, bytes_written}
use Rattle.model.proofs.Fitness.{fit_parts, even_darts}
use Rattle.model.proofs.Outside.{with_outside}
use Rattle.model.proofs.Reading.{clear_record, clear_read}
use Rattle.words.specs.Word.{rooted}
use Rattle.lists.proofs.Calls.{accepted_stands, accepted_fit, accepted_bytes}
use Rattle.decoding.proofs.Outcomes.{read_so}
use Rattle.reading.proofs.FitRecords.{record_length_lem, record_kind, own_record, one_standard, one_outside, read_plan, clear_stands, has_edges, has_passes}

-- ---- reading what writing wrote

module _ (t : Table) (stands : table_refused t ≡ false) (r : List ℕ) (p : Plan) (has : HasRecord t r p) (work out : List ℕ) (answer : Result ReadBack Refusal) (work' out' : List ℕ) where
  abbrev Given : Type 0
  Given = (answer ≡ Ok (record { edges = edges p.rotation; outside = outside_read (kind_of r) p })) × (out' ≡ front (standard_plan p).rotation out)

  -- a call with room reads the record of a fit plan
  pub read_record : ReadCall t r work out answer work' out' → 32 * edges p.rotation ≤ length work → 2 * edges p.rotation ≤ length out → Given
  unfolding standard_plan
  read_record c h l = go c.outcome
    where
      clear : read_refusal t r (length work) (length out) ≡ 0
      clear =
          let e = has_edges t r p has in
          clear_read t r (length work) (length out)
          (clear_record t r (length work) (record { stands = stands; passed = has_passes t r p has; room = omega arith })) (omega arith)

      go : Reads t r (length work) out answer out' → Given
      go (refused d a o) = absurd (d clear)
      go (read e q g a o) = (
        a ∙ ap₂ read_so (has_edges t r p has) (one_outside t stands r p q has g),
        o ∙ ap (λ (rot : List ℕ). front rot out) (one_standard t stands r p q has g),
      )
      go (unreadable e never a o) = absurd (never p has)

module _ (t : Table) (k : ℕ) (p : Plan) (w o : List ℕ) (n : ℕ) (w' o' : List ℕ) (wrote : Wrote t k p w o (Ok n) w' o') where
  call : Writing
  call = record { kind = k; plan = p; work = w; output = o; answer = Ok n; work_after = w'; output_after = o' }

  accepted : is_accepted call ≡ true
  unfolding is_accepted call
  accepted = refl

  honest : MeetsContract t call
  unfolding call
  honest = wrote

  pub wrote_fit : fit k p ≡ true
  unfolding call
  wrote_fit = accepted_fit t call honest accepted

  pub wrote_stands : table_refused t ≡ false
  unfolding call
  wrote_stands = accepted_stands t call honest accepted

  pub wrote_bytes : take n o' ≡ record_of t k p
  unfolding bytes_written call is_accepted
  wrote_bytes = accepted_bytes t call honest accepted

  pub wrote_has : HasRecord t (take n o') p
  wrote_has = subst (λ (s : List ℕ). HasRecord t s p) (sym wrote_bytes) (own_record t k p wrote_fit)

  pub read_written : (work out : List ℕ) (answer : Result ReadBack Refusal) (work' out' : List ℕ) → ReadCall t (take n o') work out answer work' out'
      → 32 * edges p.rotation ≤ length work → 2 * edges p.rotation ≤ length out
      → (answer ≡ Ok (record { edges = edges p.rotation; outside = outside_read k p })) × (out' ≡ front (standard_plan p).rotation out)
  read_written work out answer work' out' c h l =
      subst (λ (j : ℕ). (answer ≡ Ok (record { edges = edges p.rotation; outside = outside_read j p })) × (out' ≡ front (standard_plan p).rotation out))
      (ap kind_of wrote_bytes ∙ record_kind t k p wrote_fit) (read_record t wrote_stands (take n o') p wrote_has work out answer work' out' c h l)

-- ---- writing what reading gave

-- a fit plan with room is not refused
fit_accepted : (t : Table) (k : ℕ) (p : Plan) (w o : ℕ) → table_refused t ≡ false → fit k p ≡ true → 32 * edges p.rotation ≤ w → length (record_of t k p) ≤ o
    → write_refusal t k p w o ≡ 0
unfolding write_refusal early_refusals late_refusals last_refusals first_refusal
fit_accepted t k p w o stands fits h l =
    let f = fit_parts k p fits in
    let room = le-ltb o (length (record_of t k p)) l in
    rw (
      stands,
      f.kind,
      f.count,
      lt-ltb _ _ f.root,
      f.outside,
      f.entries,
      le-ltb w _ h,
      early (length_varies k) refl,
      f.joined,
      f.flat,
      f.loops,
      f.triangles,
      f.degrees,
      room,
    ) (late (length_varies k))
  where
    early : (b : Bool) → length_varies k ≡ b → (not b && ltb o (record_length k (edges p.rotation))) ≡ false
    early true e = refl
    early false e = le-ltb o _ (subst (λ (n : ℕ). n ≤ o) (record_length_lem t k p fits e) l)

    late : (b : Bool) → ◌≡◌ {A = ℕ} (cond (b && false) 8 0) 0
    late true = refl
    late false = refl

module _ (t : Table) (stands : table_refused t ≡ false) (k : ℕ) (p : Plan) (fits : fit k p ≡ true) (w o : List ℕ) (answer : Result ℕ Refusal) (w' o' : List ℕ) (wrote : Wrote t k p w o answer w' o') where
  -- a call with room writes the record
  pub write_fit : 32 * edges p.rotation ≤ length w → length (record_of t k p) ≤ length o
      → (answer ≡ Ok (length (record_of t k p))) × (o' ≡ front (record_of t k p) o)
  unfolding write_answer answer_of written_output
  write_fit h l =
      let e = fit_accepted t k p (length w) (length o) stands fits h l in
      (wrote.answered ∙ simp (eq-eqb _ 0 e), wrote.filled ∙ simp (eq-eqb _ 0 e))

-- the plan in the first 2m entries, root 0, with this outside
abbrev pub plan_in : ℕ → ℕ → List ℕ → Plan
plan_in m x out = with_outside (rooted (take (2 * m) out)) x

module _ (t : Table) (r work out : List ℕ) (m x : ℕ) (work' out' : List ℕ) (call : ReadCall t r work out (Ok (record { edges = m; outside = x })) work' out') where
  stands : table_refused t ≡ false
  stands = go call.outcome
    where
      go : Reads t r (length work) out (Ok (record { edges = m; outside = x })) out' → table_refused t ≡ false
      go (refused d a o) = cc
      go (unreadable e never a o) = cc
      go (read e p has a o) = clear_stands t r (length work) (length out) e

  pub given_plan : (edges_of r ≡ m) × HasRecord t r (plan_in m x out')
  unfolding front standard_plan
  given_plan = go call.outcome
    where
      go : Reads t r (length work) out (Ok (record { edges = m; outside = x })) out' → (edges_of r ≡ m) × HasRecord t r (plan_in m x out')
      go (refused d a o) = cc
      go (unreadable e never a o) = cc
      go (read e p has a o) = (same, subst (HasRecord t r) (sym given) back)
        where
          same : edges_of r ≡ m
          same = sym (ap edges_of_read a)

          back : HasRecord t r (with_outside (rooted (standard_rotation p)) (outside_read (kind_of r) p))
          back = read_plan t stands r p has

          size : length (standard_rotation p) ≡ 2 * m
          size =
              let q : Plan = with_outside (rooted (standard_rotation p)) (outside_read (kind_of r) p) in
              let d : length (standard_rotation p) ≡ 2 * edges (standard_rotation p) = even_darts q (fit_parts (kind_of r) q back.0).count in
              let s : edges_of r ≡ edges (standard_rotation p) = has_edges t r q back in
              let e = same in
              omega arith

          given : plan_in m x out' ≡ with_outside (rooted (standard_rotation p)) (outside_read (kind_of r) p)
          given = ap₂ (λ (rot : List ℕ) (o : ℕ). with_outside (rooted rot) o)
              (ap (take (2 * m)) o ∙ take_at (standard_rotation p) (drop (length (standard_rotation p)) out) (2 * m) size) (ap outside_of_read a)

  pub written_read : (w o : List ℕ) (answer : Result ℕ Refusal) (w' o' : List ℕ) → Wrote t (kind_of r) (plan_in m x out') w o answer w' o'
      → 32 * m ≤ length w → length r ≤ length o → (answer ≡ Ok (length r)) × (o' ≡ front r o)
  written_read w o answer w' o' wrote h l =
      let q = plan_in m x out' in
      let has = given_plan.1 in
      let e = has_edges t r q has in
      let same = given_plan.0 in
      let size : length (record_of t (kind_of r) q) ≡ length r = ap length has.1 in
      let done = write_fit t stands (kind_of r) q has.0 w o answer w' o' wrote (omega arith) (omega arith) in
      (done.0 ∙ ap Ok size, done.1 ∙ ap (λ (b : List ℕ). front b o) has.1)
