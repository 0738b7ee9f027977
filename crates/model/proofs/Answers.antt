-- The number of an answer: the first refusal, and 0 exactly where the call is not refused.
--
--   number_of_written    the number of writing's answer is its first refusal
--   written_zero         0 is a record's length
--   number_of_measured   the number of measuring's answer is its first refusal
--   measured_zero        0 is the number of faces
--   number_of_unread, number_of_planless, number_of_shelved   the number of shelving's answer: a refusal met while reading, 13, or the first of 14 and 16
--   shelved_zero         0 is a record's number with the new used length, of a record that a fit plan has
--   number_of_read       the number of reading's answer is the first of its refusals but 13, if one holds
--   number_of_readable   0 if none holds and a fit plan has the record
--   number_of_unreadable 13 if none holds and no fit plan has it
--   read_zero            0 is the number of edges and the outside of a fit plan that has the record
use Prim.Native.Nat.{ℕ, ◌+◌}
use mathlib.Core.Path.{◌≡◌, refl, sym, ap, ◌∙◌}
use mathlib.Core.Logic.{◌≢◌}
use mathlib.Core.Bool.{Bool, true, false, cond}
use mathlib.Core.List.{List, []}
use native.Mathlib.Nat.{suc-ne-zero}
use lib.Dec.{eqb}
use lib.IntN.{ℤ, pos}
use lib.ListN.{length, take}
use borrow.Author.Tests.{eqb-true, eqb-false, eq-eqb}
use Rattle.std.specs.Prelude.{Result, Ok, Err}
use Rattle.model.specs.declared.Refusal.{Refusal}
use Rattle.model.specs.declared.Table.{Table}
use Rattle.model.specs.declared.ReadBack.{ReadBack}
use Rattle.model.specs.declared.Shelved.{Shelved}
use Rattle.model.specs.Map.{Plan, face_lengths}
use Rattle.model.specs.Record.{record_of}
use Rattle.model.specs.Shelf.{kind_of, edges_of, head_refusals, records_in, first_equal}
use Rattle.model.specs.Refusals.{number_of_refusal, numbered, number_of}
use Rattle.model.specs.Calls.{early_refusals, late_refusals, last_refusals, write_refusal, answer_of, write_answer, record_refusals, read_refusal, HasRecord, outside_read, Reads, refused, read, unreadable}
use Rattle.model.specs.Calls.{measure_refusal, measure_answer}
use Rattle.model.specs.Calls.{record_refusal, shelve_refusal, shelve_answer, Shelves, unread, planless, readable}
use Rattle.model.proofs.Numbered.{named, number_first}

-- the answer where r is the first refusal: what is given, or that refusal
module _ {A : Type 0} (r : ℕ) (a : A) (x : ℤ) where
  abbrev given : Result A Refusal
  given = cond (eqb r 0) (Ok a) (Err (numbered r x))

  number_given : (r ≢ 0 → number_of_refusal (numbered r x) ≡ r) → number_of given ≡ r
  number_given named = go (eqb r 0) refl
    where
      go : (b : Bool) → eqb r 0 ≡ b → number_of (cond b (Ok a) (Err (numbered r x))) ≡ r
      go true e = sym (eqb-true r 0 e)
      go false e = named (eqb-false r 0 e)

  given_zero : r ≡ 0 → given ≡ Ok a
  given_zero e = simp (eq-eqb r 0 e)

-- ---- writing

module _ (t : Table) (k : ℕ) (p : Plan) (w o : ℕ) where
  pub number_of_written : number_of (write_answer t k p w o) ≡ write_refusal t k p w o
  unfolding write_answer answer_of write_refusal early_refusals late_refusals last_refusals numbered
  number_of_written = number_given _ _ _ (number_first _ _ refl)

  pub written_zero : number_of (write_answer t k p w o) ≡ 0 → write_answer t k p w o ≡ Ok (length (record_of t k p))
  unfolding write_answer answer_of
  written_zero z = given_zero _ _ _ (sym number_of_written ∙ z)

-- ---- measuring

module _ (rot : List ℕ) (w l : ℕ) where
  pub number_of_measured : number_of (measure_answer rot w l) ≡ measure_refusal rot w l
  unfolding measure_answer measure_refusal numbered
  number_of_measured = number_given _ _ _ (number_first _ _ refl)

  pub measured_zero : number_of (measure_answer rot w l) ≡ 0 → measure_answer rot w l ≡ Ok (length (face_lengths rot))
  unfolding measure_answer
  measured_zero z = given_zero _ _ _ (sym number_of_measured ∙ z)

-- ---- shelving

module _ (r s : List ℕ) (u : ℕ) where
  abbrev found : ℕ
  found = first_equal r (records_in (take u s))

  abbrev placed_at : Shelved
  placed_at = record { number = found; used = cond (eqb found (length (records_in (take u s)))) (u + length r) u }

  of_answer : number_of (shelve_answer r s u) ≡ shelve_refusal r s u
  unfolding shelve_answer shelve_refusal numbered
  of_answer = number_given _ _ _ (number_first _ _ refl)

  answer_zero : number_of (shelve_answer r s u) ≡ 0 → shelve_answer r s u ≡ Ok placed_at
  unfolding shelve_answer
  answer_zero z = given_zero _ _ _ (sym of_answer ∙ z)

  -- a refusal met in reading names itself
  named_record : (t : Table) (w : ℕ) → record_refusal t r w ≢ 0 → number_of_refusal (numbered (record_refusal t r w) (pos 0)) ≡ record_refusal t r w
  unfolding record_refusal record_refusals head_refusals numbered
  named_record t w = number_first _ _ refl

  named_read : (t : Table) (w o : ℕ) → read_refusal t r w o ≢ 0 → number_of_refusal (numbered (read_refusal t r w o) (pos 0)) ≡ read_refusal t r w o
  unfolding read_refusal record_refusals head_refusals numbered
  named_read t w o = number_first _ _ refl

module _ (t : Table) (r : List ℕ) (w : ℕ) (s : List ℕ) (u : ℕ) (a : Result Shelved Refusal) (s' : List ℕ) where
  pub number_of_unread : Shelves t r w s u a s' → record_refusal t r w ≢ 0 → number_of a ≡ record_refusal t r w
  number_of_unread (unread d e f) n = ap number_of e ∙ named_record r s u t w d
  number_of_unread (planless z never e f) n = absurd (n z)
  number_of_unread (readable z p has e f) n = absurd (n z)

  pub number_of_planless : Shelves t r w s u a s' → record_refusal t r w ≡ 0 → ((p : Plan) → HasRecord t r p → ⊥) → number_of a ≡ 13
  number_of_planless (unread d e f) n none = absurd (d n)
  number_of_planless (planless z never e f) n none = ap number_of e
  number_of_planless (readable z p has e f) n none = absurd (none p has)

  pub number_of_shelved : Shelves t r w s u a s' → record_refusal t r w ≡ 0 → (p : Plan) → HasRecord t r p → number_of a ≡ shelve_refusal r s u
  number_of_shelved (unread d e f) n q h = absurd (d n)
  number_of_shelved (planless z never e f) n q h = absurd (never q h)
  number_of_shelved (readable z p has e f) n q h = ap number_of e ∙ of_answer r s u

  pub shelved_zero : Shelves t r w s u a s' → number_of a ≡ 0 → (p : Plan) × HasRecord t r p × (a ≡ Ok (placed_at r s u))
  shelved_zero (unread d e f) n = absurd (d (sym (ap number_of e ∙ named_record r s u t w d) ∙ n))
  shelved_zero (planless z never e f) n = absurd (suc-ne-zero 12 (sym (ap number_of e) ∙ n))
  shelved_zero (readable z p has e f) n = (p, has, e ∙ answer_zero r s u (sym (ap number_of e) ∙ n))

-- ---- reading

module _ (t : Table) (r : List ℕ) (w : ℕ) (out : List ℕ) (a : Result ReadBack Refusal) (out' : List ℕ) where
  pub number_of_read : Reads t r w out a out' → read_refusal t r w (length out) ≢ 0 → number_of a ≡ read_refusal t r w (length out)
  number_of_read (refused d e f) n = ap number_of e ∙ named_read r [] 0 t w (length out) d
  number_of_read (read z p has e f) n = absurd (n z)
  number_of_read (unreadable z never e f) n = absurd (n z)

  pub number_of_readable : Reads t r w out a out' → read_refusal t r w (length out) ≡ 0 → (p : Plan) → HasRecord t r p → number_of a ≡ 0
  number_of_readable (refused d e f) n q h = absurd (d n)
  number_of_readable (read z p has e f) n q h = ap number_of e
  number_of_readable (unreadable z never e f) n q h = absurd (never q h)

  pub number_of_unreadable : Reads t r w out a out' → read_refusal t r w (length out) ≡ 0 → ((p : Plan) → HasRecord t r p → ⊥) → number_of a ≡ 13
  number_of_unreadable (refused d e f) n none = absurd (d n)
  number_of_unreadable (read z p has e f) n none = absurd (none p has)
  number_of_unreadable (unreadable z never e f) n none = ap number_of e

  pub read_zero : Reads t r w out a out' → number_of a ≡ 0 → (p : Plan) × HasRecord t r p × (a ≡ Ok (record { edges = edges_of r; outside = outside_read (kind_of r) p }))
  read_zero (refused d e f) n = absurd (d (sym (ap number_of e ∙ named_read r [] 0 t w (length out) d) ∙ n))
  read_zero (read z p has e f) n = (p, has, e)
  read_zero (unreadable z never e f) n = absurd (suc-ne-zero 12 (sym (ap number_of e) ∙ n))
