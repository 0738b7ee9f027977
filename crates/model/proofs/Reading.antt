-- The refusals of a record, at plain values: t is the table, r the record, w and o are the lengths of work area and output.
--
--   Clear                where 19, 1, 2, 3, 5 and 7 do not concern the record
--   record_table, record_head, record_room   the first of those that concerns it, check by check
--   clear_record, record_clear   none does, to and from the facts
--   read_record, read_output   the first of reading's refusals: one of those, or 8
--   clear_read, read_clear   none, to and from the facts
use Prim.Native.Nat.{ℕ, ◌*◌, ◌≤◌, ◌<◌}
use mathlib.Core.Path.{◌≡◌, refl, sym, ◌∙◌}
use mathlib.Core.Logic.{◌≢◌}
use mathlib.Core.Bool.{true, false, cond}
use mathlib.Core.List.{List, [], ◌∷◌}
use lib.Dec.{eqb, ltb}
use borrow.Author.Tests.{lt-ltb, le-ltb, ne_eqb, eqb-true, eq-eqb, ltb-false}
use Rattle.model.specs.declared.Table.{Table}
use Rattle.model.specs.Numbers.{first_refusal, refuse}
use Rattle.model.specs.Shelf.{edges_of, head_refusals, head_refusal, passes}
use Rattle.model.specs.Calls.{table_refused, record_refusals, record_refusal, read_refusal}
use Rattle.model.proofs.Refusals.{none_holds, first_append, append_none, table_stands, table_first, none_stands}
use Rattle.model.proofs.Heads.{head_first, head_none}

pub record Clear (t : Table) (r : List ℕ) (w : ℕ) : Type 0 where
  pub stands : table_refused t ≡ false
  pub passed : passes r ≡ true
  pub room : 32 * edges_of r ≤ w

module _ (t : Table) (r : List ℕ) (w : ℕ) where
  -- ---- 19, 1, 2, 3, 5, 7

  pub record_table : table_refused t ≡ true → 19 ≡ record_refusal t r w
  unfolding record_refusal record_refusals
  record_table e = sym (table_first t _ e)

  module _ (stands : table_refused t ≡ false) where
    past : record_refusal t r w ≡ cond (eqb (head_refusal r) 0) (first_refusal (refuse 7 (ltb w (32 * edges_of r)) ∷ [])) (head_refusal r)
    unfolding record_refusal record_refusals
    past = table_stands t _ stands ∙ head_first r _

    pub record_head : head_refusal r ≢ 0 → head_refusal r ≡ record_refusal t r w
    record_head d = sym (past ∙ rw (ne_eqb (head_refusal r) 0 d))

    pub record_room : head_refusal r ≡ 0 → w < 32 * edges_of r → 7 ≡ record_refusal t r w
    unfolding first_refusal
    record_room e h = sym (past ∙ rw (e, lt-ltb w (32 * edges_of r) h))

  pub clear_record : Clear t r w → record_refusal t r w ≡ 0
  unfolding first_refusal passes
  clear_record c = past c.stands ∙ rw (eqb-true (head_refusal r) 0 c.passed, le-ltb w (32 * edges_of r) c.room)

  pub record_clear : record_refusal t r w ≡ 0 → Clear t r w
  unfolding record_refusal record_refusals passes
  record_clear e =
      let stands = none_stands t _ e in
      let (head, rest) = head_none r _ (sym (table_stands t _ stands) ∙ e) in
      record { stands = stands; passed = eq-eqb _ 0 head; room = ltb-false w _ (none_holds _ refl rest 7) }

  -- ---- and 8

  module _ (o : ℕ) where
    in_turn : read_refusal t r w o ≡ cond (eqb (record_refusal t r w) 0) (first_refusal (refuse 8 (ltb o (2 * edges_of r)) ∷ [])) (record_refusal t r w)
    unfolding read_refusal record_refusal record_refusals head_refusals
    in_turn = first_append (record_refusals t r w) _ refl

    pub read_record : record_refusal t r w ≢ 0 → record_refusal t r w ≡ read_refusal t r w o
    read_record d = sym (in_turn ∙ rw (ne_eqb (record_refusal t r w) 0 d))

    pub read_output : record_refusal t r w ≡ 0 → o < 2 * edges_of r → 8 ≡ read_refusal t r w o
    unfolding first_refusal
    read_output e h = sym (in_turn ∙ rw (e, lt-ltb o (2 * edges_of r) h))

    pub clear_read : record_refusal t r w ≡ 0 → 2 * edges_of r ≤ o → read_refusal t r w o ≡ 0
    unfolding first_refusal
    clear_read e h = in_turn ∙ rw (e, le-ltb o (2 * edges_of r) h)

    pub read_clear : read_refusal t r w o ≡ 0 → (record_refusal t r w ≡ 0) × (2 * edges_of r ≤ o)
    unfolding read_refusal record_refusal record_refusals head_refusals
    read_clear e =
        let (none, rest) = append_none (record_refusals t r w) _ refl e in
        (none, ltb-false o _ (none_holds _ refl rest 8))
