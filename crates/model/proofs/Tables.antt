-- Group tables: which ones loading gives, and that each can be undone.
--
--   table_parts          243 bytes, all different
--   loaded_stands        what loading gives is not refused
--   stands_loaded        what is not refused, loading gives
--   no_table_refused     the table that a refused loading returns is refused
--   inverse_at           the inverse's entry at a byte is the byte's place in the table; inverse-long, it has 256
--   byte_bound, value_bound   entries of the table and its inverse are bytes
--   undone_byte          the value of a value's byte is that value
--   undone_value         the byte of a byte's value is that byte
--   no_value             a byte that the table lacks has the entry 243, and no other has
--   standard_stands, standard_byte   the standard table: it is not refused, and a value's byte is the value itself
use Prim.Native.Nat.{ℕ, ◌<◌}
use native.Mathlib.Omega.{arith}
use mathlib.Core.Path.{◌≡◌, refl, sym, ap, ◌∙◌}
use mathlib.Core.Logic.{◌↔◌}
use mathlib.Core.Bool.{true, false, not, ◌&&◌}
use mathlib.Core.List.{List}
use lib.Dec.{eqb}
use lib.ListN.{length, get_or}
use borrow.Author.Tests.{eqb-true, eq-eqb, not-false}
use Rattle.model.specs.declared.Table.{Table}
use Rattle.model.specs.Numbers.{elem, distinct, all_below, position, tabulate}
use Rattle.model.specs.Groups.{byte_for, is_table, inverse_of, loaded, standard_table, no_table}
use Rattle.model.specs.Calls.{table_refused}
use Rattle.model.proofs.Booleans.{and_left, and_right, both, or_none, not_intro}
use Rattle.model.proofs.Permutations.{below_all, all_below_lem, elem_at, at_distinct, position_bound, position_le, position_found, position_lacks, position_entry}
use Rattle.model.proofs.Tabulated.{length_tabulate, tabulate_at}
use Rattle.model.proofs.Same.{same_refl, same_eq}

-- ---- the bytes of a table

pub record TableParts (bs : List ℕ) : Type 0 where
  pub long : length bs ≡ 243
  pub bytes : all_below 256 bs ≡ true
  pub different : distinct bs ≡ true

pub table_parts : (bs : List ℕ) → is_table bs ≡ true → TableParts bs
unfolding is_table
table_parts bs e =
    let rest = and_right (eqb (length bs) 243) _ e in
    record {
      long = eqb-true (length bs) 243 (and_left _ (all_below 256 bs && distinct bs) e);
      bytes = and_left _ (distinct bs) rest;
      different = and_right (all_below 256 bs) _ rest;
    }

pub parts_table : (bs : List ℕ) → TableParts bs → is_table bs ≡ true
unfolding is_table
parts_table bs p = both (eq-eqb (length bs) 243 p.long) (both p.bytes p.different)

-- ---- which tables loading gives

pub loaded_stands : (bs : List ℕ) → is_table bs ≡ true → table_refused (loaded bs) ≡ false
unfolding table_refused loaded
loaded_stands bs e = rw (e, same_refl (inverse_of bs))

pub stands_loaded : (t : Table) → table_refused t ≡ false → (is_table t.bytes ≡ true) × (t ≡ loaded t.bytes)
unfolding table_refused loaded
stands_loaded t e =
    let (table, inverse) = or_none (not (is_table t.bytes)) _ e in
    (not-false _ table, ap (λ (inv : List ℕ). record { bytes = t.bytes; inverse = inv }) (same_eq t.inverse (inverse_of t.bytes) (not-false _ inverse)))

pub no_table_refused : table_refused no_table ≡ true
unfolding table_refused no_table is_table all_below distinct elem
no_table_refused = refl

-- ---- the inverse

pub inverse_long : (bs : List ℕ) → length (inverse_of bs) ≡ 256
unfolding inverse_of
inverse_long bs = length_tabulate (λ b. position b bs) 0 256

pub inverse_at : (bs : List ℕ) (b : ℕ) → b < 256 → get_or (inverse_of bs) b 0 ≡ position b bs
unfolding inverse_of
inverse_at bs b h = tabulate_at (λ x. position x bs) 256 b h

-- ---- every table can be undone

module _ (t : Table) (e : table_refused t ≡ false) where
  parts : TableParts t.bytes
  parts = table_parts t.bytes (stands_loaded t e).0

  -- the inverse is the one that loading makes
  looked_up : (b : ℕ) → b < 256 → get_or t.inverse b 0 ≡ position b t.bytes
  unfolding loaded
  looked_up b h = ap (λ (u : Table). get_or u.inverse b 0) (stands_loaded t e).1 ∙ inverse_at t.bytes b h

  pub byte_bound : (v : ℕ) → v < 243 → byte_for t v < 256
  unfolding byte_for
  byte_bound v h = let l = parts.long in below_all 256 t.bytes parts.bytes v (omega arith)

  pub value_bound : (b : ℕ) → b < 256 → get_or t.inverse b 0 < 256
  value_bound b h = let l = parts.long in let p = position_le b t.bytes in let same = looked_up b h in omega arith

  pub undone_byte : (v : ℕ) → v < 243 → get_or t.inverse (byte_for t v) 0 ≡ v
  unfolding byte_for
  undone_byte v h = let l = parts.long in looked_up _ (byte_bound v h) ∙ position_entry t.bytes parts.different v (omega arith)

  pub undone_value : (b : ℕ) → b < 256 → get_or t.inverse b 0 < 243 → byte_for t (get_or t.inverse b 0) ≡ b
  unfolding byte_for
  undone_value b h low =
      let l = parts.long in
      let same = looked_up b h in
      ap (λ (v : ℕ). get_or t.bytes v 0) same ∙ position_found b t.bytes (omega arith)

  pub no_value : (b : ℕ) → b < 256 → (elem b t.bytes ≡ false) ↔ (get_or t.inverse b 0 ≡ 243)
  no_value b h = (
    λ lacks. looked_up b h ∙ position_lacks b t.bytes lacks ∙ parts.long,
    λ mark. not_intro _ (λ has.
        let (k, in_List, is) = elem_at b t.bytes has in
        let (low, found) = position_bound b t.bytes k in_List is in
        let l = parts.long in
        let same = looked_up b h in
        omega arith),
  )

-- ---- the standard table

pub standard_byte : (v : ℕ) → v < 243 → byte_for standard_table v ≡ v
unfolding byte_for standard_table loaded
standard_byte v h = tabulate_at (λ x. x) 243 v h

pub standard_stands : table_refused standard_table ≡ false
unfolding standard_table
standard_stands =
    let bs = tabulate (λ v. v) 0 243 in
    let l = length_tabulate (λ v. v) 0 243 in
    loaded_stands bs (parts_table bs (record {
      long = l;
      bytes = all_below_lem 256 bs (λ k h. let e = tabulate_at (λ v. v) 243 k (omega arith) in omega arith);
      different = at_distinct bs (λ j k h i e.
          sym (tabulate_at (λ v. v) 243 j (omega arith)) ∙ e ∙ tabulate_at (λ v. v) 243 k (omega arith));
    }))
