-- The test of a table is exact: each value's byte leads back to it, and 13 bytes are marked, exactly when loading gives the table.
--
--   mark_more, mark_same   one more entry, a mark or not
--   test_exact           what is tested says that loading gives the table
--   loaded_leads, loaded_marks   a table that loading gives passes both parts
--   told_marks, told_all, told_standard   what the test tells of a table
use Prim.Native.Nat.{ℕ, zero, suc, ◌+◌, ◌<◌}
use native.Mathlib.Numerals.{add-one}
use native.Mathlib.Omega.{arith}
use mathlib.Core.Path.{◌≡◌, refl, sym, ap, ◌∙◌, subst}
use mathlib.Core.Logic.{◌≢◌}
use mathlib.Core.Bool.{Bool, true, false, not, ◌||◌, cond, true≢false}
use mathlib.Core.List.{List, [], ◌∷◌}
use lib.Dec.{T, eqb}
use lib.ListN.{length, get_or}
use lib.Seq.{ext_get_or}
use borrow.Author.Tests.{eqb-true, eqb-false, eq-eqb, ne_eqb, not-true}
use Rattle.model.specs.declared.Table.{Table}
use Rattle.model.specs.Numbers.{tick, count, elem, distinct, all_below, position}
use Rattle.model.specs.Groups.{byte_for, is_table, inverse_of, standard_table}
use Rattle.model.specs.Calls.{table_refused}
use Rattle.model.proofs.Booleans.{and_left, and_right, T_true}
use Rattle.model.proofs.Below.{below_head, below_tail}
use Rattle.model.proofs.Permutations.{all_below_lem, at_distinct, elem_at, position_entry, position_lacks}
use Rattle.model.proofs.Same.{same_refl}
use Rattle.model.proofs.Tables.{TableParts, parts_table, table_parts, inverse_at, inverse_long, undone_byte, no_value, stands_loaded, standard_stands}
use Rattle.orbits.proofs.Tally.{count_ext, count_all, count_none, count_either, count_tight}
use Rattle.table_test.specs.Tested.{is_mark, LeadsBack, Decides}

-- ---- marks, one by one

pub mark_more : (inv : List ℕ) (b marks : ℕ) → get_or inv b 0 ≡ 243 → marks ≡ count (is_mark inv) b → marks + 1 ≡ count (is_mark inv) (b + 1)
unfolding count
mark_more inv b marks e so_far = rw (add-one b, eq-eqb (get_or inv b 0) 243 e, so_far) (omega arith)

pub mark_same : (inv : List ℕ) (b marks : ℕ) → get_or inv b 0 ≢ 243 → marks ≡ count (is_mark inv) b → marks ≡ count (is_mark inv) (b + 1)
unfolding count
mark_same inv b marks d so_far = rw (add-one b, ne_eqb (get_or inv b 0) 243 d) so_far

-- ---- how many bytes a list has

-- one number below n
count_one : (x n : ℕ) → x < n → count (λ b. eqb b x) n ≡ 1
unfolding count
count_one x zero h = absurd (omega arith)
count_one x (suc n) h = go (eqb n x) refl (count_one x n)
  where
    go : (b : Bool) → eqb n x ≡ b → (x < n → count (λ b. eqb b x) n ≡ 1) → tick b (count (λ b. eqb b x) n) ≡ 1
    go true e more = let same = eqb-true n x e in ap suc (count_none (λ b. eqb b x) n (λ i l. ne_eqb i x (λ z. omega arith)))
    go false e more = let d = eqb-false n x e in more (omega arith)

-- a list of different numbers below n
count_members : (n : ℕ) (xs : List ℕ) → all_below n xs ≡ true → distinct xs ≡ true → count (λ b. elem b xs) n ≡ length xs
unfolding elem distinct
count_members n [] e d = count_none (λ b. false) n (λ i l. refl)
count_members n (x ∷ xs) e d =
    count_ext (λ b. elem b (x ∷ xs)) (λ b. eqb b x || elem b xs) n (λ i l. either (eqb i x) (elem i xs))
    ∙ count_either (λ b. eqb b x) (λ b. elem b xs) n apart
    ∙ (let one = count_one x n (below_head n x xs e) in
    let more = count_members n xs (below_tail n x xs e) (and_right (not (elem x xs)) _ d) in
    omega arith)
  where
    either : (a b : Bool) → cond a true b ≡ (a || b)
    either true b = refl
    either false b = refl

    apart : (i : ℕ) → i < n → T (eqb i x) → T (elem i xs) → ⊥
    apart i l s m =
        let same = eqb-true i x (T_true _ s) in
        true≢false (sym (T_true _ m) ∙ ap (λ (j : ℕ). elem j xs) same ∙ not-true _ (and_left (not (elem x xs)) (distinct xs) d))

-- ---- the bytes of a table and the marks of its inverse

module _ (bs inv : List ℕ) where
  -- the byte is the table's, or marked
  abbrev settled : ℕ → Bool
  settled b = elem b bs || is_mark inv b

  module _ (p : TableParts bs) (leads : LeadsBack bs inv) where
    -- a byte of the table has its value for entry, so it is not marked
    member_entry : (b : ℕ) → elem b bs ≡ true → (k : ℕ) × (k < 243) × (get_or bs k 0 ≡ b) × (get_or inv b 0 ≡ k)
    member_entry b m =
        let (k, l, is) = elem_at b bs m in
        let long = p.long in
        let low : k < 243 = omega arith in
        (k, low, is, ap (λ (x : ℕ). get_or inv x 0) (sym is) ∙ leads k low)

    counted : count settled 256 ≡ 243 + count (is_mark inv) 256
    counted =
        let all = count_members 256 bs p.bytes p.different in
        let long = p.long in
        count_either (λ b. elem b bs) (is_mark inv) 256
        (λ i l m mark. let (k, low, is, entry) = member_entry i (T_true _ m) in
        let z : get_or inv i 0 ≡ 243 = eqb-true _ 243 (T_true _ mark) in omega arith)
        ∙ omega arith

-- ---- the test is exact

module _ (bs inv : List ℕ) (long : length bs ≡ 243) (bytes : all_below 256 bs ≡ true) (wide : length inv ≡ 256) where
  pub test_exact : LeadsBack bs inv → count (is_mark inv) 256 ≡ 13 → (is_table bs ≡ true) × (inv ≡ inverse_of bs)
  test_exact leads thirteen = (
    parts_table bs parts,
    ext_get_or 0 inv (inverse_of bs) (wide ∙ sym (inverse_long bs))
        (λ b l. entry b (omega arith) (elem b bs) refl ∙ sym (inverse_at bs b (omega arith))),
  )
    where
      parts : TableParts bs
      parts = record {
        long = long;
        bytes = bytes;
        different = at_distinct bs (λ j k hj hk e. sym (leads j (omega arith)) ∙ ap (λ (x : ℕ). get_or inv x 0) e ∙ leads k (omega arith));
      }

      -- no byte is left over
      every : (b : ℕ) → b < 256 → T (settled bs inv b)
      every b h =
          let all = count_all 256 in
          let c = counted bs inv parts leads in
          count_tight (settled bs inv) (λ i. true) 256 (λ i l m. tt) (omega arith) b h tt

      entry : (b : ℕ) → b < 256 → (m : Bool) → elem b bs ≡ m → get_or inv b 0 ≡ position b bs
      entry b h true m =
          let (k, low, is, e) = member_entry bs inv parts leads b m in
          e ∙ sym (ap (λ (x : ℕ). position x bs) (sym is) ∙ position_entry bs parts.different k (omega arith))
      entry b h false m =
          let mark = T_true _ (subst (λ (c : Bool). T (c || is_mark inv b)) m (every b h)) in
          eqb-true _ 243 mark ∙ sym (position_lacks b bs m ∙ long)

module _ (t : Table) (stands : table_refused t ≡ false) where
  pub loaded_leads : LeadsBack t.bytes t.inverse
  unfolding byte_for
  loaded_leads = undone_byte t stands

  pub loaded_marks : count (is_mark t.inverse) 256 ≡ 13
  loaded_marks =
      let c = counted t.bytes t.inverse (table_parts t.bytes (stands_loaded t stands).0) loaded_leads in
      let all = count_all 256 in
      let every = count_ext (settled t.bytes t.inverse) (λ b. true) 256 (λ b h. go b h (elem b t.bytes) refl) in
      omega arith
    where
      go : (b : ℕ) → b < 256 → (m : Bool) → elem b t.bytes ≡ m → (m || is_mark t.inverse b) ≡ true
      go b h true m = refl
      go b h false m = eq-eqb _ 243 ((no_value t stands b h).0 m)

-- ---- what the test tells of a table

module _ (t : Table) where
  -- the answer is no where a part of the test fails that every loaded table passes
  unlike : (table_refused t ≡ false → ⊥) → false ≡ not (table_refused t)
  unlike never = go (table_refused t) refl
    where
      go : (b : Bool) → table_refused t ≡ b → false ≡ not b
      go true e = refl
      go false e = absurd (never e)

  pub told_marks : count (is_mark t.inverse) 256 ≢ 13 → false ≡ not (table_refused t)
  told_marks d = unlike (λ stands. d (loaded_marks t stands))

  pub told_all : length t.bytes ≡ 243 → ((i : ℕ) → get_or t.bytes i 0 < 256) → length t.inverse ≡ 256
      → count (is_mark t.inverse) 256 ≡ 13 → (r : Bool) → Decides (LeadsBack t.bytes t.inverse) r → r ≡ not (table_refused t)
  unfolding table_refused
  told_all long bytes wide thirteen true d =
      let below = all_below_lem 256 t.bytes (λ k h. bytes k) in
      let (table, inverse) = test_exact t.bytes t.inverse long below wide (d.yes refl) thirteen in
      rw (table, inverse, same_refl (inverse_of t.bytes))
  told_all long bytes wide thirteen false d = unlike (λ stands. d.no refl (loaded_leads t stands))

pub told_standard : (t : Table) → t ≡ standard_table → true ≡ not (table_refused t)
told_standard t e = ap not (sym (ap table_refused e ∙ standard_stands))
