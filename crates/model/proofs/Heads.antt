-- Heads of records: their fields, the length of a record, and what passing 1, 2, 3 and 5 says. Assumes nothing.
--
--   le16_word16          two bytes are the field of their number
--   le16_bytes           two bytes
--   three_cases          what holds of three numbers holds of every entry of their list
--   family_cases, kind_cases   what holds of 1, 2, 3 and 4 holds of every family, and of every kind if it holds of 101h, 102h and 104h too
--   family_varies, stores_fixed   a kind's length varies with its family's, and is fixed where the outside is stored
--   family_not_three, stores_not_three, stores_family_plain   only kind 3 has family 3, and it does not store the outside
--   kind_family, kind_small   a kind's family is one; a kind is a 16-bit number
--   family_one, family_two, family_four, family_other   the length of a payload of family 1, of 2, of 4, and of one that is not 1 or 2
--   head_length_range, payload_length_range, record_length_range   6 to 8 bytes stand before the payload, and a record has from 7 to 2056
--   Whole, Kinded, Counted        what the checks so far have shown: the length, and the kind, and the number of edges
--   refuse_short, refuse_length, refuse_kind, refuse_count, refuse_size, refuse_nothing   the head refusal, check by check
--   Passes               what passing says
--   passes_facts, facts_passes    from the test, and to head_refusal r ≡ 0
--   head_first, head_none         the first of the head's refusals and others behind them; if it is 0, it is 0 in both
--   head_long            bytes that 1, 2, 3 and 5 don't concern have a head
--   passes_length        a record that passes has its length field's length
--   passes_long          a record that passes has 6 bytes or more
--   passes_head          passing is decided by the length and the first six bytes
use Prim.Native.Nat.{ℕ, ◌+◌, ◌*◌, ◌/◌, ◌%◌, ◌≤◌, ◌<◌}
use native.Mathlib.Omega.{arith}
use mathlib.Core.Path.{◌≡◌, refl, sym, ap, subst, ◌∙◌}
use mathlib.Core.Logic.{◌≢◌}
use mathlib.Core.Bool.{Bool, true, false, not, ◌&&◌, cond, false≢true}
use mathlib.Core.List.{List, [], ◌∷◌, ◌++◌}
use lib.Dec.{eqb, ltb}
use lib.ListN.{length, get_or}
use borrow.Author.Tests.{lt-ltb, le-ltb, eq-eqb, ne_eqb, ltb-false, eqb-true, not-false}
use Rattle.model.specs.Numbers.{elem, all_below, Check, first_refusal}
use Rattle.model.specs.Map.{is_family, stores_outside, is_kind, family, edge_count_fits}
use Rattle.model.specs.Record.{le16, head_length, length_varies, payload_length, record_length}
use Rattle.model.specs.Shelf.{word16, kind_of, edges_of, head_refusals, head_refusal, passes}
use Rattle.model.proofs.Booleans.{or_split, or_right, or_none}
use Rattle.model.proofs.Below.{below_cons}
use Rattle.model.proofs.Fitness.{edges_parts, parts_edges}
use Rattle.model.proofs.Refusals.{none_holds, first_append, append_none}

pub le16_word16 : (a b : ℕ) → a < 256 → b < 256 → le16 (a + 256 * b) ≡ a ∷ b ∷ []
unfolding le16
le16_word16 a b h k =
    let p : (a + 256 * b) % 256 ≡ a = omega arith in
    let q : (a + 256 * b) / 256 ≡ b = omega arith in
    let s : b % 256 ≡ b = omega arith in
    rw (p, q, s)

pub le16_bytes : (n : ℕ) → all_below 256 (le16 n) ≡ true
unfolding le16 all_below
le16_bytes n = below_cons 256 (n % 256) (n / 256 % 256 ∷ []) (omega arith) (below_cons 256 (n / 256 % 256) [] (omega arith) refl)

-- ---- kinds and lengths

pub three_cases : (a b c : ℕ) (P : ℕ → Type 0) → P a → P b → P c → (k : ℕ) → elem k (a ∷ b ∷ c ∷ []) ≡ true → P k
unfolding elem
three_cases a b c P p q s k e = go (eqb k a) (eqb k b) (eqb k c) refl refl refl e
  where
    go : (t u v : Bool) → eqb k a ≡ t → eqb k b ≡ u → eqb k c ≡ v → cond t true (cond u true (cond v true false)) ≡ true → P k
    go true u v x y z e = subst P (sym (eqb-true k a x)) p
    go false true v x y z e = subst P (sym (eqb-true k b y)) q
    go false false true x y z e = subst P (sym (eqb-true k c z)) s
    go false false false x y z e = absurd (false≢true e)

pub family_cases : (P : ℕ → Type 0) → P 1 → P 2 → P 3 → P 4 → (f : ℕ) → is_family f ≡ true → P f
unfolding is_family elem
family_cases P p q s t f e = go (eqb f 1) refl e
  where
    go : (b : Bool) → eqb f 1 ≡ b → cond b true (elem f (2 ∷ 3 ∷ 4 ∷ [])) ≡ true → P f
    go true z e = subst P (sym (eqb-true f 1 z)) p
    go false z e = three_cases 2 3 4 P q s t f e

pub kind_cases : (P : ℕ → Type 0) → P 1 → P 2 → P 3 → P 4 → P 0x101 → P 0x102 → P 0x104 → (k : ℕ) → is_kind k ≡ true → P k
unfolding is_kind stores_outside
kind_cases P p q s t u v w k e = or_split (is_family k) (stores_outside k) e (family_cases P p q s t k) (three_cases 0x101 0x102 0x104 P u v w k)

pub kind_family : (k : ℕ) → is_kind k ≡ true → is_family (family k) ≡ true
unfolding is_family family stores_outside elem
kind_family = kind_cases (λ (x : ℕ). is_family (family x) ≡ true) refl refl refl refl refl refl refl

pub family_varies : (k : ℕ) → is_kind k ≡ true → length_varies (family k) ≡ length_varies k
unfolding family stores_outside elem
family_varies = kind_cases (λ (x : ℕ). length_varies (family x) ≡ length_varies x) refl refl refl refl refl refl refl

pub stores_fixed : (k : ℕ) → stores_outside k ≡ true → length_varies k ≡ false
unfolding stores_outside
stores_fixed = three_cases 0x101 0x102 0x104 (λ (x : ℕ). length_varies x ≡ false) refl refl refl

pub family_not_three : (k : ℕ) → is_kind k ≡ true → k ≢ 3 → family k ≢ 3
family_not_three k kind other e = other (eqb-true k 3 (sym (family_varies k kind) ∙ eq-eqb (family k) 3 e))

pub stores_not_three : (k : ℕ) → stores_outside k ≡ true → k ≢ 3
unfolding stores_outside
stores_not_three = three_cases 0x101 0x102 0x104 (λ (x : ℕ). x ≢ 3) (λ e. omega (arith, e)) (λ e. omega (arith, e)) (λ e. omega (arith, e))

pub stores_family_plain : (k : ℕ) → stores_outside k ≡ true → family k ≢ 3
unfolding is_kind
stores_family_plain k s = family_not_three k (or_right (is_family k) (stores_outside k) s) (stores_not_three k s)

pub kind_small : (k : ℕ) → is_kind k ≡ true → k < 65536
kind_small = kind_cases (λ (x : ℕ). x < 65536) (omega arith) (omega arith) (omega arith) (omega arith) (omega arith) (omega arith) (omega arith)

pub family_one : (f m : ℕ) → f ≡ 1 → (3 * m + 7) / 8 ≡ payload_length f m
unfolding payload_length
family_one f m e = rw (eq-eqb _ _ e)

pub family_two : (f m : ℕ) → f ≡ 2 → (2 * m + 7) / 8 + (m + 4) / 5 ≡ payload_length f m
unfolding payload_length
family_two f m e = rw e

pub family_four : (f m : ℕ) → f ≡ 4 → (m + 1) / 2 ≡ payload_length f m
unfolding payload_length
family_four f m e = rw e

pub family_other : (f m : ℕ) → (f ≡ 1 → ⊥) → (f ≡ 2 → ⊥) → (m + 1) / 2 ≡ payload_length f m
unfolding payload_length
family_other f m d e = rw (ne_eqb _ _ d, ne_eqb _ _ e)

pub payload_length_range : (f m : ℕ) → 1 ≤ m → m ≤ 4096 → (1 ≤ payload_length f m) × (payload_length f m ≤ 2048)
unfolding payload_length
payload_length_range f m h l = go (eqb f 1) (eqb f 2)
  where
    go : (t u : Bool) → let n = cond t ((3 * m + 7) / 8) (cond u ((2 * m + 7) / 8 + (m + 4) / 5) ((m + 1) / 2)) in (1 ≤ n) × (n ≤ 2048)
    go true u = (omega arith, omega arith)
    go false true = (omega arith, omega arith)
    go false false = (omega arith, omega arith)

pub head_length_range : (k : ℕ) → (6 ≤ head_length k) × (head_length k ≤ 8)
unfolding head_length
head_length_range k = go (stores_outside k)
  where
    go : (b : Bool) → (6 ≤ cond b 8 6) × (cond b 8 6 ≤ 8)
    go true = (omega arith, omega arith)
    go false = (omega arith, omega arith)

pub record_length_range : (k m : ℕ) → 1 ≤ m → m ≤ 4096 → (7 ≤ record_length k m) × (record_length k m ≤ 2056)
unfolding record_length
record_length_range k m h l =
    let p = payload_length_range (family k) m h l in
    let q = head_length_range k in
    (omega arith, omega arith)

-- ---- the head refusal, check by check

sized_not_refused : (b : Bool) (n l : ℕ) → (b ≡ false → n ≡ l) → (not b && not (eqb n l)) ≡ false
sized_not_refused true n l h = refl
sized_not_refused false n l h = ap not (eq-eqb n l (h refl))

module _ (r : List ℕ) where
  pub record Whole : Type 0 where
    pub long : 6 ≤ length r
    pub field : word16 r 0 ≡ length r

  pub record Kinded : Type 0 where
    pub whole : Whole
    pub kind : is_kind (kind_of r) ≡ true

  pub record Counted : Type 0 where
    pub kinded : Kinded
    pub count : edge_count_fits (edges_of r) ≡ true

  pub refuse_short : length r < 6 → 1 ≡ head_refusal r
  unfolding head_refusal head_refusals first_refusal
  refuse_short h = rw (lt-ltb _ _ h)

  pub refuse_length : 6 ≤ length r → (word16 r 0 ≡ length r → ⊥) → 1 ≡ head_refusal r
  unfolding head_refusal head_refusals first_refusal
  refuse_length h d = rw (le-ltb _ _ h, ne_eqb _ _ d)

  pub refuse_kind : Whole → is_kind (kind_of r) ≡ false → 2 ≡ head_refusal r
  unfolding head_refusal head_refusals first_refusal
  refuse_kind w e = rw (le-ltb _ _ w.long, eq-eqb _ _ w.field, e)

  pub refuse_count : Kinded → edge_count_fits (edges_of r) ≡ false → 3 ≡ head_refusal r
  unfolding head_refusal head_refusals first_refusal
  refuse_count k e = rw (le-ltb _ _ k.whole.long, eq-eqb _ _ k.whole.field, k.kind, e)

  pub refuse_size : Counted → length_varies (kind_of r) ≡ false → (length r ≡ record_length (kind_of r) (edges_of r) → ⊥) → 5 ≡ head_refusal r
  unfolding head_refusal head_refusals first_refusal
  refuse_size c v d = let k = c.kinded in rw (le-ltb _ _ k.whole.long, eq-eqb _ _ k.whole.field, k.kind, c.count, v, ne_eqb (length r) _ d)

  pub refuse_nothing : Counted → (length_varies (kind_of r) ≡ false → length r ≡ record_length (kind_of r) (edges_of r)) → 0 ≡ head_refusal r
  unfolding head_refusal head_refusals first_refusal
  refuse_nothing c e =
      let k = c.kinded in
      let none = sized_not_refused (length_varies (kind_of r)) (length r) _ e in
      rw (le-ltb _ _ k.whole.long, eq-eqb _ _ k.whole.field, k.kind, c.count, none)

-- ---- what passing says

pub record Passes (r : List ℕ) : Type 0 where
  pub whole_head : 6 ≤ length r
  pub length_field : word16 r 0 ≡ length r
  pub kind : is_kind (kind_of r) ≡ true
  pub some_edge : 1 ≤ edges_of r
  pub few_edges : edges_of r ≤ 4096
  pub right_length : length_varies (kind_of r) ≡ false → length r ≡ record_length (kind_of r) (edges_of r)

zero_facts : (r : List ℕ) → head_refusal r ≡ 0 → Passes r
unfolding head_refusal head_refusals
zero_facts r e =
    let no = none_holds _ refl e in
    let (long, field) = or_none (ltb (length r) 6) _ (no 1) in
    let (some, few) = edges_parts (edges_of r) (not-false _ (no 3)) in
    record {
      whole_head = ltb-false _ _ long;
      length_field = eqb-true _ _ (not-false _ field);
      kind = not-false _ (no 2);
      some_edge = some;
      few_edges = few;
      right_length = λ v. eqb-true _ _ (not-false (eqb (length r) (record_length (kind_of r) (edges_of r))) (rw v at (no 5)));
    }

pub passes_facts : (r : List ℕ) → passes r ≡ true → Passes r
unfolding passes
passes_facts r p = zero_facts r (eqb-true _ 0 p)

pub facts_passes : (r : List ℕ) → Passes r → head_refusal r ≡ 0
facts_passes r p =
    let kinded : Kinded r = record { whole = record { long = p.whole_head; field = p.length_field }; kind = p.kind } in
    sym (refuse_nothing r (record { kinded = kinded; count = parts_edges _ p.some_edge p.few_edges }) p.right_length)

-- what comes after the refusals of the head
pub head_first : (r : List ℕ) (rs : List Check) → first_refusal (head_refusals r ++ rs) ≡ cond (eqb (head_refusal r) 0) (first_refusal rs) (head_refusal r)
unfolding head_refusal head_refusals
head_first r rs = first_append (head_refusals r) rs refl

pub head_none : (r : List ℕ) (rs : List Check) → first_refusal (head_refusals r ++ rs) ≡ 0 → (head_refusal r ≡ 0) × (first_refusal rs ≡ 0)
unfolding head_refusal head_refusals
head_none r rs e = append_none (head_refusals r) rs refl e

pub head_long : (r : List ℕ) → head_refusal r ≡ 0 → 6 ≤ length r
head_long r e = (zero_facts r e).whole_head

pub passes_long : (r : List ℕ) → passes r ≡ true → 6 ≤ length r
passes_long r p = (passes_facts r p).whole_head

pub passes_length : (r : List ℕ) → passes r ≡ true → word16 r 0 ≡ length r
passes_length r p = (passes_facts r p).length_field

pub passes_head : (r s : List ℕ) → length r ≡ length s → ((i : ℕ) → i < 6 → get_or r i 0 ≡ get_or s i 0) → passes r ≡ passes s
unfolding passes head_refusal head_refusals first_refusal word16
passes_head r s l e = rw (l, e 0 (omega arith), e 1 (omega arith), e 2 (omega arith), e 3 (omega arith), e 4 (omega arith), e 5 (omega arith))
