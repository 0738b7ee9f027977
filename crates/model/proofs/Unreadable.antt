-- The two records of the starred table on reading: "07 00 01 00 02 00 CC and the same with C9: refusal 13." No fit plan has them.
--
--   room_clear                     bytes that pass 1, 2, 3 and 5, with room for the plan, meet 13 at most
--   unreadable_refused             if no fit plan has them, reading answers 13
--   two_edges x                    a record of two edges in kind 1 whose payload is the byte x
--   unreadable_CC, unreadable_C9   no plan that is fit for kind 1 has the record
--   refuses_CC, refuses_C9         reading answers 13
use mathlib.Core.Path.{◌≡◌, refl, sym, ap, ◌∙◌}
use mathlib.Core.Bool.{Bool, true, false, not, ◌&&◌, ◌||◌, true≢false}
use mathlib.Core.List.{List, [], ◌∷◌}
use Prim.Native.Nat.{ℕ, ◌*◌, ◌/◌, ◌%◌, ◌≤◌, ◌<◌}
use native.Mathlib.Omega.{arith}
use lib.ListN.{length, get_or}
use borrow.Author.Tests.{eq-eqb, not-true}
use Rattle.model.specs.declared.Table.{Table}
use Rattle.model.specs.declared.ReadBack.{ReadBack}
use Rattle.std.specs.Prelude.{Result, Err}
use Rattle.model.specs.declared.Refusal.{Refusal}
use Rattle.model.specs.declared.Refusal.TheVariants.{NoFitPlan}
use Rattle.model.specs.Refusals.{numbered}
use Rattle.model.specs.Numbers.{elem, distinct, all_below, is_permutation, first_refusal}
use Rattle.model.specs.Map.{Plan, darts, edges, is_family, stores_outside, is_kind, family, fit}
use Rattle.model.specs.Groups.{standard_table}
use Rattle.model.specs.Record.{le16, head_length, payload_length, record_length, headed, record_of}
use Rattle.model.specs.Shelf.{same, word16, edges_of, head_refusals, head_refusal, passes}
use Rattle.model.specs.Calls.{table_refused, read_refusal, HasRecord, Reads, refused, read, unreadable}
use Rattle.model.proofs.Booleans.{and_left, all, at}
use Rattle.model.proofs.Reading.{clear_record, clear_read}
use Rattle.model.proofs.Line.{on_reading, Holds}
use Rattle.model.proofs.Opened.{record_opened}
use Rattle.model.proofs.Tables.{standard_stands}
use Rattle.model.proofs.Fitness.{below_all, Fit, fit_parts, count_parts, even_darts}

-- ---- 13, where no fit plan has the record

pub room_clear : (t : Table) (r : List ℕ) (w o : ℕ) → table_refused t ≡ false → head_refusal r ≡ 0 → 32 * edges_of r ≤ w → 2 * edges_of r ≤ o
    → read_refusal t r w o ≡ 0
unfolding passes
room_clear t r w o stands passed h l = clear_read t r w o (clear_record t r w (record { stands = stands; passed = eq-eqb _ 0 passed; room = h })) l

pub unreadable_refused : (r : List ℕ) → head_refusal r ≡ 0 → ((p : Plan) → HasRecord standard_table r p → ⊥) → Holds (on_reading r 13)
unfolding numbered
unreadable_refused r passed never w out h l = record { refused_so = unreadable clear never refl refl; only_so = λ a o c. go a o c }
  where
    clear : read_refusal standard_table r w (length out) ≡ 0
    clear = room_clear standard_table r w (length out) standard_stands passed h l

    go : (a : Result ReadBack Refusal) (o : List ℕ) → Reads standard_table r w out a o → (a ≡ Err NoFitPlan) × (o ≡ out)
    go a o (refused d e f) = absurd (d clear)
    go a o (read e p has f g) = absurd (never p has)
    go a o (unreadable e n f g) = (f, g)

-- ---- no plan of two edges has CC or C9

abbrev pub two_edges : ℕ → List ℕ
two_edges x = 0x07 ∷ 0x00 ∷ 0x01 ∷ 0x00 ∷ 0x02 ∷ 0x00 ∷ x ∷ []

-- no plan of two edges that is fit for kind 1 has the payload CC or C9
unfoldable without : Plan → Bool
without p = not (fit 1 p && (same (record_of standard_table 1 p) (two_edges 0xCC) || same (record_of standard_table 1 p) (two_edges 0xC9)))

abbrev plan : ℕ → ℕ → ℕ → ℕ → ℕ → ℕ → Plan
plan o a b c d r = record { rotation = a ∷ b ∷ c ∷ d ∷ []; root = r; outside = o }

-- whatever the outside
none_of_two : (o : ℕ) → all 4 (λ a. all 4 (λ b. all 4 (λ c. all 4 (λ d. all 4 (λ r. without (plan o a b c d r)))))) ≡ true
unfolding without record_opened
none_of_two o = refl

-- ---- a plan with such a record has two edges

-- the bytes of m in a record
third_field : (t : Table) (k : ℕ) (p : Plan)
    → (get_or (record_of t k p) 4 0 ≡ edges p.rotation % 256) × (get_or (record_of t k p) 5 0 ≡ edges p.rotation / 256 % 256)
unfolding record_of headed le16
third_field t k p = (refl, refl)

small : (q : ℕ) → q ≤ 16 → q % 256 ≡ 0 → q ≡ 0
small q h e = omega arith

from_bytes : (m : ℕ) → m ≤ 4096 → m % 256 ≡ 2 → m / 256 % 256 ≡ 0 → m ≡ 2
from_bytes m h low high = let q : m / 256 ≡ 0 = small (m / 256) (omega arith) high in omega arith

two : (p : Plan) (x : ℕ) → HasRecord standard_table (two_edges x) p → darts p ≡ 4
unfolding word16
two p x (f, e) =
    let parts = fit_parts 1 p f in
    let c = count_parts (darts p) parts.count in
    let even = even_darts p parts.count in
    let low : edges p.rotation % 256 ≡ 2 = sym (third_field standard_table 1 p).0 ∙ ap (λ (r : List ℕ). get_or r 4 0) e in
    let high : edges p.rotation / 256 % 256 ≡ 0 = sym (third_field standard_table 1 p).1 ∙ ap (λ (r : List ℕ). get_or r 5 0) e in
    let m = from_bytes (edges p.rotation) (omega arith) low high in
    omega arith

-- ---- and every plan of two edges is one of those that were tried

-- a list of four numbers below 4, by its entries
four : (P : List ℕ → Type 0) (xs : List ℕ) → length xs ≡ 4
    → ((a b c d : ℕ) → (a ≡ get_or xs 0 0) → (b ≡ get_or xs 1 0) → (c ≡ get_or xs 2 0) → (d ≡ get_or xs 3 0) → P (a ∷ b ∷ c ∷ d ∷ [])) → P xs
four P [] e f = absurd (omega arith)
four P (a ∷ []) e f = absurd (omega arith)
four P (a ∷ b ∷ []) e f = absurd (omega arith)
four P (a ∷ b ∷ c ∷ []) e f = absurd (omega arith)
four P (a ∷ b ∷ c ∷ d ∷ []) e f = f a b c d refl refl refl refl
four P (a ∷ b ∷ c ∷ d ∷ x ∷ xs) e f = absurd (omega arith)

tried : (p : Plan) → Fit 1 p → darts p ≡ 4 → without p ≡ true
unfolding is_permutation
tried p parts n =
    let below = and_left (all_below (darts p) p.rotation) (distinct p.rotation) parts.entries in
    let bound : (k : ℕ) → k < 4 → get_or p.rotation k 0 < 4 = λ k h. let z = below_all (darts p) p.rotation below k (omega arith) in omega arith in
    let root : p.root < 4 = let z = parts.root in omega arith in
    let o = p.outside in
    four (λ xs. without (record { rotation = xs; root = p.root; outside = p.outside }) ≡ true) p.rotation n (λ a b c d ea eb ec ed.
    let ha : a < 4 = let z = bound 0 (omega arith) in omega arith in
    let hb : b < 4 = let z = bound 1 (omega arith) in omega arith in
    let hc : c < 4 = let z = bound 2 (omega arith) in omega arith in
    let hd : d < 4 = let z = bound 3 (omega arith) in omega arith in
    at 4 (λ r. without (plan o a b c d r)) (at 4 (λ d. all 4 (λ r. without (plan o a b c d r)))
    (at 4 (λ c. all 4 (λ d. all 4 (λ r. without (plan o a b c d r)))) (at 4 (λ b. all 4 (λ c. all 4 (λ d. all 4 (λ r. without (plan o a b c d r)))))
    (at 4 (λ a. all 4 (λ b. all 4 (λ c. all 4 (λ d. all 4 (λ r. without (plan o a b c d r)))))) (none_of_two o) a ha) b hb) c hc) d hd) p.root root)

-- x is a payload that was tried
none : (x : ℕ) → (p : Plan) → (same (two_edges x) (two_edges 0xCC) || same (two_edges x) (two_edges 0xC9)) ≡ true → HasRecord standard_table (two_edges x) p → ⊥
unfolding without word16
none x p hit (f, e) =
    let w = tried p (fit_parts 1 p f) (two p x (f, e)) in
    let z = not-true (fit 1 p && (same (record_of standard_table 1 p) (two_edges 0xCC) || same (record_of standard_table 1 p) (two_edges 0xC9))) w in
    true≢false (sym (rw (f, e) hit) ∙ z)

pub unreadable_CC : (p : Plan) → HasRecord standard_table (two_edges 0xCC) p → ⊥
unfolding same
unreadable_CC p = none 0xCC p refl

pub unreadable_C9 : (p : Plan) → HasRecord standard_table (two_edges 0xC9) p → ⊥
unfolding same
unreadable_C9 p = none 0xC9 p refl

-- ---- so reading answers 13

pub refuses_CC : Holds (on_reading (two_edges 0xCC) 13)
unfolding head_refusal head_refusals first_refusal word16 elem is_family stores_outside is_kind family head_length payload_length record_length
refuses_CC = unreadable_refused (two_edges 0xCC) refl unreadable_CC

pub refuses_C9 : Holds (on_reading (two_edges 0xC9) 13)
unfolding head_refusal head_refusals first_refusal word16 elem is_family stores_outside is_kind family head_length payload_length record_length
refuses_C9 = unreadable_refused (two_edges 0xC9) refl unreadable_C9
