-- The search for the record r, at plain values: one turn of its loop. `at` is the place that the loop has come to, n how many records it has passed, c how many
-- of them it compared.
--
--   further n c x             what a search gives, n records and c comparisons on
--   past_broken, past_whole   the bytes past an equal record
--   part_length               the record that stands at a place, as the code lends it
--   search_begins             the whole search is left
--   search_stops              no record stands here
--   search_passes             a record of another length
--   search_goes_on            another record of this length
--   search_finds              the equal one
--   search_ends               nothing is left
use mathlib.Core.Path.{◌≡◌, refl, sym, ap, ◌∙◌}
use mathlib.Core.Bool.{Bool, true, false, cond}
use mathlib.Core.List.{List, ◌∷◌}
use Prim.Native.Nat.{ℕ, suc, ◌+◌, ◌-◌, ◌<◌}
use native.Mathlib.Nat.{zero-add, add-zero}
use native.Mathlib.Omega.{arith}
use lib.Dec.{eqb}
use lib.ListN.{length, take, drop, length-drop}
use lib.Seq.{drop-length, take-length}
use borrow.Author.Tests.{eq-eqb, ne_eqb, eqb-true, eqb-false}
use Rattle.searching.specs.declared.Searched.{Searched}
use Rattle.searching.specs.declared.Searched.TheVariants.{There, Missing}
use Rattle.std.specs.Prelude.{Option, Some, None}
use Rattle.model.specs.Numbers.{tick}
use Rattle.model.specs.Shelf.{passes, all_pass, records_in, end_to_end, same, first_equal, met, as_long, compared}
use Rattle.model.specs.ShelfWalk.{first_record, record_at}
use Rattle.searching.specs.Search.{search_in, search_of}
use Rattle.records.specs.Count.{count_of}
use Rattle.records.proofs.Stands.{record_is, passes_here, part_is}
use Rattle.records.proofs.Cut.{rest, cut_verdict, cut_records, end_nil}
use Rattle.records.proofs.Turn.{rest_here, broken_here}
use Rattle.model.proofs.Same.{same_eq}
use Rattle.searching.proofs.Equality.{same_unlike}

abbrev pub further : ℕ → ℕ → Option Searched → Option Searched
further n c (Some (There k d)) = Some (There (n + k) (c + d))
further n c (Some (Missing k d)) = Some (Missing (n + k) (c + d))
further n c None = None

-- ---- the bytes past an equal record

module _ (bs : List ℕ) (n c : ℕ) where
  abbrev Past : Bool → Option Searched
  Past b = cond b (Some (There n c)) None

  pub past_broken : None ≡ count_of bs → None ≡ Past (end_to_end bs)
  unfolding count_of
  past_broken = go (end_to_end bs)
    where
      go : (b : Bool) → None ≡ cond b (Some (length (records_in bs))) None → None ≡ Past b
      go true e = cc e
      go false e = refl

  pub past_whole : (k : ℕ) → Some k ≡ count_of bs → Some (There n c) ≡ Past (end_to_end bs)
  unfolding count_of
  past_whole k = go (end_to_end bs)
    where
      go : (b : Bool) → Some k ≡ cond b (Some (length (records_in bs))) None → Some (There n c) ≡ Past b
      go true e = refl
      go false e = cc e

-- ---- among records

-- what is made of the number k of the first equal record, of d comparisons, and of the number l of all records
abbrev made : ℕ → ℕ → ℕ → Option Searched
made k d l = Some (cond (eqb k l) (Missing k d) (There k d))

module _ (k d l n c t : ℕ) where
  one_further : n + suc k ≡ n + 1 + k
  one_further = omega arith

  so_many_further : c + (t + d) ≡ c + t + d
  so_many_further = omega arith

  made_next : further n c (made (suc k) (t + d) (suc l)) ≡ further (n + 1) (c + t) (made k d l)
  made_next = go (eqb k l) refl
    where
      go : (b : Bool) → eqb k l ≡ b → further n c (made (suc k) (t + d) (suc l)) ≡ further (n + 1) (c + t) (Some (cond b (Missing k d) (There k d)))
      go true e = rw (eq-eqb (suc k) (suc l) (ap suc (eqb-true k l e)), one_further, so_many_further)
      go false e = rw (ne_eqb (suc k) (suc l) (λ s. eqb-false k l e (omega arith)), one_further, so_many_further)

module _ (r s : List ℕ) (ss : List (List ℕ)) where
  compared_next : (t : ℕ) → same r s ≡ false → tick (eqb (length s) (length r)) 0 ≡ t → compared r (s ∷ ss) ≡ t + compared r ss
  unfolding compared met as_long first_equal
  compared_next t e x = rw e (go (eqb (length s) (length r)) x)
    where
      go : (b : Bool) → tick b 0 ≡ t → tick b (as_long (length r) (take (suc (first_equal r ss)) ss)) ≡ t + as_long (length r) (take (suc (first_equal r ss)) ss)
      go true z = omega arith
      go false z = omega arith

  -- the next record is another one: t is 1 if it is as long, else 0
  in_next : (t : ℕ) → same r s ≡ false → tick (eqb (length s) (length r)) 0 ≡ t → (n c : ℕ)
      → further n c (Some (search_in r (s ∷ ss))) ≡ further (n + 1) (c + t) (Some (search_in r ss))
  unfolding search_in first_equal
  in_next t e x n c = rw (compared_next t e x, e) (made_next (first_equal r ss) (compared r ss) (length ss) n c t)

  in_equal : same r s ≡ true → search_in r (s ∷ ss) ≡ There 0 1
  unfolding search_in compared met as_long first_equal
  in_equal e = rw (e, eq-eqb (length s) (length r) (sym (ap length (same_eq r s e))), ne_eqb 0 (suc (length ss)) (λ z. omega arith))

-- ---- among bytes that begin with a record

module _ (r bs : List ℕ) (p : passes (first_record bs) ≡ true) where
  of_next : (t : ℕ) → same r (first_record bs) ≡ false → tick (eqb (length (first_record bs)) (length r)) 0 ≡ t → (n c : ℕ)
      → further n c (search_of r bs) ≡ further (n + 1) (c + t) (search_of r (rest bs))
  unfolding search_of
  of_next t e x n c = rw (cut_verdict bs p) (go (end_to_end (rest bs)) refl)
    where
      go : (b : Bool) → end_to_end (rest bs) ≡ b
          → further n c (cond b (Some (search_in r (records_in bs))) None) ≡ further (n + 1) (c + t) (cond b (Some (search_in r (records_in (rest bs)))) None)
      go true z = rw (cut_records bs p z) (in_next r (first_record bs) (records_in (rest bs)) t e x n c)
      go false z = refl

  of_equal : same r (first_record bs) ≡ true → (n c : ℕ) → further n c (search_of r bs) ≡ cond (end_to_end (rest bs)) (Some (There n (c + 1))) None
  unfolding search_of
  of_equal e n c = rw (cut_verdict bs p) (go (end_to_end (rest bs)) refl)
    where
      go : (b : Bool) → end_to_end (rest bs) ≡ b → further n c (cond b (Some (search_in r (records_in bs))) None) ≡ cond b (Some (There n (c + 1))) None
      go true z = rw (cut_records bs p z, in_equal r (first_record bs) (records_in (rest bs)) e, add-zero n)
      go false z = refl

-- ---- the record that stands at a place, l bytes long

module _ (bs : List ℕ) (at l : ℕ) (l-is : l ≡ length (record_at bs at)) (d : l ≡ 0 → ⊥) where
  first_length : length (first_record (drop at bs)) ≡ l
  first_length = sym (l-is ∙ ap length (record_is bs at (passes_here bs at l l-is d)))

  -- as the code lends it
  part : take (at + l - at) (drop at bs) ≡ first_record (drop at bs)
  part = part_is bs at l l-is d ∙ record_is bs at (passes_here bs at l l-is d)

  pub part_length : length (take (at + l - at) (drop at bs)) ≡ l
  part_length = ap length part ∙ first_length

-- the bytes from a place on, as the code lends them
take_rest : (bs : List ℕ) (k : ℕ) → take (length bs - k) (drop k bs) ≡ drop k bs
take_rest bs k = ap (λ (x : ℕ). take x (drop k bs)) (sym (length-drop k bs)) ∙ take-length (drop k bs)

-- ---- a turn

module _ (r bs : List ℕ) (at n c l : ℕ) (l-is : l ≡ length (record_at bs at)) where
  abbrev Left : ℕ → ℕ → ℕ → Option Searched
  Left at n c = further n c (search_of r (drop at bs))

  pub search_stops : l ≡ 0 → at < length bs → Left at n c ≡ None
  unfolding search_of
  search_stops e h = rw (broken_here bs at l l-is e h)

  module _ (d : l ≡ 0 → ⊥) where
    next : (t : ℕ) → same r (first_record (drop at bs)) ≡ false → tick (eqb l (length r)) 0 ≡ t → Left at n c ≡ Left (at + l) (n + 1) (c + t)
    next t e x =
        of_next r (drop at bs) (passes_here bs at l l-is d) t e (ap (λ (k : ℕ). tick (eqb k (length r)) 0) (first_length bs at l l-is d) ∙ x) n c
        ∙ ap (λ (xs : List ℕ). further (n + 1) (c + t) (search_of r xs)) (rest_here bs at l l-is d)

    -- a record of another length
    pub search_passes : (l ≡ length r → ⊥) → (c' : ℕ) → c' ≡ c → Left at n c ≡ Left (at + l) (n + 1) c'
    search_passes u c' z =
        next 0 (same_unlike r _ (λ e. u (sym (e ∙ first_length bs at l l-is d)))) (rw (ne_eqb l (length r) u))
        ∙ ap (Left (at + l) (n + 1)) (add-zero c ∙ sym z)

    -- another record of this length
    pub search_goes_on : l ≡ length r → same r (take (at + l - at) (drop at bs)) ≡ false → (c' : ℕ) → c' ≡ c + 1 → Left at n c ≡ Left (at + l) (n + 1) c'
    search_goes_on u e c' z =
        next 1 (sym (ap (same r) (part bs at l l-is d)) ∙ e) (rw (eq-eqb l (length r) u)) ∙ ap (Left (at + l) (n + 1)) (sym z)

    -- the equal one
    pub search_finds : same r (take (at + l - at) (drop at bs)) ≡ true
        → Left at n c ≡ cond (end_to_end (take (length bs - (at + l)) (drop (at + l) bs))) (Some (There n (c + 1))) None
    search_finds e =
        of_equal r (drop at bs) (passes_here bs at l l-is d) (sym (ap (same r) (part bs at l l-is d)) ∙ e) n c
        ∙ ap (λ (xs : List ℕ). cond (end_to_end xs) (Some (There n (c + 1))) None) (rest_here bs at l l-is d ∙ sym (take_rest bs (at + l)))

pub search_begins : (r bs : List ℕ) → further 0 0 (search_of r bs) ≡ search_of r bs
search_begins r bs = go (search_of r bs)
  where
    go : (x : Option Searched) → further 0 0 x ≡ x
    go (Some (There k d)) = rw (zero-add k, zero-add d)
    go (Some (Missing k d)) = rw (zero-add k, zero-add d)
    go None = refl

pub search_ends : (r bs : List ℕ) (at n c : ℕ) → at ≡ length bs → further n c (search_of r (drop at bs)) ≡ Some (Missing n c)
unfolding search_of search_in end_to_end all_pass first_equal compared met as_long
search_ends r bs at n c e = rw (e, drop-length bs, end_nil, add-zero n, add-zero c)
