-- What shelving and fetching promise together. r is the record, s and u the shelf and its used length before, s' and u' after.
--
--   records, unlike       the records on a shelf, and the test that a record is none of them
--   Accepted, accepted    what an accepted shelving says of the records before and after
--   fetched_back          what was shelved is fetched back under its number
--   earlier_kept          shelving changes no earlier record's number or bytes
--   again, again_same     a second shelving of the same bytes, read with room under this table or another, gives the same number and changes nothing
--   refused_kept          a refused shelving changes nothing
--   shelves_one           shelving is determined: what it answers, and the shelf after it
--   Step, step            a call on a fine shelf leaves it as it is, or puts one record of a fit plan behind the others
use mathlib.Core.Path.{◌≡◌, refl, sym, ap, ◌∙◌}
use mathlib.Core.Bool.{Bool, true, false, ◌&&◌, cond, true≢false}
use mathlib.Core.List.{List, [], ◌∷◌, ◌++◌}
use Prim.Native.Nat.{ℕ, ◌+◌, ◌*◌, ◌≤◌, ◌<◌}
use native.Mathlib.Omega.{arith}
use lib.IntN.{pos}
use lib.Dec.{eqb}
use lib.ListN.{length, get_or, take, drop, length-append, get_or-append}
use lib.Seq.{length-take-le, take-append-add, take-append_seam}
use borrow.Author.Tests.{lt-ltb, le-ltb, eq-eqb, ne_eqb, eqb-true, eqb-false}
use Rattle.model.specs.declared.Table.{Table}
use Rattle.model.specs.declared.Shelved.{Shelved}
use Rattle.std.specs.Prelude.{Result, Ok, Err}
use Rattle.model.specs.declared.Refusal.{Refusal}
use Rattle.model.specs.Refusals.{numbered}
use Rattle.model.specs.Numbers.{first_refusal}
use Rattle.model.specs.Map.{Plan}
use Rattle.model.specs.Shelf.{edges_of, passes, records_in, end_to_end, first_equal, shelf_refused}
use Rattle.model.specs.Calls.{front, table_refused, record_refusal, HasRecord, shelve_refusal, shelve_answer, shelved_bytes, Shelves, unread, planless, readable, Stored, record_number_of_shelved, used_of_shelved}
use Rattle.model.specs.Calls.{fetch_refusal, fetched, Fetched}
use Rattle.model.proofs.Heads.{passes_long}
use Rattle.model.proofs.Reading.{record_clear, clear_record}
use Rattle.shelf.proofs.Refusals.{fetch_none}
use Rattle.shelf.proofs.Walking.{used_fine}
use Rattle.placing.proofs.Refusals.{shelve_none}
use Rattle.shelf_laws.proofs.Laid.{one_more}
use Rattle.shelf_laws.proofs.Number.{first_bound, first_there, first_behind}

-- the records on the shelf s with used length u
abbrev pub records : List ℕ → ℕ → List (List ℕ)
records s u = records_in (take u s)

-- none of them is equal to r
abbrev pub unlike : List ℕ → List ℕ → ℕ → Bool
unlike r s u = eqb (first_equal r (records s u)) (length (records s u))

-- ---- fetching, by the records

pub fetch_refusal_zero : (s : List ℕ) (u n : ℕ) → shelf_refused s u ≡ false → n < length (records s u) → fetch_refusal s u n ≡ 0
unfolding fetch_refusal first_refusal
fetch_refusal_zero s u n e h = rw (e, lt-ltb _ _ h)

pub fetched_record : (s : List ℕ) (u n : ℕ) → shelf_refused s u ≡ false → n < length (records s u) → fetched s u n ≡ get_or (records s u) n []
unfolding fetched
fetched_record s u n e h = rw (eq-eqb (fetch_refusal s u n) 0 (fetch_refusal_zero s u n e h))

-- ---- an accepted shelving

pub record Accepted (r s : List ℕ) (u n u' : ℕ) (s' : List ℕ) : Type 0 where
  pub head_fine : passes r ≡ true
  pub after_fine : shelf_refused s' u' ≡ false
  pub number_first : first_equal r (records s' u') ≡ n
  pub number_there : n < length (records s' u')
  pub earlier : (k : ℕ) → k < length (records s u)
      → (k < length (records s' u')) × (get_or (records s' u') k [] ≡ get_or (records s u) k [])

-- nothing was stored: the record is there
module _ (r s : List ℕ) (u : ℕ) (passed : passes r ≡ true) (e : shelve_refusal r s u ≡ 0) (d : unlike r s u ≡ false) where
  found : Accepted r s u (first_equal r (records s u)) u s
  found =
      let (fine, room) = shelve_none r s u e in
      let b = first_bound r (records s u) in
      let n = eqb-false _ _ d in
      record {
        head_fine = passed;
        after_fine = fine;
        number_first = refl;
        number_there = lt_of_ne _ _ b n;
        earlier = λ k h. (h, refl);
      }
    where
      lt_of_ne : (a b : ℕ) → a ≤ b → (a ≡ b → ⊥) → a < b
      lt_of_ne a b h n = omega arith

-- the record was put just past the used bytes
module _ (r s : List ℕ) (u : ℕ) (passed : passes r ≡ true) (e : shelve_refusal r s u ≡ 0) (d : unlike r s u ≡ true) where
  abbrev after : List ℕ
  after = take u s ++ front r (drop u s)

  room : (u ≤ length s) × (u + length r ≤ length s)
  room =
      let (fine, space) = shelve_none r s u e in
      let f = used_fine s u fine in
      let l = space d in
      (f.0, omega arith)

  used_after : take (u + length r) after ≡ take u s ++ r
  unfolding front
  used_after =
      let l = length-take-le u s room.0 in
      ap (λ (k : ℕ). take (k + length r) after) (sym l)
      ∙ (take-append-add (take u s) (r ++ drop (length r) (drop u s)) (length r)
      ∙ ap (λ (x : List ℕ). take u s ++ x) (take-append_seam r (drop (length r) (drop u s))))

  behind : (end_to_end (take (u + length r) after) ≡ true) × (records_in (take (u + length r) after) ≡ records s u ++ (r ∷ []))
  behind =
      let m = one_more (take u s) r (used_fine s u (shelve_none r s u e).0).1 passed in
      (ap end_to_end used_after ∙ m.0, ap records_in used_after ∙ m.1)

  length_after : u + length r ≤ length after
  unfolding front
  length_after =
      let l = length-take-le u s room.0 in
      let a = length-append (take u s) (r ++ drop (length r) (drop u s)) in
      let b = length-append r (drop (length r) (drop u s)) in
      omega arith

  all_unlike : first_equal r (records s u) ≡ length (records s u)
  all_unlike = eqb-true _ _ d

  stored : Accepted r s u (first_equal r (records s u)) (u + length r) after
  unfolding shelf_refused
  stored =
      let l = ap length behind.1 ∙ length-append (records s u) (r ∷ []) in
      let n = all_unlike in
      record {
        head_fine = passed;
        after_fine = rw (le-ltb _ _ length_after, behind.0);
        number_first = ap (first_equal r) behind.1 ∙ (first_behind r (records s u) n ∙ sym n);
        number_there = omega arith;
        earlier = λ k h. (omega arith, ap (λ (rs : List (List ℕ)). get_or rs k []) behind.1 ∙ get_or-append (records s u) (r ∷ []) [] k h);
      }

-- the answer that gives record n and the used length u
abbrev At : ℕ → ℕ → Result Shelved Refusal
At n u = Ok (record { number = n; used = u })

not_both : (n u : ℕ) (x : Refusal) → At n u ≡ Err x → ⊥
not_both n u x e = let z : true ≡ false = cc e in true≢false z

-- a call that gave a number read the record, and placed it
module _ (t : Table) (r : List ℕ) (w : ℕ) (s : List ℕ) (u n u' : ℕ) (s' : List ℕ) where
  pub placed : Shelves t r w s u (At n u') s'
      → (record_refusal t r w ≡ 0) × ((p : Plan) × HasRecord t r p) × (At n u' ≡ shelve_answer r s u) × (s' ≡ shelved_bytes r s u)
  placed (unread d e f) = absurd (not_both n u' _ e)
  placed (planless z never e f) = absurd (not_both n u' _ e)
  placed (readable z p has e f) = (z, (p, has), e, f)

pub accepted : (t : Table) (r w s : List ℕ) (u n u' : ℕ) (w' s' : List ℕ) → Stored t r w s u (At n u') w' s' → Accepted r s u n u' s'
unfolding shelve_answer shelved_bytes
accepted t r w s u n u' w' s' c =
    let (none, has, answer, bytes) = placed t r (length w) s u n u' s' c.outcome in
    go (record_clear t r (length w) none).passed (eqb (shelve_refusal r s u) 0) (unlike r s u) refl refl answer bytes
  where
    go : passes r ≡ true → (a b : Bool) → eqb (shelve_refusal r s u) 0 ≡ a → unlike r s u ≡ b
        → At n u' ≡ cond a (At (first_equal r (records s u)) (cond b (u + length r) u)) (Err (numbered (shelve_refusal r s u) (pos 0)))
        → s' ≡ cond (a && b) (take u s ++ front r (drop u s)) s → Accepted r s u n u' s'
    go passed true true p q e f =
        let n_is : n ≡ first_equal r (records s u) = ap record_number_of_shelved e in
        let u_is : u' ≡ u + length r = ap (used_of_shelved 0) e in
        rw (n_is, u_is, f) (stored r s u passed (eqb-true _ _ p) q)
    go passed true false p q e f =
        let n_is : n ≡ first_equal r (records s u) = ap record_number_of_shelved e in
        let u_is : u' ≡ u = ap (used_of_shelved 0) e in
        rw (n_is, u_is, f) (found r s u passed (eqb-true _ _ p) q)
    go passed false b p q e f = absurd (not_both n u' _ e)

-- ---- the theorems

module _ (t : Table) (r w s : List ℕ) (u n u' : ℕ) (w' s' : List ℕ) (c : Stored t r w s u (At n u') w' s') where
  here : Accepted r s u n u' s'
  here = accepted t r w s u n u' w' s' c

  -- what was shelved is fetched back under its number
  pub fetched_back : (part : List ℕ) (number : ℕ) → Fetched s' u' n part number → (part ≡ r) × (number ≡ 0)
  fetched_back part number f =
      let a = here in
      let first = a.number_first in
      let r-is = first_there r (records s' u') (lt_as _ _ _ first a.number_there) in (
        f.part_is ∙ (fetched_record s' u' n a.after_fine a.number_there ∙ (ap (λ (k : ℕ). get_or (records s' u') k []) (sym first) ∙ r-is)),
        f.number_is ∙ fetch_refusal_zero s' u' n a.after_fine a.number_there,
      )
    where
      lt_as : (a b l : ℕ) → a ≡ b → b < l → a < l
      lt_as a b l e h = omega arith

  -- no earlier record changes its number or bytes
  pub earlier_kept : (k : ℕ) → fetch_refusal s u k ≡ 0 → (fetch_refusal s' u' k ≡ 0) × (fetched s' u' k ≡ fetched s u k)
  earlier_kept k z =
      let a = here in
      let (fine, there) = fetch_none s u k z in
      let b = a.earlier k there in (
        fetch_refusal_zero s' u' k a.after_fine b.0,
        fetched_record s' u' k a.after_fine b.0 ∙ (b.1 ∙ sym (fetched_record s u k fine there)),
      )

  -- a second shelving of the same bytes, under any table under which a plan has them and with room, gives the same number and used length, and changes nothing
  pub again : (under : Table) → table_refused under ≡ false → (p : Plan) → HasRecord under r p → (v : List ℕ) → 32 * edges_of r ≤ length v
      → (answer : Result Shelved Refusal) (v' s'' : List ℕ) → Stored under r v s' u' answer v' s'' → (answer ≡ At n u') × (s'' ≡ s')
  unfolding shelve_answer shelved_bytes shelve_refusal first_refusal
  again under stands p has v room answer v' s'' d = go d.outcome
    where
      none : record_refusal under r (length v) ≡ 0
      none = clear_record under r (length v) (record { stands = stands; passed = here.head_fine; room = room })

      new : eqb n (length (records s' u')) ≡ false
      new = let there = here.number_there in ne_eqb n (length (records s' u')) (λ e. omega arith)

      go : Shelves under r (length v) s' u' answer s'' → (answer ≡ At n u') × (s'' ≡ s')
      go (unread d e f) = absurd (d none)
      go (planless z never e f) = absurd (never p has)
      go (readable z q h e f) = let a = here in (e ∙ rw (a.after_fine, a.number_first, new), f ∙ rw (a.after_fine, a.number_first, new))

  pub again_same : (v : List ℕ) → 32 * edges_of r ≤ length v → (answer : Result Shelved Refusal) (v' s'' : List ℕ) → Stored t r v s' u' answer v' s''
      → (answer ≡ At n u') × (s'' ≡ s')
  again_same =
      let (none, (p, has), answer, bytes) = placed t r (length w) s u n u' s' c.outcome in
      again t (record_clear t r (length w) none).stands p has

pub refused_kept : (t : Table) (r w s : List ℕ) (u : ℕ) (x : Refusal) (w' s' : List ℕ) → Stored t r w s u (Err x) w' s' → s' ≡ s
unfolding shelve_answer shelved_bytes
refused_kept t r w s u x w' s' c = go c.outcome
  where
    by_shelf : (a b : Bool) → Err x ≡ cond a (At (first_equal r (records s u)) (cond b (u + length r) u)) (Err (numbered (shelve_refusal r s u) (pos 0)))
        → s' ≡ cond (a && b) (take u s ++ front r (drop u s)) s → s' ≡ s
    by_shelf true b e f = absurd (not_both _ _ x (sym e))
    by_shelf false b e f = f

    go : Shelves t r (length w) s u (Err x) s' → s' ≡ s
    go (unread d e f) = f
    go (planless z never e f) = f
    go (readable z p has e f) = by_shelf (eqb (shelve_refusal r s u) 0) (unlike r s u) e f

-- ---- shelving is determined

pub shelves_one : (t : Table) (r : List ℕ) (w : ℕ) (s : List ℕ) (u : ℕ) (a b : Result Shelved Refusal) (s' s'' : List ℕ) → Shelves t r w s u a s' → Shelves t r w s u b s''
    → (a ≡ b) × (s' ≡ s'')
shelves_one t r w s u a b s' s'' (unread d e f) (unread d' e' f') = (e ∙ sym e', f ∙ sym f')
shelves_one t r w s u a b s' s'' (unread d e f) (planless z never e' f') = absurd (d z)
shelves_one t r w s u a b s' s'' (unread d e f) (readable z q g e' f') = absurd (d z)
shelves_one t r w s u a b s' s'' (planless z never e f) (unread d e' f') = absurd (d z)
shelves_one t r w s u a b s' s'' (planless z never e f) (planless z' never' e' f') = (e ∙ sym e', f ∙ sym f')
shelves_one t r w s u a b s' s'' (planless z never e f) (readable z' q g e' f') = absurd (never q g)
shelves_one t r w s u a b s' s'' (readable z p h e f) (unread d e' f') = absurd (d z)
shelves_one t r w s u a b s' s'' (readable z p h e f) (planless z' never e' f') = absurd (never p h)
shelves_one t r w s u a b s' s'' (readable z p h e f) (readable z' q g e' f') = (e ∙ sym e', f ∙ sym f')

-- ---- one call of a history

pub data Step (t : Table) (r s : List ℕ) (u u' : ℕ) (s' : List ℕ) : Type 0 where
  same_shelf : u' ≡ u → s' ≡ s → Step t r s u u' s'
  one_stored : (u' ≡ u → ⊥) → (p : Plan) → HasRecord t r p → shelf_refused s' u' ≡ false → records s' u' ≡ records s u ++ (r ∷ []) → Step t r s u u' s'

pub step : (t : Table) (r w s : List ℕ) (u : ℕ) (a : Result Shelved Refusal) (w' s' : List ℕ) → Stored t r w s u a w' s' → Step t r s u (used_of_shelved u a) s'
unfolding shelve_answer shelved_bytes
step t r w s u a w' s' c = go c.outcome
  where
    by_shelf : passes r ≡ true → (p : Plan) → HasRecord t r p → (y b : Bool) → eqb (shelve_refusal r s u) 0 ≡ y → unlike r s u ≡ b
        → a ≡ cond y (At (first_equal r (records s u)) (cond b (u + length r) u)) (Err (numbered (shelve_refusal r s u) (pos 0)))
        → s' ≡ cond (y && b) (take u s ++ front r (drop u s)) s → Step t r s u (used_of_shelved u a) s'
    by_shelf passed p has true true y b e f =
        let long = passes_long r passed in
        let z = eqb-true (shelve_refusal r s u) 0 y in
        rw (e, f) (one_stored (λ q. omega arith) p has (stored r s u passed z b).after_fine (behind r s u passed z b).1)
    by_shelf passed p has true false y b e f = same_shelf (ap (used_of_shelved u) e) f
    by_shelf passed p has false b y b' e f = same_shelf (ap (used_of_shelved u) e) f

    go : Shelves t r (length w) s u a s' → Step t r s u (used_of_shelved u a) s'
    go (unread d e f) = same_shelf (ap (used_of_shelved u) e) f
    go (planless z never e f) = same_shelf (ap (used_of_shelved u) e) f
    go (readable z p has e f) = by_shelf (record_clear t r (length w) z).passed p has (eqb (shelve_refusal r s u) 0) (unlike r s u) refl refl e f
