-- The refusals of the shelf, way by way, at plain values: s is the shelf, u its used length.
--
--   count_over, count_part       how many records there are
--   fetch_broken, fetch_past, fetch_fine      14, 15, or none in fetching
--   fetch_none                   where none holds in fetching: the shelf is fine, and holds the record
--   count_broken, count_records  what a count tells
use mathlib.Core.Path.{◌≡◌, refl, ◌∙◌}
use mathlib.Core.Bool.{Bool, true, false, not, cond}
use mathlib.Core.List.{List}
use Prim.Native.Nat.{ℕ, ◌≤◌, ◌<◌}
use native.Mathlib.Omega.{arith}
use lib.ListN.{length, take}
use borrow.Author.Tests.{lt-ltb, le-ltb, ltb-true, not-false}
use Rattle.std.specs.Prelude.{Option, Some, None}
use Rattle.model.specs.Numbers.{first_refusal}
use Rattle.model.specs.Shelf.{records_in, end_to_end, shelf_refused}
use Rattle.model.specs.Calls.{fetch_refusal}
use Rattle.model.proofs.Refusals.{none_holds}
use Rattle.records.specs.Count.{count_of}
use Rattle.shelf.specs.Count.{shelf_count}

module _ (s : List ℕ) (u : ℕ) where
  pub count_over : length s < u → None ≡ shelf_count s u
  unfolding shelf_count shelf_refused
  count_over h = rw (lt-ltb _ _ h)

  pub count_part : u ≤ length s → (x : Option ℕ) → x ≡ count_of (take u s) → x ≡ shelf_count s u
  unfolding shelf_count shelf_refused count_of
  count_part h x e = e ∙ rw (le-ltb _ _ h) (go (end_to_end (take u s)))
    where
      go : (b : Bool) → cond b (Some (length (records_in (take u s)))) None ≡ cond (not b) None (Some (length (records_in (take u s))))
      go true = refl
      go false = refl

  pub count_broken : None ≡ shelf_count s u → shelf_refused s u ≡ true
  unfolding shelf_count
  count_broken = go (shelf_refused s u)
    where
      go : (b : Bool) → None ≡ cond b None (Some (length (records_in (take u s)))) → b ≡ true
      go true e = refl
      go false e = cc e

  module _ (k : ℕ) (e : Some k ≡ shelf_count s u) where
    pub count_records : (shelf_refused s u ≡ false) × (k ≡ length (records_in (take u s)))
    unfolding shelf_count
    count_records = go (shelf_refused s u) e
      where
        go : (b : Bool) → Some k ≡ cond b None (Some (length (records_in (take u s)))) → (b ≡ false) × (k ≡ length (records_in (take u s)))
        go true e = (cc e, cc e)
        go false e = (refl, cc e)

  module _ (n : ℕ) where
    -- where none holds
    pub fetch_none : fetch_refusal s u n ≡ 0 → (shelf_refused s u ≡ false) × (n < length (records_in (take u s)))
    unfolding fetch_refusal
    fetch_none e = let no = none_holds _ refl e in (no 14, ltb-true _ _ (not-false _ (no 15)))

    pub fetch_broken : None ≡ shelf_count s u → 14 ≡ fetch_refusal s u n
    unfolding fetch_refusal first_refusal
    fetch_broken e = rw (count_broken e)

    pub fetch_past : (k : ℕ) → Some k ≡ shelf_count s u → k ≤ n → 15 ≡ fetch_refusal s u n
    unfolding fetch_refusal first_refusal
    fetch_past k e h = let c = count_records k e in rw (c.0, le-ltb n (length (records_in (take u s))) (omega arith))

    pub fetch_fine : (k : ℕ) → Some k ≡ shelf_count s u → n < k → 0 ≡ fetch_refusal s u n
    unfolding fetch_refusal first_refusal
    fetch_fine k e h = let c = count_records k e in rw (c.0, lt-ltb n (length (records_in (take u s))) (omega arith))
