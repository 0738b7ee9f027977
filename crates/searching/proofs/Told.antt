-- What the answer of a search tells.
--
--   told_broken          the bytes are not records end to end
--   told_there           they are, these are the number of the first equal record and the comparisons, and the record is there
--   told_missing         they are, these are the same two, and the record is not there
use mathlib.Core.Path.{◌≡◌, refl}
use mathlib.Core.Bool.{Bool, true, false, cond}
use mathlib.Core.List.{List}
use Prim.Native.Nat.{ℕ}
use lib.Dec.{eqb}
use lib.ListN.{length}
use Rattle.searching.specs.declared.Searched.{Searched}
use Rattle.searching.specs.declared.Searched.TheVariants.{There, Missing}
use Rattle.std.specs.Prelude.{Option, Some, None}
use Rattle.model.specs.Shelf.{records_in, end_to_end, first_equal, compared}
use Rattle.searching.specs.Search.{search_in, search_of}

-- by the two tests that it is made by
module _ (k d : ℕ) where
  abbrev made : Bool → Bool → Option Searched
  made a b = cond a (Some (cond b (Missing k d) (There k d))) None

  if_broken : (a b : Bool) → None ≡ made a b → a ≡ false
  if_broken true true e = cc e
  if_broken true false e = cc e
  if_broken false b e = refl

  if_there : (a b : Bool) (n c : ℕ) → Some (There n c) ≡ made a b → (a ≡ true) × (n ≡ k) × (c ≡ d) × (b ≡ false)
  if_there true true n c e = (refl, cc e, cc e, cc e)
  if_there true false n c e = (refl, cc e, cc e, refl)
  if_there false b n c e = (cc e, cc e, cc e, cc e)

  if_missing : (a b : Bool) (n c : ℕ) → Some (Missing n c) ≡ made a b → (a ≡ true) × (n ≡ k) × (c ≡ d) × (b ≡ true)
  if_missing true true n c e = (refl, cc e, cc e, refl)
  if_missing true false n c e = (refl, cc e, cc e, cc e)
  if_missing false b n c e = (cc e, cc e, cc e, cc e)

module _ (r bs : List ℕ) where
  abbrev rs : List (List ℕ)
  rs = records_in bs

  abbrev is_new : Bool
  is_new = eqb (first_equal r rs) (length rs)

  pub told_broken : None ≡ search_of r bs → end_to_end bs ≡ false
  unfolding search_of search_in
  told_broken = if_broken (first_equal r rs) (compared r rs) (end_to_end bs) is_new

  pub told_there : (n c : ℕ) → Some (There n c) ≡ search_of r bs → (end_to_end bs ≡ true) × (n ≡ first_equal r rs) × (c ≡ compared r rs) × (is_new ≡ false)
  unfolding search_of search_in
  told_there = if_there (first_equal r rs) (compared r rs) (end_to_end bs) is_new

  pub told_missing : (n c : ℕ) → Some (Missing n c) ≡ search_of r bs → (end_to_end bs ≡ true) × (n ≡ first_equal r rs) × (c ≡ compared r rs) × (is_new ≡ true)
  unfolding search_of search_in
  told_missing = if_missing (first_equal r rs) (compared r rs) (end_to_end bs) is_new
