-- Shelving at plain values: r is the record, s the shelf, u its used length.
--
--   asked_none, asked_some   what an Option tells for which a refusal is said where it is none
--   spot_over, spot_broken, spot_there, spot_full, spot_new    the spot of a record, way by way
--   placed_refused, placed_there, placed_new    the answer and the shelf, by the spot
--   new_fits              a new record has room
--   put_turn, put_ends    the loop that puts a record into the shelf
use mathlib.Core.Path.{◌≡◌, refl, sym, ap, ◌∙◌}
use mathlib.Core.Bool.{Bool, true, false, not, cond}
use mathlib.Core.List.{List, ◌++◌, append_assoc}
use Prim.Native.Nat.{ℕ, ◌+◌, ◌-◌, ◌≤◌, ◌<◌}
use native.Mathlib.Omega.{arith}
use lib.Dec.{eqb}
use lib.IntN.{pos}
use native.Mathlib.Numerals.{add-one}
use lib.ListN.{length, get_or, set, take, drop}
use lib.Seq.{paste, paste-suc, take-length, drop-drop}
use borrow.Author.Tests.{lt-ltb, le-ltb, eqb-true}
use Rattle.std.specs.Prelude.{Option, Some, None, ok_or, Result, Ok, Err}
use Rattle.model.specs.declared.Refusal.{Refusal}
use Rattle.model.specs.declared.Refusal.TheVariants.{ShelfBroken, ShelfFull}
use Rattle.model.specs.Refusals.{numbered}
use Rattle.searching.specs.declared.Searched.{Searched}
use Rattle.searching.specs.declared.Searched.TheVariants as searched
use Rattle.searching.specs.Search.{search_of}
use Rattle.searching.proofs.Told.{told_broken, told_there, told_missing}
use Rattle.model.specs.declared.Shelved.{Shelved}
use Rattle.placing.specs.declared.Spot.{Spot}
use Rattle.placing.specs.declared.Spot.TheVariants.{There, New}
use Rattle.model.specs.Numbers.{first_refusal}
use Rattle.model.specs.Shelf.{records_in, end_to_end, first_equal, shelf_refused}
use Rattle.model.specs.Calls.{front, shelve_refusal, shelve_answer, shelved_bytes}
use Rattle.placing.specs.Spot.{spot_of}
use Rattle.shelf.proofs.Walking.{used_fine}
use Rattle.placing.proofs.Refusals.{shelve_none}

-- ---- a value, or a refusal in its place

module _ {A : Type 0} (e : Refusal) where
  pub asked_none : (o : Option A) (x : Refusal) → Err x ≡ ok_or o e → (None ≡ o) × (x ≡ e)
  asked_none (Some a) x h = (cc h, cc h)
  asked_none None x h = (refl, cc h)

  pub asked_some : (o : Option A) (a : A) → Ok a ≡ ok_or o e → Some a ≡ o
  asked_some (Some b) a h = cc h
  asked_some None a h = cc h

module _ (r s : List ℕ) (u : ℕ) where
  pub spot_over : length s < u → Err ShelfBroken ≡ spot_of r s u
  unfolding spot_of shelve_refusal first_refusal shelf_refused numbered
  spot_over h = rw (lt-ltb (length s) u h)

  module _ (h : u ≤ length s) where
    abbrev answer : Option Searched
    answer = search_of r (take u s)

    -- 14, by the search
    fourteen : (b : Bool) → end_to_end (take u s) ≡ b → shelf_refused s u ≡ not b
    unfolding shelf_refused
    fourteen b e = rw (le-ltb (length s) u h, e)

    pub spot_broken : None ≡ answer → Err ShelfBroken ≡ spot_of r s u
    unfolding spot_of shelve_refusal first_refusal numbered
    spot_broken e = rw (fourteen false (told_broken r _ e))

    module _ (n c : ℕ) where
      pub spot_there : Some (searched.There n c) ≡ answer → Ok (There n) ≡ spot_of r s u
      unfolding spot_of shelve_refusal first_refusal numbered
      spot_there e = let t = told_there r _ n c e in rw (fourteen true t.0, t.3, t.1)

      module _ (e : Some (searched.Missing n c) ≡ answer) where
        pub spot_full : length s - u < length r → Err ShelfFull ≡ spot_of r s u
        unfolding spot_of shelve_refusal first_refusal numbered
        spot_full l = let t = told_missing r _ n c e in rw (fourteen true t.0, t.3, lt-ltb (length s - u) (length r) l)

        pub spot_new : length r ≤ length s - u → Ok (New n) ≡ spot_of r s u
        unfolding spot_of shelve_refusal first_refusal numbered
        spot_new l =
            let t = told_missing r _ n c e in
            rw (fourteen true t.0, t.3, le-ltb (length s - u) (length r) l, t.1)

-- ---- shelving, by the spot

-- what a spot tells of the two tests that it is made by
module _ (n : ℕ) (x : Refusal) where
  abbrev made : Bool → Bool → Result Spot Refusal
  made a b = cond a (Ok (cond b (New n) (There n))) (Err x)

  there_tells : (a b : Bool) (k : ℕ) → Ok (There k) ≡ made a b → (a ≡ true) × (b ≡ false) × (k ≡ n)
  there_tells true true k e = (cc e, cc e, cc e)
  there_tells true false k e = (refl, refl, cc e)
  there_tells false b k e = (cc e, cc e, cc e)

  new_tells : (a b : Bool) (k : ℕ) → Ok (New k) ≡ made a b → (a ≡ true) × (b ≡ true) × (k ≡ n)
  new_tells true true k e = (refl, refl, cc e)
  new_tells true false k e = (cc e, cc e, cc e)
  new_tells false b k e = (cc e, cc e, cc e)

  refused_tells : (a b : Bool) (y : Refusal) → Err y ≡ made a b → (a ≡ false) × (y ≡ x)
  refused_tells true true y e = (cc e, cc e)
  refused_tells true false y e = (cc e, cc e)
  refused_tells false b y e = (refl, cc e)

module _ (r s : List ℕ) (u : ℕ) where
  abbrev number : ℕ
  number = first_equal r (records_in (take u s))

  abbrev refusal : Refusal
  refusal = numbered (shelve_refusal r s u) (pos 0)

  abbrev Placed : Result Shelved Refusal → List ℕ → Type 0
  Placed a s' = (a ≡ shelve_answer r s u) × (s' ≡ shelved_bytes r s u)

  pub placed_refused : (x : Refusal) → Err x ≡ spot_of r s u → Placed (Err x) s
  unfolding spot_of shelve_answer shelved_bytes
  placed_refused x e =
      let q = refused_tells number refusal (eqb (shelve_refusal r s u) 0) (eqb number (length (records_in (take u s)))) _ e in
      (rw (q.0, q.1), rw q.0)

  pub placed_there : (n : ℕ) → Ok (There n) ≡ spot_of r s u → Placed (Ok (record { number = n; used = u })) s
  unfolding spot_of shelve_answer shelved_bytes
  placed_there n e =
      let q = there_tells number refusal (eqb (shelve_refusal r s u) 0) (eqb number (length (records_in (take u s)))) _ e in
      (rw (q.0, q.1, q.2), rw (q.0, q.1))

  module _ (n : ℕ) (e : Ok (New n) ≡ spot_of r s u) where
    is_new_lem : (eqb (shelve_refusal r s u) 0 ≡ true) × (eqb number (length (records_in (take u s))) ≡ true) × (n ≡ number)
    unfolding spot_of
    is_new_lem =
        new_tells number refusal (eqb (shelve_refusal r s u) 0) (eqb number (length (records_in (take u s)))) _ e

    pub placed_new : (s' : List ℕ) → s' ≡ take u s ++ front r (drop u s) → Placed (Ok (record { number = n; used = u + length r })) s'
    unfolding shelve_answer shelved_bytes
    placed_new s' p = let q = is_new_lem in (rw (q.0, q.1, q.2), p ∙ rw (q.0, q.1))

    pub new_fits : u + length r ≤ length s
    new_fits =
        let q = is_new_lem in
        let (fine, room) = shelve_none r s u (eqb-true _ 0 q.0) in
        let f = used_fine s u fine in
        let l = room q.1 in
        omega arith

-- ---- putting

module _ (d : List ℕ) (at : ℕ) (r : List ℕ) where
  pub put_turn : (s : List ℕ) (i : ℕ) → s ≡ paste d at r i → at + i < length d → i < length r → set s (at + i) (get_or r i 0) ≡ paste d at r (i + 1)
  put_turn s i e h k = ap (λ (l : List ℕ). set l (at + i) (get_or r i 0)) e ∙ (paste-suc d at r i 0 h k ∙ rw (sym (add-one i)))

  pub put_ends : (s : List ℕ) (i : ℕ) → i ≡ length r → s ≡ paste d at r i → s ≡ take at d ++ front r (drop at d)
  unfolding front
  put_ends s i e p =
      p ∙ (ap (paste d at r) e ∙ (ap (λ (x : List ℕ). take at d ++ x ++ drop (at + length r) d) (take-length r)
      ∙ (append_assoc (take at d) r (drop (at + length r) d) ∙ ap (λ (x : List ℕ). take at d ++ (r ++ x)) (sym (drop-drop (length r) at d)))))
