-- The record that stands at a place.
--
--   head_whole            bytes that begin with a record that passes: its length, and that it fits in them
--   field_at              the length field at a place
--   record_is             the record, where one passes
--   record_short, record_long   no record stands there: too few bytes
--   length_refused, length_passes, length_some   the record's length, by its head's refusal
--   stands, stands_not, stands_length   what the length of the record at a place tells
--   passes_here, none_here, fits_here   the same, l being that length
--   part_none, part_is, begins_none, begins_there   the part that is handed back: its bytes, and where it begins
use mathlib.Core.Path.{◌≡◌, refl, sym, ap, ◌∙◌}
use mathlib.Core.Logic.{◌≢◌}
use mathlib.Core.Bool.{Bool, true, false}
use mathlib.Core.List.{List, []}
use Prim.Native.Nat.{ℕ, ◌+◌, ◌-◌, ◌≤◌, ◌<◌}
use native.Mathlib.Nat.{add-zero}
use native.Mathlib.Omega.{arith}
use native.Mathlib.Numerals.{add-one}
use lib.ListN.{length, take, drop, length-take, length-drop}
use lib.Seq.{get_or-drop, get_or-take, length-take-le}
use borrow.Author.Tests.{ne_eqb, eq-eqb}
use Rattle.model.specs.Shelf.{word16, head_refusal, passes}
use Rattle.model.specs.ShelfWalk.{first_record, record_at}
use Rattle.model.proofs.Booleans.{not_intro}
use Rattle.model.proofs.Heads.{passes_long, passes_length}
use Rattle.model.specs.Parts.{cut_place}

field_take : (bs : List ℕ) (l : ℕ) → 2 ≤ l → word16 (take l bs) 0 ≡ word16 bs 0
unfolding word16
field_take bs l h = rw (get_or-take l bs 0 0 (omega arith), get_or-take l bs 1 0 (omega arith))

pub head_whole : (bs : List ℕ) → passes (first_record bs) ≡ true
    → (6 ≤ word16 bs 0) × (word16 bs 0 ≤ length bs) × (length (first_record bs) ≡ word16 bs 0)
head_whole bs p =
    let l = word16 bs 0 in
    let e = length-take l bs in
    let long = passes_long (first_record bs) p in
    let six : 6 ≤ l = omega arith in
    let same = field_take bs l (omega arith) in
    let whole = passes_length (first_record bs) p in
    (six, omega arith, omega arith)

pub field_at : (bs : List ℕ) (at : ℕ) → word16 (drop at bs) 0 ≡ word16 bs at
unfolding word16
field_at bs at = rw (get_or-drop at bs 0 0, get_or-drop at bs 1 0, add-zero, add-one)

-- passing, at a place, by what was read there
module _ (bs : List ℕ) (at : ℕ) where
  record_none : passes (first_record (drop at bs)) ≡ false → record_at bs at ≡ []
  unfolding record_at
  record_none e = rw e

  pub record_is : passes (first_record (drop at bs)) ≡ true → record_at bs at ≡ first_record (drop at bs)
  unfolding record_at
  record_is e = rw e

  pub record_short : length bs < at + 6 → record_at bs at ≡ []
  record_short h =
      record_none (not_intro _ (λ p. let w = head_whole (drop at bs) p in let d = length-drop at bs in omega arith))

  module _ (l : ℕ) (l-is : l ≡ word16 bs at) where
    pub record_long : length bs < at + l → record_at bs at ≡ []
    record_long h =
        record_none (not_intro _ (λ p. let w = head_whole (drop at bs) p in let d = length-drop at bs in let f = field_at bs at in omega arith))

    head_at : take l (drop at bs) ≡ first_record (drop at bs)
    head_at = rw (field_at bs at, l-is)

    record_refused : (head_refusal (take l (drop at bs)) ≡ 0 → ⊥) → record_at bs at ≡ []
    unfolding passes
    record_refused d = record_none (sym (ap passes head_at) ∙ ne_eqb _ _ d)

    record_passes : head_refusal (take l (drop at bs)) ≡ 0 → record_at bs at ≡ take l (drop at bs)
    unfolding passes
    record_passes e = record_is (sym (ap passes head_at) ∙ eq-eqb _ _ e) ∙ sym head_at

    -- the part from at to at + l, as the code lends it
    module _ (x : ℕ) (x_is : x ≡ head_refusal (take (at + l - at) (drop at bs))) where
      part : head_refusal (take l (drop at bs)) ≡ x
      part = let e : at + l - at ≡ l = omega arith in sym (x_is ∙ ap (λ (k : ℕ). head_refusal (take k (drop at bs))) e)

      pub length_refused : (x ≡ 0 → ⊥) → 0 ≡ length (record_at bs at)
      length_refused d = sym (ap length (record_refused (λ e. d (sym part ∙ e))))

      pub length_some : x ≡ 0 → l ≢ 0
      unfolding passes
      length_some e = let p = passes_long (take l (drop at bs)) (eq-eqb _ _ (part ∙ e)) in let t = length-take l (drop at bs) in omega arith

      pub length_passes : x ≡ 0 → at + l ≤ length bs → l ≡ length (record_at bs at)
      length_passes e h =
          let d = length-drop at bs in
          sym (ap length (record_passes (part ∙ e)) ∙ length-take-le l (drop at bs) (omega arith))

  -- ---- what the length of the record at a place tells

  pub stands : (length (record_at bs at) ≡ 0 → ⊥) → passes (first_record (drop at bs)) ≡ true
  stands d = go (passes (first_record (drop at bs))) refl
    where
      go : (t : Bool) → passes (first_record (drop at bs)) ≡ t → t ≡ true
      go true e = refl
      go false e = absurd (d (ap length (record_none e)))

  pub stands_length : passes (first_record (drop at bs)) ≡ true
      → (6 ≤ length (record_at bs at)) × (at + length (record_at bs at) ≤ length bs) × (length (record_at bs at) ≡ word16 (drop at bs) 0)
  stands_length p =
      let w = head_whole (drop at bs) p in
      let e = ap length (record_is p) in
      let d = length-drop at bs in
      (omega arith, omega arith, omega arith)

  pub stands_not : length (record_at bs at) ≡ 0 → passes (first_record (drop at bs)) ≡ false
  stands_not e = not_intro _ (λ p. let s = stands_length p in omega arith)

  module _ (l : ℕ) (l-is : l ≡ length (record_at bs at)) where
    pub passes_here : (l ≡ 0 → ⊥) → passes (first_record (drop at bs)) ≡ true
    passes_here d = stands (λ z. d (l-is ∙ z))

    pub none_here : l ≡ 0 → passes (first_record (drop at bs)) ≡ false
    none_here e = stands_not (sym l-is ∙ e)

    pub fits_here : (l ≡ 0 → ⊥) → (6 ≤ l) × (at + l ≤ length bs)
    fits_here d = let s = stands_length (passes_here d) in (omega arith, omega arith)

    -- ---- the part that is handed back

    pub part_none : l ≡ 0 → [] ≡ record_at bs at
    part_none e = sym (record_none (none_here e))

    pub part_is : (l ≡ 0 → ⊥) → take (at + l - at) (drop at bs) ≡ record_at bs at
    part_is d =
        let p = passes_here d in
        let e : at + l - at ≡ l = omega arith in
        ap (λ (k : ℕ). take k (drop at bs)) (e ∙ (l-is ∙ (stands_length p).2)) ∙ sym (record_is p)

    -- the byte where it begins, o being the byte where the bytes begin
    pub begins_none : l ≡ 0 → (o : ℕ) → 0 + o ≡ o + cut_place bs at
    unfolding cut_place
    begins_none e o = rw (none_here e) (omega arith)

    pub begins_there : (l ≡ 0 → ⊥) → (o : ℕ) → at + o ≡ o + cut_place bs at
    unfolding cut_place
    begins_there d o = rw (passes_here d) (omega arith)
