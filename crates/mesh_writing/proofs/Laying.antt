-- The payload under a table, behind the head.
--
--   groups_there, groups_changed   groups behind other entries, and other groups put in their place
--   table_asked, tabled  what the table asks and leaves
--   payload_long         the payload's length
--   head_three           the head of kind 3
--   head_room, payload_asked   what head and payload ask
--   laid                 what they leave
use Prim.Native.Nat.{ℕ, ◌+◌, ◌*◌, ◌/◌, ◌^◌, ◌≤◌}
use native.Mathlib.Omega.{arith}
use mathlib.Core.Path.{◌≡◌, refl, sym, ap, ap₂, subst, ◌∙◌}
use mathlib.Core.Bool.{true}
use mathlib.Core.List.{List, ◌++◌, map}
use lib.ListN.{length, get_or, length-map, length-append}
use Rattle.model.specs.Numbers.{elem, all_below}
use Rattle.model.specs.Map.{stores_outside}
use Rattle.model.specs.Record.{pack, bytes_for, head_length, headed}
use Rattle.model.specs.Calls.{front}
use Rattle.packing.specs.Payload.{extra_bytes}
use Rattle.packing.proofs.Packed.{pack_length, pack_below}
use Rattle.work.specs.Map.{BITS, LABELS}
use Rattle.work.specs.Area.{region, placed}
use Rattle.work.proofs.Regions.{region_placed, length_placed, placed_placed, placed_next}
use Rattle.mesh_encoder.specs.declared.Sizes.{Sizes}
use Rattle.packer.specs.Packed.{Headed}
use Rattle.packer.proofs.Heads.{head_payload}
use Rattle.mesh_writing.specs.Laid.{Ready, payload_size, tabled_payload}

-- ---- lists

module _ (at : ℕ) (fs gs out : List ℕ) (fits : at + length fs + length gs ≤ length out) where
  behind : placed at (fs ++ gs) out ≡ placed (at + length fs) gs (placed at fs out)
  behind = sym (placed_next at fs gs out (omega arith))

  inside : at + length fs + length gs ≤ length (placed at fs out)
  inside = let l = length_placed at fs out (omega arith) in omega arith

  groups_there : region (at + length fs) (length gs) (placed at (fs ++ gs) out) ≡ gs
  groups_there = ap (region (at + length fs) (length gs)) behind ∙ region_placed (at + length fs) gs (placed at fs out) inside (length gs) refl

  groups_changed : (hs : List ℕ) → length hs ≡ length gs → placed (at + length fs) hs (placed at (fs ++ gs) out) ≡ placed at (fs ++ hs) out
  groups_changed hs e =
      ap (placed (at + length fs) hs) behind ∙ placed_placed (at + length fs) gs (placed at fs out) inside hs e ∙ placed_next at fs hs out (omega arith)

-- ---- the payload

module _ (n : ℕ) (s : Sizes) (w : List ℕ) (r : Ready n s w) where
  abbrev before : ℕ
  before = bytes_for s.bits 8

  abbrev count : ℕ
  count = bytes_for s.digits 5

  fs : List ℕ
  fs = pack 2 8 before (region (BITS * n) s.bits w)

  gs : List ℕ
  gs = pack 3 5 count (region (LABELS * n) s.digits w)

  sizes : (length fs ≡ before) × (length gs ≡ count)
  unfolding fs gs
  sizes = (pack_length 2 8 before _, pack_length 3 5 count _)

  module _ (at : ℕ) (out : List ℕ) (begins : at ≤ 2 ^ 16) (fits : at + payload_size s ≤ length out) where
    enough : at + length fs + length gs ≤ length out
    enough = let (a, b) = sizes in omega arith

    module _ (out₁ : List ℕ) (e : out₁ ≡ placed at (pack 2 8 before (region (BITS * n) s.bits w) ++ pack 3 5 count (region (LABELS * n) s.digits w)) out) where
      there : region (at + before) count out₁ ≡ gs
      unfolding fs gs
      there = let (a, b) = sizes in
          ap (region (at + before) count) e ∙ subst (λ (j : ℕ). region (at + j) count (placed at (fs ++ gs) out) ≡ gs) a
          (subst (λ (j : ℕ). region (at + length fs) j (placed at (fs ++ gs) out) ≡ gs) b (groups_there at fs gs out enough))

      module _ (from k : ℕ) (ef : from ≡ before) (ek : k ≡ count) where
        pub table_asked : (at + from + k ≤ length out₁) × (at + from ≤ 2 ^ 20) × (k ≤ 2 ^ 20)
            × (all_below 243 (region (at + from) k out₁) ≡ true)
        unfolding fs gs
        table_asked =
            let (a, b) = sizes in
            let x = length-append fs gs in
            let same : length out₁ ≡ length out = ap length e ∙ length_placed at (fs ++ gs) out (omega arith) in
            let f = r.few in
            let u = r.bits_fit in
            let v = r.digits_fit in
            let low : all_below 243 gs ≡ true = pack_below 3 5 (omega arith) count (region (LABELS * n) s.digits w) r.digits_low in
            (omega arith, omega arith, omega arith, ap₂ (λ (i j : ℕ). all_below 243 (region (at + i) j out₁)) ef ek ∙ ap (all_below 243) there ∙ low)

        pub tabled : (bs out₂ : List ℕ) → out₂ ≡ placed (at + from) (map (λ v. get_or bs v 0) (region (at + from) k out₁)) out₁
            → out₂ ≡ placed at (tabled_payload bs n s w) out
        unfolding fs gs tabled_payload
        tabled bs out₂ q =
            let (a, b) = sizes in
            let hs = map (λ v. get_or bs v 0) gs in
            q ∙ ap₂ (λ (i j : ℕ). placed (at + i) (map (λ v. get_or bs v 0) (region (at + i) j out₁)) out₁) ef ek
            ∙ ap (λ (xs : List ℕ). placed (at + before) (map (λ v. get_or bs v 0) xs) out₁) there
            ∙ ap₂ (λ (j : ℕ) (xs : List ℕ). placed (at + j) hs xs) (sym a) e
            ∙ groups_changed at fs gs out enough hs (length-map gs (λ v. get_or bs v 0))

  pub payload_long : (bs : List ℕ) → length (tabled_payload bs n s w) ≡ payload_size s
  unfolding fs gs tabled_payload
  payload_long bs =
      let (a, b) = sizes in
      let l = length-map gs (λ v. get_or bs v 0) in
      length-append fs (map (λ v. get_or bs v 0) gs) ∙ omega arith

-- ---- behind the head

-- six bytes, and none of the outside
head_three : (head_length 3 ≡ 6) × ((x : ℕ) (ps : List ℕ) → extra_bytes 3 x ++ ps ≡ ps)
unfolding head_length extra_bytes stores_outside elem
head_three = (refl, λ x ps. refl)

module _ (n : ℕ) (s : Sizes) (w out : List ℕ) (r : Ready n s w) (fits : 6 + payload_size s ≤ length out) where
  pub head_room : head_length 3 ≤ length out
  head_room = let h = head_three.0 in omega arith

  pub payload_asked : (at : ℕ) (out₁ : List ℕ) → at ≡ head_length 3 → length out₁ ≡ length out → (at ≤ 2 ^ 16) × (at + payload_size s ≤ length out₁)
  payload_asked at out₁ e l = let h = head_three.0 in (omega arith, omega arith)

  pub laid : (bs : List ℕ) (total m at : ℕ) (out₁ out₂ : List ℕ) → total ≡ 6 + payload_size s → m ≡ n / 2 → Headed total 3 m 0 out at out₁
      → out₂ ≡ placed at (tabled_payload bs n s w) out₁ → out₂ ≡ front (headed 3 (n / 2) (tabled_payload bs n s w)) out
  laid bs total m at out₁ out₂ t em h q =
      let (z, none) = head_three in
      let l = payload_long n s w r bs in
      head_payload 3 m 0 total at (tabled_payload bs n s w) out out₁ out₂ (omega arith) (omega arith) h q
      ∙ ap₂ (λ (j : ℕ) (xs : List ℕ). front (headed 3 j xs) out) em (none 0 (tabled_payload bs n s w))
