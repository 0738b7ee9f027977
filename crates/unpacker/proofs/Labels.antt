-- Labels put into the work area, group by group. Assumes nothing.
--
--   five                  five stores place a group's labels
--   groups_more           one group more
--   groups_start, group_on, groups_end   the labels of no group, of one more, and the first of all
use Prim.Native.Nat.{ℕ, suc, ◌+◌, ◌*◌, ◌/◌, ◌%◌, ◌≤◌, ◌<◌}
use native.Mathlib.Nat.{add-zero}
use native.Mathlib.Numerals.{add-one}
use native.Mathlib.Omega.{arith}
use mathlib.Core.Path.{◌≡◌, refl, sym, ap, ◌∙◌}
use mathlib.Core.List.{List, [], ◌∷◌, ◌++◌, append-nil}
use lib.ListN.{length, get_or, set, take, drop, length-drop}
use lib.Seq.{take-suc, take_all, get_or-drop}
use Rattle.packing.specs.Unpack.{digits_of, unpack, groups}
use Rattle.packing.proofs.Digits.{length_digits_of}
use Rattle.packing.proofs.Packed.{unpack_append}
use Rattle.work.specs.Area.{region, placed}
use Rattle.work.proofs.Regions.{region_region, region_grow, sets_placed}
use Rattle.unpacker.specs.Unpacked.{grouped}

pub five : (w : List ℕ) (at g : ℕ) → at + 5 ≤ length w
    → set (set (set (set (set w at (g / 81 % 3)) (at + 1) (g / 27 % 3)) (at + 2) (g / 9 % 3)) (at + 3) (g / 3 % 3)) (at + 4) (g % 3) ≡ grouped at g w
unfolding digits_of
five w at g h =
    let e₁ : at + 1 ≡ suc at = omega arith in
    let e₂ : at + 2 ≡ suc (suc at) = omega arith in
    let e₃ : at + 3 ≡ suc (suc (suc at)) = omega arith in
    let e₄ : at + 4 ≡ suc (suc (suc (suc at))) = omega arith in
    let ds = g / 81 % 3 ∷ g / 27 % 3 ∷ g / 9 % 3 ∷ g / 3 % 3 ∷ g % 3 ∷ [] in
    let whole : g ≡ g / 1 = omega arith in
    let last : ds ≡ digits_of 3 5 g = ap (λ (x : ℕ). g / 81 % 3 ∷ g / 27 % 3 ∷ g / 9 % 3 ∷ g / 3 % 3 ∷ x % 3 ∷ []) whole in
    rw (e₁, e₂, e₃, e₄) (sets_placed ds w at (omega arith) ∙ ap (λ (r : List ℕ). placed at r w) last)

-- the groups are the bytes of r from place `from` on
module _ (a from : ℕ) (r : List ℕ) where
  pub groups_start : (w : List ℕ) → region a (5 * 0) w ≡ groups (take 0 (drop from r))
  unfolding region groups unpack
  groups_start w = refl

  pub groups_more : (i : ℕ) → from + i < length r → groups (take (i + 1) (drop from r)) ≡ groups (take i (drop from r)) ++ digits_of 3 5 (get_or r (from + i) 0)
  unfolding groups unpack
  groups_more i h =
      let d = length-drop from r in
      let t : take (i + 1) (drop from r) ≡ take i (drop from r) ++ (get_or r (from + i) 0 ∷ [])
      = rw (add-one, ← get_or-drop from r i 0) (take-suc (drop from r) i 0 (omega arith)) in
      ap groups t ∙ unpack_append 3 5 (take i (drop from r)) (get_or r (from + i) 0 ∷ [])
      ∙ ap (λ (x : List ℕ). groups (take i (drop from r)) ++ x) (append-nil (digits_of 3 5 (get_or r (from + i) 0)))

  pub group_on : (w : List ℕ) (i : ℕ) → from + i < length r → a + 5 * i + 5 ≤ length w → region a (5 * i) w ≡ groups (take i (drop from r))
      → region a (5 * (i + 1)) (grouped (a + 5 * i) (get_or r (from + i) 0) w) ≡ groups (take (i + 1) (drop from r))
  group_on w i h l q =
      let ds = digits_of 3 5 (get_or r (from + i) 0) in
      let e : 5 * (i + 1) ≡ 5 * i + 5 = omega arith in
      rw e (region_grow a (5 * i) 5 ds w (length_digits_of 3 5 (get_or r (from + i) 0)) l ∙ ap (λ (x : List ℕ). x ++ ds) q ∙ sym (groups_more i h))

  pub groups_end : (w : List ℕ) (i m : ℕ) → length r ≤ from + i → m ≤ 5 * i → region a (5 * i) w ≡ groups (take i (drop from r))
      → region a m w ≡ take m (groups (drop from r))
  unfolding region
  groups_end w i m h l q =
      let d = length-drop from r in
      ap (λ (b : ℕ). region b m w) (sym (add-zero a)) ∙ sym (region_region a (5 * i) 0 m w (omega arith))
      ∙ ap (region 0 m) (q ∙ ap groups (take_all i (drop from r) (omega arith)))
