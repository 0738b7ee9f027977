-- Groups of digits packed one after the other.
--
--   part_low               digits of a part are small where all are
--   group_fits             a group lies within the groups
--   full_is, rest_is       the number of a full group, and of one that may have few digits or none
--   packed_none, packed_more   no group, and one more
--   rest_fits, packed_all  the groups behind the first ones, to be packed and packed
use Rattle.std.proofs.Common.{◌≡◌, ℕ, ◌+◌, ◌-◌, ◌*◌, ◌^◌, ◌≤◌, ◌<◌, true, min, List, [], ◌++◌, length, take, drop, set, refl, sym, ap, ◌∙◌, arith, add-one, length-drop}
use native.Mathlib.Decide.{dec_le}
use Rattle.std.proofs.Math.Nat.{suc-mul, mul-le-mul_right}
use Rattle.std.proofs.Math.ListN.{take-append-drop, drop_of_length-le}
use Rattle.std.proofs.Math.Seq.{take_all, take-suc-set, length-take-le}
use Rattle.model.specs.Numbers.{all_below}
use Rattle.model.specs.Record.{digits, pack}
use Rattle.model.proofs.Below.{below_take, below_drop}
use Rattle.packing.proofs.Digits.{digits_append}
use Rattle.packing.proofs.Packed.{pack_split, pack_more}

pub part_low : (base j k : ℕ) (ds : List ℕ) → all_below base ds ≡ true → all_below base (take k (drop j ds)) ≡ true
part_low base j k ds h = below_take base k (drop j ds) (below_drop base j ds h)

pub group_fits : (width count i : ℕ) → i < count → i * width + width ≤ count * width
group_fits width count i h = let l = mul-le-mul_right width h in let e = suc-mul i width in omega arith

-- a part up to the end
to_end : (j : ℕ) (ds : List ℕ) → take (length ds - j) (drop j ds) ≡ drop j ds
to_end j ds = let l = length-drop j ds in take_all (length ds - j) (drop j ds) (omega arith)

-- past the end nothing is left
cut : (k from : ℕ) (ds : List ℕ) → from ≡ min (length ds) k → drop from ds ≡ drop k ds
cut k from ds e = elim (dec_le (length ds) k) [
  | yes h ↦ let f : from ≡ length ds = omega arith in drop_of_length-le ds {i = from} (omega arith) ∙ sym (drop_of_length-le ds {i = k} h)
  | no h ↦ ap (λ (j : ℕ). drop j ds) (omega arith)
]

module _ (base width : ℕ) (ds : List ℕ) where
  -- ---- one group

  pub full_is : (from : ℕ) → from + width ≤ length ds → digits base width (take (from + width - from) (drop from ds)) ≡ digits base width (drop from ds)
  full_is from h =
      let rest = drop from ds in
      let e : from + width - from ≡ width = omega arith in
      let l : width ≤ length rest = let k = length-drop from ds in omega arith in
      let k = length-take-le width rest l in
      rw e (sym (digits_append base 0 width (take width rest) (drop width rest) (omega arith)) ∙ ap (digits base width) (take-append-drop width rest))

  pub rest_is : (i from : ℕ) → from ≡ min (length ds) (i * width) → digits base width (take (length ds - from) (drop from ds)) ≡ digits base width (drop (i * width) ds)
  rest_is i from e = ap (digits base width) (to_end from ds ∙ cut (i * width) from ds e)

  -- ---- all groups

  pub packed_none : [] ≡ pack base width 0 ds
  unfolding pack
  packed_none = refl

  pub packed_more : (i x : ℕ) (out : List ℕ) → i < length out → take i out ≡ pack base width i ds → x ≡ digits base width (drop (i * width) ds)
      → take (i + 1) (set out i x) ≡ pack base width (i + 1) ds
  packed_more i x out h p d = rw (add-one i, take-suc-set out i x h, p, d) (sym (pack_more base width i ds))

  pub packed_all : (count r n k : ℕ) (first rest : List ℕ) → n ≡ r → k + r ≡ count → first ≡ pack base width n ds
      → rest ≡ pack base width k (take (length ds - r * width) (drop (r * width) ds)) → first ++ rest ≡ pack base width count ds
  packed_all count r n k first rest same all p q =
      let e : r + k ≡ count = omega arith in rw (p, same, q, to_end (r * width) ds, ← pack_split base width r k ds, e)

pub rest_fits : (width count r k : ℕ) → k + r ≡ count → count * width ≤ 2 ^ 20 → k * width ≤ 2 ^ 20
rest_fits width count r k e h = let l : k * width ≤ count * width = mul-le-mul_right width (omega arith) in omega arith
