-- Bits and labels at their places in a byte list. Assumes nothing.
--
--   bit_read, label_read       by dividing, a label in the value of its group's byte
--   bit_fits                   the byte after a bit is put
--   bit_put                    the bits after a bit is put
use Prim.Native.Nat.{ℕ, suc, ◌+◌, ◌-◌, ◌*◌, ◌/◌, ◌%◌, ◌^◌, ◌≤◌, ◌<◌}
use native.Mathlib.Nat.{mod-eq_of_lt}
use native.Mathlib.Omega.{arith}
use mathlib.Core.Path.{◌≡◌, sym, ap, ◌∙◌}
use mathlib.Core.List.{List}
use lib.ListN.{length, get_or, set, drop, length-set, length-drop}
use lib.Seq.{get_or-drop}
use Rattle.packing.specs.Unpack.{bits, groups}
use Rattle.packing.specs.Groups.{values_of}
use Rattle.packing.proofs.Groups.{values_length, values_at}
use Rattle.packing.proofs.Place.{unpack_read, put_fits, unpack_put}

-- ---- bits

module _ (s : List ℕ) (k : ℕ) (h : k < 8 * length s) where
  bit_power : 8 - suc (k % 8) ≡ 7 - k % 8
  bit_power = omega arith

  pub bit_read : get_or s (k / 8) 0 / 2 ^ (7 - k % 8) % 2 ≡ get_or (bits s) k 0
  unfolding bits
  bit_read = rw bit_power at (unpack_read 2 8 (length s) k s (omega arith) (omega arith))

  module _ (b : ℕ) (b-fits : b < 2) (byte : get_or s (k / 8) 0 < 256) (free : get_or (bits s) k 0 ≡ 0) where
    -- the byte after the put
    abbrev bit_byte : ℕ
    bit_byte = get_or s (k / 8) 0 + (b * 2 ^ (7 - k % 8)) % 256

    sum_fits : get_or s (k / 8) 0 + b * 2 ^ (7 - k % 8) < 256
    unfolding bits
    sum_fits = rw bit_power at (put_fits 2 8 (length s) k s (omega arith) (omega arith) (omega arith) b b-fits (omega arith) byte free)

    no_wrap : bit_byte ≡ get_or s (k / 8) 0 + b * 2 ^ (7 - k % 8)
    no_wrap = let e = sum_fits in rw (mod-eq_of_lt {n = b * 2 ^ (7 - k % 8)} {m = 256} (omega arith))

    pub bit_fits : bit_byte < 256
    bit_fits = rw no_wrap sum_fits

    pub bit_put : bits (set s (k / 8) bit_byte) ≡ set (bits s) k b
    unfolding bits
    bit_put =
        rw (length-set s (k / 8) bit_byte, no_wrap)
        (rw bit_power at (unpack_put 2 8 (length s) k s (omega arith) (omega arith) (omega arith) b b-fits (omega arith) byte free))

-- ---- labels

module _ (inv s : List ℕ) (from i : ℕ) (f : from ≤ length s) (h : i < 5 * (length s - from)) where
  abbrev vs : List ℕ
  vs = values_of inv s

  label_power : 5 - suc (i % 5) ≡ 4 - i % 5
  label_power = omega arith

  room : i < length (drop from vs) * 5
  room = let e = length-drop from vs in let l = values_length inv s in omega arith

  pub label_read : get_or inv (get_or s (from + i / 5) 0) 0 / 3 ^ (4 - i % 5) % 3 ≡ get_or (groups (drop from vs)) i 0
  unfolding groups
  label_read =
      ap (λ (v : ℕ). v / 3 ^ (4 - i % 5) % 3) (sym (values_at inv s (from + i / 5) (omega arith)))
      ∙ (rw (label_power, get_or-drop from vs (i / 5) 0) at (unpack_read 3 5 (length (drop from vs)) i (drop from vs) (omega arith) room))
