-- A payload taken apart into its tree bits and labels: the inverse of `value_payload`, which is `payload` before the table.
--
--   has_labels f           records of family f hold tree bits and labels
--   Sized f m ps          ps is as long as the payload of a record of family f with m edges, where m fixes that
--   extra_bytes k x        the number x of the outside, in a kind that stores it; no bytes in another
--   Behind k m rest       rest is as long as what follows m in a record of kind k with m edges, where m fixes that, and no longer than any
--   value_payload f m bits labels   tree bits and labels in bytes, a group's value in place of its byte
--   blank_from l ds        every digit from place l on is 0
--   payload_bits m ps      the tree bits in the payload ps
--   payload_labels k m ps  the labels in the payload ps
--   payload_clean k m ps   padding bits and fill labels of ps are 0, and no byte of a group is above 242
use Rattle.std.specs.Prelude.{ℕ, ◌+◌, ◌*◌, ◌≤◌, ◌≡◌, Bool, true, false, ◌&&◌, ◌||◌, cond, List, [], ◌++◌, eqb, length, take, drop}
use Rattle.model.specs.Numbers.{all_below}
use Rattle.model.specs.Map.{is_family, stores_outside, is_kind}
use Rattle.model.specs.Record.{pack, bytes_for, le16, length_varies, payload_length, record_length}
use Rattle.packing.specs.Unpack.{bits, groups}

unfoldable pub has_labels : ℕ → Bool
has_labels f = eqb f 1 || eqb f 2

pub record Sized (f m : ℕ) (ps : List ℕ) : Type 0 where
  pub is_family : is_family f ≡ true
  pub some_edge : 1 ≤ m
  pub few_edges : m ≤ 4096
  pub long : length_varies f ≡ false → length ps ≡ payload_length f m

unfoldable pub extra_bytes : ℕ → ℕ → List ℕ
extra_bytes k x = cond (stores_outside k) (le16 x) []

pub record Behind (k m : ℕ) (rest : List ℕ) : Type 0 where
  pub kind : is_kind k ≡ true
  pub some_edge : 1 ≤ m
  pub few_edges : m ≤ 4096
  pub short : length rest ≤ 2050
  pub long : length_varies k ≡ false → 6 + length rest ≡ record_length k m

unfoldable pub value_payload : ℕ → ℕ → List ℕ → List ℕ → List ℕ
value_payload f m bits labels =
    cond (eqb f 1) (pack 2 8 (bytes_for (3 * m) 8) (bits ++ labels)) (pack 2 8 (bytes_for (2 * m) 8) bits ++ pack 3 5 (bytes_for m 5) labels)

abbrev pub blank_from : ℕ → List ℕ → Bool
blank_from l ds = all_below 1 (drop l ds)

unfoldable pub payload_bits : ℕ → List ℕ → List ℕ
payload_bits m ps = take (2 * m) (bits ps)

-- in kind 2 the groups stand past the bytes of the tree bits
unfoldable pub payload_labels : ℕ → ℕ → List ℕ → List ℕ
payload_labels k m ps = cond (eqb k 1) (take m (drop (2 * m) (bits ps))) (take m (groups (drop (bytes_for (2 * m) 8) ps)))

-- "unused low bits are 0"; "the last group filled with 0"
unfoldable pub payload_clean : ℕ → ℕ → List ℕ → Bool
payload_clean k m ps =
    let n = bytes_for (2 * m) 8 in
    cond (eqb k 1) (blank_from (3 * m) (bits ps))
    (blank_from (2 * m) (bits (take n ps)) && (all_below 243 (drop n ps) && blank_from m (groups (drop n ps))))
