-- Eight bytes as one number.
--
--   digits_split           the digits of a number in two parts
--   byte_digits            the eight bits of a byte
--   window_more            the number with one more byte
--   digits_bytes           eight bytes joined are the number of their bits
--   window_pair            two bits of the whole, by dividing
use Prim.Native.Nat.{ℕ, zero, suc, ◌+◌, ◌-◌, ◌*◌, ◌/◌, ◌%◌, ◌^◌, ◌≤◌, ◌<◌}
use native.Mathlib.Nat.{zero-add, zero-mul, suc-add, add_assoc, add-mul, mul_assoc, mul_comm, not-suc-le-zero, le_of_suc-le-suc}
use native.Mathlib.Omega.{arith}
use mathlib.Core.Path.{◌≡◌, refl, sym, ap, ap₂, ◌∙◌}
use mathlib.Core.Bool.{true}
use mathlib.Core.List.{List, [], ◌∷◌}
use lib.ListN.{length, get_or, drop, length-drop}
use lib.Pow.{pow-add, shr-shr}
use lib.Seq.{drop-cons, drop-drop, get_or-drop, get_or-take}
use Rattle.model.specs.Record.{digits_from, digits}
use Rattle.model.specs.Numbers.{all_below}
use Rattle.model.proofs.Below.{below_drop}
use Rattle.packing.specs.Unpack.{digits_of, unpack, bits}
use Rattle.packing.proofs.Digits.{digits_cons, digits_append, length_digits_of, digits_of_digits, digits_digits_of, digits_of_at}
use Rattle.packing.proofs.Packed.{unpack_drop, length_bits, bits_below}
use Rattle.bit_window.proofs.Window.{joined_bytes}

digits_split : (u w : ℕ) (ds : List ℕ) → u ≤ length ds → digits 2 (u + w) ds ≡ digits 2 u ds * 2 ^ w + digits 2 w (drop u ds)
unfolding digits_from
digits_split zero w ds h = rw (zero-add w, zero-mul (2 ^ w), zero-add (digits 2 w ds))
digits_split (suc u) w [] h = absurd (not-suc-le-zero h)
digits_split (suc u) w (d ∷ ds) h =
    ap (λ (k : ℕ). digits 2 k (d ∷ ds)) (suc-add u w) ∙ digits_cons 2 (u + w) d ds
    ∙ rw (digits_split u w ds (le_of_suc-le-suc h), pow-add 2 u w) (sym (add_assoc (d * (2 ^ u * 2 ^ w)) (digits 2 u ds * 2 ^ w) (digits 2 w (drop u ds))))
    ∙ ap (λ (k : ℕ). k + digits 2 w (drop u ds))
    (ap (λ (k : ℕ). k + digits 2 u ds * 2 ^ w) (sym (mul_assoc d (2 ^ u) (2 ^ w))) ∙ sym (add-mul (d * 2 ^ u) (digits 2 u ds) (2 ^ w))
    ∙ ap (λ (k : ℕ). k * 2 ^ w) (sym (digits_cons 2 u d ds)))

byte_digits : (s : List ℕ) (q : ℕ) → q < length s → get_or s q 0 < 256 → digits 2 8 (drop (8 * q) (bits s)) ≡ get_or s q 0
unfolding bits unpack
byte_digits s q h low =
    let x = get_or s q 0 in
    ap (λ (k : ℕ). digits 2 8 (drop k (bits s))) (mul_comm 8 q) ∙ ap (digits 2 8) (unpack_drop 2 8 q s)
    ∙ ap (λ (xs : List ℕ). digits 2 8 (unpack 2 8 (length xs) xs)) (drop-cons s q 0 h)
    ∙ digits_append 2 0 8 (digits_of 2 8 x) (unpack 2 8 (length (drop (suc q) s)) (drop (suc q) s)) (omega (arith, length_digits_of 2 8 x))
    ∙ digits_digits_of 2 (omega arith) 8 x low

module _ (s : List ℕ) (q : ℕ) where
  abbrev ds : List ℕ
  ds = drop (8 * q) (bits s)

  below : all_below 2 ds ≡ true
  below = below_drop 2 (8 * q) (bits s) (bits_below s)

  -- ---- byte by byte

  module _ (k : ℕ) (h : k < 8) (there : q + k < length s) where
    window_more : get_or s (q + k) 0 < 256 → digits 2 (8 * (k + 1)) ds ≡ digits 2 (8 * k) ds * 256 + get_or s (q + k) 0
    window_more low =
        let more : 8 * (k + 1) ≡ 8 * k + 8 = omega arith in
        let place : 8 * q + 8 * k ≡ 8 * (q + k) = omega arith in
        let long = length-drop (8 * q) (bits s) in
        let all = length_bits s in
        ap (λ (w : ℕ). digits 2 w ds) more ∙ digits_split (8 * k) 8 ds (omega arith)
        ∙ ap (λ (y : ℕ). digits 2 (8 * k) ds * 256 + y)
        (ap (digits 2 8) (drop-drop (8 * k) (8 * q) (bits s) ∙ ap (λ (j : ℕ). drop j (bits s)) place) ∙ byte_digits s (q + k) there low)

  pub digits_bytes : q + 8 ≤ length s → ((k : ℕ) → k < 8 → get_or s (q + k) 0 < 256)
      → joined_bytes (get_or s q 0) (get_or s (q + 1) 0) (get_or s (q + 2) 0) (get_or s (q + 3) 0) (get_or s (q + 4) 0) (get_or s (q + 5) 0) (get_or s (q + 6) 0) (get_or s (q + 7) 0)
      ≡ digits 2 64 ds
  unfolding digits_from
  digits_bytes room low =
      let more : (k : ℕ) → k < 8 → digits 2 (8 * (k + 1)) ds ≡ digits 2 (8 * k) ds * 256 + get_or s (q + k) 0 =
      λ k h. window_more k h (omega arith) (low k h) in
      let none : digits 2 (8 * 0) ds ≡ 0 = refl in
      let z : get_or s (q + 0) 0 ≡ get_or s q 0 = ap (λ (k : ℕ). get_or s k 0) (omega arith) in
      let a = more 0 (omega arith) in let b = more 1 (omega arith) in let c = more 2 (omega arith) in let d = more 3 (omega arith) in
      let e = more 4 (omega arith) in let f = more 5 (omega arith) in let g = more 6 (omega arith) in let h = more 7 (omega arith) in
      omega arith

  -- ---- two bits

  module _ (room : q + 8 ≤ length s) where
    abbrev x : ℕ
    x = digits 2 64 ds

    bit : (j : ℕ) → j < 64 → get_or (bits s) (8 * q + j) 0 ≡ x / 2 ^ (63 - j) % 2
    bit j h =
        let long = length-drop (8 * q) (bits s) in
        let all = length_bits s in
        let p : 64 - suc j ≡ 63 - j = omega arith in
        sym (get_or-drop (8 * q) (bits s) j 0) ∙ sym (get_or-take 64 ds j 0 h)
        ∙ ap (λ (bs : List ℕ). get_or bs j 0) (sym (digits_of_digits 2 64 ds (omega arith) below (omega arith)))
        ∙ digits_of_at 2 64 x j h ∙ ap (λ (i : ℕ). x / 2 ^ i % 2) p

    pub window_pair : (k : ℕ) → k < 63 → x / 2 ^ (62 - k) % 4 ≡ 2 * get_or (bits s) (8 * q + k) 0 + get_or (bits s) (8 * q + k + 1) 0
    window_pair k h =
        let y = x / 2 ^ (62 - k) in
        let up : 62 - k + 1 ≡ 63 - k = omega arith in
        let on : 63 - (k + 1) ≡ 62 - k = omega arith in
        let one : get_or (bits s) (8 * q + k) 0 ≡ y / 2 % 2 =
        bit k (omega arith) ∙ ap (λ (i : ℕ). x / 2 ^ i % 2) (sym up) ∙ ap (λ (z : ℕ). z % 2) (sym (shr-shr x (62 - k) 1)) in
        let two : get_or (bits s) (8 * q + k + 1) 0 ≡ y % 2 =
        ap (λ (i : ℕ). get_or (bits s) i 0) (add_assoc (8 * q) k 1) ∙ bit (k + 1) (omega arith) ∙ ap (λ (i : ℕ). x / 2 ^ i % 2) on in
        let four : y % 4 ≡ 2 * (y / 2 % 2) + y % 2 = omega arith in
        four ∙ ap₂ (λ (i j : ℕ). 2 * i + j) (sym one) (sym two)
