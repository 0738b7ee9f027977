-- The digits of a payload: where they stand, and which are unused. Assumes nothing.
--
--   letters_left, letters_none   the letters in the high bits of a byte, one after the other
--   pair_read             the pair of letters number i by shifting
--   letters_next          the letters from that pair on: the pair and the others
--   clean_even, clean_odd   for even m no digit is unused; else the last two, four bits
use Prim.Native.Nat.{ℕ, zero, suc, ◌+◌, ◌-◌, ◌*◌, ◌/◌, ◌%◌, ◌^◌, ◌<◌}
use native.Mathlib.Nat.{div-one}
use native.Mathlib.Omega.{arith}
use mathlib.Core.Path.{◌≡◌, refl, sym, ap, ◌∙◌}
use mathlib.Core.Logic.{◌≢◌}
use mathlib.Core.Bool.{true}
use mathlib.Core.List.{List, [], ◌∷◌, ◌++◌}
use lib.Dec.{eqb}
use lib.ListN.{length, get_or, take, drop, drop_of_length-le, get_or-map}
use lib.Seq.{drop-cons, get_or-take}
use borrow.Author.Tests.{eq-eqb, eqb-true}
use Rattle.model.specs.Numbers.{all_below}
use Rattle.model.specs.Record.{bytes_for}
use Rattle.model.proofs.Booleans.{bool_ext}
use Rattle.model.proofs.Below.{below_cons, below_head, below_tail, below_end}
use Rattle.packing.specs.Unpack.{unpack}
use Rattle.packing.specs.Letters.{digit_letter, payload_letters, letters_clean}
use Rattle.packing.proofs.Packed.{length_unpack}
use Rattle.packing.proofs.Place.{unpack_read}
use Rattle.packing.proofs.Letters.{letters_count}
use Rattle.letter_decoder.specs.Pairs.{letters_of, pair_at}

-- ---- one digit

-- the two low digits of x are 0
low_zero : (x : ℕ) → eqb (x % 16) 0 ≡ all_below 1 (x / 4 % 4 ∷ x % 4 ∷ [])
unfolding all_below
low_zero x = bool_ext (eqb (x % 16) 0) (all_below 1 (x / 4 % 4 ∷ x % 4 ∷ [])) zeros sixteen
  where
    zeros : eqb (x % 16) 0 ≡ true → all_below 1 (x / 4 % 4 ∷ x % 4 ∷ []) ≡ true
    zeros e =
        let z = eqb-true (x % 16) 0 e in
        below_cons 1 (x / 4 % 4) (x % 4 ∷ []) (omega arith) (below_cons 1 (x % 4) [] (omega arith) refl)

    sixteen : all_below 1 (x / 4 % 4 ∷ x % 4 ∷ []) ≡ true → eqb (x % 16) 0 ≡ true
    sixteen e =
        let a = below_head 1 (x / 4 % 4) (x % 4 ∷ []) e in
        let b = below_head 1 (x % 4) [] (below_tail 1 (x / 4 % 4) (x % 4 ∷ []) e) in
        eq-eqb (x % 16) 0 (omega arith)

-- ---- the letters of a byte

pub letters_left : (n k x : ℕ) → n ≡ suc k → letters_of n x ≡ digit_letter (x / 64) ∷ letters_of k (x * 4 % 256)
unfolding letters_of
letters_left n k x e = rw e

pub letters_none : (n x : ℕ) → n ≡ 0 → letters_of n x ≡ []
unfolding letters_of
letters_none n x e = rw e

-- ---- the payload

module _ (ps : List ℕ) where
  abbrev digits : List ℕ
  digits = unpack 4 4 (length ps) ps

  -- digit j of byte q
  digit_at : (i q j : ℕ) → i < 4 * length ps → i / 4 ≡ q → i % 4 ≡ j → get_or ps q 0 / 4 ^ (4 - suc j) % 4 ≡ get_or digits i 0
  digit_at i q j h e f = rw (e, f) at (unpack_read 4 4 (length ps) i ps (omega arith) (omega arith))

  module _ (i : ℕ) (h : i < 2 * length ps) where
    abbrev byte : ℕ
    byte = get_or ps (i / 2) 0

    -- in the high half of the byte, and in the low half
    pair_high : i % 2 ≡ 0 → letters_of 2 (byte * 1 % 256) ≡ pair_at ps i
    unfolding letters_of pair_at
    pair_high e =
        let p = digit_at (2 * i) (i / 2) 0 (omega arith) (omega arith) (omega arith) in
        let q = digit_at (2 * i + 1) (i / 2) 1 (omega arith) (omega arith) (omega arith) in
        let a : byte * 1 % 256 / 64 ≡ byte / 64 % 4 = omega arith in
        let b : byte * 1 % 256 * 4 % 256 / 64 ≡ byte / 16 % 4 = omega arith in
        rw (a ∙ p, b ∙ q)

    pair_low : i % 2 ≡ 1 → letters_of 2 (byte * 16 % 256) ≡ pair_at ps i
    unfolding letters_of pair_at
    pair_low e =
        let p = digit_at (2 * i) (i / 2) 2 (omega arith) (omega arith) (omega arith) in
        let q = digit_at (2 * i + 1) (i / 2) 3 (omega arith) (omega arith) (omega arith) in
        let a : byte * 16 % 256 / 64 ≡ byte / 4 % 4 = omega arith in
        let b : byte * 16 % 256 * 4 % 256 / 64 ≡ byte / 1 % 4 = omega arith in
        rw (a ∙ p, b ∙ q)

    pub pair_read : letters_of 2 (byte * 2 ^ (4 * (i % 2)) % 256) ≡ pair_at ps i
    pair_read = go (i % 2) refl (omega arith)
      where
        go : (j : ℕ) → i % 2 ≡ j → j < 2 → letters_of 2 (byte * 2 ^ (4 * j) % 256) ≡ pair_at ps i
        go zero e l = pair_high e
        go (suc zero) e l = pair_low e
        go (suc (suc j)) e l = let z : ⊥ = omega arith in absurd z

  module _ (m : ℕ) (sized : length ps ≡ bytes_for m 2) where
    digit_count : length digits ≡ 4 * bytes_for m 2
    digit_count = let e = length_unpack 4 4 (length ps) ps in omega arith

    letter_at : (i : ℕ) → i < 2 * m → get_or (payload_letters m ps) i (digit_letter 0) ≡ digit_letter (get_or digits i 0)
    unfolding payload_letters
    letter_at i h = get_or-map digit_letter (take (2 * m) digits) i 0 ∙ ap digit_letter (get_or-take (2 * m) digits i 0 h)

    pub letters_next : (i : ℕ) → i < m → drop (2 * i) (payload_letters m ps) ≡ pair_at ps i ++ drop (2 * (i + 1)) (payload_letters m ps)
    unfolding payload_letters pair_at
    letters_next i h =
        let v = payload_letters m ps in
        let c = letters_count m ps sized in
        let n : 2 * (i + 1) ≡ suc (suc (2 * i)) = omega arith in
        let o : 2 * i + 1 ≡ suc (2 * i) = omega arith in
        rw (
          n,
          o,
          drop-cons v (2 * i) (digit_letter 0) (omega arith),
          drop-cons v (suc (2 * i)) (digit_letter 0) (omega arith),
          letter_at (2 * i) (omega arith),
          letter_at (suc (2 * i)) (omega arith),
        )

    pub clean_even : m % 2 ≡ 0 → letters_clean m ps ≡ true
    unfolding letters_clean
    clean_even h = below_end 1 digits (2 * m) (let e = digit_count in omega arith)

    -- the two digits in the low bits of the last byte
    module _ (odd : m % 2 ≢ 0) where
      abbrev last : ℕ
      last = get_or ps (m / 2) 0

      odd_is : m ≡ 2 * (m / 2) + 1
      odd_is = omega arith

      byte_count : length ps ≡ m / 2 + 1
      byte_count = let n = odd_is in omega arith

      at_high : get_or digits (2 * m) 0 ≡ last / 4 % 4
      at_high =
          let n = odd_is in let b = byte_count in
          let q : 2 * m / 4 ≡ m / 2 = omega arith in
          let r : 2 * m % 4 ≡ 2 = omega arith in
          sym (digit_at (2 * m) (m / 2) 2 (omega arith) q r)

      at_low : get_or digits (suc (2 * m)) 0 ≡ last % 4
      at_low =
          let n = odd_is in let b = byte_count in
          let q : suc (2 * m) / 4 ≡ m / 2 = omega arith in
          let r : suc (2 * m) % 4 ≡ 3 = omega arith in
          sym (digit_at (suc (2 * m)) (m / 2) 3 (omega arith) q r) ∙ ap (λ (x : ℕ). x % 4) (div-one last)

      unused : drop (2 * m) digits ≡ last / 4 % 4 ∷ last % 4 ∷ []
      unused =
          let c = digit_count in
          rw (
            drop-cons digits (2 * m) 0 (omega arith),
            drop-cons digits (suc (2 * m)) 0 (omega arith),
            drop_of_length-le digits {i = suc (suc (2 * m))} (omega arith),
            at_high,
            at_low,
          )

      pub clean_odd : eqb (last % 16) 0 ≡ letters_clean m ps
      unfolding letters_clean
      clean_odd = rw unused (low_zero last)
