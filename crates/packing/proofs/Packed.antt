-- `pack` and `unpack` undo one another. `b` is the base, `w` the digits of a number, `n` how many numbers there are. Assumes nothing.
--
--   pack_length, pack_below       n numbers, each below bʷ
--   pack_split, pack_more         so many numbers more, and one
--   pack_pad                      zeros after the digits are as good as no digits
--   length_unpack, unpack_below   n * w digits, each below b
--   unpack_append, unpack_drop    a sequence is taken apart part by part, and past n numbers
--   unpack_pack                   the digits come back, filled up with zeros
--   pack_unpack                   the numbers come back
--   pack_take                     numbers whose digits past l are 0 are packed from l digits
--   unpack_packed, blank_past, pack_front   the same where the number of numbers is a list's length
--   length_bits, bits_below, bits_append, bits_take   eight bits of each byte, each below 2, part by part, and of the first bytes
use Prim.Native.Nat.{ℕ, zero, suc, ◌+◌, ◌-◌, ◌*◌, ◌^◌, ◌≤◌, ◌<◌}
use native.Mathlib.Nat.{suc_inj, suc-ne-zero, zero-add, suc-add, add_comm, zero-mul, suc-mul, zero-sub, sub-zero, suc-sub-suc, add-sub_of_le}
use native.Mathlib.Omega.{arith}
use native.Mathlib.Numerals.{add-one}
use mathlib.Core.Path.{◌≡◌, refl, sym, ap, ◌∙◌}
use mathlib.Core.Bool.{true}
use mathlib.Core.List.{List, [], ◌∷◌, ◌++◌, append_assoc}
use lib.ListN.{length, get_or, take, drop, replicate, length-append, length-drop, length-replicate, take-append-drop}
use lib.Seq.{drop-nil, drop-drop, take_at, drop_at, length-take-le}
use Rattle.model.specs.Numbers.{all_below}
use Rattle.model.specs.Record.{digits, pack}
use Rattle.model.proofs.Below.{below_cons, below_head, below_tail, below_append, below_drop, below_replicate, blank_zeros, zeros_blank}
use Rattle.packing.specs.Unpack.{digits_of, unpack, bits}
use Rattle.packing.specs.Payload.{blank_from}
use Rattle.packing.proofs.Digits.{digits_below, digits_pad, digits_append, length_digits_of, digits_of_below, digits_of_digits, digits_digits_of}

drop_zeros : (w k : ℕ) → drop w (replicate {A = ℕ} k 0) ≡ replicate (k - w) 0
drop_zeros zero k = rw (sub-zero k)
drop_zeros (suc w) zero = rw (zero-sub (suc w))
drop_zeros (suc w) (suc k) = rw (suc-sub-suc k w) (drop_zeros w k)

-- a part past the front of a list that is filled up with zeros
drop_pad : (w : ℕ) (ds : List ℕ) (k : ℕ) → drop w (ds ++ replicate k 0) ≡ drop w ds ++ replicate (k - (w - length ds)) 0
drop_pad zero ds k = rw (zero-sub (length ds), sub-zero k)
drop_pad (suc w) [] k = rw (sub-zero (suc w)) (drop_zeros (suc w) k)
drop_pad (suc w) (d ∷ ds) k = rw (suc-sub-suc w (length ds)) (drop_pad w ds k)

module _ (b w : ℕ) where
  pub pack_length : (n : ℕ) (ds : List ℕ) → length (pack b w n ds) ≡ n
  unfolding pack
  pack_length zero ds = refl
  pack_length (suc n) ds = ap suc (pack_length n (drop w ds))

  pub pack_below : 0 < b → (n : ℕ) (ds : List ℕ) → all_below b ds ≡ true → all_below (b ^ w) (pack b w n ds) ≡ true
  unfolding pack all_below
  pack_below h zero ds e = refl
  pack_below h (suc n) ds e =
      below_cons (b ^ w) (digits b w ds) (pack b w n (drop w ds)) (digits_below b h w ds e) (pack_below h n (drop w ds) (below_drop b w ds e))

  pub pack_split : (n k : ℕ) (ds : List ℕ) → pack b w (n + k) ds ≡ pack b w n ds ++ pack b w k (drop (n * w) ds)
  unfolding pack
  pack_split zero k ds = rw (zero-add, zero-mul)
  pack_split (suc n) k ds =
      rw (suc-add n k, suc-mul n w, add_comm (n * w) w, ← drop-drop (n * w) w ds) (ap (λ (r : List ℕ). digits b w ds ∷ r) (pack_split n k (drop w ds)))

  pub pack_more : (i : ℕ) (ds : List ℕ) → pack b w (suc i) ds ≡ pack b w i ds ++ (digits b w (drop (i * w) ds) ∷ [])
  unfolding pack
  pack_more i ds = ap (λ (n : ℕ). pack b w n ds) (sym (add-one i)) ∙ pack_split i 1 ds

  pub pack_pad : (n : ℕ) (ds : List ℕ) (k : ℕ) → pack b w n (ds ++ replicate k 0) ≡ pack b w n ds
  unfolding pack
  pack_pad zero ds k = refl
  pack_pad (suc n) ds k = rw (digits_pad b 0 w ds k, drop_pad w ds k, pack_pad n (drop w ds) (k - (w - length ds)))

  pub length_unpack : (n : ℕ) (xs : List ℕ) → length (unpack b w n xs) ≡ n * w
  unfolding unpack
  length_unpack zero xs = sym (zero-mul w)
  length_unpack (suc n) xs =
      length-append (digits_of b w (get_or xs 0 0)) (unpack b w n (drop 1 xs))
      ∙ rw (length_digits_of b w (get_or xs 0 0), length_unpack n (drop 1 xs), suc-mul n w) (omega arith)

  pub unpack_below : 0 < b → (n : ℕ) (xs : List ℕ) → all_below b (unpack b w n xs) ≡ true
  unfolding unpack all_below
  unpack_below h zero xs = refl
  unpack_below h (suc n) xs = below_append b (digits_of b w (get_or xs 0 0)) _ (digits_of_below b h w _) (unpack_below h n (drop 1 xs))

  pub unpack_append : (xs ys : List ℕ) → unpack b w (length (xs ++ ys)) (xs ++ ys) ≡ unpack b w (length xs) xs ++ unpack b w (length ys) ys
  unfolding unpack
  unpack_append [] ys = refl
  unpack_append (x ∷ xs) ys = rw (unpack_append xs ys) (sym (append_assoc (digits_of b w x) _ _))

  pub unpack_drop : (n : ℕ) (xs : List ℕ) → drop (n * w) (unpack b w (length xs) xs) ≡ unpack b w (length (drop n xs)) (drop n xs)
  unfolding unpack
  unpack_drop zero xs = rw (zero-mul w)
  unpack_drop (suc n) [] = drop-nil (suc n * w)
  unpack_drop (suc n) (x ∷ xs) =
      let u = digits_of b w x ++ unpack b w (length xs) xs in
      let e : suc n * w ≡ w + n * w = suc-mul n w ∙ omega arith in
      rw (e, ← drop-drop (n * w) w u, drop_at (digits_of b w x) (unpack b w (length xs) xs) w (length_digits_of b w x)) (unpack_drop n xs)

  -- all digits are there
  unpack_pack_full : 0 < b → (n : ℕ) (ds : List ℕ) → all_below b ds ≡ true → length ds ≡ n * w → unpack b w n (pack b w n ds) ≡ ds
  unfolding unpack pack
  unpack_pack_full h zero [] e l = refl
  unpack_pack_full h zero (d ∷ ds) e l = absurd (suc-ne-zero (length ds) (l ∙ zero-mul w))
  unpack_pack_full h (suc n) ds e l =
      let s = suc-mul n w in
      rw (digits_of_digits b w ds h e (omega arith), unpack_pack_full h n (drop w ds) (below_drop b w ds e) (length-drop w ds ∙ omega arith))
      (take-append-drop w ds)

  pub unpack_pack : 0 < b → (n : ℕ) (ds : List ℕ) → all_below b ds ≡ true → length ds ≤ n * w
      → unpack b w n (pack b w n ds) ≡ ds ++ replicate (n * w - length ds) 0
  unpack_pack h n ds e l =
      let z : List ℕ = replicate (n * w - length ds) 0 in
      ap (unpack b w n) (sym (pack_pad n ds (n * w - length ds)))
      ∙ unpack_pack_full h n (ds ++ z) (below_append b ds z e (below_replicate b (n * w - length ds) 0 h))
      (length-append ds z ∙ rw (length-replicate {A = ℕ} (n * w - length ds) 0) (add-sub_of_le l))

  pub pack_unpack : 0 < b → (n : ℕ) (xs : List ℕ) → all_below (b ^ w) xs ≡ true → length xs ≡ n → pack b w n (unpack b w n xs) ≡ xs
  unfolding unpack pack
  pack_unpack h zero [] e l = refl
  pack_unpack h zero (x ∷ xs) e l = absurd (suc-ne-zero (length xs) l)
  pack_unpack h (suc n) [] e l = absurd (suc-ne-zero n (sym l))
  pack_unpack h (suc n) (x ∷ xs) e l =
      let d = length_digits_of b w x in
      rw (
        digits_append b 0 w (digits_of b w x) (unpack b w n xs) (omega arith),
        digits_digits_of b h w x (below_head (b ^ w) x xs e),
        drop_at (digits_of b w x) (unpack b w n xs) w d,
      )
      (ap (λ (r : List ℕ). x ∷ r) (pack_unpack h n xs (below_tail (b ^ w) x xs e) (suc_inj l)))

  pub pack_take : 0 < b → (n l : ℕ) (xs : List ℕ) → all_below (b ^ w) xs ≡ true → length xs ≡ n → all_below 1 (drop l (unpack b w n xs)) ≡ true
      → pack b w n (take l (unpack b w n xs)) ≡ xs
  pack_take h n l xs e k z =
      let u = unpack b w n xs in
      sym (pack_pad n (take l u) (length (drop l u)))
      ∙ ap (λ (r : List ℕ). pack b w n (take l u ++ r)) (sym (blank_zeros (drop l u) z))
      ∙ ap (pack b w n) (take-append-drop l u) ∙ pack_unpack h n xs e k

-- `pack` and `unpack` where the number of numbers is the list's length
module _ (b w : ℕ) (h : 0 < b) where
  pub unpack_packed : (n : ℕ) (ds : List ℕ) → all_below b ds ≡ true → length ds ≤ n * w
      → unpack b w (length (pack b w n ds)) (pack b w n ds) ≡ ds ++ replicate (n * w - length ds) 0
  unpack_packed n ds e k = rw (pack_length b w n ds) (unpack_pack b w h n ds e k)

  pub blank_past : (n : ℕ) (ds : List ℕ) (l : ℕ) → length ds ≡ l → all_below b ds ≡ true → l ≤ n * w
      → blank_from l (unpack b w (length (pack b w n ds)) (pack b w n ds)) ≡ true
  blank_past n ds l q e k =
      rw (unpack_packed n ds e (omega arith), drop_at ds (replicate (n * w - length ds) 0) l q) (zeros_blank (n * w - length ds))

  pub pack_front : (n l : ℕ) (xs : List ℕ) → all_below (b ^ w) xs ≡ true → length xs ≡ n → blank_from l (unpack b w (length xs) xs) ≡ true
      → pack b w n (take l (unpack b w (length xs) xs)) ≡ xs
  pack_front n l xs e q z = rw q (pack_take b w h n l xs e q (rw q at z))

-- ---- bits of bytes

pub length_bits : (s : List ℕ) → length (bits s) ≡ 8 * length s
unfolding bits
length_bits s = let e = length_unpack 2 8 (length s) s in omega arith

pub bits_below : (s : List ℕ) → all_below 2 (bits s) ≡ true
unfolding bits
bits_below s = unpack_below 2 8 (omega arith) (length s) s

pub bits_append : (s t : List ℕ) → bits (s ++ t) ≡ bits s ++ bits t
unfolding bits
bits_append s t = unpack_append 2 8 s t

pub bits_take : (n : ℕ) (s : List ℕ) → n ≤ length s → take (8 * n) (bits s) ≡ bits (take n s)
bits_take n s h =
    let e = length_bits (take n s) in let l = length-take-le n s h in
    ap (λ (r : List ℕ). take (8 * n) (bits r)) (sym (take-append-drop n s)) ∙ ap (take (8 * n)) (bits_append (take n s) (drop n s))
    ∙ take_at (bits (take n s)) (bits (drop n s)) (8 * n) (omega arith)
