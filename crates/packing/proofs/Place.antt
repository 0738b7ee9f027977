-- One digit of packed numbers, at place k: digit k % w of number k / w. Assumes nothing.
--
--   unpack_at, unpack_set   digit j of number q, read, and changed with that number
--   unpack_read             the digit at place k by dividing
--   put_fits, unpack_put    a digit put where 0 stands, by adding
use Prim.Native.Nat.{ℕ, zero, suc, ◌+◌, ◌-◌, ◌*◌, ◌/◌, ◌%◌, ◌^◌, ◌<◌}
use native.Mathlib.Nat.{not-suc-le-zero, le_of_suc-le-suc, zero-mul, suc-mul, zero-add, mod-lt, div-add-mod', div-lt_iff_lt-mul}
use native.Mathlib.Omega.{arith}
use native.Mathlib.Numerals.{one-add}
use mathlib.Core.Path.{◌≡◌, sym, ap, ◌∙◌}
use mathlib.Core.Bool.{true}
use mathlib.Core.List.{List, [], ◌∷◌}
use lib.ListN.{length, get_or, set, drop, length-set, get_or-append}
use lib.Seq.{take_all, get_or-append-add, get_or-drop, set-append_left}
use Rattle.model.proofs.Stores.{set_append_right}
use Rattle.model.specs.Numbers.{all_below}
use Rattle.model.specs.Record.{digits}
use Rattle.model.proofs.Below.{below_set}
use Rattle.packing.specs.Unpack.{digits_of, unpack}
use Rattle.packing.proofs.Digits.{digits_below, length_digits_of, digits_of_below, digits_of_at, digits_of_digits, digits_digits_of, digits_set}

module _ (b w : ℕ) where
  pub unpack_at : (n : ℕ) (xs : List ℕ) (q j : ℕ) → q < n → j < w → get_or (unpack b w n xs) (q * w + j) 0 ≡ get_or (digits_of b w (get_or xs q 0)) j 0
  unfolding unpack
  unpack_at zero xs q j h l = absurd (not-suc-le-zero h)
  unpack_at (suc n) xs zero j h l =
      let e = length_digits_of b w (get_or xs 0 0) in
      rw (zero-mul w, zero-add j) (get_or-append (digits_of b w (get_or xs 0 0)) (unpack b w n (drop 1 xs)) 0 j (omega arith))
  unpack_at (suc n) xs (suc q) j h l =
      let d = digits_of b w (get_or xs 0 0) in
      let p : suc q * w + j ≡ length d + (q * w + j) = rw (suc-mul q w, length_digits_of b w (get_or xs 0 0)) (omega arith) in
      rw (
        p,
        get_or-append-add d (unpack b w n (drop 1 xs)) (q * w + j) 0,
        unpack_at n (drop 1 xs) q j (le_of_suc-le-suc h) l,
        get_or-drop 1 xs q 0,
        one-add q,
      )

  pub unpack_set : (n : ℕ) (xs : List ℕ) (q j v d : ℕ) → q < n → q < length xs → j < w → digits_of b w v ≡ set (digits_of b w (get_or xs q 0)) j d
      → unpack b w n (set xs q v) ≡ set (unpack b w n xs) (q * w + j) d
  unfolding unpack
  unpack_set zero xs q j v d h k l e = absurd (not-suc-le-zero h)
  unpack_set (suc n) [] q j v d h k l e = absurd (not-suc-le-zero k)
  unpack_set (suc n) (x ∷ xs) zero j v d h k l e =
      rw (e, zero-mul w, zero-add j) (sym (set-append_left (digits_of b w x) (unpack b w n xs) j d (let f = length_digits_of b w x in omega arith)))
  unpack_set (suc n) (x ∷ xs) (suc q) j v d h k l e =
      let p : suc q * w + j ≡ length (digits_of b w x) + (q * w + j) = rw (suc-mul q w, length_digits_of b w x) (omega arith) in
      rw (p, unpack_set n xs q j v d (le_of_suc-le-suc h) (le_of_suc-le-suc k) l e)
      (sym (set_append_right (digits_of b w x) (unpack b w n xs) (q * w + j) d))

  module _ (n k : ℕ) (xs : List ℕ) (w-pos : 0 < w) (k-in : k < n * w) where
    place : k / w * w + k % w ≡ k
    place = div-add-mod' k w

    number_in : k / w < n
    number_in = (div-lt_iff_lt-mul w-pos).1 k-in

    pub unpack_read : get_or xs (k / w) 0 / b ^ (w - suc (k % w)) % b ≡ get_or (unpack b w n xs) k 0
    unpack_read =
        sym (digits_of_at b w (get_or xs (k / w) 0) (k % w) (mod-lt k w-pos)) ∙ sym (unpack_at n xs (k / w) (k % w) number_in (mod-lt k w-pos))
        ∙ ap (λ (i : ℕ). get_or (unpack b w n xs) i 0) place

    -- the digit d put where 0 stands
    module _ (b-pos : 0 < b) (d : ℕ) (d-fits : d < b) (here : k / w < length xs) (fits : get_or xs (k / w) 0 < b ^ w)
        (free : get_or (unpack b w n xs) k 0 ≡ 0) where
      abbrev old : List ℕ
      old = digits_of b w (get_or xs (k / w) 0)

      new_digits : digits b w (set old (k % w) d) ≡ get_or xs (k / w) 0 + d * b ^ (w - suc (k % w))
      new_digits =
          digits_set b w old (k % w) d (length_digits_of b w (get_or xs (k / w) 0)) (mod-lt k w-pos)
          (digits_of_at b w (get_or xs (k / w) 0) (k % w) (mod-lt k w-pos) ∙ unpack_read ∙ free)
          ∙ ap (λ (x : ℕ). x + d * b ^ (w - suc (k % w))) (digits_digits_of b b-pos w (get_or xs (k / w) 0) fits)

      new_below : all_below b (set old (k % w) d) ≡ true
      new_below = below_set b old (k % w) d d-fits (digits_of_below b b-pos w (get_or xs (k / w) 0))

      pub put_fits : get_or xs (k / w) 0 + d * b ^ (w - suc (k % w)) < b ^ w
      put_fits = rw new_digits at (digits_below b b-pos w (set old (k % w) d) new_below)

      pub unpack_put : unpack b w n (set xs (k / w) (get_or xs (k / w) 0 + d * b ^ (w - suc (k % w)))) ≡ set (unpack b w n xs) k d
      unpack_put =
          let l : length (set old (k % w) d) ≡ w = length-set old (k % w) d ∙ length_digits_of b w (get_or xs (k / w) 0) in
          unpack_set n xs (k / w) (k % w) _ d number_in here (mod-lt k w-pos)
          (ap (digits_of b w) (sym new_digits) ∙ digits_of_digits b w (set old (k % w) d) b-pos new_below (omega arith)
          ∙ take_all w (set old (k % w) d) (omega arith))
          ∙ ap (λ (i : ℕ). set (unpack b w n xs) i d) place
