-- A number and its w digits to the base b. Assumes nothing.
--
--   digits_cons, digits_nil   the first digit counts bʷ, and no digits make 0
--   digits_below          a number of w digits is below bʷ
--   digits_pad            zeros after the digits are as good as no digits
--   digits_append         digits past the first w do not count
--   length_digits_of, digits_of_below   w digits, each below b
--   digits_of_high         a multiple of bʷ does not show in the w low digits
--   digits_of_digits       the digits of the number that ds make are ds
--   digits_digits_of       the number that the digits of x make is x, if x is below bʷ
--   digits_of_at           the digit at place j
--   digits_set            a digit put where 0 stands
use Prim.Native.Nat.{ℕ, zero, suc, ◌+◌, ◌-◌, ◌*◌, ◌/◌, ◌%◌, ◌^◌, ◌≤◌, ◌<◌}
use native.Mathlib.Nat.{le_refl, not-suc-le-zero, suc_inj, le_of_suc-le-suc, zero-add, add-zero, add_comm, add_assoc, zero-mul, add-mul, mul_assoc}
use native.Mathlib.Nat.{mul_comm, mod-lt, mod-eq_of_lt, pow-zero, pow-suc, pow-succ', one-le-pow, mul-one, mul-add-div_right, mul-add-mod_self_right}
use native.Mathlib.Nat.{mod-one, suc-sub-suc, sub-zero}
use native.Mathlib.Omega.{arith}
use mathlib.Core.Path.{◌≡◌, refl, sym, ap, ◌∙◌}
use mathlib.Core.Bool.{true}
use mathlib.Core.List.{List, [], ◌∷◌, ◌++◌}
use lib.Arith.{digits_lt, digits_div, mod-mul}
use lib.ListN.{length, get_or, set, take, replicate}
use Rattle.model.specs.Numbers.{all_below}
use Rattle.model.specs.Record.{digits_from, digits}
use Rattle.model.proofs.Below.{below_cons, below_head, below_tail}
use Rattle.packing.specs.Unpack.{digits_of}

-- a digit d after the digits that make s
shift_in : (s d b p x : ℕ) → (s * b + d) * p + x ≡ s * (p * b) + (d * p + x)
shift_in s d b p x = rw (add-mul (s * b) d p, mul_assoc s b p, mul_comm b p) (add_assoc (s * (p * b)) (d * p) x)

module _ (b : ℕ) where
  -- what stands before the digits counts bʷ
  digits_from_value : (s w : ℕ) (ds : List ℕ) → digits_from b s w ds ≡ s * b ^ w + digits b w ds
  unfolding digits_from
  digits_from_value s zero ds = rw (pow-zero b, mul-one s) (sym (add-zero s))
  digits_from_value s (suc w) [] =
      rw (
        digits_from_value (s * b) w [],
        digits_from_value (0 * b) w [],
        pow-suc b w,
        zero-mul b,
        zero-mul (b ^ w),
        mul_assoc s b (b ^ w),
        mul_comm b (b ^ w),
        zero-add (digits b w []),
      )
  digits_from_value s (suc w) (d ∷ ds) =
      rw (digits_from_value (s * b + d) w ds, digits_from_value (0 * b + d) w ds, pow-suc b w, zero-mul b, zero-add d) (shift_in s d b (b ^ w) _)

  pub digits_cons : (w d : ℕ) (ds : List ℕ) → digits b (suc w) (d ∷ ds) ≡ d * b ^ w + digits b w ds
  unfolding digits_from
  digits_cons w d ds = digits_from_value (0 * b + d) w ds ∙ rw (zero-mul b, zero-add d)

  pub digits_nil : (w : ℕ) → digits b w [] ≡ 0
  unfolding digits_from
  digits_nil zero = refl
  digits_nil (suc w) = rw (zero-mul b) (digits_nil w)

  pub digits_below : 0 < b → (w : ℕ) (ds : List ℕ) → all_below b ds ≡ true → digits b w ds < b ^ w
  unfolding digits_from
  digits_below h zero ds e = rw (pow-zero b) (le_refl 1)
  digits_below h (suc w) [] e = rw (digits_nil (suc w)) (one-le-pow (suc w) b h)
  digits_below h (suc w) (d ∷ ds) e =
      rw (digits_cons w d ds, pow-succ' b w) (digits_lt (below_head b d ds e) (digits_below h w ds (below_tail b d ds e)))

  -- zeros after the digits are as good as none
  pub digits_pad : (s w : ℕ) (ds : List ℕ) (k : ℕ) → digits_from b s w (ds ++ replicate k 0) ≡ digits_from b s w ds
  unfolding digits_from
  digits_pad s zero ds k = refl
  digits_pad s (suc w) [] zero = refl
  digits_pad s (suc w) [] (suc k) = rw (add-zero (s * b)) (digits_pad (s * b) w [] k)
  digits_pad s (suc w) (d ∷ ds) k = digits_pad (s * b + d) w ds k

  pub digits_append : (s w : ℕ) (ds es : List ℕ) → w ≤ length ds → digits_from b s w (ds ++ es) ≡ digits_from b s w ds
  unfolding digits_from
  digits_append s zero ds es h = refl
  digits_append s (suc w) [] es h = absurd (not-suc-le-zero h)
  digits_append s (suc w) (d ∷ ds) es h = digits_append (s * b + d) w ds es (le_of_suc-le-suc h)

  pub length_digits_of : (w x : ℕ) → length (digits_of b w x) ≡ w
  unfolding digits_of
  length_digits_of zero x = refl
  length_digits_of (suc w) x = ap suc (length_digits_of w x)

  pub digits_of_below : 0 < b → (w x : ℕ) → all_below b (digits_of b w x) ≡ true
  unfolding digits_of all_below
  digits_of_below h zero x = refl
  digits_of_below h (suc w) x = below_cons b _ (digits_of b w x) (mod-lt (x / b ^ w) h) (digits_of_below h w x)

  -- a multiple of bʷ does not show in the w low digits
  pub digits_of_high : 0 < b → (w q x : ℕ) → digits_of b w (q * b ^ w + x) ≡ digits_of b w x
  unfolding digits_of
  digits_of_high h zero q x = refl
  digits_of_high h (suc w) q x =
      let e : q * b ^ suc w ≡ q * b * b ^ w = rw (pow-succ' b w) (sym (mul_assoc q b (b ^ w))) in
      let top : (q * b * b ^ w + x) / b ^ w % b ≡ x / b ^ w % b =
      rw (mul-add-div_right (one-le-pow w b h) (q * b) x) (mul-add-mod_self_right q b (x / b ^ w)) in
      rw (e, top, digits_of_high h w (q * b) x)

  pub digits_of_digits : (w : ℕ) (ds : List ℕ) → 0 < b → all_below b ds ≡ true → w ≤ length ds → digits_of b w (digits b w ds) ≡ take w ds
  unfolding digits_of
  digits_of_digits zero ds h e l = refl
  digits_of_digits (suc w) [] h e l = absurd (not-suc-le-zero l)
  digits_of_digits (suc w) (d ∷ ds) h e l =
      let low = digits_below h w ds (below_tail b d ds e) in
      rw (digits_cons w d ds, digits_div d low, mod-eq_of_lt (below_head b d ds e), digits_of_high h w d (digits b w ds))
      (ap (λ (r : List ℕ). d ∷ r) (digits_of_digits w ds h (below_tail b d ds e) (le_of_suc-le-suc l)))

  digits_mod_pow : 0 < b → (w x : ℕ) → digits b w (digits_of b w x) ≡ x % b ^ w
  unfolding digits_of digits_from
  digits_mod_pow h zero x = rw (pow-zero b) (sym (mod-one x))
  digits_mod_pow h (suc w) x =
      digits_cons w (x / b ^ w % b) (digits_of b w x) ∙ rw (digits_mod_pow h w x, pow-succ' b w) (sym (mod-mul x h (one-le-pow w b h)))

  pub digits_digits_of : 0 < b → (w x : ℕ) → x < b ^ w → digits b w (digits_of b w x) ≡ x
  digits_digits_of h w x l = digits_mod_pow h w x ∙ mod-eq_of_lt l

  pub digits_of_at : (w x j : ℕ) → j < w → get_or (digits_of b w x) j 0 ≡ x / b ^ (w - suc j) % b
  unfolding digits_of
  digits_of_at zero x j h = absurd (not-suc-le-zero h)
  digits_of_at (suc w) x zero h = rw (suc-sub-suc w 0, sub-zero w)
  digits_of_at (suc w) x (suc j) h = rw (suc-sub-suc w (suc j)) (digits_of_at w x j (le_of_suc-le-suc h))

  -- a digit put where 0 stands
  pub digits_set : (w : ℕ) (ds : List ℕ) (j d : ℕ) → length ds ≡ w → j < w → get_or ds j 0 ≡ 0
      → digits b w (set ds j d) ≡ digits b w ds + d * b ^ (w - suc j)
  digits_set zero ds j d l h z = absurd (not-suc-le-zero h)
  digits_set (suc w) [] j d l h z = let e : ⊥ = omega arith in absurd e
  digits_set (suc w) (x ∷ ds) zero d l h z =
      rw (digits_cons w d ds, digits_cons w x ds, z, zero-mul (b ^ w), suc-sub-suc w 0, sub-zero w, zero-add (digits b w ds))
      (add_comm (d * b ^ w) (digits b w ds))
  digits_set (suc w) (x ∷ ds) (suc j) d l h z =
      rw (digits_cons w x (set ds j d), digits_cons w x ds, digits_set w ds j d (suc_inj l) (le_of_suc-le-suc h) z, suc-sub-suc w (suc j))
      (sym (add_assoc (x * b ^ w) (digits b w ds) (d * b ^ (w - suc j))))
