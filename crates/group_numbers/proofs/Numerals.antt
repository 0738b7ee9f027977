-- The number that digits make, from the last digit on.
--
--   digit_before           the number with one digit more in front
--   no_digits, digit_more, all_digits   no digit is read, one more, and all
use Rattle.std.proofs.Common.{◌≡◌, ℕ, zero, suc, ◌+◌, ◌-◌, ◌*◌, ◌^◌, ◌≤◌, ◌<◌, true, List, [], ◌∷◌, get_or, drop, sym, ◌∙◌, arith}
use Rattle.std.proofs.Math.Nat.{mul_comm, pow-zero, pow-suc, pow-le-pow_right}
use Rattle.model.specs.Numbers.{all_below}
use Rattle.model.specs.Record.{digits_from, digits}
use Rattle.model.proofs.Below.{below_drop}
use Rattle.packing.proofs.Digits.{digits_nil, digits_cons, digits_below}

-- no digit is left: 0
none : (base k : ℕ) → digits base (suc k) [] ≡ 0 * base ^ k + digits base k []
none base k = let a = digits_nil base (suc k) in let b = digits_nil base k in omega arith

digit_before : (base k j : ℕ) (ds : List ℕ) → digits base (suc k) (drop j ds) ≡ get_or ds j 0 * base ^ k + digits base k (drop (suc j) ds)
digit_before base k zero [] = none base k
digit_before base k zero (d ∷ ds) = digits_cons base k d ds
digit_before base k (suc j) [] = none base k
digit_before base k (suc j) (d ∷ ds) = digit_before base k j ds

-- the digit d before place i, counted by its place
pub record More (base width : ℕ) (ds : List ℕ) (i x place d : ℕ) : Type 0 where
  pub sum : x + place * d ≡ digits base (width - (i - 1)) (drop (i - 1) ds)
  pub power : place * base ≡ base ^ (width - (i - 1))
  pub fits : x + place * d < 256
  pub low : place * base ≤ 256

pub no_digits : (base width : ℕ) (ds : List ℕ) → (0 ≡ digits base (width - width) (drop width ds)) × (1 ≡ base ^ (width - width))
unfolding digits_from
no_digits base width ds = let z : width - width ≡ 0 = omega arith in (rw z, rw (z, pow-zero base))

module _ (base width : ℕ) (ds : List ℕ) (some : 1 ≤ base) (few : base ^ width ≤ 256) (small : all_below base ds ≡ true) where
  power_low : (k : ℕ) → k ≤ width → base ^ k ≤ 256
  power_low k h = let p = pow-le-pow_right some h in omega arith

  in_byte : (k j : ℕ) → k ≤ width → digits base k (drop j ds) < 256
  in_byte k j h = let b = digits_below base some k (drop j ds) (below_drop base j ds small) in let p = power_low k h in omega arith

  module _ (i x place d : ℕ) (h : 0 < i) (within : i ≤ width) (is : x ≡ digits base (width - i) (drop i ds)) (at : place ≡ base ^ (width - i))
      (e : d ≡ get_or ds (i - 1) 0) where
    longer : width - (i - 1) ≡ suc (width - i)
    longer = omega arith

    sum : x + place * d ≡ digits base (width - (i - 1)) (drop (i - 1) ds)
    sum =
        let next : suc (i - 1) ≡ i = omega arith in
        let b = rw next at (digit_before base (width - i) (i - 1) ds) in
        let c = mul_comm d (base ^ (width - i)) in
        rw (longer, b, ← e, is, at) (omega arith)

    power : place * base ≡ base ^ (width - (i - 1))
    power = rw (longer, at) (sym (pow-suc base (width - i)))

    pub digit_more : More base width ds i x place d
    digit_more = record {
      sum = sum;
      power = power;
      fits = rw sum (in_byte (width - (i - 1)) (i - 1) (omega arith));
      low = rw power (power_low (width - (i - 1)) (omega arith));
    }

  pub all_digits : (i x : ℕ) → i ≡ 0 → x ≡ digits base (width - i) (drop i ds) → (x ≡ digits base width ds) × (x < 256)
  all_digits i x h e = let all : width - i ≡ width = omega arith in (e ∙ rw (all, h), rw e (in_byte (width - i) i (omega arith)))
