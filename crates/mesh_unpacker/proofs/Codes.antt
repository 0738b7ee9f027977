-- What reading codewords has handed back, by cases. Assumes nothing.
--
--   digits_few            codewords have no more digits than there are of them
--   Found, counted        n codewords stand from place a on, have c bits and want l digits
use Prim.Native.Nat.{ℕ, zero, suc, ◌+◌, ◌*◌, ◌≤◌}
use native.Mathlib.Omega.{arith}
use mathlib.Core.Path.{◌≡◌}
use mathlib.Core.Bool.{true}
use mathlib.Core.List.{List, [], ◌∷◌}
use lib.ListN.{length}
use Rattle.model.specs.Numbers.{all_below}
use Rattle.model.specs.Mesh.{digit_of, type_digits}
use Rattle.packing.specs.Types.{coded, read_codes}
use Rattle.packing.specs.Unpack.{bits}
use Rattle.packing.proofs.Packed.{length_bits, bits_below}
use Rattle.packing.proofs.Codewords.{codes_fit, codes_below}
use Rattle.work.specs.Area.{region}
use Rattle.work.proofs.Regions.{length_region}
use Rattle.std.specs.Prelude.{Some}
use Rattle.mesh_codewords.specs.declared.Counts.{Counts}
use Rattle.mesh_codewords.specs.Reading.{CodesRead}

pub digits_few : (ss : List ℕ) → length (type_digits ss) ≤ length ss
unfolding type_digits digit_of
digits_few [] = omega arith
digits_few (zero ∷ ss) = let i = digits_few ss in omega arith
digits_few (suc zero ∷ ss) = let i = digits_few ss in omega arith
digits_few (suc (suc zero) ∷ ss) = let i = digits_few ss in omega arith
digits_few (suc (suc (suc n)) ∷ ss) = let i = digits_few ss in omega arith

pub record Found (ps : List ℕ) (n a : ℕ) (w : List ℕ) (c l : ℕ) : Type 0 where
  pub codes : read_codes n (bits ps) ≡ coded (region a n w) c
  pub digits : l ≡ length (type_digits (region a n w))
  pub fits : c ≤ 8 * length ps
  pub few : l ≤ n
  pub below : all_below 4 (region a n w) ≡ true

pub counted : (ps : List ℕ) (n a : ℕ) (w : List ℕ) (r : Counts) → CodesRead (read_codes n (bits ps)) a n (Some r) w → a + n ≤ length w
    → Found ps n a w r.bits r.digits
unfolding CodesRead
counted ps n a w r (codes, digits) h =
    let bits-many = length_bits ps in
    let f = codes_fit n (bits ps) (region a n w) r.bits codes in
    let few = digits_few (region a n w) in
    let long = length_region a n w h in
    record {
      codes = codes;
      digits = digits;
      fits = omega arith;
      few = omega arith;
      below = codes_below n (bits ps) (region a n w) r.bits (bits_below ps) codes;
    }
