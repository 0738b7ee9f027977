-- The labels that fill the last group. Assumes nothing.
--
--   zero_digits           the j low digits of g are 0, by a remainder
--   last_labels           the labels from number m on, where all of them are the last group's
use Prim.Native.Nat.{ℕ, zero, suc, ◌+◌, ◌*◌, ◌/◌, ◌%◌, ◌^◌, ◌<◌}
use native.Mathlib.Nat.{zero-mul, suc-mul, one-le-pow, pow-succ'}
use native.Mathlib.Omega.{arith}
use mathlib.Core.Path.{◌≡◌, ap}
use mathlib.Core.Bool.{◌&&◌}
use mathlib.Core.List.{List}
use lib.Arith.{mod-mul}
use lib.Dec.{eqb, ltb}
use lib.ListN.{length, get_or, take, drop, length-drop}
use lib.Seq.{take_all, drop-append-add, length-take-le}
use borrow.Author.Tests.{eq-eqb, ne_eqb, le-ltb}
use Rattle.model.specs.Numbers.{all_below}
use Rattle.packing.specs.Unpack.{digits_of, groups}
use Rattle.packing.proofs.Packed.{length_unpack}
use Rattle.unpacker.proofs.Labels.{groups_more}

-- x is 0 exactly if its digit a, of weight c, and what is left of it are
apart : (a c r x : ℕ) → 0 < c → x ≡ a * c + r → eqb x 0 ≡ (ltb a 1 && eqb r 0)
apart zero c r x h e = let z = zero-mul c in let same : x ≡ r = omega arith in ap (λ (y : ℕ). eqb y 0) same
apart (suc a) c r x h e = let z = suc-mul a c in rw (le-ltb (suc a) 1 (omega arith)) (ne_eqb x 0 (λ q. omega arith))

pub zero_digits : (j g : ℕ) → eqb (g % 3 ^ j) 0 ≡ all_below 1 (digits_of 3 j g)
unfolding digits_of all_below
zero_digits zero g = eq-eqb (g % 3 ^ 0) 0 (omega arith)
zero_digits (suc j) g =
    let c : 0 < 3 ^ j = one-le-pow j 3 (omega arith) in
    rw (← zero_digits j g) (apart (g / 3 ^ j % 3) (3 ^ j) (g % 3 ^ j) (g % 3 ^ suc j) c (rw (pow-succ' 3 j) (mod-mul g {m = 3} {c = 3 ^ j} (omega arith) c)))

-- the groups are the numbers of r from place `from` on, and i is how many there are but the last
pub last_labels : (from : ℕ) (r : List ℕ) (i m j : ℕ) → length r ≡ from + i + 1 → m ≡ 5 * i + j
    → drop m (groups (drop from r)) ≡ drop j (digits_of 3 5 (get_or r (from + i) 0))
unfolding groups
last_labels from r i m j l e =
    let d = length-drop from r in
    let front = take i (drop from r) in
    let whole = ap groups (take_all (i + 1) (drop from r) (omega arith)) in
    let long = length_unpack 3 5 (length front) front in
    let t = length-take-le i (drop from r) (omega arith) in
    let p : m ≡ length (groups front) + j = omega arith in
    rw (← whole, groups_more 0 from r i (omega arith), p) (drop-append-add (groups front) (digits_of 3 5 (get_or r (from + i) 0)) j)
