-- The test in a work area, way by way.
--
--   too_large          an entry is too large
--   marks_small        otherwise marks are 0 or 1
--   all_below_lem          and none is left exactly where the list is a permutation
use mathlib.Core.Path.{◌≡◌, sym, ap, ◌∙◌}
use mathlib.Core.Bool.{Bool, true, false, false≢true}
use mathlib.Core.List.{List}
use Prim.Native.Nat.{ℕ, ◌≤◌}
use native.Mathlib.Omega.{arith}
use lib.Dec.{eqb}
use lib.ListN.{length, drop, replicate, length-replicate}
use lib.Seq.{drop_at}
use borrow.Author.Tests.{eqb-true}
use Rattle.model.specs.Numbers.{all_below, is_permutation, sum}
use Rattle.model.specs.Calls.{front}
use Rattle.model.proofs.Below.{below_replicate}
use Rattle.work.specs.Area.{region, placed}
use Rattle.work.proofs.Regions.{length_region, region_placed, front_placed}
use Rattle.striking.specs.Marks.{struck, Struck, Tested}
use Rattle.striking.proofs.Striking.{region_struck, below_struck, counted, sum_none}

module _ (p w w₁ w₂ : List ℕ) (fits : length p ≤ length w) (filled : w₁ ≡ placed 0 (replicate (length p) 1) w) (r : Bool) (s : Struck p w₁ r w₂)
    (kept : length w₂ ≡ length w) where
  abbrev n : ℕ
  n = length p

  abbrev ones : List ℕ
  ones = replicate n 1

  rest_kept : drop n w₂ ≡ drop n w
  unfolding front
  rest_kept =
      let l : length ones ≡ n = length-replicate n 1 in
      let same : drop n (front ones w) ≡ drop (length ones) w = drop_at ones (drop (length ones) w) n l in
      s.rest ∙ (ap (drop n) (filled ∙ front_placed ones w) ∙ (same ∙ ap (λ (k : ℕ). drop k w) l))

  pub too_large : r ≡ false → Tested p w false w₂
  unfolding is_permutation
  too_large e = record {
    answer = rw (← s.below, e);
    zeros = λ t. absurd (false≢true t);
    rest = rest_kept;
    kept = kept;
  }

  module _ (e : r ≡ true) where
    low : all_below n p ≡ true
    low = sym s.below ∙ e

    marks_are : region 0 n w₂ ≡ struck p ones
    marks_are =
        let l : length ones ≡ n = length-replicate n 1 in
        rw (s.marks e, region_struck n p w₁ low, filled) (ap (struck p) (region_placed 0 ones w (omega arith) n (sym l)))

    pub marks_small : all_below 2 (region 0 n w₂) ≡ true
    marks_small = rw marks_are (below_struck 2 p ones (omega arith) (below_replicate 2 n 1 (omega arith)))

    pub all_below_lem : (b : Bool) → b ≡ eqb (sum (region 0 n w₂)) 0 → Tested p w b w₂
    all_below_lem b t = record {
      answer = t ∙ rw marks_are (counted p low);
      zeros = λ yes-b.
          let z = sum_none (region 0 n w₂) (eqb-true (sum (region 0 n w₂)) 0 (sym t ∙ yes-b)) in
          z ∙ ap (λ (k : ℕ). replicate k 0) (length_region 0 n w₂ (omega arith));
      rest = rest_kept;
      kept = kept;
    }
