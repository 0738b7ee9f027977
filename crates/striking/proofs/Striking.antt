-- Striking marks decides whether a list of numbers below its length is a permutation.
--
--   counted              of as many marks none is left exactly where the list is a permutation
--   region_struck, below_struck   the first marks alone; marks stay 0 or 1
--   sum_is               the sum of a list, as the library adds it up
--   few_left, left_is    how many marks are left: no more than n, and their sum
--   sum_none             no mark is left where their sum is 0
--   struck_next, rest_next, struck_end   one turn of the loop
use mathlib.Core.Path.{◌≡◌, refl, sym, ap, ◌∙◌}
use mathlib.Core.Bool.{true}
use mathlib.Core.List.{List, [], ◌∷◌}
use Prim.Native.Nat.{ℕ, zero, suc, ◌+◌, ◌≤◌, ◌<◌}
use native.Mathlib.Nat.{not-suc-le-zero, le_of_suc-le-suc}
use native.Mathlib.Decide.{ℕ_discrete}
use native.Mathlib.Omega.{arith}
use native.Mathlib.Numerals.{add-one}
use lib.Dec.{eqb}
use lib.ListN.{length, get_or, set, take, drop, replicate, length-set, length-replicate, get_or-replicate}
use lib.Seq.{get_or-set_same, get_or-set_other, take-set-lt, drop-set-lt, length-take-le, drop-cons, drop-length}
use borrow.Author.Tests.{lt-ltb, eq-eqb, ne_eqb}
use Rattle.std.specs.List as list
use Rattle.std.proofs.lemmas.List.Sums.{sum_by-cons}
use Rattle.model.specs.Numbers.{all_below, is_permutation, sum}
use Rattle.model.proofs.Below.{below_head, below_tail, below_set, below_replicate}
use Rattle.model.proofs.Permutations.{below_all}
use Rattle.work.specs.Area.{region}
use Rattle.permutation.proofs.Marking.{run, decides}
use Rattle.striking.specs.Marks.{struck}

-- ---- sums of marks

-- the library's sum
pub sum_is : (w : List ℕ) → list.sum w ≡ sum w
unfolding sum
sum_is [] = refl
sum_is (x ∷ w) = sum_by-cons (λ k. k) x w ∙ ap (λ (k : ℕ). x + k) (sum_is w)

sum_few : (w : List ℕ) → all_below 2 w ≡ true → sum w ≤ length w
unfolding sum
sum_few [] e = omega arith
sum_few (x ∷ w) e = let h = below_head 2 x w e in let ih = sum_few w (below_tail 2 x w e) in omega arith

-- the marks among the first n
pub few_left : (n : ℕ) (w : List ℕ) → n ≤ length w → all_below 2 (region 0 n w) ≡ true → list.sum (take n w) ≤ n
unfolding region
few_left n w h e = let f = sum_few (take n w) e in let k = length-take-le n w h in rw (sum_is (take n w)) (omega arith)

pub left_is : (n : ℕ) (w : List ℕ) → list.sum (take n w) ≡ sum (region 0 n w)
unfolding region
left_is n w = sum_is (take n w)

pub sum_none : (w : List ℕ) → sum w ≡ 0 → w ≡ replicate (length w) 0
unfolding sum
sum_none [] e = refl
sum_none (x ∷ w) e = let z : x ≡ 0 = omega arith in rw z (ap (λ (r : List ℕ). 0 ∷ r) (sum_none w (omega arith)))

sum_set : (w : List ℕ) (x : ℕ) → x < length w → sum (set w x 0) + get_or w x 0 ≡ sum w
unfolding sum
sum_set [] x h = absurd (not-suc-le-zero h)
sum_set (y ∷ w) zero h = omega arith
sum_set (y ∷ w) (suc x) h = let ih = sum_set w x (le_of_suc-le-suc h) in omega arith

sum_ones : (n : ℕ) → sum (replicate n 1) ≡ n
unfolding sum
sum_ones zero = refl
sum_ones (suc n) = let ih = sum_ones n in omega arith

-- ---- marks that are struck

pub below_struck : (n : ℕ) (xs w : List ℕ) → 0 < n → all_below n w ≡ true → all_below n (struck xs w) ≡ true
unfolding struck
below_struck n [] w h e = e
below_struck n (x ∷ xs) w h e = below_struck n xs (set w x 0) h (below_set n w x 0 h e)

pub region_struck : (n : ℕ) (xs w : List ℕ) → all_below n xs ≡ true → region 0 n (struck xs w) ≡ struck xs (region 0 n w)
unfolding struck region
region_struck n [] w e = refl
region_struck n (x ∷ xs) w e =
    region_struck n xs (set w x 0) (below_tail n x xs e) ∙ ap (struck xs) (take-set-lt n w x 0 (below_head n x xs e))

-- each number strikes at most one mark
strikes : (xs w : List ℕ) → all_below (length w) xs ≡ true → all_below 2 w ≡ true → sum w ≤ sum (struck xs w) + length xs
unfolding struck
strikes [] w b e = omega arith
strikes (x ∷ xs) w b e =
    let h = below_head (length w) x xs b in
    let l = length-set w x 0 in
    let s = sum_set w x h in
    let t = below_all 2 w e x h in
    let ih = strikes xs (set w x 0) (rw l (below_tail (length w) x xs b)) (below_set 2 w x 0 (omega arith) e) in
    omega arith

-- ---- and the marks of `run`, which are set where these are struck

same_test : (a b c d : ℕ) → (a ≡ b → c ≡ d) → (c ≡ d → a ≡ b) → eqb a b ≡ eqb c d
same_test a b c d f g = elim (ℕ_discrete a b) [ yes e ↦ rw (eq-eqb a b e, eq-eqb c d (f e)) | no h ↦ rw (ne_eqb a b h, ne_eqb c d (λ e. h (g e))) ]

record Opposite (v w : List ℕ) : Type 0 where
  long : length w ≤ length v
  bits : all_below 2 w ≡ true
  one : (k : ℕ) → k < length w → get_or v k 0 + get_or w k 0 ≡ 1

opposite_set : (v w : List ℕ) (x : ℕ) → x < length w → Opposite v w → Opposite (set v x 1) (set w x 0)
opposite_set v w x h o = record {
  long = rw (length-set v x 1, length-set w x 0) o.long;
  bits = below_set 2 w x 0 (omega arith) o.bits;
  one = λ k l. let k-in = rw (length-set w x 0) at l in elim (ℕ_discrete k x) [
    | yes e ↦ let a = o.long in rw (e, get_or-set_same v x 1 0 (omega arith), get_or-set_same w x 0 0 h)
    | no d ↦ rw (get_or-set_other v x k 1 0 d, get_or-set_other w x k 0 0 d) (o.one k k-in)
  ];
}

-- every number finds its mark exactly where each strikes one
run_struck : (xs v w : List ℕ) → Opposite v w → all_below (length w) xs ≡ true → run (length w) xs v ≡ eqb (sum (struck xs w) + length xs) (sum w)
unfolding run struck
run_struck [] v w o b = sym (eq-eqb (sum w + 0) (sum w) (omega arith))
run_struck (x ∷ xs) v w o b =
    let h = below_head (length w) x xs b in
    let l = length-set w x 0 in
    let rest : all_below (length (set w x 0)) xs ≡ true = rw l (below_tail (length w) x xs b) in
    elim (ℕ_discrete (get_or v x 0) 0) [
      | yes z ↦ found h z (rw l at (run_struck xs (set v x 1) (set w x 0) (opposite_set v w x h o) rest))
      | no d ↦ lost h d (strikes xs (set w x 0) rest (below_set 2 w x 0 (omega arith) o.bits))
    ]
  where
    found : x < length w → get_or v x 0 ≡ 0 → run (length w) xs (set v x 1) ≡ eqb (sum (struck xs (set w x 0)) + length xs) (sum (set w x 0))
        → run (length w) (x ∷ xs) v ≡ eqb (sum (struck xs (set w x 0)) + suc (length xs)) (sum w)
    found h z ih =
        let s = sum_set w x h in
        let c = o.one x h in
        let left = sum (struck xs (set w x 0)) in
        let more = same_test (left + length xs) (sum (set w x 0)) (left + suc (length xs)) (sum w) (λ e. omega arith) (λ e. omega arith) in
        simp (lt-ltb x (length w) h, eq-eqb (get_or v x 0) 0 z) (ih ∙ more)

    lost : x < length w → (get_or v x 0 ≡ 0 → ⊥) → sum (set w x 0) ≤ sum (struck xs (set w x 0)) + length xs
        → run (length w) (x ∷ xs) v ≡ eqb (sum (struck xs (set w x 0)) + suc (length xs)) (sum w)
    lost h d few =
        let s = sum_set w x h in
        let c = o.one x h in
        let none : get_or w x 0 ≡ 0 = elim (ℕ_discrete (get_or w x 0) 0) [ yes e ↦ e | no f ↦ absurd (d (omega arith)) ] in
        simp (lt-ltb x (length w) h, ne_eqb (get_or v x 0) 0 d) (sym (ne_eqb _ (sum w) (λ e. omega arith)))

pub counted : (p : List ℕ) → all_below (length p) p ≡ true → eqb (sum (struck p (replicate (length p) 1))) 0 ≡ is_permutation p
counted p b =
    let n = length p in
    let ones : List ℕ = replicate n 1 in
    let zeros : List ℕ = replicate n 0 in
    let l : length ones ≡ n = length-replicate n 1 in
    let o : Opposite zeros ones = record {
      long = rw (length-replicate {A = ℕ} n 0, l) (omega arith);
      bits = below_replicate 2 n 1 (omega arith);
      one = λ k h. let i = rw l at h in rw (get_or-replicate {A = ℕ} n k 0 0 i, get_or-replicate {A = ℕ} n k 1 0 i);
    } in
    let r = run_struck p zeros ones o (rw l b) in
    let s = sum_ones n in
    same_test (sum (struck p ones)) 0 (sum (struck p ones) + n) (sum ones) (λ e. omega arith) (λ e. omega arith) ∙ sym (rw l at r) ∙ decides p n (omega arith)

-- ---- the loop

pub struck_next : (p w : List ℕ) (i : ℕ) → i < length p → struck (drop i p) w ≡ struck (drop (i + 1) p) (set w (get_or p i 0) 0)
unfolding struck
struck_next p w i h = rw (add-one, drop-cons p i 0)

pub rest_next : (n x : ℕ) (w w₀ : List ℕ) → x < n → drop n w ≡ drop n w₀ → drop n (set w x 0) ≡ drop n w₀
rest_next n x w w₀ h e = drop-set-lt n w x 0 h ∙ e

pub struck_end : (p w : List ℕ) (i : ℕ) → i ≡ length p → struck (drop i p) w ≡ w
unfolding struck
struck_end p w i h = rw (h, drop-length)
