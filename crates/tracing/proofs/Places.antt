-- The parts of the work area that a step writes and those that it leaves: the marks from 0 on, the edges that wait from n on, and what is put from 3n on.
--
--   mark_at, region_mark   a mark is the entry at its dart, and set by a store there
--   from_drop, above_region, above_stack, above_at   what is kept above the marks
--   Below, below_set, below_then   a store from 2n on keeps the marks and the k edges that wait
--   down_below, first_below, up_below, second_below   what is put at a letter
use mathlib.Core.Path.{◌≡◌, refl, sym, ap, ◌∙◌}
use mathlib.Core.Bool.{Bool}
use mathlib.Core.List.{List}
use Prim.Native.Nat.{ℕ, zero, suc, ◌+◌, ◌-◌, ◌*◌, ◌≤◌, ◌<◌}
use native.Mathlib.Nat.{zero-add}
use native.Mathlib.Omega.{arith}
use lib.ListN.{length, get_or, set, take, drop, length-set}
use lib.Seq.{get_or-take, get_or-drop, drop-drop}
use borrow.Author.Tests.{eq-eqb, ne_eqb}
use Rattle.orbits.proofs.Order.{eq_split}
use Rattle.work.specs.Map.{LETTERS, WAITING, BITS, LABELS}
use Rattle.work.specs.Area.{region, stack}
use Rattle.work.proofs.Regions.{region_set, region_set_other}
use Rattle.work.proofs.Stacks.{stack_set}
use Rattle.trace_puts.specs.Putting.{down_put, first_put, up_put, second_put}

pub mark_at : (n : ℕ) (w : List ℕ) (x : ℕ) → x < n → get_or (region 0 n w) x 0 ≡ get_or w x 0
unfolding region
mark_at n w x h = get_or-take n w x 0 h

pub region_mark : (n : ℕ) (w : List ℕ) (d v : ℕ) → d < n → region 0 n (set w d v) ≡ set (region 0 n w) d v
region_mark n w d v h = rw zero-add at (region_set 0 n w d v h)

-- ---- what stands above the marks

module _ (n : ℕ) (w w' : List ℕ) (same : drop n w' ≡ drop n w) where
  pub from_drop : (a : ℕ) → n ≤ a → drop a w' ≡ drop a w
  from_drop a h =
      let e : n + (a - n) ≡ a = omega arith in
      ap (λ (k : ℕ). drop k w') (sym e) ∙ sym (drop-drop (a - n) n w') ∙ ap (drop (a - n)) same ∙ drop-drop (a - n) n w ∙ ap (λ (k : ℕ). drop k w) e

  pub above_region : (a k : ℕ) → n ≤ a → region a k w' ≡ region a k w
  unfolding region
  above_region a k h = ap (take k) (from_drop a h)

  pub above_at : (x : ℕ) → n ≤ x → get_or w' x 0 ≡ get_or w x 0
  above_at x h =
      let e : n + (x - n) ≡ x = omega arith in
      ap (λ (k : ℕ). get_or w' k 0) (sym e) ∙ sym (get_or-drop n w' (x - n) 0) ∙ ap (λ (l : List ℕ). get_or l (x - n) 0) same ∙ get_or-drop n w (x - n) 0
      ∙ ap (λ (k : ℕ). get_or w k 0) e

  pub above_stack : (a k : ℕ) → n ≤ a → stack a k w' ≡ stack a k w
  unfolding stack
  above_stack a zero h = refl
  above_stack a (suc k) h = rw (above_at (a + k) (omega arith), above_stack a k h) refl

-- ---- a store from 2n on

pub record Below (n k : ℕ) (w w' : List ℕ) : Type 0 where
  pub marks : region 0 n w' ≡ region 0 n w
  pub waits : stack (WAITING * n) k w' ≡ stack (WAITING * n) k w
  pub size : length w' ≡ length w

module _ (n k : ℕ) (few : k ≤ n) where
  pub below_set : (w : List ℕ) (x v : ℕ) → 2 * n ≤ x → Below n k w (set w x v)
  below_set w x v h = record {
    marks = region_set_other 0 n w x v (λ _. omega arith);
    waits = stack_set (WAITING * n) k w x v (λ _. omega arith);
    size = length-set w x v;
  }

  pub below_then : (w w₁ w₂ : List ℕ) → Below n k w w₁ → Below n k w₁ w₂ → Below n k w w₂
  below_then w w₁ w₂ a b = record { marks = b.marks ∙ a.marks; waits = b.waits ∙ a.waits; size = b.size ∙ a.size }

  module _ (family i t : ℕ) (w : List ℕ) where
    pub down_below : Below n k w (down_put n family i t w)
    unfolding down_put
    down_below = eq_split family 4
        (λ e. rw (eq-eqb family 4 e) (below_set w (LETTERS * n + i) 1 (omega arith)))
        (λ e. rw (ne_eqb family 4 e) (below_set w (BITS * n + t) 1 (omega arith)))

    pub first_below : Below n k w (first_put n family i t w)
    unfolding first_put
    first_below = eq_split family 4
        (λ e. rw (eq-eqb family 4 e) (below_set w (LETTERS * n + i) 3 (omega arith)))
        (λ e. rw (ne_eqb family 4 e)
        (below_then w _ _ (below_set w (BITS * n + t) 1 (omega arith)) (below_set _ (BITS * n + t + 1) 0 (omega arith))))

    pub up_below : (f : ℕ) (leaf : Bool) (second : ℕ) → Below n k w (up_put n family i t f leaf second w)
    unfolding up_put
    up_below f leaf second = eq_split family 4
        (λ e. rw (eq-eqb family 4 e) (below_set w (LETTERS * n + i) 2 (omega arith)))
        (λ e. rw (ne_eqb family 4 e)
        (below_then w _ _ (below_set w (LABELS * n + f) _ (omega arith)) (below_set _ (BITS * n + t) _ (omega arith))))

    pub second_below : (f second : ℕ) → Below n k w (second_put n family i f second w)
    unfolding second_put
    second_below f second = eq_split family 4
        (λ e. rw (eq-eqb family 4 e) (below_set w (LETTERS * n + i) 4 (omega arith)))
        (λ e. rw (ne_eqb family 4 e) (below_set w (LABELS * n + f) second (omega arith)))
