-- Laws of stacks in the work area.
--
--   length_stack          as many entries as were asked for
--   stack_set             a store beside a stack leaves it
--   stack_push            a store just behind it pushes
--   stack_pop             a stack that is not empty is its last entry and the others
use Prim.Native.Nat.{ℕ, zero, suc, ◌+◌, ◌-◌, ◌≤◌, ◌<◌}
use native.Mathlib.Nat.{not-suc-le-zero}
use native.Mathlib.Omega.{arith}
use mathlib.Core.Path.{◌≡◌, refl, ap}
use mathlib.Core.List.{List, ◌∷◌}
use lib.ListN.{length, get_or, set}
use lib.Seq.{get_or-set_same, get_or-set_other}
use Rattle.work.specs.Area.{stack}

pub length_stack : (a k : ℕ) (w : List ℕ) → length (stack a k w) ≡ k
unfolding stack
length_stack a zero w = refl
length_stack a (suc k) w = ap suc (length_stack a k w)

-- place i is not in the stack: if it is not before it, it is behind it
pub stack_set : (a k : ℕ) (w : List ℕ) (i x : ℕ) → (a ≤ i → a + k ≤ i) → stack a k (set w i x) ≡ stack a k w
unfolding stack
stack_set a zero w i x out = refl
stack_set a (suc k) w i x out =
    rw (get_or-set_other w i (a + k) x 0 (λ e. let o = out (omega arith) in omega arith), stack_set a k w i x (λ l. let o = out l in omega arith))

pub stack_push : (a k : ℕ) (w : List ℕ) (x : ℕ) → a + k < length w → stack a (suc k) (set w (a + k) x) ≡ x ∷ stack a k w
unfolding stack
stack_push a k w x h = rw (get_or-set_same w (a + k) x 0 h, stack_set a k w (a + k) x (λ l. omega arith))

pub stack_pop : (a k : ℕ) (w : List ℕ) → 0 < k → stack a k w ≡ get_or w (a + (k - 1)) 0 ∷ stack a (k - 1) w
unfolding stack
stack_pop a zero w h = absurd (not-suc-le-zero h)
stack_pop a (suc k) w h = let e : suc k - 1 ≡ k = omega arith in rw e
