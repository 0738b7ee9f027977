-- What the ground of a step gives, and the top of the stack of edges that wait.
--
--   few                      there are at most 8,192 darts
--   after_bound, over_bound  the entry of a dart is a dart, and so is the entry's opposite
--   last_none, last_top      whether an edge is the last of those that wait, of none or some
use mathlib.Core.Path.{◌≡◌}
use mathlib.Core.Bool.{false}
use mathlib.Core.List.{List}
use Prim.Native.Nat.{ℕ, ◌+◌, ◌-◌, ◌≤◌, ◌<◌}
use lib.Dec.{eqb}
use lib.ListN.{length, get_or}
use Rattle.model.specs.Map.{opposite, next}
use Rattle.model.proofs.Fitness.{count_parts, count_even, opposite_bound}
use Rattle.orbits.proofs.Maps.{next_perm}
use Rattle.work.specs.Area.{stack}
use Rattle.work.proofs.Stacks.{stack_pop}
use Rattle.trace_steps.specs.Steps.{Ground, last_is}

module _ {rot w : List ℕ} (g : Ground rot w) where
  pub few : length rot ≤ 8192
  few = (count_parts (length rot) g.count).2

  pub after_bound : (d : ℕ) → d < length rot → next rot d < length rot
  after_bound = (next_perm rot g.perm).bound

  pub over_bound : (d : ℕ) → d < length rot → opposite (next rot d) < length rot
  over_bound d h = opposite_bound (length rot) (next rot d) (count_even (length rot) g.count) (after_bound d h)

module _ (a f : ℕ) (w : List ℕ) where
  pub last_none : (k : ℕ) → k ≡ 0 → false ≡ last_is (stack a k w) f
  unfolding stack
  last_none k e = rw e

  pub last_top : (k : ℕ) → 0 < k → eqb (get_or w (a + (k - 1)) 0) f ≡ last_is (stack a k w) f
  last_top k h = rw (stack_pop a k w h)
