-- The parts of the work area, where d tree edges and o others are open: what stores and pops make of them. Assumes nothing.
--
--   below_long, begun_long   as many entries on the stacks as edges are open
--   region_beside         two stores beside a region
--   entered q x p         the parts p with dart x entered at place q
--   dart_entered          a store into the rotation
--   pushed_tree, pushed_open   the parts with a vertex and an edge pushed on the stacks of tree edges, and of other open edges
--   tree_pushed, open_pushed   the stores that push them
--   tree_popped, open_popped   the vertex and the edge pushed last
use Prim.Native.Nat.{ℕ, suc, ◌+◌, ◌-◌, ◌*◌, ◌≤◌, ◌<◌}
use native.Mathlib.Nat.{zero-add}
use native.Mathlib.Omega.{arith}
use mathlib.Core.Path.{◌≡◌, refl, sym, ap, ◌∙◌}
use mathlib.Core.List.{List, ◌∷◌}
use lib.ListN.{length, get_or, set, length-set}
use Rattle.work.specs.Map.{BELOW, TREES, BEGUN, OPENS}
use Rattle.work.specs.Area.{region, stack}
use Rattle.work.proofs.Regions.{region_set, region_set_other}
use Rattle.work.proofs.Stacks.{length_stack, stack_set, stack_push, stack_pop}
use Rattle.builder.specs.Steps.{Parts, parts_of}

abbrev pub entered : ℕ → ℕ → Parts → Parts
entered q x p = record { rotation = set p.rotation q x; below = p.below; trees = p.trees; begun = p.begun; opens = p.opens }

abbrev pub pushed_tree : ℕ → ℕ → Parts → Parts
pushed_tree v e p = record { rotation = p.rotation; below = v ∷ p.below; trees = e ∷ p.trees; begun = p.begun; opens = p.opens }

abbrev pub pushed_open : ℕ → ℕ → Parts → Parts
pushed_open v e p = record { rotation = p.rotation; below = p.below; trees = p.trees; begun = v ∷ p.begun; opens = e ∷ p.opens }

-- two stores beside a stack, and beside a region
module _ (w : List ℕ) (i x j y : ℕ) where
  stack_beside : (a k : ℕ) → (a ≤ i → a + k ≤ i) → (a ≤ j → a + k ≤ j) → stack a k (set (set w i x) j y) ≡ stack a k w
  stack_beside a k h l = stack_set a k (set w i x) j y l ∙ stack_set a k w i x h

  pub region_beside : (a k : ℕ) → (a ≤ i → a + k ≤ i) → (a ≤ j → a + k ≤ j) → region a k (set (set w i x) j y) ≡ region a k w
  region_beside a k h l = region_set_other a k (set w i x) j y l ∙ region_set_other a k w i x h

  -- a vertex is pushed at place i, and an edge at place j
  vertex_pushed : (a k : ℕ) → i ≡ a + k → i < j → i < length w → stack a (suc k) (set (set w i x) j y) ≡ x ∷ stack a k w
  vertex_pushed a k e h l =
      stack_set a (suc k) (set w i x) j y (λ _. omega arith) ∙ rw e (stack_push a k w x (omega arith))

  edge_pushed : (a k : ℕ) → j ≡ a + k → i < a → j < length w → stack a (suc k) (set (set w i x) j y) ≡ y ∷ stack a k w
  edge_pushed a k e h l =
      let same = length-set w i x in
      rw e (stack_push a k (set w i x) y (omega arith)) ∙ ap (λ (r : List ℕ). y ∷ r) (stack_set a k w i x (λ g. absurd (omega arith)))

module _ (m : ℕ) (w : List ℕ) (d o : ℕ) where
  abbrev n : ℕ
  n = 2 * m

  pub below_long : length (parts_of m w d o).below ≡ d
  unfolding parts_of
  below_long = length_stack (BELOW * n) d w

  pub begun_long : length (parts_of m w d o).begun ≡ o
  unfolding parts_of
  begun_long = length_stack (BEGUN * n) o w

  pub dart_entered : (q x : ℕ) → q < 2 * m → parts_of m (set w q x) d o ≡ entered q x (parts_of m w d o)
  unfolding parts_of
  dart_entered q x h =
      rw (
        ap (λ (k : ℕ). region 0 n (set w k x)) (sym (zero-add q)) ∙ region_set 0 n w q x h,
        stack_set (BELOW * n) d w q x (λ l. absurd (omega arith)),
        stack_set (TREES * n) d w q x (λ l. absurd (omega arith)),
        stack_set (BEGUN * n) o w q x (λ l. absurd (omega arith)),
        stack_set (OPENS * n) o w q x (λ l. absurd (omega arith)),
      )

  module _ (room : 32 * m ≤ length w) (few : d + o < m) (v e : ℕ) where
    pub tree_pushed : parts_of m (set (set w (BELOW * (2 * m) + d) v) (TREES * (2 * m) + d) e) (suc d) o ≡ pushed_tree v e (parts_of m w d o)
    unfolding parts_of
    tree_pushed =
        let i = BELOW * n + d in let j = TREES * n + d in
        rw (
          region_beside w i v j e 0 n (λ _. omega arith) (λ _. omega arith),
          vertex_pushed w i v j e (BELOW * n) d refl (omega arith) (omega arith),
          edge_pushed w i v j e (TREES * n) d refl (omega arith) (omega arith),
          stack_beside w i v j e (BEGUN * n) o (λ l. absurd (omega arith)) (λ l. absurd (omega arith)),
          stack_beside w i v j e (OPENS * n) o (λ l. absurd (omega arith)) (λ l. absurd (omega arith)),
        )

    pub open_pushed : parts_of m (set (set w (BEGUN * (2 * m) + o) v) (OPENS * (2 * m) + o) e) d (suc o) ≡ pushed_open v e (parts_of m w d o)
    unfolding parts_of
    open_pushed =
        let i = BEGUN * n + o in let j = OPENS * n + o in
        rw (
          region_beside w i v j e 0 n (λ _. omega arith) (λ _. omega arith),
          stack_beside w i v j e (BELOW * n) d (λ _. omega arith) (λ _. omega arith),
          stack_beside w i v j e (TREES * n) d (λ _. omega arith) (λ _. omega arith),
          vertex_pushed w i v j e (BEGUN * n) o refl (omega arith) (omega arith),
          edge_pushed w i v j e (OPENS * n) o refl (omega arith) (omega arith),
        )

  pub tree_popped : 0 < d
      → parts_of m w d o ≡ pushed_tree (get_or w (BELOW * (2 * m) + (d - 1)) 0) (get_or w (TREES * (2 * m) + (d - 1)) 0) (parts_of m w (d - 1) o)
  unfolding parts_of
  tree_popped h = rw (stack_pop (BELOW * n) d w h, stack_pop (TREES * n) d w h)

  pub open_popped : 0 < o
      → parts_of m w d o ≡ pushed_open (get_or w (BEGUN * (2 * m) + (o - 1)) 0) (get_or w (OPENS * (2 * m) + (o - 1)) 0) (parts_of m w d (o - 1))
  unfolding parts_of
  open_popped h = rw (stack_pop (BEGUN * n) o w h, stack_pop (OPENS * n) o w h)
