-- The parts of the work area, where d tree edges and o others are open: what stores and pops make of them. Assumes nothing.
--
--   below_long, begun_long   as many entries on the stacks as edges are open
--   below_none, begun_none   none where no edge is open
--   dart_entered          a store into the rotation
--   tree_pushed, open_pushed   the stores that push
--   tree_popped, open_popped   what was pushed last
--   labels_beside         a store before the labels leaves them
use Prim.Native.Nat.{ℕ, suc, ◌+◌, ◌-◌, ◌*◌, ◌≤◌, ◌<◌}
use native.Mathlib.Nat.{zero-add}
use native.Mathlib.Omega.{arith}
use mathlib.Core.Path.{◌≡◌, sym, ap, ◌∙◌}
use mathlib.Core.List.{List, [], ◌∷◌}
use lib.ListN.{length, get_or, set, length-set}
use Rattle.work.specs.Map.{LABELS, BELOW, BEGUN, OPENS}
use Rattle.work.specs.Area.{region, stack}
use Rattle.work.proofs.Regions.{region_set, region_set_other}
use Rattle.work.proofs.Stacks.{length_stack, stack_set, stack_push, stack_pop}
use Rattle.unpacker.specs.Unpacked.{labels_at}
use Rattle.decoder_ends.specs.States.{Area, area_of}

abbrev pub entered : ℕ → ℕ → Area → Area
entered q x a = record { rotation = set a.rotation q x; below = a.below; begun = a.begun; opens = a.opens }

abbrev pub pushed_tree : ℕ → Area → Area
pushed_tree v a = record { rotation = a.rotation; below = v ∷ a.below; begun = a.begun; opens = a.opens }

abbrev pub pushed_open : ℕ → ℕ → Area → Area
pushed_open v x a = record { rotation = a.rotation; below = a.below; begun = v ∷ a.begun; opens = x ∷ a.opens }

module _ (m : ℕ) (w : List ℕ) where
  abbrev n : ℕ
  n = 2 * m

  pub labels_beside : (i x : ℕ) → i < LABELS * (2 * m) → labels_at m (set w i x) ≡ labels_at m w
  labels_beside i x h = region_set_other (LABELS * n) m w i x (λ l. absurd (omega arith))

  module _ (d o : ℕ) where
    pub below_long : length (area_of m w d o).below ≡ d
    unfolding area_of
    below_long = length_stack (BELOW * n) d w

    pub begun_long : length (area_of m w d o).begun ≡ o
    unfolding area_of
    begun_long = length_stack (BEGUN * n) o w

    pub below_none : d ≡ 0 → (area_of m w d o).below ≡ []
    unfolding area_of stack
    below_none e = rw e

    pub begun_none : o ≡ 0 → (area_of m w d o).begun ≡ []
    unfolding area_of stack
    begun_none e = rw e

    pub dart_entered : (q x : ℕ) → q < 2 * m → area_of m (set w q x) d o ≡ entered q x (area_of m w d o)
    unfolding area_of
    dart_entered q x h =
        rw (
          ap (λ (k : ℕ). region 0 n (set w k x)) (sym (zero-add q)) ∙ region_set 0 n w q x h,
          stack_set (BELOW * n) d w q x (λ l. absurd (omega arith)),
          stack_set (BEGUN * n) o w q x (λ l. absurd (omega arith)),
          stack_set (OPENS * n) o w q x (λ l. absurd (omega arith)),
        )

    module _ (room : 32 * m ≤ length w) (few : d + o < m) where
      pub tree_pushed : (v : ℕ) → area_of m (set w (BELOW * (2 * m) + d) v) (suc d) o ≡ pushed_tree v (area_of m w d o)
      unfolding area_of
      tree_pushed v =
          rw (
            region_set_other 0 n w (BELOW * n + d) v (λ _. omega arith),
            stack_push (BELOW * n) d w v (omega arith),
            stack_set (BEGUN * n) o w (BELOW * n + d) v (λ l. absurd (omega arith)),
            stack_set (OPENS * n) o w (BELOW * n + d) v (λ l. absurd (omega arith)),
          )

      pub open_pushed : (v x : ℕ) → area_of m (set (set w (BEGUN * (2 * m) + o) v) (OPENS * (2 * m) + o) x) d (suc o) ≡ pushed_open v x (area_of m w d o)
      unfolding area_of
      open_pushed v x =
          let i = BEGUN * n + o in let j = OPENS * n + o in let u = set w i v in
          let same = length-set w i v in
          rw (
            region_set_other 0 n u j x (λ _. omega arith) ∙ region_set_other 0 n w i v (λ _. omega arith),
            stack_set (BELOW * n) d u j x (λ _. omega arith) ∙ stack_set (BELOW * n) d w i v (λ _. omega arith),
            stack_set (BEGUN * n) (suc o) u j x (λ _. omega arith) ∙ stack_push (BEGUN * n) o w v (omega arith),
            stack_push (OPENS * n) o u x (omega arith) ∙ ap (λ (r : List ℕ). x ∷ r) (stack_set (OPENS * n) o w i v (λ l. absurd (omega arith))),
          )

    pub tree_popped : 0 < d → area_of m w d o ≡ pushed_tree (get_or w (BELOW * (2 * m) + (d - 1)) 0) (area_of m w (d - 1) o)
    unfolding area_of
    tree_popped h = rw (stack_pop (BELOW * n) d w h)

    pub open_popped : 0 < o
        → area_of m w d o ≡ pushed_open (get_or w (BEGUN * (2 * m) + (o - 1)) 0) (get_or w (OPENS * (2 * m) + (o - 1)) 0) (area_of m w d (o - 1))
    unfolding area_of
    open_popped h = rw (stack_pop (BEGUN * n) o w h, stack_pop (OPENS * n) o w h)
