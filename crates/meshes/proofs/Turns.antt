-- The walk of a plan that is fit for kind 2: where the next dart about a vertex comes, and where a vertex was entered.
--
--   turn_flat, turn_tree   the next dart about a dart's vertex comes one position on, or, where the edge is of the tree, after its mate
--   enters_start, enters_down, enters_arrival   where the present vertex was entered: at the root, just after a down, at its up
--   enters_before     not after the position itself
use Prim.Native.Nat.{ℕ, suc, ◌≤◌, ◌<◌}
use mathlib.Core.Path.{◌≡◌, refl, sym, ap, ◌∙◌}
use mathlib.Core.Bool.{true, false}
use Rattle.model.specs.Map.{Plan, darts, opposite, next, fit}
use Rattle.model.specs.Traversal.{Letter, down, opens}
use Rattle.model.proofs.Opposite.{opposite_opposite}
use Rattle.model.proofs.Fitness.{Fit, fit_parts}
use Rattle.orbits.specs.Chord as chord
use Rattle.orbits.specs.Stack.{top, push, stack}
use Rattle.words.specs.Toured.{Toured, dart_at, letter_of, pos_of, mate_of, is_tree}
use Rattle.words.specs.Brackets.{tree_kind, tree_stack}
use Rattle.words.specs.Entered.{entered_at}
use Rattle.words.proofs.Letters.{onward_tree, onward_flat, tree_fellow}
use Rattle.words.proofs.Positions.{mate_dart, mate_bound, mate_back, mate_letter, mate_tree}
use Rattle.words.proofs.OpenEdges.{part_top}
use Rattle.planarity.proofs.Touring.{step_on}
use Rattle.planarity.proofs.SameVertex.{entered_le}
use Rattle.fit_plans.proofs.FitPlans.{fit_toured, fit_bracketed}

module _ (q : Plan) (fits : fit 2 q ≡ true) where
  abbrev parts : Fit 2 q
  parts = fit_parts 2 q fits

  abbrev toured : Toured q
  toured = fit_toured 2 q fits

  pub turn_flat : (i : ℕ) → i < darts q → is_tree (letter_of q i) ≡ false → pos_of q (next q.rotation (dart_at q i)) ≡ chord.next (darts q) i
  turn_flat i h e = ap (pos_of q) (sym (onward_flat q.rotation (letter_of q i) (dart_at q i) e)) ∙ step_on q toured parts.count i h

  pub turn_tree : (i : ℕ) → i < darts q → is_tree (letter_of q i) ≡ true
      → pos_of q (next q.rotation (dart_at q i)) ≡ chord.next (darts q) (mate_of q i)
  turn_tree i h e =
      let m = mate_of q i in
      ap (λ (d : ℕ). pos_of q (next q.rotation d)) (sym (ap opposite (mate_dart q toured parts.count i h) ∙ opposite_opposite (dart_at q i)))
      ∙ ap (pos_of q) (sym (onward_tree q.rotation (letter_of q m) (dart_at q m) (mate_tree q toured i h ∙ e)))
      ∙ step_on q toured parts.count m (mate_bound q toured parts.count i h)

  pub enters_start : entered_at q 0 ≡ 0
  unfolding entered_at stack
  enters_start = refl

  pub enters_down : (i : ℕ) → letter_of q i ≡ down → entered_at q (suc i) ≡ suc i
  unfolding entered_at stack
  enters_down i e = ap (λ (l : Letter). top (push (tree_kind l) i (tree_stack (letter_of q) i))) e

  pub enters_arrival : (i : ℕ) → i < darts q → letter_of q i ≡ down → entered_at q (mate_of q i) ≡ suc i
  unfolding entered_at
  enters_arrival i h e =
      let u = mate_letter q toured i h down e in
      ap top (part_top is_tree tree_fellow q toured parts.count (fit_bracketed 2 q fits).trees (mate_of q i) (mate_bound q toured parts.count i h)
      (ap is_tree u) (ap opens u))
      ∙ ap suc (mate_back q toured parts.count i h)

  pub enters_before : (i : ℕ) → i ≤ darts q → entered_at q i ≤ i
  enters_before = entered_le q toured parts.count parts.entries
