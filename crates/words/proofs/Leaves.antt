-- Leaves: a down right before an up.
--
--   down_step     after a down the traversal is at the next dart about the vertex that it enters
--   leaf_mate     an up right after a down is its mate
--   leaf_own      where a down's mate comes next, its vertex has no other dart
use Prim.Native.Nat.{ℕ, suc, ◌<◌}
use native.Mathlib.Omega.{arith}
use mathlib.Core.Path.{◌≡◌, sym, ap, ◌∙◌}
use mathlib.Core.Bool.{true}
use Rattle.model.specs.Map.{Plan, darts, opposite, next, dart_count_fits}
use Rattle.model.specs.Traversal.{down, up, opens}
use Rattle.orbits.proofs.Order.{le_split}
use Rattle.words.specs.Toured.{dart_at, letter_of, mate_of, is_tree, Toured, Bracketed}
use Rattle.words.proofs.Letters.{onward_tree}
use Rattle.words.proofs.Positions.{mate_dart, mate_before}

module _ (p : Plan) (t : Toured p) where
  pub down_step : (i : ℕ) → suc i < darts p → letter_of p i ≡ down → next p.rotation (opposite (dart_at p i)) ≡ dart_at p (suc i)
  down_step i h e = sym (t.step i h ∙ onward_tree p.rotation (letter_of p i) (dart_at p i) (ap is_tree e))

  module _ (fits : dart_count_fits (darts p) ≡ true) where
    pub leaf_mate : Bracketed p → (i : ℕ) → suc i < darts p → letter_of p i ≡ down → letter_of p (suc i) ≡ up → mate_of p i ≡ suc i
    leaf_mate b i h d u =
        le_split (t.opens_first i (omega arith) (ap opens d)) sym
        (λ l. let k = b.trees i (suc i) (omega arith) (ap is_tree d) (omega arith) l (ap is_tree u) in
        absurd (omega (arith, mate_before p t fits (suc i) h (ap opens u))))

    pub leaf_own : (i : ℕ) → suc i < darts p → letter_of p i ≡ down → mate_of p i ≡ suc i
        → next p.rotation (opposite (dart_at p i)) ≡ opposite (dart_at p i)
    leaf_own i h d m = down_step i h d ∙ ap (dart_at p) (sym m) ∙ mate_dart p t fits i (omega arith)
