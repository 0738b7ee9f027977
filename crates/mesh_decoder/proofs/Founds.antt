-- The word that is found when the next type is read, whatever the work area holds. Assumes nothing.
--
--   reads_none, reads_zero, reads_bad   no type is left; there is no such type
--   reads_node, reads_soon, reads_tips   types 1 to 3, 4 and 5
use Prim.Native.Nat.{ℕ, zero, suc, ◌<◌}
use native.Mathlib.Omega.{arith}
use mathlib.Core.Path.{◌≡◌, sym}
use mathlib.Core.List.{[], ◌∷◌, append_assoc}
use Rattle.model.specs.Traversal.{down, first}
use Rattle.words.specs.Word.{none}
use Rattle.words.proofs.Found.{after_none, after_append}
use Rattle.node_types.specs.Machine.{enter, read_types}
use Rattle.node_ends.specs.Steps.{View, place_for, with_letter, with_node, reading, ending}
use Rattle.node_ends.proofs.Founds.{with_type}

module _ (v : View) (h : ℕ) where
  pub reads_none : v.types ≡ [] → reading v h ≡ none
  unfolding reading read_types
  reads_none e = rw e (after_none v.letters)

  pub reads_zero : reading (with_type 0 v) h ≡ none
  unfolding reading with_type read_types enter
  reads_zero = after_none v.letters

  pub reads_bad : (t : ℕ) → 5 < t → reading (with_type t v) h ≡ none
  unfolding reading with_type read_types enter
  reads_bad zero l = absurd (omega arith)
  reads_bad (suc zero) l = absurd (omega arith)
  reads_bad (suc (suc zero)) l = absurd (omega arith)
  reads_bad (suc (suc (suc zero))) l = absurd (omega arith)
  reads_bad (suc (suc (suc (suc zero)))) l = absurd (omega arith)
  reads_bad (suc (suc (suc (suc (suc zero))))) l = absurd (omega arith)
  reads_bad (suc (suc (suc (suc (suc (suc t)))))) l = after_none v.letters

  -- types 1 to 3
  pub reads_node : (t : ℕ) → 0 < t → t < 4 → reading (with_type t v) h ≡ reading (with_node h t (with_letter down v)) h
  unfolding reading with_type with_node with_letter place_for read_types enter
  reads_node zero p l = absurd (omega arith)
  reads_node (suc zero) p l = sym (after_append v.letters (down ∷ []) _)
  reads_node (suc (suc zero)) p l = sym (after_append v.letters (down ∷ []) _)
  reads_node (suc (suc (suc zero))) p l = sym (after_append v.letters (down ∷ []) _)
  reads_node (suc (suc (suc (suc t)))) p l = absurd (omega arith)

  pub reads_soon : reading (with_type 4 v) h ≡ reading (with_node h 0 (with_letter first (with_letter down v))) (suc h)
  unfolding reading with_type with_node with_letter place_for read_types enter
  reads_soon = rw append_assoc (sym (after_append v.letters (down ∷ first ∷ []) _))

  pub reads_tips : reading (with_type 5 v) h ≡ ending (with_letter first (with_letter first (with_letter down v))) h (suc (suc h))
  unfolding reading ending with_type with_letter read_types enter
  reads_tips = rw (append_assoc, append_assoc) (sym (after_append v.letters (down ∷ first ∷ first ∷ []) _))
