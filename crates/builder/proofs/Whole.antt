-- The beginning and the end of building. Assumes nothing.
--
--   blank_area            the work area whose rotation is filled with zeros
--   standing_start        the numbers and stacks are in range at the start
--   whole_built           dart 0 is entered after the last letter: the rotation is the word's
use Prim.Native.Nat.{ℕ, ◌+◌, ◌*◌, ◌≤◌}
use native.Mathlib.Omega.{arith}
use mathlib.Core.Path.{◌≡◌, refl, sym, ap, ◌∙◌}
use mathlib.Core.List.{List, []}
use lib.ListN.{length, set, replicate, length-replicate}
use Rattle.model.specs.Numbers.{all_below}
use Rattle.model.specs.Traversal.{Letter}
use Rattle.words.specs.Word.{head, word_darts, rotation_of}
use Rattle.work.specs.Area.{region, placed, stack}
use Rattle.work.proofs.Regions.{length_placed, region_placed, region_placed_other}
use Rattle.builder.specs.declared.State.{State}
use Rattle.builder.specs.Steps.{Parts, parts_of, first_state, outcome, outcome_at, Standing}
use Rattle.builder.proofs.Linking.{linked_end, linked_whole}
use Rattle.builder.proofs.Parts.{dart_entered}

-- what stands behind the rotation stays as it was
pub blank_area : (m : ℕ) (w w' : List ℕ) → 32 * m ≤ length w → w' ≡ placed 0 (replicate (2 * m) 0) w
    → (32 * m ≤ length w') × (region 0 (2 * m) w' ≡ replicate (2 * m) 0) × ((a k : ℕ) → 2 * m ≤ a → region a k w' ≡ region a k w)
blank_area m w w' r f =
    let none : List ℕ = replicate (2 * m) 0 in
    let n : length none ≡ 2 * m = length-replicate (2 * m) 0 in
    let fits : 0 + length none ≤ length w = omega arith in (
      rw (f, length_placed 0 none w fits) r,
      rw f (region_placed 0 none w fits (2 * m) (sym n)),
      λ a k h. rw f (region_placed_other 0 none w fits a k (λ g. omega arith)),
    )

pub standing_start : (m : ℕ) (w : List ℕ) → 1 ≤ m → m ≤ 4096 → 32 * m ≤ length w → Standing m w first_state
unfolding parts_of stack all_below
standing_start m w g h r = record { few_edges = h; room = r; few_open = omega arith; place_in = omega arith; trees_in = refl; opens_in = refl }

-- w₀ is the work area at the start, and v the word
pub whole_built : (m : ℕ) (w₀ w : List ℕ) (s : State) (k : ℕ) (v : List Letter) → region 0 (2 * m) w₀ ≡ replicate (2 * m) 0 → Standing m w s
    → length v ≡ 2 * m → head (word_darts 0 [] [] v) ≡ 0 → outcome_at m w s k [] ≡ outcome_at m w₀ first_state 0 v
    → region 0 (2 * m) (set w s.place 0) ≡ rotation_of v
unfolding parts_of outcome word_darts stack
whole_built m w₀ w s k v clear g size begins built =
    ap (λ (p : Parts). p.rotation) (dart_entered m w s.depth s.opens s.place 0 g.place_in)
    ∙ sym (linked_end s.place (region 0 (2 * m) w)) ∙ built ∙ rw clear (linked_whole (2 * m) v size begins)
