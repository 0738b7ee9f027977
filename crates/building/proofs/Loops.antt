-- The plan that is built from a balanced word has no loop: the two ends of an edge are met at vertices of different numbers.
--
--   built_no_loop  no loop
use Prim.Native.Nat.{ℕ, ◌<◌}
use native.Mathlib.Nat.{le_of_lt}
use native.Mathlib.Omega.{arith}
use mathlib.Core.Path.{◌≡◌, refl, sym, ap, subst, ◌∙◌}
use mathlib.Core.Bool.{false}
use mathlib.Core.List.{List}
use lib.ListN.{length}
use borrow.Author.Tests.{ltb-true}
use Rattle.model.specs.Map.{opposite, vertex_of, has_loop}
use Rattle.model.specs.Traversal.{Letter, down, up, first, second}
use Rattle.model.proofs.Fitness.{at_loopless}
use Rattle.words.specs.Word.{rotation_of}
use Rattle.words.specs.Toured.{fellow}
use Rattle.words.specs.Brackets.{letter}
use Rattle.words.specs.Position.{vertex_no, dart_no, Balance, Closes}
use Rattle.words.proofs.Plans.{rotation_length}
use Rattle.words.proofs.Mates.{mate, mate_inv, fellows, vertex_new, vertex_closes, vertex_entered}
use Rattle.words.proofs.Darts.{dart_mate}
use Rattle.words.proofs.Rotation.{pos, pos_bound, dart_pos}
use Rattle.building.proofs.Vertices.{vertex_number}

module _ (w : List Letter) (b : Balance (letter w) (length w)) (low : Closes false (letter w) (length w)) where
  abbrev N : ℕ
  N = length w

  abbrev ℓ : ℕ → Letter
  ℓ = letter w

  abbrev x : ℕ → ℕ
  x = dart_no ℓ

  abbrev m : ℕ → ℕ
  m = mate ℓ N b

  -- where an edge opens by down, or ends by second
  ends_down : (i : ℕ) → i < N → ℓ i ≡ down → vertex_no ℓ i ≡ vertex_no ℓ (m i) → ⊥
  ends_down i h e q = omega (arith, vertex_new ℓ N b i h e, vertex_entered ℓ N b i (le_of_lt h))

  ends_second : (i : ℕ) → i < N → ℓ i ≡ second → vertex_no ℓ i ≡ vertex_no ℓ (m i) → ⊥
  ends_second i h e q = omega (arith, ltb-true (vertex_no ℓ i) (vertex_no ℓ (m i)) (vertex_closes ℓ N b false low i h e))

  ends_differ : (i : ℕ) → i < N → vertex_no ℓ i ≡ vertex_no ℓ (m i) → ⊥
  ends_differ i h q = go (ℓ i) refl
    where
      there : m i < N
      there = (mate_inv ℓ N b).bound i h

      back : vertex_no ℓ (m i) ≡ vertex_no ℓ (m (m i))
      back = sym q ∙ ap (vertex_no ℓ) (sym ((mate_inv ℓ N b).back i h))

      go : (l : Letter) → ℓ i ≡ l → ⊥
      go down e = ends_down i h e q
      go up e = ends_down (m i) there (fellows ℓ N b i h ∙ ap fellow e) back
      go first e = ends_second (m i) there (fellows ℓ N b i h ∙ ap fellow e) back
      go second e = ends_second i h e q

  no_loop_at : (d : ℕ) → d < N → vertex_of (rotation_of w) d ≡ vertex_of (rotation_of w) (opposite d) → ⊥
  no_loop_at d h e =
      let i = pos w b d in
      let hi : i < N = pos_bound w b d h in
      let this : x i ≡ d = dart_pos w b d h in
      let other : x (m i) ≡ opposite d = dart_mate ℓ N b i hi ∙ ap opposite this in
      ends_differ i hi (vertex_number w b i (m i) hi ((mate_inv ℓ N b).bound i hi)
      (ap (vertex_of (rotation_of w)) this ∙ e ∙ ap (vertex_of (rotation_of w)) (sym other)))

  pub built_no_loop : has_loop (rotation_of w) ≡ false
  built_no_loop = at_loopless (rotation_of w) (λ d h. no_loop_at d (subst (λ (n : ℕ). d < n) (rotation_length w) h))
