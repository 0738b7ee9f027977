-- The vertices of the rotation that is built from a balanced word w are those of the traversal: two darts belong to one vertex exactly where the
-- traversal stands at vertices of one number when it meets them.
--
--   vertex_number   darts of one vertex are met at vertices of one number
--   vertex_same     darts that are met at vertices of one number belong to one vertex
use Prim.Native.Nat.{ℕ, zero, suc, ◌<◌}
use native.Mathlib.Nat.{le_of_lt}
use native.Mathlib.Omega.{arith}
use mathlib.Core.Path.{◌≡◌, refl, sym, ap, ◌∙◌}
use mathlib.Core.List.{List, [], ◌∷◌}
use lib.ListN.{length}
use Rattle.model.specs.Map.{vertex_of}
use Rattle.model.specs.Traversal.{Letter, down}
use Rattle.orbits.specs.Chord as Chord
use Rattle.orbits.specs.Stack.{top}
use Rattle.orbits.proofs.Order.{tri}
use Rattle.orbits.proofs.Tally.{count_below}
use Rattle.words.specs.Word.{rotation_of}
use Rattle.words.specs.Entered.{is_down}
use Rattle.words.specs.Brackets.{letter, tree_stack}
use Rattle.words.specs.Position.{vertex_count, vertex_top, vertex_no, dart_no, Balance}
use Rattle.words.proofs.Plans.{rotation_length}
use Rattle.words.proofs.Mates.{stack_down}
use Rattle.words.proofs.Darts.{dart_perm}
use Rattle.words.proofs.Rotation.{turn, pos, pos_bound, dart_pos, pos_dart, next_perm}
use Rattle.words.proofs.Vertices.{Turning, vertex_entry, entry_vertex}

module _ (w : List Letter) (b : Balance (letter w) (length w)) where
  abbrev N : ℕ
  N = length w

  abbrev ℓ : ℕ → Letter
  ℓ = letter w

  abbrev x : ℕ → ℕ
  x = dart_no ℓ

  abbrev rot : List ℕ
  rot = rotation_of w

  turning : Turning rot N ℓ x (pos w b)
  turning = record {
    size = rotation_length w;
    perm = next_perm w b;
    trees = b.trees;
    dart_bound = (dart_perm ℓ N b).bound;
    pos_bound = pos_bound w b;
    dart_pos = dart_pos w b;
    pos_dart = pos_dart w b;
    turn = turn w b;
  }

  -- ---- an entry is a number

  number_of : ℕ → ℕ
  number_of zero = 0
  number_of (suc a) = vertex_count ℓ a

  number_is : (i : ℕ) → vertex_no ℓ i ≡ number_of (top (tree_stack ℓ i))
  unfolding vertex_no number_of
  number_is i = go (tree_stack ℓ i)
    where
      go : (s : List ℕ) → vertex_top ℓ s ≡ number_of (top s)
      go [] = refl
      go (a ∷ s) = refl

  pub vertex_number : (i j : ℕ) → i < N → j < N → vertex_of rot (x i) ≡ vertex_of rot (x j) → vertex_no ℓ i ≡ vertex_no ℓ j
  vertex_number i j hi hj e = number_is i ∙ ap number_of (vertex_entry rot N ℓ x (pos w b) turning i j hi hj e) ∙ sym (number_is j)

  entered_inj : (i j : ℕ) → ℓ i ≡ down → ℓ j ≡ down → vertex_count ℓ i ≡ vertex_count ℓ j → i ≡ j
  unfolding vertex_count
  entered_inj i j p q e =
      tri i j
      (λ l. absurd (omega (arith, count_below (λ k. is_down (ℓ k)) i j l (ap is_down p))))
      (λ m. m)
      (λ g. absurd (omega (arith, count_below (λ k. is_down (ℓ k)) j i g (ap is_down q))))

  entry_same : (i j : ℕ) → i < N → j < N → vertex_no ℓ i ≡ vertex_no ℓ j → top (tree_stack ℓ i) ≡ top (tree_stack ℓ j)
  unfolding vertex_no vertex_count
  entry_same i j hi hj = go (tree_stack ℓ i) (tree_stack ℓ j) refl refl
    where
      go : (r s : List ℕ) → tree_stack ℓ i ≡ r → tree_stack ℓ j ≡ s → vertex_top ℓ r ≡ vertex_top ℓ s → top r ≡ top s
      go [] [] p q e = refl
      go [] (a ∷ s) p q e = absurd (omega arith)
      go (a ∷ r) [] p q e = absurd (omega arith)
      go (a ∷ r) (c ∷ s) p q e = ap suc (entered_inj a c (stack_down ℓ N b i (le_of_lt hi) a r p).1 (stack_down ℓ N b j (le_of_lt hj) c s q).1 e)

  pub vertex_same : (i j : ℕ) → i < N → j < N → vertex_no ℓ i ≡ vertex_no ℓ j → vertex_of rot (x i) ≡ vertex_of rot (x j)
  vertex_same i j hi hj e = entry_vertex rot N ℓ x (pos w b) turning i j hi hj (entry_same i j hi hj e)
