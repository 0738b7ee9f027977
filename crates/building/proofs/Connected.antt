-- The plan that is built from a balanced word is connected: each position's dart is reached from those before it.
--
--   built-connected the plan is connected
use Prim.Native.Nat.{ℕ, zero, suc, ◌%◌, ◌≤◌, ◌<◌}
use native.Mathlib.Nat.{le_of_lt, le_of_eq}
use native.Mathlib.Omega.{arith}
use mathlib.Core.Path.{◌≡◌, refl, sym, ap, subst, ◌∙◌}
use mathlib.Core.Bool.{true}
use mathlib.Core.List.{List}
use lib.ListN.{length}
use Rattle.model.specs.Map.{connected}
use Rattle.model.specs.Traversal.{Letter, down, up, first, second, opens}
use Rattle.words.specs.Word.{rotation_of}
use Rattle.words.specs.Toured.{is_tree}
use Rattle.words.proofs.Plans.{rotation_length}
use Rattle.traversal.specs.Reach.{Reached, start, across, turn}
use Rattle.traversal.proofs.Reach.{reached_connected}
use Rattle.words.specs.Brackets.{letter}
use Rattle.words.specs.Position.{dart_no, Balance}
use Rattle.words.proofs.Mates.{τ, τ-inv, τ-tree, τ-chord, earlier}
use Rattle.words.proofs.Darts.{dart_mate, dart_zero, half}
use Rattle.words.proofs.Rotation.{step, pos, pos_bound, dart_pos, rotation_listed}

module _ (w : List Letter) (b : Balance (letter w) (length w)) (some : 0 < length w) where
  abbrev N : ℕ
  N = length w

  abbrev ℓ : ℕ → Letter
  ℓ = letter w

  abbrev At : ℕ → Type 0
  At i = Reached (rotation_of w) (dart_no ℓ i)

  -- the dart at whose entry the dart after i stands: its position lies before, or i goes down
  turned : (i : ℕ) → i < N → ((j : ℕ) → j ≤ i → j < N → At j) → At (τ ℓ N b i)
  turned i h before = go (ℓ i) refl
    where
      back : τ ℓ N b i ≤ i → At (τ ℓ N b i)
      back g = before (τ ℓ N b i) g ((τ-inv ℓ N b).bound i h)

      go : (l : Letter) → ℓ i ≡ l → At (τ ℓ N b i)
      go down e =
          let other = sym (dart_mate ℓ N b i h) ∙ ap (dart_no ℓ) (sym (τ-tree ℓ N b i (ap is_tree e))) in
          subst (Reached (rotation_of w)) other (across (before i (omega arith) h))
      go up e = back (omega (arith, τ-tree ℓ N b i (ap is_tree e), earlier ℓ N b i h (ap opens e)))
      go first e = back (le_of_eq (τ-chord ℓ N b i h (ap is_tree e)))
      go second e = back (le_of_eq (τ-chord ℓ N b i h (ap is_tree e)))

  reached_before : (n i : ℕ) → i < n → i < N → At i
  reached_before zero i l h = absurd (omega arith)
  reached_before (suc n) zero l h = subst (Reached (rotation_of w)) (sym (dart_zero ℓ N b some)) start
  reached_before (suc n) (suc i) l h =
      subst (Reached (rotation_of w)) (sym (step w b i h)) (turn (turned i (le_of_lt h) (λ j g k. reached_before n j (omega arith) k)))

  pub built_connected : connected (rotation_of w) ≡ true
  built_connected =
      let even : length (rotation_of w) % 2 ≡ 0 = omega (arith, rotation_length w, half ℓ N b) in
      reached_connected (rotation_of w) even (rotation_listed w b) (λ d h.
      let k : d < N = omega (arith, rotation_length w) in
      subst (Reached (rotation_of w)) (dart_pos w b d k) (reached_before N (pos w b d) (pos_bound w b d k) (pos_bound w b d k)))
