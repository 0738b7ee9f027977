-- The steps of the walk from the root are the positions of the tour: darts, letters and stacks agree. Assumes nothing.
--
--   stack_ext                a stack is made of what stands before it
-- of a plan whose traversal is a tour:
--   letter_at, dart_at_lem       the letter and the dart at a position
--   opened_at, stack_at      how many edges have begun before it, and the stack of those outside the tree that wait
--   back_late, back_at       the walk is back at the root only after the last position, and then it is
--   across_at                at the mate of a position the walk is at the opposite dart
--   mate_is                  and nowhere else
use Prim.Native.Nat.{ℕ, zero, suc, ◌≤◌, ◌<◌}
use native.Mathlib.Omega.{arith}
use mathlib.Core.Path.{◌≡◌, refl, sym, ap, ap₂, subst, ◌∙◌}
use mathlib.Core.Logic.{◌≢◌}
use mathlib.Core.Bool.{true}
use mathlib.Core.List.{List}
use lib.ListN.{length}
use Rattle.model.specs.Numbers.{is_permutation}
use Rattle.model.specs.Map.{Plan, darts, opposite, dart_count_fits}
use Rattle.model.specs.Traversal.{Letter, opens, onward, visits}
use Rattle.orbits.specs.Stack.{Kind, push, stack}
use Rattle.orbits.proofs.Tally.{count_ext}
use Rattle.words.specs.Brackets.{chord_kind, chord_stack}
use Rattle.words.specs.Position.{opened}
use Rattle.words.specs.Toured.{Toured, dart_at, letter_of, pos_of, mate_of}
use Rattle.words.proofs.Positions.{dart_inj, mate_bound, mate_dart}
use Rattle.traversal.specs.Steps.{dart, letter_after}
use Rattle.traversal.proofs.Steps.{dart_step}
use Rattle.traversal.proofs.Walk.{walk_dart, walk_letter}

pub stack_ext : (K L : ℕ → Kind) (i : ℕ) → ((j : ℕ) → j < i → K j ≡ L j) → stack K i ≡ stack L i
unfolding stack
stack_ext K L zero e = refl
stack_ext K L (suc i) e = ap₂ (λ (k : Kind) (s : List ℕ). push k i s) (e i (omega arith)) (stack_ext K L i (λ j h. e j (omega arith)))

module _ (p : Plan) (fits : dart_count_fits (darts p) ≡ true) (hr : p.root < darts p) (good : is_permutation p.rotation ≡ true) (t : Toured p) where
  abbrev N : ℕ
  N = darts p

  abbrev D : ℕ → ℕ
  D = dart p.rotation p.root

  abbrev ℓ : ℕ → Letter
  ℓ = letter_after p.rotation p.root

  visited : (j : ℕ) → j < N → j < length (visits p)
  visited j h = subst (λ (k : ℕ). j < k) (sym t.all_met) h

  pub letter_at : (j : ℕ) → j < N → letter_of p j ≡ ℓ j
  letter_at j h = walk_letter p fits hr good j (visited j h)

  pub dart_at_lem : (j : ℕ) → j < N → dart_at p j ≡ D j
  dart_at_lem j h = walk_dart p fits hr good j (visited j h)

  pub opened_at : (i : ℕ) → i ≤ N → opened (letter_of p) i ≡ opened ℓ i
  unfolding opened
  opened_at i h = count_ext (λ j. opens (letter_of p j)) (λ j. opens (ℓ j)) i (λ j l. ap opens (letter_at j (omega arith)))

  pub stack_at : (i : ℕ) → i ≤ N → chord_stack (letter_of p) i ≡ chord_stack ℓ i
  stack_at i h = stack_ext _ _ i (λ j l. ap chord_kind (letter_at j (omega arith)))

  pub back_late : (j : ℕ) → 0 < j → j < N → D j ≢ p.root
  back_late j some h e =
      let z = dart_inj p t j 0 h (omega arith) (dart_at_lem j h ∙ e ∙ sym t.starts) in omega arith

  pub back_at : (k : ℕ) → suc k ≡ N → D (suc k) ≡ p.root
  back_at k e =
      let h : k < N = omega arith in
      dart_step p.rotation p.root k
      ∙ ap₂ (λ (a : Letter) (x : ℕ). onward p.rotation a x) (sym (letter_at k h)) (sym (dart_at_lem k h)) ∙ t.closes k e

  pub across_at : (j : ℕ) → j < N → D (mate_of p j) ≡ opposite (D j)
  across_at j h = sym (dart_at_lem (mate_of p j) (mate_bound p t fits j h)) ∙ mate_dart p t fits j h ∙ ap opposite (dart_at_lem j h)

  pub mate_is : (j a : ℕ) → j < N → a < N → D a ≡ opposite (D j) → mate_of p j ≡ a
  unfolding mate_of
  mate_is j a h ha e = ap (pos_of p) (ap opposite (dart_at_lem j h) ∙ sym e ∙ sym (dart_at_lem a ha)) ∙ t.pos_dart a ha
