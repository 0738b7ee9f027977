-- Where a second may stand in the traversal of a plan without loops.
--
--   after_up_only      the letter right before a second is up or second
use Prim.Native.Nat.{ℕ, suc, ◌<◌}
use native.Mathlib.Omega.{arith}
use mathlib.Core.Path.{◌≡◌, refl, sym, ap, ◌∙◌}
use mathlib.Core.Logic.{◌⊎◌, inl, inr}
use mathlib.Core.Bool.{true, false}
use Rattle.model.specs.Numbers.{is_permutation}
use Rattle.model.specs.Map.{Plan, darts, opposite, next, vertex_of, has_loop, dart_count_fits}
use Rattle.model.specs.Traversal.{Letter, down, up, first, second, opens, onward}
use Rattle.model.proofs.Fitness.{loopless_at}
use Rattle.orbits.specs.Permutation.{Perm}
use Rattle.orbits.proofs.Order.{lt_suc_split}
use Rattle.orbits.proofs.Maps.{next_perm, vertex_turn}
use Rattle.words.specs.Toured.{Toured, Bracketed, dart_at, letter_of, mate_of, is_chord}
use Rattle.words.proofs.Positions.{mate_bound, mate_dart, mate_back, mate_letter, mate_before, opposite_at}

module _ (p : Plan) (toured : Toured p) (bracketed : Bracketed p) (fits : dart_count_fits (darts p) ≡ true)
    (perm : is_permutation p.rotation ≡ true) (no_loop : has_loop p.rotation ≡ false) where
  turn : Perm (darts p) (next p.rotation)
  turn = next_perm p.rotation perm

  -- where the second at suc j began
  began : (j : ℕ) → suc j < darts p → letter_of p (suc j) ≡ second → mate_of p (suc j) < suc j
  began j h e = mate_before p toured fits (suc j) h (ap opens e)

  began_letter : (j : ℕ) → suc j < darts p → letter_of p (suc j) ≡ second → letter_of p (mate_of p (suc j)) ≡ first
  began_letter j h e = mate_letter p toured (suc j) h second e

  -- right after a first it would end that edge, a loop
  not_first : (j : ℕ) → suc j < darts p → letter_of p (suc j) ≡ second → letter_of p j ≡ first → ⊥
  unfolding onward
  not_first j h e f =
      let a = mate_of p (suc j) in
      let back = mate_back p toured fits (suc j) h in
      let open' = toured.opens_first j (omega arith) (ap opens f) in
      lt_suc_split (began j h e)
      (λ q.
      let there : next p.rotation (dart_at p j) ≡ opposite (dart_at p j) =
      sym (toured.step j h ∙ ap (λ (l : Letter). onward p.rotation l (dart_at p j)) f)
      ∙ ap (dart_at p) (sym back ∙ ap (mate_of p) q) ∙ mate_dart p toured fits j (omega arith) in
      let bound = toured.dart_bound j (omega arith) in
      loopless_at p.rotation no_loop (dart_at p j) bound
      (sym (vertex_turn p.rotation turn (dart_at p j) bound) ∙ ap (vertex_of p.rotation) there))
      (λ l. let z = bracketed.chords a j (mate_bound p toured fits (suc j) h) (ap is_chord (began_letter j h e)) l (omega arith) (ap is_chord f) in
      omega arith)

  -- right after a down it would end at a vertex of which no dart was met when it began
  not_down : (j : ℕ) → suc j < darts p → letter_of p (suc j) ≡ second → letter_of p j ≡ down → ⊥
  unfolding onward
  not_down j h e f =
      let a = mate_of p (suc j) in
      let ha = mate_bound p toured fits (suc j) h in
      let early = began j h e in
      let seen = toured.old a ha (began_letter j h e) in
      let soon = seen.1 in
      let there : opposite (dart_at p a) ≡ next p.rotation (opposite (dart_at p j)) =
      sym (mate_dart p toured fits a ha) ∙ ap (dart_at p) (mate_back p toured fits (suc j) h)
      ∙ toured.step j h ∙ ap (λ (l : Letter). onward p.rotation l (dart_at p j)) f in
      let inside = opposite_at p toured fits j (omega arith) in
      toured.new j (omega arith) f seen.0 (omega arith)
      (seen.2 ∙ ap (vertex_of p.rotation) there ∙ vertex_turn p.rotation turn (opposite (dart_at p j)) inside)

  pub after_up_only : (j : ℕ) → suc j < darts p → letter_of p (suc j) ≡ second → (letter_of p j ≡ up) ⊎ (letter_of p j ≡ second)
  after_up_only j h e = go (letter_of p j) refl
    where
      go : (l : Letter) → letter_of p j ≡ l → (letter_of p j ≡ up) ⊎ (letter_of p j ≡ second)
      go down f = absurd (not_down j h e f)
      go up f = inl f
      go first f = absurd (not_first j h e f)
      go second f = inr f
