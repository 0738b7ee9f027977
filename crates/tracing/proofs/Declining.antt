-- The walk declines no plan that is sound.
--
--   loop_unsound         an edge whose two darts have one mark is a loop
--   leaf_unsound         an up at a dart alone at its vertex is a dead end
--   crossing_unsound     where an edge outside the tree ends that is not on top of the stack, the plan is not planar
--   short_unsound        a walk that is back before all darts are met
--   endless_unsound      a walk that is not back then
use mathlib.Core.Path.{◌≡◌, sym, ap, ◌∙◌}
use mathlib.Core.Logic.{◌≢◌}
use mathlib.Core.Bool.{false, true≢false, false≢true}
use mathlib.Core.List.{List, ◌∷◌, map}
use Prim.Native.Nat.{ℕ, suc, ◌-◌, ◌*◌, ◌≤◌, ◌<◌}
use native.Mathlib.Nat.{le_of_lt}
use native.Mathlib.Omega.{arith}
use lib.ListN.{length, get_or}
use borrow.Author.Tests.{eq-eqb}
use Rattle.model.specs.Map.{Plan, opposite, next, vertex_of, degree_one}
use Rattle.model.proofs.Fitness.{count_positive}
use Rattle.words.specs.Position.{opened}
use Rattle.words.specs.Toured.{Toured, dart_at, letter_of}
use Rattle.traversal.specs.Steps.{dart, letter_after}
use Rattle.traversal.proofs.Walk.{walk_back}
use Rattle.traversal.proofs.Complete.{connected_long}
use Rattle.traversal.proofs.Toured.{walk_toured}
use Rattle.traversal.proofs.Positions.{letter_at, dart_at_lem, stack_at, back_at, mate_is}
use Rattle.forward.proofs.Stacked.{planar_stacked}
use Rattle.forward.proofs.Loops.{loop_first}
use Rattle.forward.proofs.DeadEnds.{dead_end_up}
use Rattle.work.specs.Map.{WAITING}
use Rattle.work.specs.Area.{stack}
use Rattle.trace_steps.specs.declared.Trace.{Trace}
use Rattle.trace_steps.specs.Steps.{last_is}
use Rattle.tracing.specs.Tracing.{from, Tracing, Sound}
use Rattle.tracing.proofs.Places.{mark_at}
use Rattle.tracing.proofs.Stepping as stepping

module _ (family : ℕ) (rot : List ℕ) (k : ℕ) (w : List ℕ) (s : Trace) (g : Tracing family rot k w s) (sound : Sound family (from rot s.root)) where
  abbrev n : ℕ
  n = length rot

  abbrev r : ℕ
  r = s.root

  abbrev p : Plan
  p = from rot r

  abbrev mark : ℕ
  mark = get_or w (opposite s.dart) 0

  t : Toured p
  t = walk_toured p g.ground.count g.root_in g.ground.perm sound.joined

  module _ (here : k < n) (on : 0 < k → s.dart ≢ s.root) where
    dart_is : dart_at p k ≡ s.dart
    dart_is = dart_at_lem p g.ground.count g.root_in g.ground.perm t k here ∙ sym g.here

    letter_is : letter_of p k ≡ letter_after rot r k
    letter_is = letter_at p g.ground.count g.root_in g.ground.perm t k here

    pub loop_unsound : family ≢ 4 → 32768 ≤ mark → mark ≡ get_or w s.dart 0 → ⊥
    loop_unsound f big e =
        let o-in = stepping.across_in family rot k w s g here on in
        let d-in = (stepping.placed family rot k w s g here on).dart in
        let at-o = mark_at n w (opposite s.dart) o-in in
        let at-d = mark_at n w s.dart d-in in
        let same = g.distinct.one_vertex (opposite s.dart) s.dart o-in d-in (omega arith) (at-o ∙ e ∙ sym at-d) in
        true≢false (sym (loop_first p t g.ground.count k here (ap (vertex_of rot) dart_is ∙ sym same ∙ ap (λ (x : ℕ). vertex_of rot (opposite x)) (sym dart_is)))
        ∙ sound.no_loop f)

    pub leaf_unsound : family ≡ 1 → 16384 ≤ mark → mark < 32768 → next rot s.dart ≡ s.dart → ⊥
    unfolding degree_one
    leaf_unsound f lo hi e =
        true≢false (sym (dead_end_up p t g.ground.count k here (letter_is ∙ stepping.is_up family rot k w s g here on lo hi)
        (eq-eqb _ _ (ap (next rot) dart_is ∙ e ∙ sym dart_is))) ∙ sound.no_leaf f)

    pub crossing_unsound : 0 < mark → mark < 16384 → last_is (stack (WAITING * n) s.waiting w) (mark - 8192) ≡ false → ⊥
    crossing_unsound lo hi off =
        let (b, m, e) = stepping.end_edge_lem family rot k w s g here on lo hi in
        let (q, top) = planar_stacked p t g.ground.count g.ground.perm sound.flat k here (letter_is ∙ stepping.is_second_lem family rot k w s g here on lo hi) in
        let mate = mate_is p g.ground.count g.root_in g.ground.perm t k b.position here (let z = b.earlier in omega arith) b.across in
        let ℓ = letter_after rot r in
        let held : stack (WAITING * n) s.waiting w ≡ opened ℓ b.position ∷ map (opened ℓ) q =
        g.trail.stacked ∙ ap (map (opened ℓ)) (sym (stack_at p g.ground.count g.root_in g.ground.perm t k (le_of_lt here)) ∙ top)
        ∙ ap (λ (x : ℕ). opened ℓ x ∷ map (opened ℓ) q) mate in
        false≢true (sym off ∙ ap (λ (xs : List ℕ). last_is xs (mark - 8192)) held ∙ eq-eqb _ _ (sym e))

  pub short_unsound : 0 < k → s.dart ≡ s.root → k ≢ n → ⊥
  short_unsound some back ne =
      ne (sym (walk_back p g.ground.count g.root_in g.ground.perm k some (sym g.here ∙ back) g.trail.away)
      ∙ connected_long p g.ground.count g.root_in g.ground.perm sound.joined)

  pub endless_unsound : k ≡ n → s.dart ≢ s.root → ⊥
  endless_unsound e ne =
      let some = count_positive n g.ground.count in
      let one : suc (n - 1) ≡ n = omega arith in
      ne (g.here ∙ ap (dart rot r) (e ∙ sym one) ∙ back_at p g.ground.count g.root_in g.ground.perm t (n - 1) one)
