-- Loops, looked for at the edges outside the tree alone: a tree edge joins two vertices.
--
--   NoLoopFirst p      no first leads back to its own vertex
--   no_loop_first      then no edge is a loop
--   loop_first         and where one does, there is a loop
use Prim.Native.Nat.{ℕ, ◌<◌}
use native.Mathlib.Nat.{le_refl}
use mathlib.Core.Path.{◌≡◌, refl, sym, ap, subst, ◌∙◌}
use mathlib.Core.Logic.{◌≢◌}
use mathlib.Core.Bool.{Bool, true, false}
use Rattle.model.specs.Map.{Plan, darts, opposite, vertex_of, has_loop, dart_count_fits}
use Rattle.model.specs.Traversal.{Letter, down, up, first, second}
use Rattle.model.proofs.Fitness.{opposite_opposite, loopless_at, at_loopless}
use Rattle.words.specs.Toured.{Toured, dart_at, letter_of, pos_of, mate_of}
use Rattle.words.proofs.Positions.{mate_bound, mate_dart, mate_letter}

abbrev pub NoLoopFirst : Plan → Type 0
NoLoopFirst p = (i : ℕ) → i < darts p → letter_of p i ≡ first → vertex_of p.rotation (dart_at p i) ≢ vertex_of p.rotation (opposite (dart_at p i))

module _ (p : Plan) where
  -- a dart that leads back to its own vertex
  loop_at_lem : (d : ℕ) → d < darts p → vertex_of p.rotation d ≡ vertex_of p.rotation (opposite d) → has_loop p.rotation ≡ true
  loop_at_lem d h e = go (has_loop p.rotation) refl
    where
      go : (b : Bool) → has_loop p.rotation ≡ b → has_loop p.rotation ≡ true
      go true f = f
      go false f = absurd (loopless_at p.rotation f d h e)

module _ (p : Plan) (t : Toured p) (fits : dart_count_fits (darts p) ≡ true) where
  abbrev vertex : ℕ → ℕ
  vertex d = vertex_of p.rotation d

  abbrev Leads : ℕ → Type 0
  Leads i = vertex (dart_at p i) ≢ vertex (opposite (dart_at p i))

  -- as the mate's dart leads to another vertex
  leads_back : (i : ℕ) → i < darts p → Leads (mate_of p i) → Leads i
  leads_back i h leads e =
      let d = mate_dart p t fits i h in
      leads (ap vertex d ∙ sym e ∙ ap vertex (sym (ap opposite d ∙ opposite_opposite (dart_at p i))))

  pub no_loop_first : NoLoopFirst p → has_loop p.rotation ≡ false
  no_loop_first firsts = at_loopless p.rotation
      (λ d h. subst (λ (x : ℕ). vertex x ≢ vertex (opposite x)) (t.dart_pos d h) (go (pos_of p d) (t.pos_bound d h) (letter_of p (pos_of p d)) refl))
    where
      go : (i : ℕ) → i < darts p → (l : Letter) → letter_of p i ≡ l → Leads i
      go i h down e = t.new i h e i (le_refl i)
      go i h up e = let m = mate_bound p t fits i h in leads_back i h (t.new (mate_of p i) m (mate_letter p t i h up e) (mate_of p i) (le_refl (mate_of p i)))
      go i h first e = firsts i h e
      go i h second e = leads_back i h (firsts (mate_of p i) (mate_bound p t fits i h) (mate_letter p t i h second e))

  pub loop_first : (i : ℕ) → i < darts p → vertex_of p.rotation (dart_at p i) ≡ vertex_of p.rotation (opposite (dart_at p i))
      → has_loop p.rotation ≡ true
  loop_first i h e = loop_at_lem p (dart_at p i) (t.dart_bound i h) e
