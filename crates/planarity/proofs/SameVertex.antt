-- Two positions lie at one vertex exactly when the same tree edge is the innermost open one.
--
--   same_vertex        positions at one vertex have one entry
--   same_entry         positions with one entry lie at one vertex
--   entered_le         a vertex is entered no later than it is met
--   second_lower       a second lies at a vertex entered no later than that of its first
--   second_descends    and entered before it, if the edge is no loop
use Prim.Native.Nat.{ℕ, ◌≤◌, ◌<◌}
use native.Mathlib.Nat.{le_of_lt}
use native.Mathlib.Omega.{arith}
use mathlib.Core.Path.{◌≡◌, refl, sym, ap, ◌∙◌}
use mathlib.Core.Logic.{◌≢◌}
use mathlib.Core.Bool.{true}
use mathlib.Core.List.{List, [], ◌∷◌}
use Rattle.model.specs.Numbers.{is_permutation}
use Rattle.model.specs.Map.{Plan, darts, opposite, next, vertex_of, dart_count_fits}
use Rattle.model.specs.Traversal.{second, opens}
use Rattle.orbits.specs.Stack.{top}
use Rattle.orbits.proofs.Order.{le_split}
use Rattle.orbits.proofs.Maps.{next_perm}
use Rattle.words.specs.Toured.{dart_at, letter_of, pos_of, mate_of, is_tree, Toured}
use Rattle.words.specs.Brackets.{tree_stack}
use Rattle.words.specs.Entered.{entered_at}
use Rattle.words.proofs.Letters.{tree_fellow}
use Rattle.words.proofs.Positions.{dart_next, mate_bound, mate_dart, mate_back, mate_letter, mate_before}
use Rattle.words.proofs.OpenEdges.{part_balanced, part_head, part_holds, part_matched, onward_matching}
use Rattle.words.proofs.Vertices.{Turning, vertex_entry, entry_vertex}
use Rattle.planarity.proofs.Vertices.{trees_nested}

module _ (p : Plan) (t : Toured p) (fits : dart_count_fits (darts p) ≡ true) (perm : is_permutation p.rotation ≡ true) where
  turning : Turning p.rotation (darts p) (letter_of p) (dart_at p) (pos_of p)
  turning = record {
    size = refl;
    perm = next_perm p.rotation perm;
    trees = part_balanced is_tree tree_fellow p t fits (trees_nested p t fits perm);
    dart_bound = t.dart_bound;
    pos_bound = t.pos_bound;
    dart_pos = t.dart_pos;
    pos_dart = t.pos_dart;
    turn = λ i h.
        ap (λ (k : ℕ). next p.rotation (dart_at p k)) (part_matched is_tree tree_fellow p t fits (trees_nested p t fits perm) i h)
        ∙ sym (dart_next p t i h ∙ onward_matching p t fits i h);
  }

  pub same_vertex : (i j : ℕ) → i < darts p → j < darts p → vertex_of p.rotation (dart_at p i) ≡ vertex_of p.rotation (dart_at p j)
      → entered_at p i ≡ entered_at p j
  unfolding entered_at
  same_vertex = vertex_entry p.rotation (darts p) (letter_of p) (dart_at p) (pos_of p) turning

  pub same_entry : (i j : ℕ) → i < darts p → j < darts p → entered_at p i ≡ entered_at p j
      → vertex_of p.rotation (dart_at p i) ≡ vertex_of p.rotation (dart_at p j)
  unfolding entered_at
  same_entry = entry_vertex p.rotation (darts p) (letter_of p) (dart_at p) (pos_of p) turning

  -- ---- edges outside the tree

  abbrev open_trees_lem : ℕ → List ℕ
  open_trees_lem = tree_stack (letter_of p)

  pub entered_le : (i : ℕ) → i ≤ darts p → entered_at p i ≤ i
  unfolding entered_at
  entered_le i h = go (open_trees_lem i) refl
    where
      go : (s : List ℕ) → open_trees_lem i ≡ s → top s ≤ i
      go [] e = omega arith
      go (a ∷ s) e = (part_head is_tree tree_fellow p t fits (trees_nested p t fits perm) i h a s e).0

  -- a vertex with a position at or before i, and one at or after i, was entered no later than the vertex of i
  entered_between : (q i j : ℕ) → q ≤ i → i ≤ j → j ≤ darts p → entered_at p q ≡ entered_at p j → entered_at p j ≤ entered_at p i
  unfolding entered_at
  entered_between q i j l u h e = go (open_trees_lem j) refl
    where
      go : (s : List ℕ) → open_trees_lem j ≡ s → top (open_trees_lem j) ≤ top (open_trees_lem i)
      go [] f = omega (arith, ap top f)
      go (a ∷ s) f =
          let before = entered_le q (omega arith) in
          let found = ap top f in
          let (b, tree, o, ends) = part_head is_tree tree_fellow p t fits (trees_nested p t fits perm) j h a s f in
          let held = part_holds is_tree tree_fellow p t fits (trees_nested p t fits perm) i a (omega arith) (omega arith) tree (omega arith) in
          omega arith

  pub second_lower : (j : ℕ) → j < darts p → letter_of p j ≡ second → entered_at p j ≤ entered_at p (mate_of p j)
  second_lower j h e =
      let i = mate_of p j in
      let hi = mate_bound p t fits j h in
      let (q, l, v) = t.old i hi (mate_letter p t j h second e) in
      let opp : opposite (dart_at p i) ≡ dart_at p j = sym (mate_dart p t fits i hi) ∙ ap (dart_at p) (mate_back p t fits j h) in
      let same = same_vertex q j (omega arith) h (v ∙ ap (vertex_of p.rotation) opp) in
      entered_between q i j l (le_of_lt (mate_before p t fits j h (ap opens e))) (le_of_lt h) same

  pub second_descends : (j : ℕ) → j < darts p → letter_of p j ≡ second
      → vertex_of p.rotation (dart_at p (mate_of p j)) ≢ vertex_of p.rotation (dart_at p j) → entered_at p j < entered_at p (mate_of p j)
  second_descends j h e apart =
      le_split (second_lower j h e)
      (λ s. absurd (apart (same_entry (mate_of p j) j (mate_bound p t fits j h) h (sym s))))
      (λ s. s)
