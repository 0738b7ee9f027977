-- Every vertex but the root's is entered by one down.
--
--   vertices_downs     there is one vertex more than downs
--   tree_chords        the tree's diagram has as many chords as there are downs
--   tree_diagram_nested   that diagram is nested
--   trees_nested       the tree edges match like brackets
use Prim.Native.Nat.{ℕ, zero, suc, ◌≤◌, ◌<◌}
use native.Mathlib.Nat.{le_antisymm, le_of_lt, le_of_eq, le_of_suc-le-suc}
use native.Mathlib.Omega.{arith}
use mathlib.Core.Path.{◌≡◌, refl, sym, ap, ◌∙◌}
use mathlib.Core.Bool.{Bool, true}
use lib.Dec.{T, ltb}
use borrow.Author.Tests.{lt-ltb, le-ltb}
use Rattle.model.specs.Numbers.{tick, count, least, is_least, cycles, is_permutation}
use Rattle.model.specs.Map.{Plan, darts, opposite, next, vertex_of, vertices, dart_count_fits}
use Rattle.model.specs.Traversal.{Letter, down, up, first, second, opens}
use Rattle.model.proofs.Fitness.{count_positive}
use Rattle.model.proofs.Opposite.{opposite_opposite}
use Rattle.model.proofs.Booleans.{T_true}
use Rattle.orbits.specs.Chord.{opener, chords, Nested}
use Rattle.orbits.specs.Tour.{face, rest}
use Rattle.orbits.proofs.Order.{tri, eq→eqb}
use Rattle.orbits.proofs.Tally.{tick_suc, count_out, count_ext, count_inj}
use Rattle.orbits.proofs.Cycle.{least_bound, least_idem, perm_ext}
use Rattle.orbits.proofs.Transversal.{cycles_ext}
use Rattle.orbits.proofs.Tour.{dual, map_faces_le, map_nested}
use Rattle.orbits.proofs.Maps.{next_perm, vertex_turn}
use Rattle.words.specs.Toured.{dart_at, letter_of, pos_of, mate_of, is_tree, matching, Brackets, Toured}
use Rattle.words.specs.Entered.{is_down, downs}
use Rattle.words.proofs.Letters.{onward_tree, is_down_lem}
use Rattle.words.proofs.Positions.{mate_bound, mate_before, opposite_at}
use Rattle.words.proofs.OpenEdges.{matching_in, matching_out}
use Rattle.planarity.proofs.Touring.{tree_dart, tour}
use Rattle.planarity.proofs.Diagrams.{tree_mates, tree_mates_lem, nested_trees}

-- ---- the positions where a vertex is entered: the first, and those just after a down

abbrev enters : Plan → ℕ → Bool
enters p zero = true
enters p (suc a) = is_down (letter_of p a)

count_enters : (p : Plan) (n : ℕ) → count (enters p) (suc n) ≡ suc (count (λ i. is_down (letter_of p i)) n)
unfolding count
count_enters p zero = refl
count_enters p (suc n) =
    ap (tick (is_down (letter_of p n))) (count_enters p n) ∙ tick_suc (is_down (letter_of p n)) (count (λ i. is_down (letter_of p i)) n)

-- where the last letter is no down
count_all_enters : (p : Plan) (n : ℕ) → 0 < n → ((a : ℕ) → suc a ≡ n → letter_of p a ≡ down → ⊥)
    → count (enters p) n ≡ suc (count (λ i. is_down (letter_of p i)) n)
count_all_enters p zero h last = absurd (omega arith)
count_all_enters p (suc n) h last =
    count_enters p n ∙ ap suc (sym (count_out (λ i. is_down (letter_of p i)) n (λ t.
    last n refl (is_down_lem (letter_of p n) (T_true (is_down (letter_of p n)) t)))))

module _ (p : Plan) (t : Toured p) (fits : dart_count_fits (darts p) ≡ true) (perm : is_permutation p.rotation ≡ true) where
  -- the vertex one position on, after a letter of the tree
  after_tree : (k : ℕ) → suc k < darts p → is_tree (letter_of p k) ≡ true
      → vertex_of p.rotation (dart_at p (suc k)) ≡ vertex_of p.rotation (opposite (dart_at p k))
  after_tree k h e =
      ap (vertex_of p.rotation) (t.step k h ∙ onward_tree p.rotation (letter_of p k) (dart_at p k) e)
      ∙ vertex_turn p.rotation (next_perm p.rotation perm) (opposite (dart_at p k)) (opposite_at p t fits k (omega arith))

  -- a vertex that is entered has no dart before
  entered_new : (i j : ℕ) → i < j → j < darts p → T (enters p j) → vertex_of p.rotation (dart_at p i) ≡ vertex_of p.rotation (dart_at p j) → ⊥
  entered_new i zero l h u e = absurd (omega arith)
  entered_new i (suc a) l h u e =
      let d = is_down_lem (letter_of p a) (T_true (is_down (letter_of p a)) u) in
      t.new a (omega arith) d i (le_of_suc-le-suc l) (e ∙ after_tree a h (ap is_tree d))

  entered_apart : (i j : ℕ) → i < darts p → j < darts p → T (enters p i) → T (enters p j)
      → vertex_of p.rotation (dart_at p i) ≡ vertex_of p.rotation (dart_at p j) → i ≡ j
  entered_apart i j hi hj u v e =
      tri i j (λ l. absurd (entered_new i j l hj v e)) (λ q. q) (λ l. absurd (entered_new j i l hi u (sym e)))

  enters_vertices : count (enters p) (darts p) ≤ cycles (next p.rotation) (darts p)
  unfolding cycles vertex_of
  enters_vertices =
      let σ = next p.rotation in
      let N = darts p in
      let pσ = next_perm p.rotation perm in
      count_inj (enters p) (is_least σ N) N N (record {
        to = λ i h u. least σ N (dart_at p i);
        bound = λ i h u. least_bound N σ pσ (dart_at p i) (t.dart_bound i h);
        passes = λ i h u. eq→eqb (least σ N (least σ N (dart_at p i))) (least σ N (dart_at p i)) (least_idem N σ pσ (dart_at p i) (t.dart_bound i h));
        inj = λ i j hi hj u v e. entered_apart i j hi hj u v e;
      })

  last_not_down : (a : ℕ) → suc a ≡ darts p → letter_of p a ≡ down → ⊥
  last_not_down a e d = omega (arith, t.opens_first a (omega arith) (ap opens d), mate_bound p t fits a (omega arith))

  -- ---- the tree's diagram

  opener_down : (i : ℕ) (l : Letter) → i < darts p → letter_of p i ≡ l → opener (tree_mates p) i ≡ is_down l
  opener_down i l h e = ap (ltb i) (tree_mates_lem p t i h) ∙ go l e
    where
      go : (l : Letter) → letter_of p i ≡ l → ltb i (matching is_tree p i) ≡ is_down l
      go down e = ap (ltb i) (matching_in is_tree p i (ap is_tree e)) ∙ lt-ltb i (mate_of p i) (t.opens_first i h (ap opens e))
      go up e = ap (ltb i) (matching_in is_tree p i (ap is_tree e)) ∙ le-ltb i (mate_of p i) (le_of_lt (mate_before p t fits i h (ap opens e)))
      go first e = le-ltb i (matching is_tree p i) (le_of_eq (matching_out is_tree p i (ap is_tree e)))
      go second e = le-ltb i (matching is_tree p i) (le_of_eq (matching_out is_tree p i (ap is_tree e)))

  pub tree_chords : chords (tree_mates p) (darts p) ≡ downs p
  unfolding chords downs
  tree_chords = count_ext (opener (tree_mates p)) (λ i. is_down (letter_of p i)) (darts p) (λ i h. opener_down i (letter_of p i) h refl)

  -- ---- the vertices are the faces of the dual tour

  abbrev around : ℕ → ℕ
  around = face (λ d. next p.rotation (opposite d)) opposite

  around_next : (d : ℕ) → d < darts p → around d ≡ next p.rotation d
  around_next d h = ap (next p.rotation) (opposite_opposite d)

  around_cycles : cycles (next p.rotation) (darts p) ≡ cycles around (darts p)
  around_cycles =
      let pσ = next_perm p.rotation perm in
      cycles_ext (darts p) (next p.rotation) around pσ (perm_ext (darts p) (next p.rotation) pσ around around_next) around_next

  few_vertices : cycles (next p.rotation) (darts p) ≤ suc (downs p)
  few_vertices =
      let most = map_faces_le (darts p) _ opposite (rest (tree_dart p)) (pos_of p) (dart_at p)
      (dual (darts p) (next p.rotation) opposite (tree_dart p) (pos_of p) (dart_at p) (tour p t fits perm)) in
      omega (arith, around_cycles, tree_chords)

  many_vertices : suc (downs p) ≤ cycles (next p.rotation) (darts p)
  unfolding downs
  many_vertices = omega (arith, enters_vertices, count_all_enters p (darts p) (count_positive (darts p) fits) last_not_down)

  pub vertices_downs : vertices p.rotation ≡ suc (downs p)
  unfolding vertices
  vertices_downs = le_antisymm few_vertices many_vertices

  pub tree_diagram_nested : Nested (tree_mates p) (darts p)
  unfolding vertices
  tree_diagram_nested =
      map_nested (darts p) _ opposite (rest (tree_dart p)) (pos_of p) (dart_at p)
      (dual (darts p) (next p.rotation) opposite (tree_dart p) (pos_of p) (dart_at p) (tour p t fits perm))
      (sym around_cycles ∙ vertices_downs ∙ ap suc (sym tree_chords))

  pub trees_nested : Brackets is_tree p
  trees_nested = nested_trees p t fits tree_diagram_nested
