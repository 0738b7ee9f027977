-- The types of a mesh, told by the letters of its dual's walk as they come. A node's second place comes after an up or a first, and
-- its letter is not up; it tells the type, and the number of the vertex where the walk stands, the node.
--
--   number_positive   the numbers of vertices other than the start are not 0
--   number_down, number_flat   the number of the vertex after a down, and after an edge outside the tree
--   number_entered    a vertex that is not the start, by its number: the down that entered it
--   up_node           after an up another letter: the second place of a node that is not the start, whose first place had a subtree
--   first_node        after a first another letter: the second place of a node whose first place had the first
--   Typed n t         node n has the type t
--   type_up, type_first   the type that is told there; leaf-number, type-leaf, where a first stands just after a down
--   node_covered      each node comes by one of the two
--   types_by_rules    a list of so many numbers whose entries are right where a type is told is that of the types
use Prim.Native.Nat.{ℕ, suc, ◌-◌, ◌/◌, ◌<◌}
use native.Mathlib.Nat.{le_of_lt, suc_inj}
use native.Mathlib.Omega.{arith}
use mathlib.Core.Path.{◌≡◌, refl, sym, ap, ap₂, subst, ◌∙◌}
use mathlib.Core.Logic.{◌⊎◌, inl, inr, ⊎_elim, ◌≢◌}
use mathlib.Core.Bool.{true, false, true≢false}
use mathlib.Core.List.{List, [], ◌∷◌}
use lib.ListN.{length, get_or}
use Rattle.model.specs.Map.{Plan, darts, next, vertex_of, fit}
use Rattle.model.specs.Traversal.{Letter, down, up, first, second}
use Rattle.model.specs.Mesh.{dual_plan, node_type, types}
use Rattle.model.proofs.Fitness.{Fit, fit_parts}
use Rattle.orbits.specs.Stack.{top, push, stack}
use Rattle.orbits.proofs.Maps.{next_perm, vertex_turn}
use Rattle.words.specs.Toured.{Toured, dart_at, letter_of, mate_of, is_tree}
use Rattle.words.specs.Brackets.{tree_kind, tree_stack}
use Rattle.words.specs.Entered.{entered_at}
use Rattle.words.specs.Position.{vertex_count, vertex_top, vertex_no}
use Rattle.words.proofs.Letters.{apart}
use Rattle.words.proofs.Positions.{dart_inj, mate_bound, mate_back, mate_letter}
use Rattle.words.proofs.OpenEdges.{tour_balance}
use Rattle.words.proofs.Mates.{stack_down}
use Rattle.planarity.proofs.SameVertex.{same_vertex}
use Rattle.fit_plans.proofs.FitPlans.{fit_toured, fit_bracketed}
use Rattle.duals.proofs.Duals.{dual_darts}
use Rattle.meshes.proofs.Triangles.{Cubic, mesh_dual}
use Rattle.meshes.proofs.Blocks.{turn_down, turn_flat'}
use Rattle.mesh_walks.specs.Place.{second_place}
use Rattle.mesh_walks.proofs.Nodes.{node, node_first, node_second, node_places, first_subtree, first_leaf}
use Rattle.mesh_walks.proofs.Types.{type_place, types_by_place}

-- ---- numbers of vertices

module _ (ℓ : ℕ → Letter) (i : ℕ) where
  pub number_down : ℓ i ≡ down → vertex_no ℓ (suc i) ≡ vertex_count ℓ i
  unfolding vertex_no stack
  number_down e = ap (λ (l : Letter). vertex_top ℓ (push (tree_kind l) i (tree_stack ℓ i))) e

  pub number_flat : is_tree (ℓ i) ≡ false → vertex_no ℓ (suc i) ≡ vertex_no ℓ i
  unfolding vertex_no stack
  number_flat f = go (ℓ i) refl f
    where
      go : (l : Letter) → ℓ i ≡ l → is_tree l ≡ false → vertex_top ℓ (push (tree_kind (ℓ i)) i (tree_stack ℓ i)) ≡ vertex_top ℓ (tree_stack ℓ i)
      go down e f = absurd (true≢false f)
      go up e f = absurd (true≢false f)
      go first e f = ap (λ (l : Letter). vertex_top ℓ (push (tree_kind l) i (tree_stack ℓ i))) e
      go second e f = ap (λ (l : Letter). vertex_top ℓ (push (tree_kind l) i (tree_stack ℓ i))) e

pub number_positive : (ℓ : ℕ → Letter) (i : ℕ) → 0 < vertex_count ℓ i
unfolding vertex_count
number_positive ℓ i = omega arith

entered_number : (q : Plan) (i a : ℕ) → entered_at q i ≡ suc a → vertex_no (letter_of q) i ≡ vertex_count (letter_of q) a
unfolding vertex_no entered_at
entered_number q i a e = go (tree_stack (letter_of q) i) e
  where
    go : (s : List ℕ) → top s ≡ suc a → vertex_top (letter_of q) s ≡ vertex_count (letter_of q) a
    go [] e = absurd (omega arith)
    go (b ∷ s) e = ap (vertex_count (letter_of q)) (suc_inj e)

module _ (q : Plan) (fits : fit 2 q ≡ true) where
  pub number_entered : (i : ℕ) → i < darts q → 0 < vertex_no (letter_of q) i
      → (a : ℕ) × (a < i) × (letter_of q a ≡ down) × (entered_at q i ≡ suc a) × (vertex_no (letter_of q) i ≡ vertex_count (letter_of q) a)
  unfolding vertex_no entered_at
  number_entered i h n = go (tree_stack (letter_of q) i) refl n
    where
      go : (s : List ℕ) → tree_stack (letter_of q) i ≡ s → 0 < vertex_top (letter_of q) s
          → (a : ℕ) × (a < i) × (letter_of q a ≡ down) × (top (tree_stack (letter_of q) i) ≡ suc a)
          × (vertex_top (letter_of q) (tree_stack (letter_of q) i) ≡ vertex_count (letter_of q) a)
      go [] e n = absurd (omega arith)
      go (a ∷ s) e n =
          let b = tour_balance q (fit_toured 2 q fits) (fit_parts 2 q fits).count (fit_bracketed 2 q fits) in
          let (l, d) = stack_down (letter_of q) (darts q) b i (le_of_lt h) a s e in
          (a, l, d, ap top e, ap (vertex_top (letter_of q)) e)

-- ---- what is told

module _ (p : Plan) (mesh : fit 3 p ≡ true) where
  abbrev q : Plan
  q = dual_plan p

  abbrev cubic : Cubic q
  cubic = mesh_dual p mesh

  abbrev parts : Fit 2 q
  parts = fit_parts 2 q cubic.fits

  abbrev toured : Toured q
  toured = fit_toured 2 q cubic.fits

  abbrev ℓ : ℕ → Letter
  ℓ = letter_of q

  abbrev m : ℕ → ℕ
  m = mate_of q

  same_darts : darts q ≡ darts p
  same_darts = dual_darts p

  abbrev pub Parent : ℕ → Type 0
  Parent j = (a : ℕ) × (a < darts p) × (letter_of (dual_plan p) a ≡ down) × (letter_of (dual_plan p) (suc a) ≡ down)
      × (second_place (dual_plan p) a ≡ suc j) × (vertex_no (letter_of (dual_plan p)) (suc j) ≡ vertex_count (letter_of (dual_plan p)) a)

  -- a place that is not the arrival dart's, and has the next one about its vertex at k, which is not either
  first_place : (c k : ℕ) → c < darts q → k < darts q → next q.rotation (dart_at q c) ≡ dart_at q k → ℓ c ≢ up → ℓ k ≢ up → 0 < vertex_no ℓ k
      → (a : ℕ) × (a < darts p) × (ℓ a ≡ down) × (c ≡ suc a) × (vertex_no ℓ k ≡ vertex_count ℓ a)
  first_place c k hc hk turned oc ok n =
      let turn = next_perm q.rotation parts.entries in
      let there = same_vertex q toured parts.count parts.entries c k hc hk
      (sym (vertex_turn q.rotation turn (dart_at q c) (toured.dart_bound c hc)) ∙ ap (vertex_of q.rotation) turned) in
      let (a, l, d, e, v) = number_entered q cubic.fits k hk n in
      let h : a < darts q = omega arith in
      let hb = mate_bound q toured parts.count a h in
      let arrival = mate_letter q toured a h down d in
      ⊎_elim
      (λ z. (a, omega (arith, same_darts), d, z, v))
      (λ z. ⊎_elim
      (λ y. absurd (ok (ap ℓ (dart_inj q toured k (m a) hk hb
      (sym turned ∙ ap (λ (i : ℕ). next q.rotation (dart_at q i)) y ∙ (node q cubic a h d).turn₂)) ∙ arrival)))
      (λ y. absurd (oc (ap ℓ y ∙ arrival))) z)
      (node_places q cubic a h d c hc (there ∙ e))

  pub up_node : (j : ℕ) → suc j < darts p → letter_of (dual_plan p) j ≡ up → letter_of (dual_plan p) (suc j) ≢ up
      → 0 < vertex_no (letter_of (dual_plan p)) (suc j) → Parent j
  up_node j h u o n =
      let hs : suc j < darts q = omega (arith, same_darts) in
      let hj : j < darts q = le_of_lt hs in
      let hc = mate_bound q toured parts.count j hj in
      let d = mate_letter q toured j hj up u in
      let back = mate_back q toured parts.count j hj in
      let turned = turn_down q cubic.fits (m j) (suc j) hc d (ap suc back) hs in
      made d back (first_place (m j) (suc j) hc hs turned (λ y. omega (arith, apart (ℓ (m j)) d y)) o n)
    where
      made : ℓ (m j) ≡ down → m (m j) ≡ j → (a : ℕ) × (a < darts p) × (ℓ a ≡ down) × (m j ≡ suc a) × (vertex_no ℓ (suc j) ≡ vertex_count ℓ a) → Parent j
      made d back (a, l, e, z, k) =
          let f : ℓ (suc a) ≡ down = ap ℓ (sym z) ∙ d in
          (a, l, e, f, first_subtree q a (ap is_tree f) ∙ ap suc (ap m (sym z) ∙ back), k)

  pub first_node : (j : ℕ) → suc j < darts p → letter_of (dual_plan p) j ≡ first → letter_of (dual_plan p) (suc j) ≢ up
      → 0 < vertex_no (letter_of (dual_plan p)) (suc j) → (i : ℕ) × (i < darts p) × (letter_of (dual_plan p) i ≡ down) × (j ≡ suc i)
  first_node j h f o n =
      let hs : suc j < darts q = omega (arith, same_darts) in
      let turned = turn_flat' q cubic.fits j hs (ap is_tree f) in
      let (a, l, e, z, k) = first_place j (suc j) (le_of_lt hs) hs turned (λ y. omega (arith, apart (ℓ j) f y)) o n in
      (a, l, e, z)

  -- the node with the number n
  abbrev pub Typed : ℕ → ℕ → Type 0
  Typed n t = (n - 1 < length (types p)) × (get_or (types p) (n - 1) 0 ≡ t)

  typed : (n k t : ℕ) → n ≡ k → (k - 1 < length (types p)) × (get_or (types p) (k - 1) 0 ≡ t) → Typed n t
  typed n k t e (l, s) = (omega arith, ap (λ (i : ℕ). get_or (types p) (i - 1) 0) e ∙ s)

  pub type_up : (j : ℕ) → suc j < darts p → letter_of (dual_plan p) j ≡ up → letter_of (dual_plan p) (suc j) ≢ up
      → 0 < vertex_no (letter_of (dual_plan p)) (suc j)
      → Typed (vertex_no (letter_of (dual_plan p)) (suc j)) (node_type down (letter_of (dual_plan p) (suc j)))
  type_up j h u o n =
      let (a, l, d, f, e, k) = up_node j h u o n in
      let (b, t) = type_place p mesh a l d in
      typed _ (vertex_count ℓ a) _ k (b, t ∙ ap₂ node_type f (ap ℓ e))

  -- ---- where a first stands just after the down

  leaf_next : (i : ℕ) → i < darts p → ℓ i ≡ down → ℓ (suc i) ≡ first → (second_place q i ≡ suc (suc i)) × (suc (suc i) < darts p)
  leaf_next i h d f =
      let e = first_leaf q i (ap is_tree f) in
      let k = (node q cubic i (omega (arith, same_darts)) d).inside.1 in
      (e, omega (arith, same_darts))

  pub leaf_number : (i : ℕ) → letter_of (dual_plan p) i ≡ down → letter_of (dual_plan p) (suc i) ≡ first
      → vertex_no (letter_of (dual_plan p)) (suc (suc i)) ≡ vertex_count (letter_of (dual_plan p)) i
  leaf_number i d f = number_flat ℓ (suc i) (ap is_tree f) ∙ number_down ℓ i d

  pub type_leaf : (i : ℕ) → i < darts p → letter_of (dual_plan p) i ≡ down → letter_of (dual_plan p) (suc i) ≡ first
      → Typed (vertex_no (letter_of (dual_plan p)) (suc (suc i))) (node_type first (letter_of (dual_plan p) (suc (suc i))))
  type_leaf i h d f =
      let (b, t) = type_place p mesh i h d in
      typed _ (vertex_count ℓ i) _ (leaf_number i d f) (b, t ∙ ap₂ node_type f (ap ℓ (leaf_next i h d f).0))

  pub type_first : (j : ℕ) → suc j < darts p → letter_of (dual_plan p) j ≡ first → letter_of (dual_plan p) (suc j) ≢ up
      → 0 < vertex_no (letter_of (dual_plan p)) (suc j)
      → Typed (vertex_no (letter_of (dual_plan p)) (suc j)) (node_type first (letter_of (dual_plan p) (suc j)))
  type_first j h f o n =
      let (i, l, d, e) = first_node j h f o n in
      subst (λ (c : ℕ). Typed (vertex_no ℓ (suc c)) (node_type first (ℓ (suc c)))) (sym e) (type_leaf i l d (ap ℓ (sym e) ∙ f))

  -- ---- all nodes

  abbrev pub AfterSubtree : ℕ → Type 0
  AfterSubtree i = (letter_of (dual_plan p) (suc i) ≡ down) × (j : ℕ) × (second_place (dual_plan p) i ≡ suc j) × (suc j < darts p)
      × (letter_of (dual_plan p) j ≡ up) × (letter_of (dual_plan p) (suc j) ≢ up)
      × (vertex_no (letter_of (dual_plan p)) (suc j) ≡ vertex_count (letter_of (dual_plan p)) i)

  abbrev pub AfterLeaf : ℕ → Type 0
  AfterLeaf i = (letter_of (dual_plan p) (suc i) ≡ first) × (second_place (dual_plan p) i ≡ suc (suc i)) × (suc (suc i) < darts p)
      × (vertex_no (letter_of (dual_plan p)) (suc (suc i)) ≡ vertex_count (letter_of (dual_plan p)) i)

  pub node_covered : (i : ℕ) → i < darts p → letter_of (dual_plan p) i ≡ down → AfterSubtree i ⊎ AfterLeaf i
  node_covered i h d =
      let k : i < darts q = omega (arith, same_darts) in
      let x = node q cubic i k d in
      ⊎_elim
      (λ e.
      let s = first_subtree q i (ap is_tree e) in
      inl (
        e,
        m (suc i),
        s,
        omega (arith, same_darts, x.inside.1),
        mate_letter q toured (suc i) x.inside.0 down e,
        λ u. node_second q cubic i k d (ap ℓ s ∙ u),
        entered_number q (suc (m (suc i))) i (ap (entered_at q) (sym s) ∙ x.entered₂),
      ))
      (λ e. let (s, l) = leaf_next i h d e in inr (e, s, l, leaf_number i d e))
      (node_first q cubic i k d)

  pub types_by_rules : (ts : List ℕ) → length ts ≡ darts p / 3 - 1
      → ((j : ℕ) → suc j < darts p → letter_of (dual_plan p) j ≡ up → letter_of (dual_plan p) (suc j) ≢ up → 0 < vertex_no (letter_of (dual_plan p)) (suc j)
      → get_or ts (vertex_no (letter_of (dual_plan p)) (suc j) - 1) 0 ≡ node_type down (letter_of (dual_plan p) (suc j)))
      → ((i : ℕ) → suc (suc i) < darts p → letter_of (dual_plan p) i ≡ down → letter_of (dual_plan p) (suc i) ≡ first
      → get_or ts (vertex_no (letter_of (dual_plan p)) (suc (suc i)) - 1) 0 ≡ node_type first (letter_of (dual_plan p) (suc (suc i))))
      → ts ≡ types p
  types_by_rules ts n ups firsts = types_by_place p mesh ts n (λ i h d.
      ⊎_elim
      (λ r.
      let (e, j, s, l, u, o, k) = r in
      ap (λ (c : ℕ). get_or ts (c - 1) 0) (sym k) ∙ ups j l u o (omega (arith, number_positive ℓ i)) ∙ ap₂ node_type (sym e) (ap ℓ (sym s)))
      (λ r.
      let (e, s, l, k) = r in
      ap (λ (c : ℕ). get_or ts (c - 1) 0) (sym k) ∙ firsts i l d e ∙ ap₂ node_type (sym e) (ap ℓ (sym s)))
      (node_covered i h d))
