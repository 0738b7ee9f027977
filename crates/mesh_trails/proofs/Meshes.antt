-- The walk of a mesh's dual: what it meets at each place of a node.
--
--   mesh_first, mesh_leaf   which letters come at a node's first place, and at its second, where an edge begins at its first
--   mesh_second          no up comes at its second place
--   Ends rot r j k       the edge that ends at k is the last open one, and one below it began at j or later
--   mesh_ends            so it is where an edge ends at the second place of the node that is entered at j
--   Home rot r k         k is the last position but one, all edges have begun, and the two that are open end there and at the last one
--   mesh_home            so it is at the start's second place
--   mesh_face            all faces are triangles
use Prim.Native.Nat.{ℕ, suc, ◌/◌, ◌≤◌, ◌<◌}
use native.Mathlib.Nat.{le_refl, le_of_lt}
use native.Mathlib.Omega.{arith}
use mathlib.Core.Path.{◌≡◌, refl, sym, ap, ap₂, subst, ◌∙◌}
use mathlib.Core.Logic.{◌⊎◌, ⊎_elim, ◌≢◌}
use mathlib.Core.Bool.{true}
use mathlib.Core.List.{List, [], ◌∷◌}
use lib.ListN.{length}
use Rattle.model.specs.Map.{Plan, opposite, next, is_triangle, fit}
use Rattle.model.specs.Traversal.{Letter, down, up, first, second, opens, onward}
use Rattle.model.specs.Mesh.{dual_of, dual_plan}
use Rattle.model.proofs.Fitness.{Fit, fit_parts}
use Rattle.orbits.specs.Stack.{top}
use Rattle.orbits.proofs.Order.{le_split}
use Rattle.orbits.proofs.Tally.{count_grows}
use Rattle.words.specs.Toured.{Toured, dart_at, letter_of, mate_of, is_tree, is_chord}
use Rattle.words.specs.Brackets.{chord_stack}
use Rattle.words.specs.Position.{opened}
use Rattle.words.proofs.Letters.{apart}
use Rattle.words.proofs.Positions.{dart_inj, mate_bound, mate_before, mate_letter}
use Rattle.words.proofs.OpenEdges.{chord_whole, part_holds}
use Rattle.words.proofs.Opened.{opened_stays}
use Rattle.traversal.specs.Steps.{dart, letter_after}
use Rattle.traversal.proofs.Steps.{dart_step}
use Rattle.traversal.proofs.Positions.{letter_at, dart_at_lem, opened_at, stack_at, across_at}
use Rattle.fit_plans.proofs.FitPlans.{fit_toured, fit_bracketed}
use Rattle.forward.proofs.Labels.{opened_half}
use Rattle.meshes.proofs.Triangles.{parts_triangle, mesh_triangle, Cubic, mesh_dual}
use Rattle.meshes.proofs.OpenEdges.{after_second, chords_end}
use Rattle.meshes.proofs.Faces.{Crossed}
use Rattle.meshes.proofs.Nodes.{whole_home, whole_fine}
use Rattle.meshes.proofs.Growing.{after_flat, grown}
use Rattle.mesh_walks.specs.Place.{second_place}
use Rattle.mesh_walks.proofs.Nodes.{node, node_first, node_second, node_leaf, first_leaf}
use Rattle.mesh_trails.specs.Strolls.{place}

pub record Ends (rot : List ℕ) (r j k : ℕ) : Type 0 where
  pub begun : ℕ
  pub under : ℕ
  pub rest : List ℕ
  pub stacked : chord_stack (letter_after rot r) k ≡ begun ∷ (under ∷ rest)
  pub earlier : begun < k
  pub across : dart rot r begun ≡ opposite (dart rot r k)
  pub later : j ≤ under
  pub number : opened (letter_after rot r) j ≤ opened (letter_after rot r) under

pub record Home (rot : List ℕ) (r k : ℕ) : Type 0 where
  pub letter : letter_after rot r k ≡ second
  pub turns : dart rot r (suc k) ≡ next rot (dart rot r k)
  pub long : suc (suc k) ≡ length rot
  pub edges : opened (letter_after rot r) k ≡ length rot / 2
  pub begun : ℕ
  pub under : ℕ
  pub stacked : chord_stack (letter_after rot r) k ≡ begun ∷ (under ∷ [])
  pub earlier : (begun < k) × (under < k)
  pub across : dart rot r begun ≡ opposite (dart rot r k)
  pub across_next : dart rot r under ≡ opposite (next rot (dart rot r k))

module _ (order : List ℕ) (r : ℕ) (fits : fit 3 (record { rotation = order; root = r; outside = 0 }) ≡ true) where
  abbrev rot : List ℕ
  rot = dual_of order

  abbrev N : ℕ
  N = length rot

  abbrev D : ℕ → ℕ
  D = dart rot r

  abbrev ℓ : ℕ → Letter
  ℓ = letter_after rot r

  abbrev q : Plan
  q = record { rotation = rot; root = r; outside = 0 }

  cubic : Cubic q
  unfolding dual_plan
  cubic = mesh_dual (record { rotation = order; root = r; outside = 0 }) fits

  abbrev parts : Fit 2 q
  parts = fit_parts 2 q cubic.fits

  abbrev toured : Toured q
  toured = fit_toured 2 q cubic.fits

  -- ---- the steps of the walk are the positions of the tour

  letters_are : (j : ℕ) → j < N → letter_of q j ≡ ℓ j
  letters_are = letter_at q parts.count parts.root parts.entries toured

  darts_are : (j : ℕ) → j < N → dart_at q j ≡ D j
  darts_are = dart_at_lem q parts.count parts.root parts.entries toured

  stacks_are : (i : ℕ) → i ≤ N → chord_stack (letter_of q) i ≡ chord_stack ℓ i
  stacks_are = stack_at q parts.count parts.root parts.entries toured

  -- the edge that ends at k: where it began, and that it is on top
  ending : (k : ℕ) → k < N → ℓ k ≡ second
      → (mate_of q k < k) × (D (mate_of q k) ≡ opposite (D k)) × (chord_stack (letter_of q) k ≡ mate_of q k ∷ chord_stack (letter_of q) (suc k))
  ending k h e =
      let l = letters_are k h ∙ e in (
        mate_before q toured parts.count k h (ap opens l),
        across_at q parts.count parts.root parts.entries toured k h,
        (after_second q cubic.fits k h l).1,
      )

  -- ---- the places of a node

  open_place : (i : ℕ) → i < N → (letter_of q i ≡ down) ⊎ (letter_of q i ≡ first) → (ℓ i ≡ down) ⊎ (ℓ i ≡ first)
  open_place i h o = subst (λ (l : Letter). (l ≡ down) ⊎ (l ≡ first)) (letters_are i h) o

  pub mesh_first : (k : ℕ) → k < N → ℓ k ≡ down → (ℓ (suc k) ≡ down) ⊎ (ℓ (suc k) ≡ first)
  mesh_first k h e =
      let d = letters_are k h ∙ e in
      open_place (suc k) (node q cubic k h d).inside.0 (node_first q cubic k h d)

  pub mesh_leaf : (k : ℕ) → k < N → ℓ k ≡ down → ℓ (suc k) ≡ first → (ℓ (suc (suc k)) ≡ down) ⊎ (ℓ (suc (suc k)) ≡ first)
  mesh_leaf k h e f =
      let d = letters_are k h ∙ e in
      let (i, j) = (node q cubic k h d).inside in
      let l = letters_are (suc k) i ∙ f in
      open_place (suc (suc k)) (subst (λ (n : ℕ). n < N) (first_leaf q k (ap is_tree l)) j) (node_leaf q cubic k h d l)

  second_at : (j k : ℕ) → j < N → ℓ j ≡ down → k < N → D k ≡ place rot r j → second_place q j ≡ k
  unfolding onward
  second_at j k h e hk p =
      let d = letters_are j h ∙ e in
      let n = node q cubic j h d in
      let s : dart_at q (suc j) ≡ next rot (opposite (D j)) =
      toured.step j n.inside.0 ∙ ap₂ (λ (l : Letter) (x : ℕ). onward rot l x) d (darts_are j h) in
      dart_inj q toured (second_place q j) k n.inside.1 hk (sym n.turn₁ ∙ ap (next rot) s ∙ sym p ∙ sym (darts_are k hk))

  pub mesh_second : (j k : ℕ) → j < N → ℓ j ≡ down → k < N → D k ≡ place rot r j → ℓ k ≢ up
  mesh_second j k h e hk p u =
      node_second q cubic j h (letters_are j h ∙ e) (ap (letter_of q) (second_at j k h e hk p) ∙ letters_are k hk ∙ u)

  -- the tree edge that enters a node is crossed
  crossed : (j : ℕ) → j < N → ℓ j ≡ down → Crossed q cubic.fits j
  crossed j h e =
      let (t, g, n, s) = grown q cubic.fits cubic.three cubic.alone cubic.two_faced in
      (whole_fine q cubic.fits t g s j h).1 (letters_are j h ∙ e)

  -- and its up comes just after an edge that ends at the second place
  ending_up : (j k : ℕ) → j < N → ℓ j ≡ down → k < N → D k ≡ place rot r j → ℓ k ≡ second → mate_of q j ≡ suc k
  ending_up j k h e hk p f =
      let d = letters_are j h ∙ e in
      ⊎_elim
      (λ z. z)
      (λ z. absurd (omega (arith, z.0, toured.opens_first j h (ap opens d))))
      (after_flat q cubic.fits k (mate_of q j) hk (mate_bound q toured parts.count j h)
      (ap (λ (i : ℕ). next rot (dart_at q i)) (sym (second_at j k h e hk p)) ∙ (node q cubic j h d).turn₂) (ap is_tree (letters_are k hk ∙ f)))

  pub mesh_ends : (j k : ℕ) → j < N → ℓ j ≡ down → k < N → D k ≡ place rot r j → ℓ k ≡ second → Ends rot r j k
  unfolding opened
  mesh_ends j k h e hk p f =
      let m = ending_up j k h e hk p f in
      let (x, lo, hi, o, out) = crossed j h e in
      go x lo (chord_stack (letter_of q) (suc k)) refl
      (part_holds is_chord chord_whole q toured parts.count (fit_bracketed 2 q cubic.fits).chords (suc k) x hk (omega arith) (ap is_chord o) (omega arith))
    where
      go : (x : ℕ) → j < x → (s : List ℕ) → chord_stack (letter_of q) (suc k) ≡ s → x < top s → Ends rot r j k
      go x lo [] z l = absurd (omega arith)
      go x lo (y ∷ s) z l =
          let (before, over, on_top) = ending k hk f in
          record {
            begun = mate_of q k;
            under = y;
            rest = s;
            stacked = sym (stacks_are k (le_of_lt hk)) ∙ on_top ∙ ap (λ (t : List ℕ). mate_of q k ∷ t) z;
            earlier = before;
            across = over;
            later = omega arith;
            number = count_grows (λ i. opens (ℓ i)) j y (omega arith);
          }

  -- ---- the start

  pub mesh_home : (k : ℕ) → k < N → D k ≡ next rot r → Home rot r k
  unfolding onward
  mesh_home k h e =
      let (t, g, n, s) = grown q cubic.fits cubic.three cubic.alone cubic.two_faced in
      let (long, a, b) = whole_home q cubic.fits t g s k h (ap (next rot) toured.starts ∙ sym e ∙ sym (darts_are k h)) in
      let i : suc k < N = omega arith in
      let f = sym (letters_are k h) ∙ a in
      let f' = sym (letters_are (suc k) i) ∙ b in
      let (before, over, on_top) = ending k h f in
      let (before', over', on-top') = ending (suc k) i f' in
      let to : D (suc k) ≡ next rot (D k) = dart_step rot r k ∙ ap (λ (l : Letter). onward rot l (D k)) f in
      let none : chord_stack (letter_of q) (suc (suc k)) ≡ [] = ap (chord_stack (letter_of q)) long ∙ chords_end q cubic.fits in
      record {
        letter = f;
        turns = to;
        long = long;
        edges =
            sym (opened_stays ℓ k (ap opens f)) ∙ sym (opened_stays ℓ (suc k) (ap opens f')) ∙ ap (opened ℓ) long
            ∙ sym (opened_at q parts.count parts.root parts.entries toured N (le_refl N)) ∙ opened_half q toured parts.count;
        begun = mate_of q k;
        under = mate_of q (suc k);
        stacked =
            sym (stacks_are k (le_of_lt h)) ∙ on_top ∙ ap (λ (s : List ℕ). mate_of q k ∷ s) (on-top' ∙ ap (λ (s : List ℕ). mate_of q (suc k) ∷ s) none);
        earlier = (
          before,
          le_split {a = mate_of q (suc k)} {b = k} (omega arith)
              (λ z. absurd (let y = apart (letter_of q k) a (ap (letter_of q) (sym z) ∙ mate_letter q toured (suc k) i second b) in omega arith))
              (λ z. z),
        );
        across = over;
        across_next = over' ∙ ap opposite to;
      }

  -- ---- faces

  pub mesh_face : (d : ℕ) → d < length order → is_triangle order d ≡ true
  mesh_face d h = parts_triangle order d (mesh_triangle (record { rotation = order; root = r; outside = 0 }) fits d h)
