-- Down to a face and at its first place, in the work area.
--
--   down_ranges, down_in, down_over, down_next   what is read and put at a down is in range
--   entered              a face is entered
--   first_ranges, first_in, first_over, first_second, first_edge   what is read and put at a first place is in range
--   held_down            the walk goes down there
--   held_second          it begins an edge outside the tree, and is at the second place, two positions after the down
use Prim.Native.Nat.{ℕ, suc, ◌+◌, ◌-◌, ◌≤◌, ◌<◌}
use native.Mathlib.Nat.{le_refl, le_of_lt}
use native.Mathlib.Numerals.{add-one}
use native.Mathlib.Omega.{arith}
use mathlib.Core.Path.{◌≡◌, refl, sym, ap, ap₂, subst, ◌∙◌}
use mathlib.Core.Bool.{true}
use mathlib.Core.List.{List, ◌∷◌, map}
use lib.ListN.{length, get_or, set}
use Rattle.model.specs.Map.{opposite, next, face_next, vertex_of, is_triangle}
use Rattle.model.specs.Traversal.{Letter, down, first, opens}
use Rattle.model.specs.Mesh.{dual_of}
use Rattle.model.proofs.Opposite.{opposite_opposite}
use Rattle.orbits.specs.Permutation.{Perm}
use Rattle.orbits.specs.Chord.{Involution}
use Rattle.orbits.proofs.Order.{lt_suc_split}
use Rattle.words.specs.Brackets.{tree_stack}
use Rattle.words.specs.Position.{opened, vertex_count}
use Rattle.words.proofs.Opened.{opened_more}
use Rattle.traversal.specs.Steps.{dart, letter_after}
use Rattle.duals.proofs.Duals.{length_dual, dual_next}
use Rattle.marks.specs.Marks.{Rounded}
use Rattle.marks.proofs.Trail.{tells_down, tells_first}
use Rattle.marks.proofs.Walk.{unmarked_vertex}
use Rattle.meshes.proofs.Triangles.{triangle_parts}
use Rattle.mesh_trails.specs.Strolls.{place}
use Rattle.mesh_trails.proofs.Climbs.{entered_more, entered_stays}
use Rattle.mesh_trails.proofs.Places.{goes_down, first_down, first_leaf}
use Rattle.mesh_second_places.specs.declared.Stroll.{Stroll}
use Rattle.mesh_second_places.specs.Areas.{edge_area, View}
use Rattle.mesh_second_places.specs.Walks.{Good, Held, AtDown, AtSecond}
use Rattle.mesh_first_places.specs.Faces.{face_area, half_area, AtFirst}
use Rattle.mesh_second_places.proofs.Dual.{turn, cross, few, three}
use Rattle.mesh_second_places.proofs.Views.{view_mark}
use Rattle.mesh_first_places.proofs.Faces.{next_below, triangle_on, face_rounded, face_good}
use Rattle.mesh_second_places.proofs.Walks.{hung_size, Ranges, ranges, root_dual, dart_in, over_in, mark_is}
use Rattle.mesh_second_places.proofs.Seconds.{view_edge}
use Rattle.mesh_first_places.proofs.Halves.{view_half}

-- ---- at a first place

module _ (order w : List ℕ) (y : ℕ) (s : Stroll) (a : AtFirst order w y s) where
  abbrev n : ℕ
  n = length order

  abbrev rot : List ℕ
  rot = dual_of order

  abbrev r : ℕ
  r = s.root

  abbrev ℓ : ℕ → Letter
  ℓ = letter_after rot r

  abbrev D : ℕ → ℕ
  D = dart rot r

  abbrev k : ℕ
  k = a.k

  abbrev h : Held order w s (suc a.k) a.us a.b a.waits a.ts
  h = a.held

  hr : r < length rot
  hr = root_dual order w s (suc k) a.us a.b a.waits a.ts h

  pub first_ranges : Ranges (length order) s
  first_ranges = ranges order w s (suc k) a.us a.b a.waits a.ts h a.ts a.stands.strolled (λ _. a.stands.away) (k ∷ tree_stack ℓ k)
      a.stands.stacked (le_of_lt (hung_size rot r (k ∷ tree_stack ℓ k) a.us a.stands.hung))

  pub first_in : s.dart < length order
  first_in = subst (λ (x : ℕ). x < n) (sym a.here) (dart_in order w s (suc k) a.us a.b a.waits a.ts h (suc k))

  pub first_over : opposite s.dart < length order
  first_over = subst (λ (x : ℕ). opposite x < n) (sym a.here) (over_in order w s (suc k) a.us a.b a.waits a.ts h (suc k))

  pub first_second : y < length order
  first_second =
      let t = turn order h.count h.perm in
      let size = length_dual order in
      let over = over_in order w s (suc k) a.us a.b a.waits a.ts h k in
      subst (λ (x : ℕ). x < n) (sym a.second)
      (subst (λ (m : ℕ). place rot r k < m) size (t.bound _ (t.bound _ (subst (λ (m : ℕ). opposite (D k) < m) (sym size) over))))

  edge_is : s.edges ≡ opened ℓ k + 1
  edge_is = h.edges ∙ opened_more ℓ k (ap opens a.stands.is_down)

  face_is : s.faces ≡ suc (vertex_count ℓ k)
  face_is = h.faces ∙ entered_more ℓ k a.stands.is_down

  pub first_edge : 1 ≤ s.edges
  first_edge = let e = edge_is in omega arith

  edge_before : s.edges - 1 ≡ opened ℓ k
  edge_before = let e = edge_is in omega arith

  face_before : s.faces - 1 ≡ vertex_count ℓ k
  face_before = let e = face_is in omega arith

  mark_here : get_or a.b (opposite (D (suc k))) 0 ≡ get_or w (opposite s.dart) 0
  mark_here =
      mark_is order w s (suc k) a.us a.b a.waits a.ts h (opposite (D (suc k))) (over_in order w s (suc k) a.us a.b a.waits a.ts h (suc k))
      ∙ ap (λ (x : ℕ). get_or w (opposite x) 0) (sym a.here)

  half_few : s.halves ≤ n
  half_few = le_of_lt first_ranges.halves

  wait_few : s.waiting ≤ n
  wait_few = le_of_lt first_ranges.waiting

  pub held_down : get_or w (opposite s.dart) 0 ≡ 0
      → AtDown order (half_area (length order) y (s.faces - 1) (s.edges - 1) s.halves w)
      (record { root = s.root; dart = s.dart; edges = s.edges; faces = s.faces; waiting = s.waiting; halves = s.halves + 1 })
  held_down none =
      let u = a.us in
      let w' = half_area n y (s.faces - 1) (s.edges - 1) s.halves w in
      let v = view_half n s.waiting s.halves w a.b a.waits (map (place rot r) u) (map (vertex_count ℓ) u) (map (opened ℓ) u) a.ts h.view wait_few half_few
      y (s.faces - 1) (s.edges - 1) first_ranges.halves in
      record {
        k = suc k;
        us = k ∷ u;
        b = a.b;
        waits = a.waits;
        ts = a.ts;
        held = record {
          count = h.count;
          perm = h.perm;
          root_in = h.root_in;
          edges = h.edges;
          faces = h.faces;
          view =
              subst (λ (x : ℕ). View n s.waiting x w' a.b a.waits (place rot r k ∷ map (place rot r) u) (vertex_count ℓ k ∷ map (vertex_count ℓ) u)
              (opened ℓ k ∷ map (opened ℓ) u) a.ts) (sym (add-one s.halves))
              (subst (λ (x : ℕ). View n s.waiting (suc s.halves) w' a.b a.waits (x ∷ map (place rot r) u) (vertex_count ℓ k ∷ map (vertex_count ℓ) u)
              (opened ℓ k ∷ map (opened ℓ) u) a.ts) a.second
              (subst (λ (x : ℕ). View n s.waiting (suc s.halves) w' a.b a.waits (y ∷ map (place rot r) u) (x ∷ map (vertex_count ℓ) u)
              (opened ℓ k ∷ map (opened ℓ) u) a.ts) face_before
              (subst (λ (x : ℕ). View n s.waiting (suc s.halves) w' a.b a.waits (y ∷ map (place rot r) u) ((s.faces - 1) ∷ map (vertex_count ℓ) u)
              (x ∷ map (opened ℓ) u) a.ts) edge_before v)));
        };
        stands = first_down (Good order) rot r (turn order h.count h.perm) (cross order h.count h.perm) hr (few order h.count h.perm)
            (three order h.count h.perm) k u a.b a.waits a.ts a.stands (mark_here ∙ none);
        here = a.here;
      }

  pub held_second : 32768 ≤ get_or w (opposite s.dart) 0
      → (t : AtSecond order (edge_area (length order) s.dart s.edges s.waiting w) first (s.faces - 1) (s.edges - 1)
      (record { root = s.root; dart = y; edges = s.edges + 1; faces = s.faces; waiting = s.waiting + 1; halves = s.halves }))
      × (suc (suc a.k) ≡ t.k)
  held_second big =
      let big' : 32768 ≤ get_or a.b (opposite (D (suc k))) 0 = subst (λ (x : ℕ). 32768 ≤ x) (sym mark_here) big in
      let is = tells_first rot r (turn order h.count h.perm) (cross order h.count h.perm) hr (suc k) a.b a.waits a.stands.strolled.trail
      (λ _. a.stands.away) big' in
      let half = first_leaf (Good order) rot r (turn order h.count h.perm) (cross order h.count h.perm) hr (few order h.count h.perm)
      (three order h.count h.perm) k a.us a.b a.waits a.ts a.stands big' in (
        record {
          k = suc (suc k);
          node = k;
          us = a.us;
          b = set a.b (D (suc k)) (8192 + opened ℓ (suc k));
          waits = opened ℓ (suc k) ∷ a.waits;
          ts = a.ts;
          held = record {
            count = h.count;
            perm = h.perm;
            root_in = h.root_in;
            edges = ap (λ (x : ℕ). x + 1) h.edges ∙ sym (opened_more ℓ (suc k) (ap opens is));
            faces = h.faces ∙ sym (entered_stays ℓ (suc k) first is refl);
            view = view_edge n s.waiting s.halves w a.b a.waits _ _ _ a.ts h.view first_ranges.waiting half_few s.dart s.edges
                (D (suc k)) (opened ℓ (suc k)) first_in a.here h.edges;
          };
          stands = half;
          here = a.second ∙ sym half.here;
          number = face_before;
          entry = edge_before;
        },
        refl,
      )

-- ---- at a down

module _ (order w : List ℕ) (s : Stroll) (a : AtDown order w s) where
  abbrev n₂ : ℕ
  n₂ = length order

  abbrev rot₂ : List ℕ
  rot₂ = dual_of order

  abbrev r₂ : ℕ
  r₂ = s.root

  abbrev ℓ₂ : ℕ → Letter
  ℓ₂ = letter_after rot₂ r₂

  abbrev D₂ : ℕ → ℕ
  D₂ = dart rot₂ r₂

  abbrev k₂ : ℕ
  k₂ = a.k

  abbrev h₂ : Held order w s a.k a.us a.b a.waits a.ts
  h₂ = a.held

  hr₂ : r₂ < length rot₂
  hr₂ = root_dual order w s k₂ a.us a.b a.waits a.ts h₂

  t₂ : Perm (length rot₂) (next rot₂)
  t₂ = turn order h₂.count h₂.perm

  c₂ : Involution (length rot₂) opposite
  c₂ = cross order h₂.count h₂.perm

  pub down_ranges : Ranges (length order) s
  down_ranges = ranges order w s k₂ a.us a.b a.waits a.ts h₂ a.stands.earlier a.stands.strolled a.stands.away (tree_stack ℓ₂ k₂) refl
      (let z = hung_size rot₂ r₂ (k₂ ∷ tree_stack ℓ₂ k₂) a.us a.stands.hung in omega arith)

  pub down_in : s.dart < length order
  down_in = subst (λ (x : ℕ). x < n₂) (sym a.here) (dart_in order w s k₂ a.us a.b a.waits a.ts h₂ k₂)

  pub down_over : opposite s.dart < length order
  down_over = subst (λ (x : ℕ). opposite x < n₂) (sym a.here) (over_in order w s k₂ a.us a.b a.waits a.ts h₂ k₂)

  pub down_next : get_or order s.dart 0 ≡ face_next order (opposite s.dart)
  unfolding face_next next
  down_next = ap (λ (x : ℕ). get_or order x 0) (sym (opposite_opposite s.dart))

  -- the next dart of a face, in the plan and in the dual
  next_in : (x : ℕ) → x < n₂ → (next rot₂ x ≡ face_next order x) × (face_next order x < n₂)
  next_in x h = (dual_next order x h, next_below order h₂.count h₂.perm x h)

  is_down_lem : ℓ₂ k₂ ≡ down
  is_down_lem = tells_down rot₂ r₂ t₂ c₂ hr₂ k₂ a.b a.waits a.stands.strolled.trail a.stands.away a.stands.blank

  unmarked : (z : ℕ) → z < length rot₂ → vertex_of rot₂ z ≡ vertex_of rot₂ (opposite (D₂ k₂)) → get_or a.b z 0 ≡ 0
  unmarked = unmarked_vertex rot₂ r₂ t₂ c₂ hr₂ k₂ (λ j h l. lt_suc_split l (λ e z. a.stands.away (omega arith) (ap D₂ (sym e) ∙ z))
      (a.stands.strolled.trail.away j h)) a.b a.stands.strolled.trail.stands is_down_lem

  pub entered : is_triangle order (opposite s.dart) ≡ true → (y : ℕ) → y ≡ face_next order (face_next order (opposite s.dart))
      → AtFirst order (set (face_area order (opposite s.dart) w) s.dart (16384 + s.edges)) y
      (record { root = s.root; dart = face_next order (opposite s.dart); edges = s.edges + 1; faces = s.faces + 1; waiting = s.waiting; halves = s.halves })
  unfolding face_area
  entered good y ey =
      let o = opposite s.dart in
      let x₁ = face_next order o in
      let y₁ = face_next order x₁ in
      let same : opposite (D₂ k₂) ≡ o = ap opposite (sym a.here) in
      let (e₁, l₁) = next_in o down_over in
      let (e₂, l₂) = next_in x₁ l₁ in
      let (e₃, l₃) = next_in y₁ l₂ in
      let good₁ = triangle_on order o good in
      let good₂ = triangle_on order x₁ good₁ in
      let below : o < length rot₂ = subst (λ (m : ℕ). o < m) (sym (length_dual order)) down_over in
      let blank : (z : ℕ) → z < length rot₂ → vertex_of rot₂ z ≡ vertex_of rot₂ o → get_or a.b z 0 ≡ 0 = λ z g q. unmarked z g (q ∙ ap (vertex_of rot₂) (sym same)) in
      let long = a.stands.strolled.trail.stands.size in
      let home = e₃ ∙ (triangle_parts order o good).round in
      let rounds = face_rounded rot₂ t₂ o below a.b long blank x₁ y₁ e₁ e₂ home in
      let all = face_good rot₂ t₂ o below a.b long blank x₁ y₁ e₁ e₂ home (Good order) good good₁ good₂ in
      let b₃ = set (set (set a.b o 32768) x₁ 32768) y₁ 32768 in
      let w₃ = set (set (set w o 32768) x₁ 32768) y₁ 32768 in
      let cf = le_of_lt down_ranges.waiting in
      let hf = le_of_lt down_ranges.halves in
      let c = s.waiting in
      let f = s.halves in
      let v₁ = view_mark n₂ c f w a.b a.waits _ _ _ a.ts h₂.view cf hf o 32768 down_over in
      let v₂ = view_mark n₂ c f (set w o 32768) (set a.b o 32768) a.waits _ _ _ a.ts v₁ cf hf x₁ 32768 l₁ in
      let v₃ = view_mark n₂ c f (set (set w o 32768) x₁ 32768) (set (set a.b o 32768) x₁ 32768) a.waits _ _ _ a.ts v₂ cf hf y₁ 32768 l₂ in
      let v₄ = view_mark n₂ c f w₃ b₃ a.waits _ _ _ a.ts v₃ cf hf s.dart (16384 + s.edges) down_in in
      let down = goes_down (Good order) rot₂ r₂ t₂ c₂ hr₂ (few order h₂.count h₂.perm) (three order h₂.count h₂.perm) k₂ a.us a.b a.waits a.ts
      a.stands 32768 (le_refl 32768) b₃ (subst (λ (z : ℕ). Rounded rot₂ z 32768 a.b b₃) (sym same) rounds)
      (λ z g q. all z g (q ∙ ap (vertex_of rot₂) same)) in
      let marked : set b₃ s.dart (16384 + s.edges) ≡ set b₃ (D₂ k₂) (16384 + opened ℓ₂ k₂) =
      ap₂ (λ (z e : ℕ). set b₃ z (16384 + e)) a.here h₂.edges in
      record {
        k = k₂;
        us = a.us;
        b = set b₃ (D₂ k₂) (16384 + opened ℓ₂ k₂);
        waits = a.waits;
        ts = a.ts;
        held = record {
          count = h₂.count;
          perm = h₂.perm;
          root_in = h₂.root_in;
          edges = ap (λ (x : ℕ). x + 1) h₂.edges ∙ sym (opened_more ℓ₂ k₂ (ap opens is_down_lem));
          faces = ap (λ (x : ℕ). x + 1) h₂.faces ∙ add-one (vertex_count ℓ₂ k₂) ∙ sym (entered_more ℓ₂ k₂ is_down_lem);
          view = subst (λ (l : List ℕ). View n₂ c f (set w₃ s.dart (16384 + s.edges)) l a.waits (map (place rot₂ r₂) a.us) (map (vertex_count ℓ₂) a.us)
              (map (opened ℓ₂) a.us) a.ts) marked v₄;
        };
        stands = down;
        here = sym e₁ ∙ ap (next rot₂) (sym same) ∙ sym down.here;
        second = ey ∙ sym (ap (next rot₂) (ap (next rot₂) same ∙ e₁) ∙ e₂);
      }
