-- The way up, the end and the beginning of the walk of a mesh's dual, in the work area.
--
--   back_at              up to the last second place that is to come
--   home_at              where none is, back at the root's face
--   ended                the last two positions
--   begun                the root's face is marked
use Prim.Native.Nat.{ℕ, suc, ◌+◌, ◌-◌, ◌*◌, ◌/◌, ◌≤◌, ◌<◌}
use native.Mathlib.Nat.{le_refl}
use native.Mathlib.Omega.{arith}
use mathlib.Core.Path.{◌≡◌, refl, sym, ap, subst, ◌∙◌}
use mathlib.Core.Logic.{⊎_elim, ◌≢◌}
use mathlib.Core.Bool.{true}
use mathlib.Core.List.{List, [], ◌∷◌, map}
use lib.ListN.{length, get_or, set, take, replicate, length-replicate}
use lib.Seq.{get_or-set_other}
use Rattle.model.specs.Numbers.{is_permutation, count}
use Rattle.model.specs.Map.{opposite, next, face_next, vertex_of, dart_count_fits, is_triangle, fit}
use Rattle.model.specs.Traversal.{Letter, up}
use Rattle.model.specs.Mesh.{dual_of, types}
use Rattle.model.proofs.Opposite.{opposite_ne, opposite_bound, opposite_edge}
use Rattle.model.proofs.Fitness.{count_even}
use Rattle.words.specs.Brackets.{tree_stack}
use Rattle.words.specs.Position.{opened, vertex_count}
use Rattle.traversal.specs.Steps.{at, start, dart, letter_after}
use Rattle.traversal.proofs.Marks.{zeros_at}
use Rattle.duals.proofs.Duals.{length_dual, dual_next}
use Rattle.marks.specs.Marks.{Rounded}
use Rattle.meshes.proofs.Triangles.{triangle_parts}
use Rattle.work.specs.Map.{TYPES}
use Rattle.work.specs.Area.{region, stack}
use Rattle.work.proofs.Regions.{length_region, region_region}
use Rattle.tracing.specs.Tracing.{from}
use Rattle.tracing.proofs.Places.{mark_at}
use Rattle.tracing.proofs.Whole.{unmarked_root}
use Rattle.mesh_trails.specs.Strolls.{Strolled, place}
use Rattle.mesh_trails.proofs.Strolls.{stroll_start, within}
use Rattle.mesh_trails.proofs.Climbs.{Climbed, climbs}
use Rattle.mesh_trails.proofs.Places.{starts, home_first, home_second, all_even}
use Rattle.mesh_second_places.specs.declared.Stroll.{Stroll}
use Rattle.mesh_second_places.specs.Areas.{WAITING, HALVES, OWNERS, ENTRIES, View}
use Rattle.mesh_second_places.specs.Walks.{Good, Held, AtDown, AtSecond, AtUp}
use Rattle.mesh_first_places.specs.Faces.{face_area}
use Rattle.mesh_tracing.specs.Walks.{AtHome}
use Rattle.mesh_second_places.proofs.Dual.{turn, cross, few, three}
use Rattle.mesh_second_places.proofs.Views.{view_mark}
use Rattle.mesh_first_places.proofs.Faces.{next_below, triangle_on, face_rounded, face_good}
use Rattle.mesh_second_places.proofs.Walks.{root_dual, over_in, mark_is, halves_is, few_darts}
use Rattle.mesh_second_places.proofs.Seconds.{top_few}
use Rattle.mesh_tracing.proofs.Ends.{mesh_walked, types_walked}
use Rattle.mesh_tracing.proofs.Halves.{half_top, view_release}

-- ---- up

module _ (order w : List ℕ) (s : Stroll) (a : AtUp order w s) where
  abbrev n : ℕ
  n = length order

  abbrev rot : List ℕ
  rot = dual_of order

  abbrev r : ℕ
  r = s.root

  abbrev ℓ : ℕ → Letter
  ℓ = letter_after rot r

  abbrev h : Held order w s a.k a.us a.b a.waits a.ts
  h = a.held

  hr : r < length rot
  hr = root_dual order w s a.k a.us a.b a.waits a.ts h

  abbrev Up' : Type 0
  Up' = Climbed (Good order) rot r (turn order h.count h.perm) (cross order h.count h.perm) hr (few order h.count h.perm)
      (three order h.count h.perm) a.k a.us a.b a.waits a.ts

  climbed : Up'
  climbed = climbs (Good order) rot r (turn order h.count h.perm) (cross order h.count h.perm) hr (few order h.count h.perm)
      (three order h.count h.perm) a.b a.waits a.ts a.stands.below a.us a.k a.stands.node a.stands.strolled a.stands.stacked
      a.stands.hung a.stands.third a.stands.over

  halves_us : s.halves ≡ length a.us
  halves_us = halves_is order w s a.k a.us a.b a.waits a.ts h

  abbrev popped : Stroll
  popped = record {
    root = s.root;
    dart = get_or w (HALVES * n + (s.halves - 1)) 0;
    edges = s.edges;
    faces = s.faces;
    waiting = s.waiting;
    halves = s.halves - 1;
  }

  pub back_at : 0 < s.halves
      → AtSecond order w up (get_or w (OWNERS * length order + (s.halves - 1)) 0) (get_or w (ENTRIES * length order + (s.halves - 1)) 0)
      (record {
        root = s.root;
        dart = get_or w (HALVES * length order + (s.halves - 1)) 0;
        edges = s.edges;
        faces = s.faces;
        waiting = s.waiting;
        halves = s.halves - 1;
      })
  back_at some = go climbed
    where
      go : Up' → AtSecond order w up (get_or w (OWNERS * n + (s.halves - 1)) 0) (get_or w (ENTRIES * n + (s.halves - 1)) 0) popped
      go c = ⊎_elim
          (λ u. let z = halves_us ∙ ap length u.0 in absurd (omega arith))
          (λ u.
          let (i, vs, e, half) = u in
          let p = ap (map (place rot r)) e in
          let q = ap (map (vertex_count ℓ)) e in
          let d = ap (map (opened ℓ)) e in
          let (x, y, z) = half_top n s.waiting s.halves w a.b a.waits _ _ _ a.ts h.view _ _ _ _ _ _ p q d in
          record {
            k = c.position;
            node = i;
            us = vs;
            b = a.b;
            waits = a.waits;
            ts = a.ts;
            held = record {
              count = h.count;
              perm = h.perm;
              root_in = h.root_in;
              edges = h.edges ∙ sym c.edges;
              faces = h.faces ∙ sym c.faces;
              view = view_release n s.waiting s.halves w a.b a.waits _ _ _ a.ts h.view _ _ _ _ _ _ p q d;
            };
            stands = half;
            here = x ∙ sym half.here;
            number = y;
            entry = z;
          })
          c.stands

  pub home_at : s.halves ≡ 0 → AtHome order w s
  home_at none = go climbed
    where
      go : Up' → AtHome order w s
      go c = ⊎_elim
          (λ u. record {
            k = c.position;
            us = a.us;
            b = a.b;
            waits = a.waits;
            ts = a.ts;
            held = record {
              count = h.count;
              perm = h.perm;
              root_in = h.root_in;
              edges = h.edges ∙ sym c.edges;
              faces = h.faces ∙ sym c.faces;
              view = h.view;
            };
            stands = u.1;
          })
          (λ u. let z = halves_us ∙ ap length u.2 in absurd (omega arith))
          c.stands

-- ---- the end

module _ (order w : List ℕ) (s : Stroll) (a : AtHome order w s) (two : s.waiting ≡ 2) (all : s.edges ≡ length order / 2)
    (fst : get_or w (opposite (face_next order s.root)) 0 ≡ 8192 + get_or w (WAITING * length order + 1) 0)
    (snd : get_or w (opposite (face_next order (face_next order s.root))) 0 ≡ 8192 + get_or w (WAITING * length order + 0) 0) where
  abbrev n₂ : ℕ
  n₂ = length order

  abbrev rot₂ : List ℕ
  rot₂ = dual_of order

  abbrev r₂ : ℕ
  r₂ = s.root

  abbrev ℓ₂ : ℕ → Letter
  ℓ₂ = letter_after rot₂ r₂

  abbrev h₂ : Held order w s a.k a.us a.b a.waits a.ts
  h₂ = a.held

  hr₂ : r₂ < length rot₂
  hr₂ = root_dual order w s a.k a.us a.b a.waits a.ts h₂

  abbrev x : ℕ
  x = face_next order r₂

  abbrev y : ℕ
  y = face_next order x

  next_is : (z : ℕ) → z < n₂ → (next rot₂ z ≡ face_next order z) × (face_next order z < n₂)
  next_is z l = (dual_next order z l, next_below order h₂.count h₂.perm z l)

  one_is : next rot₂ r₂ ≡ x
  one_is = (next_is r₂ h₂.root_in).0

  two_is : next rot₂ (next rot₂ r₂) ≡ y
  two_is = ap (next rot₂) one_is ∙ (next_is x (next_is r₂ h₂.root_in).1).0

  one : next rot₂ r₂ ≢ r₂
  one e = (triangle_parts order r₂ a.stands.root).one_two (ap (λ (z : ℕ). z / 2) (sym e ∙ one_is))

  other : next rot₂ (next rot₂ r₂) ≢ r₂
  other e = (triangle_parts order r₂ a.stands.root).three_one (ap (λ (z : ℕ). z / 2) (sym two_is ∙ e))

  abbrev f : ℕ
  f = get_or w (WAITING * n₂ + 1) 0

  abbrev g : ℕ
  g = get_or w (WAITING * n₂ + 0) 0

  waits_are : a.waits ≡ f ∷ (g ∷ [])
  unfolding stack
  waits_are = sym h₂.view.opens ∙ ap (λ (c : ℕ). stack (WAITING * n₂) c w) two

  mark_of : (z z' : ℕ) → z ≡ z' → opposite z < n₂ → get_or a.b (opposite z) 0 ≡ get_or w (opposite z') 0
  mark_of z z' e l = mark_is order w s a.k a.us a.b a.waits a.ts h₂ (opposite z) l ∙ ap (λ (i : ℕ). get_or w (opposite i) 0) e

  finished : Strolled (Good order) rot₂ r₂ (suc (suc a.k)) a.b [] a.ts × (dart rot₂ r₂ (suc (suc a.k)) ≡ r₂)
      × (tree_stack ℓ₂ (suc (suc a.k)) ≡ []) × (opened ℓ₂ (suc (suc a.k)) ≡ opened ℓ₂ a.k)
  finished =
      let k = a.k in
      let t = turn order h₂.count h₂.perm in
      let c = cross order h₂.count h₂.perm in
      let fw = few order h₂.count h₂.perm in
      let th = three order h₂.count h₂.perm in
      let small = few_darts order w s k a.us a.b a.waits a.ts h₂ in
      let over = over_in order w s k a.us a.b a.waits a.ts h₂ in
      let m₁ : get_or a.b (opposite (dart rot₂ r₂ k)) 0 ≡ 8192 + f = mark_of (dart rot₂ r₂ k) x (a.stands.here ∙ one_is) (over k) ∙ fst in
      let k₁ = top_few ℓ₂ k f (g ∷ []) (sym waits_are ∙ a.stands.strolled.trail.stacked) in
      let inside = subst (λ (m : ℕ). k < m) (length_dual order) (within (Good order) rot₂ r₂ t c hr₂ k a.b a.waits a.ts a.stands.strolled
      (λ _ e. one (sym a.stands.here ∙ e))) in
      let (s₁, d₁, T₁, l₁) = home_first (Good order) rot₂ r₂ t c hr₂ fw th k a.b a.waits a.ts a.stands one f (g ∷ []) (omega arith) (omega arith) waits_are m₁ in
      let m₂ : get_or a.b (opposite (dart rot₂ r₂ (suc k))) 0 ≡ 8192 + g = mark_of (dart rot₂ r₂ (suc k)) y (d₁ ∙ two_is) (over (suc k)) ∙ snd in
      let k₂ = top_few ℓ₂ (suc k) g [] s₁.trail.stacked in
      home_second (Good order) rot₂ r₂ t c hr₂ fw th k a.b a.waits a.ts a.stands one other f g [] (omega arith) (omega arith) waits_are m₁
      (omega arith) (omega arith) m₂

  pub ended : (fit 3 (from order s.root) ≡ true) × (region (TYPES * length order) (length order / 3 - 1) w ≡ types (from order s.root))
  unfolding region
  ended =
      let (st, d, T, o) = finished in
      let e = all_even (Good order) rot₂ r₂ (turn order h₂.count h₂.perm) (cross order h₂.count h₂.perm) hr₂ (few order h₂.count h₂.perm)
      (three order h₂.count h₂.perm) (suc (suc a.k)) a.b a.ts st T in
      let q = h₂.edges in
      let size = length_dual order in
      let two = count_even n₂ h₂.count in
      let last : suc (suc a.k) ≡ length rot₂ = omega arith in
      let st' = subst (λ (i : ℕ). Strolled (Good order) rot₂ r₂ i a.b [] a.ts) last st in
      let d' = subst (λ (i : ℕ). dart rot₂ r₂ i ≡ r₂) last d in
      let room = h₂.view.room in
      let long : length a.ts ≡ n₂ = sym (ap length h₂.view.types) ∙ length_region (TYPES * n₂) n₂ w (omega arith) in (
        mesh_walked order h₂.count h₂.perm r₂ h₂.root_in a.b a.ts st' d',
        front_region ∙ ap (take (n₂ / 3 - 1)) h₂.view.types
            ∙ types_walked order h₂.count h₂.perm r₂ h₂.root_in a.b a.ts st' d' (omega arith),
      )
    where
      front_region : region (TYPES * n₂) (n₂ / 3 - 1) w ≡ take (n₂ / 3 - 1) (region (TYPES * n₂) n₂ w)
      front_region =
          let e : TYPES * n₂ + 0 ≡ TYPES * n₂ = omega arith in
          ap (λ (i : ℕ). region i (n₂ / 3 - 1) w) (sym e) ∙ sym (region_region (TYPES * n₂) n₂ 0 (n₂ / 3 - 1) w (omega arith))

-- ---- the beginning

module _ (order : List ℕ) (root : ℕ) (w : List ℕ) (count_fits : dart_count_fits (length order) ≡ true) (perm : is_permutation order ≡ true) (hr : root < length order)
    (room : 16 * length order ≤ length w) (none : region 0 (length order) w ≡ replicate (length order) 0) (good : is_triangle order root ≡ true) where
  abbrev n₃ : ℕ
  n₃ = length order

  abbrev rot₃ : List ℕ
  rot₃ = dual_of order

  size : length rot₃ ≡ n₃
  size = length_dual order

  hr₃ : root < length rot₃
  hr₃ = subst (λ (m : ℕ). root < m) (sym size) hr

  next₃ : (z : ℕ) → z < n₃ → (next rot₃ z ≡ face_next order z) × (face_next order z < n₃)
  next₃ z l = (dual_next order z l, next_below order count_fits perm z l)

  over : opposite root < n₃
  over = opposite_bound n₃ root (count_even n₃ count_fits) hr

  -- the root's opposite is on another edge than the face's other two darts
  blank : get_or (face_area order root w) (opposite root) 0 ≡ 0
  unfolding face_area
  blank =
      let x = face_next order root in
      let y = face_next order x in
      let t = triangle_parts order root good in
      let edge = opposite_edge root in
      get_or-set_other (set (set w root 32768) x 32768) y (opposite root) 32768 0 (λ e. t.three_one (ap (λ (i : ℕ). i / 2) (sym e) ∙ edge))
      ∙ get_or-set_other (set w root 32768) x (opposite root) 32768 0 (λ e. t.one_two (sym edge ∙ ap (λ (i : ℕ). i / 2) e))
      ∙ get_or-set_other w root (opposite root) 32768 0 (opposite_ne root)
      ∙ unmarked_root order w none (opposite root) over

  pub begun : AtDown order (face_area order root w) (record { root = root; dart = root; edges = 0; faces = 1; waiting = 0; halves = 0 })
  unfolding face_area dart at start stack opened vertex_count count
  begun =
      let x = face_next order root in
      let y = face_next order x in
      let (e₁, l₁) = next₃ root hr in
      let (e₂, l₂) = next₃ x l₁ in
      let (e₃, l₃) = next₃ y l₂ in
      let b₀ = region 0 n₃ w in
      let zeros : b₀ ≡ replicate (length rot₃) 0 = none ∙ ap (λ (m : ℕ). replicate m 0) (sym size) in
      let clear : (z : ℕ) → z < length rot₃ → vertex_of rot₃ z ≡ vertex_of rot₃ root → get_or b₀ z 0 ≡ 0 = λ z h q.
      ap (λ (l : List ℕ). get_or l z 0) none ∙ zeros_at n₃ z in
      let long : length b₀ ≡ length rot₃ = ap length zeros ∙ length-replicate (length rot₃) 0 in
      let t = turn order count_fits perm in
      let c = cross order count_fits perm in
      let fw = few order count_fits perm in
      let th = three order count_fits perm in
      let home = e₃ ∙ (triangle_parts order root good).round in
      let good₁ = triangle_on order root good in
      let good₂ = triangle_on order x good₁ in
      let ts = region (TYPES * n₃) n₃ w in
      let v₀ : View n₃ 0 0 w b₀ [] [] [] [] ts = record { marks = refl; opens = refl; places = refl; owners = refl; entries = refl; types = refl; room = room } in
      let z : 0 ≤ n₃ = omega arith in
      let b₃ = set (set (set b₀ root 32768) x 32768) y 32768 in
      let w₃ = set (set (set w root 32768) x 32768) y 32768 in
      let v₁ = view_mark n₃ 0 0 w b₀ [] [] [] [] ts v₀ z z root 32768 hr in
      let v₂ = view_mark n₃ 0 0 (set w root 32768) (set b₀ root 32768) [] [] [] [] ts v₁ z z x 32768 l₁ in
      let v₃ = view_mark n₃ 0 0 (set (set w root 32768) x 32768) (set (set b₀ root 32768) x 32768) [] [] [] [] ts v₂ z z y 32768 l₂ in
      let rounds = subst (λ (l : List ℕ). Rounded rot₃ root 32768 l b₃) zeros (face_rounded rot₃ t root hr₃ b₀ long clear x y e₁ e₂ home) in
      let all = face_good rot₃ t root hr₃ b₀ long clear x y e₁ e₂ home (Good order) good good₁ good₂ in
      record {
        k = 0;
        us = [];
        b = b₃;
        waits = [];
        ts = ts;
        held = record { count = count_fits; perm = perm; root_in = hr; edges = refl; faces = refl; view = v₃ };
        stands = starts (Good order) rot₃ root t c hr₃ fw th b₃ ts (stroll_start (Good order) rot₃ root t c hr₃ 32768 (le_refl 32768) b₃ ts rounds all)
            (ap (λ (l : List ℕ). get_or l (opposite root) 0) (sym v₃.marks) ∙ mark_at n₃ w₃ (opposite root) over ∙ blank);
        here = refl;
      }
