-- At a second place, in the work area.
--
--   top_few              the number on top of the edges that wait
--   view_edge            an edge begins outside the tree
--   second_away, second_within   the dart is not the root, and not all darts are met
--   second_ranges, second_in, second_over, second_index   what is read and put there is in range
--   told_down            the walk goes down
--   told_up              it begins an edge outside the tree, and goes up
--   last_few             the last edge that waits, by number
--   told_end             it ends the last edge that waits, and goes up
use Prim.Native.Nat.{ℕ, suc, ◌+◌, ◌-◌, ◌*◌, ◌≤◌, ◌<◌}
use native.Mathlib.Nat.{le_of_lt}
use native.Mathlib.Numerals.{add-one}
use native.Mathlib.Omega.{arith}
use mathlib.Core.Path.{◌≡◌, refl, sym, ap, ap₂, subst, ◌∙◌}
use mathlib.Core.Logic.{◌≢◌}
use mathlib.Core.List.{List, [], ◌∷◌, map}
use lib.ListN.{length, get_or, set}
use Rattle.model.specs.Map.{opposite}
use Rattle.model.specs.Traversal.{Letter, down, first, second, opens}
use Rattle.model.specs.Mesh.{dual_of}
use Rattle.words.specs.Brackets.{chord_stack}
use Rattle.words.specs.Word.{head}
use Rattle.words.specs.Position.{opened, vertex_count}
use Rattle.words.proofs.Opened.{opened_few, opened_more, opened_stays}
use Rattle.traversal.specs.Steps.{dart, letter_after}
use Rattle.forward.proofs.Tops.{tree_opener, chord_opener}
use Rattle.marks.proofs.Trail.{tells_first, tells_second}
use Rattle.duals.proofs.Duals.{length_dual}
use Rattle.work.specs.Map.{TYPES}
use Rattle.work.specs.Area.{stack}
use Rattle.work.proofs.Stacks.{stack_pop}
use Rattle.mesh_walks.specs.Told.{told_after, tell}
use Rattle.mesh_trails.proofs.Strolls.{within}
use Rattle.mesh_trails.proofs.Climbs.{tell_set, entered_stays}
use Rattle.mesh_trails.proofs.Places.{half_away, second_down, second_first, second_second}
use Rattle.mesh_second_places.specs.declared.Stroll.{Stroll}
use Rattle.mesh_second_places.specs.Areas.{WAITING, edge_area, View}
use Rattle.mesh_second_places.specs.Walks.{Good, Held, AtDown, AtSecond, AtUp}
use Rattle.mesh_second_places.proofs.Dual.{turn, cross, few, three}
use Rattle.mesh_second_places.proofs.Views.{view_mark, view_open, view_type, view_close}
use Rattle.mesh_second_places.proofs.Walks.{hung_size, count_few, Ranges, ranges, root_dual, dart_in, over_in, mark_is}

pub top_few : (ℓ : ℕ → Letter) (k f : ℕ) (fs : List ℕ) → f ∷ fs ≡ map (opened ℓ) (chord_stack ℓ k) → f < k
top_few ℓ k f fs e = go (chord_stack ℓ k) refl
  where
    go : (s : List ℕ) → chord_stack ℓ k ≡ s → f < k
    go [] q = let z = ap length (e ∙ ap (map (opened ℓ)) q) in absurd (omega arith)
    go (x ∷ s) q =
        let h : f ≡ opened ℓ x = ap head (e ∙ ap (map (opened ℓ)) q) in
        let o = opened_few ℓ x in
        let (l, i) = chord_opener ℓ k x s q in
        omega arith

-- an edge begins: its mark, and its number on the stack
pub view_edge : (n c h : ℕ) (w b waits ps fs es ts : List ℕ) → View n c h w b waits ps fs es ts → c < n → h ≤ n → (d e d' e' : ℕ) → d < n → d ≡ d' → e ≡ e'
    → View n (c + 1) h (edge_area n d e c w) (set b d' (8192 + e')) (e' ∷ waits) ps fs es ts
unfolding edge_area
view_edge n c h w b waits ps fs es ts v l m d e d' e' i p q =
    subst (λ (x : ℕ). View n (c + 1) h (edge_area n d e c w) (set b x (8192 + e')) (e' ∷ waits) ps fs es ts) p
    (subst (λ (x : ℕ). View n (c + 1) h (edge_area n d e c w) (set b d (8192 + x)) (x ∷ waits) ps fs es ts) q
    (subst (λ (x : ℕ). View n x h (edge_area n d e c w) (set b d (8192 + e)) (e ∷ waits) ps fs es ts) (sym (add-one c))
    (view_open n c h (set w d (8192 + e)) (set b d (8192 + e)) waits ps fs es ts (view_mark n c h w b waits ps fs es ts v (le_of_lt l) m d (8192 + e) i)
    (le_of_lt l) m e l)))

module _ (order w : List ℕ) (l : Letter) (f e : ℕ) (s : Stroll) (a : AtSecond order w l f e s) where
  abbrev n : ℕ
  n = length order

  abbrev rot : List ℕ
  rot = dual_of order

  abbrev r : ℕ
  r = s.root

  abbrev ℓ : ℕ → Letter
  ℓ = letter_after rot r

  abbrev D : ℕ → ℕ
  D = dart rot r

  abbrev k : ℕ
  k = a.k

  abbrev h : Held order w s a.k a.us a.b a.waits a.ts
  h = a.held

  hr : r < length rot
  hr = root_dual order w s k a.us a.b a.waits a.ts h

  pub second_away : dart (dual_of order) s.root a.k ≢ s.root
  second_away = half_away (Good order) rot r (turn order h.count h.perm) (cross order h.count h.perm) hr (few order h.count h.perm)
      (three order h.count h.perm) k a.node l a.us a.b a.waits a.ts a.stands

  pub second_ranges : Ranges (length order) s
  second_ranges = ranges order w s k a.us a.b a.waits a.ts h a.ts a.stands.strolled (λ _. second_away) (a.node ∷ a.stands.below) a.stands.stacked
      (le_of_lt (hung_size rot r (a.node ∷ a.stands.below) a.us a.stands.hung))

  pub second_in : s.dart < length order
  second_in = subst (λ (x : ℕ). x < n) (sym a.here) (dart_in order w s k a.us a.b a.waits a.ts h k)

  pub second_over : opposite s.dart < length order
  second_over = subst (λ (x : ℕ). opposite x < n) (sym a.here) (over_in order w s k a.us a.b a.waits a.ts h k)

  pub second_within : a.k < length (dual_of order)
  second_within = within (Good order) rot r (turn order h.count h.perm) (cross order h.count h.perm) hr k a.b a.waits a.ts a.stands.strolled
      (λ _. second_away)

  later : k < n
  later = subst (λ (m : ℕ). k < m) (length_dual order) second_within

  pub second_index : (1 ≤ f) × (f - 1 < length order)
  second_index =
      let (i, d) = tree_opener ℓ k a.node a.stands.below a.stands.stacked in
      let (p, q) = count_few ℓ a.node in
      let z = a.number in
      let m = later in
      (omega arith, omega arith)

  mark_here : get_or a.b (opposite (D k)) 0 ≡ get_or w (opposite s.dart) 0
  mark_here =
      mark_is order w s k a.us a.b a.waits a.ts h (opposite (D k)) (over_in order w s k a.us a.b a.waits a.ts h k)
      ∙ ap (λ (x : ℕ). get_or w (opposite x) 0) (sym a.here)

  typed : (t : ℕ) (x : Letter) → t ≡ told_after l x → 1 ≤ t → set a.ts (f - 1) t ≡ tell (told_after l x) (vertex_count ℓ a.node) a.ts
  typed t x e some =
      ap₂ (λ (i u : ℕ). set a.ts (i - 1) u) a.number e
      ∙ tell_set (told_after l x) (vertex_count ℓ a.node) a.ts (subst (λ (u : ℕ). 1 ≤ u) e some) (count_few ℓ a.node).0

  half_few : s.halves ≤ n
  half_few = le_of_lt second_ranges.halves

  wait_few : s.waiting ≤ n
  wait_few = le_of_lt second_ranges.waiting

  pub told_down : get_or w (opposite s.dart) 0 ≡ 0 → (t : ℕ) → t ≡ told_after l down → 1 ≤ t
      → AtDown order (set w (TYPES * length order + (f - 1)) t) s
  told_down none t e some = record {
    k = k;
    us = a.us;
    b = a.b;
    waits = a.waits;
    ts = set a.ts (f - 1) t;
    held = record {
      count = h.count;
      perm = h.perm;
      root_in = h.root_in;
      edges = h.edges;
      faces = h.faces;
      view = view_type n s.waiting s.halves w a.b a.waits _ _ _ a.ts h.view wait_few half_few (f - 1) t second_index.1;
    };
    stands = second_down (Good order) rot r (turn order h.count h.perm) (cross order h.count h.perm) hr (few order h.count h.perm)
        (three order h.count h.perm) k a.node l a.us a.b a.waits a.ts a.stands (mark_here ∙ none) (set a.ts (f - 1) t) (typed t down e some);
    here = a.here;
  }

  pub told_up : 32768 ≤ get_or w (opposite s.dart) 0 → (t : ℕ) → t ≡ told_after l first → 1 ≤ t
      → AtUp order (set (edge_area (length order) s.dart s.edges s.waiting w) (TYPES * length order + (f - 1)) t)
      (record { root = s.root; dart = s.dart; edges = s.edges + 1; faces = s.faces; waiting = s.waiting + 1; halves = s.halves })
  told_up big t e some =
      let big' : 32768 ≤ get_or a.b (opposite (D k)) 0 = subst (λ (x : ℕ). 32768 ≤ x) (sym mark_here) big in
      let is = tells_first rot r (turn order h.count h.perm) (cross order h.count h.perm) hr k a.b a.waits a.stands.strolled.trail (λ _. second_away) big' in
      record {
        k = suc k;
        us = a.us;
        b = set a.b (D k) (8192 + opened ℓ k);
        waits = opened ℓ k ∷ a.waits;
        ts = set a.ts (f - 1) t;
        held = record {
          count = h.count;
          perm = h.perm;
          root_in = h.root_in;
          edges = ap (λ (x : ℕ). x + 1) h.edges ∙ sym (opened_more ℓ k (ap opens is));
          faces = h.faces ∙ sym (entered_stays ℓ k first is refl);
          view = view_type n (s.waiting + 1) s.halves (edge_area n s.dart s.edges s.waiting w) _ _ _ _ _ a.ts
              (view_edge n s.waiting s.halves w a.b a.waits _ _ _ a.ts h.view second_ranges.waiting half_few s.dart s.edges (D k) (opened ℓ k)
              second_in a.here h.edges)
              (let z = second_ranges.waiting in omega arith) half_few (f - 1) t second_index.1;
        };
        stands = second_first (Good order) rot r (turn order h.count h.perm) (cross order h.count h.perm) hr (few order h.count h.perm)
            (three order h.count h.perm) k a.node l a.us a.b a.waits a.ts a.stands big' (set a.ts (f - 1) t) (typed t first e some);
      }

  -- ---- the last edge that waits ends

  two_wait : 2 ≤ s.waiting → (fs : List ℕ) × (a.waits ≡ get_or w (WAITING * n + (s.waiting - 1)) 0 ∷ (get_or w (WAITING * n + (s.waiting - 2)) 0 ∷ fs))
  two_wait c =
      let i : s.waiting - 1 - 1 ≡ s.waiting - 2 = omega arith in
      let last = get_or w (WAITING * n + (s.waiting - 1)) 0 in (
        stack (WAITING * n) (s.waiting - 1 - 1) w,
        sym h.view.opens ∙ stack_pop (WAITING * n) s.waiting w (omega arith)
            ∙ ap (λ (xs : List ℕ). last ∷ xs) (stack_pop (WAITING * n) (s.waiting - 1) w (omega arith)
            ∙ ap (λ (x : ℕ). get_or w (WAITING * n + x) 0 ∷ stack (WAITING * n) (s.waiting - 1 - 1) w) i),
      )

  pub last_few : 2 ≤ s.waiting → get_or w (WAITING * length order + (s.waiting - 1)) 0 < length order
  last_few c =
      let (fs, q) = two_wait c in
      let small = top_few ℓ k _ _ (sym q ∙ a.stands.strolled.trail.stacked) in
      let l = later in
      omega arith

  pub told_end : told_after l second ≡ 2 → 2 ≤ s.waiting → get_or w (opposite s.dart) 0 ≡ 8192 + get_or w (WAITING * length order + (s.waiting - 1)) 0
      → e ≤ get_or w (WAITING * length order + (s.waiting - 2)) 0
      → AtUp order (set w (TYPES * length order + (f - 1)) 2)
      (record { root = s.root; dart = s.dart; edges = s.edges; faces = s.faces; waiting = s.waiting - 1; halves = s.halves })
  told_end t c m late =
      let (fs, q) = two_wait c in
      let x = get_or w (WAITING * n + (s.waiting - 1)) 0 in
      let y = get_or w (WAITING * n + (s.waiting - 2)) 0 in
      let m' : get_or a.b (opposite (D k)) 0 ≡ 8192 + x = mark_here ∙ m in
      let small = top_few ℓ k x (y ∷ fs) (sym q ∙ a.stands.strolled.trail.stacked) in
      let late' = later in
      let fd = second_ranges.few_darts in
      let lo : 0 < get_or a.b (opposite (D k)) 0 = omega arith in
      let hi : get_or a.b (opposite (D k)) 0 < 16384 = omega arith in
      let is = tells_second rot r (turn order h.count h.perm) (cross order h.count h.perm) hr k a.b a.waits a.stands.strolled.trail (λ _. second_away) lo hi in
      record {
        k = suc k;
        us = a.us;
        b = a.b;
        waits = y ∷ fs;
        ts = set a.ts (f - 1) 2;
        held = record {
          count = h.count;
          perm = h.perm;
          root_in = h.root_in;
          edges = h.edges ∙ sym (opened_stays ℓ k (ap opens is));
          faces = h.faces ∙ sym (entered_stays ℓ k second is refl);
          view = view_type n (s.waiting - 1) s.halves w _ _ _ _ _ a.ts
              (view_close n s.waiting s.halves w a.b a.waits _ _ _ a.ts h.view x (y ∷ fs) q) (let z = wait_few in omega arith) half_few (f - 1) 2
              second_index.1;
        };
        stands = second_second (Good order) rot r (turn order h.count h.perm) (cross order h.count h.perm) hr (few order h.count h.perm)
            (three order h.count h.perm) k a.node l a.us a.b a.waits a.ts a.stands lo hi x y fs q m'
            (subst (λ (i : ℕ). i ≤ y) a.entry late) (set a.ts (f - 1) 2) (typed 2 second (sym t) (omega arith));
      }

-- what the code asks for there
pub record Here (order w : List ℕ) (f : ℕ) (s : Stroll) : Type 0 where
  pub few_darts : length order ≤ 8192
  pub room : 16 * length order ≤ length w
  pub dart : s.dart < length order
  pub over : opposite s.dart < length order
  pub edges : s.edges < length order
  pub waiting : s.waiting < length order
  pub halves : s.halves < length order
  pub face : 1 ≤ f
  pub index : f - 1 < length order

pub second_here : {order w : List ℕ} {l : Letter} {f e : ℕ} {s : Stroll} → AtSecond order w l f e s → Here order w f s
second_here {order} {w} {l} {f} {e} {s} a =
    let r = second_ranges order w l f e s a in
    let i = second_index order w l f e s a in
    record {
      few_darts = r.few_darts;
      room = a.held.view.room;
      dart = second_in order w l f e s a;
      over = second_over order w l f e s a;
      edges = r.edges;
      waiting = r.waiting;
      halves = r.halves;
      face = i.0;
      index = i.1;
    }
