-- One step of the walk of a dual, letter by letter.
--
--   within               a step that does not lead back to the root is one of as many as there are darts
--   tree_step, chord_step   the stacks after a letter
--   stroll_start         the round of the root's vertex
--   stroll_down, stroll_first, stroll_up, stroll_second   one step
use Prim.Native.Nat.{ℕ, suc, ◌+◌, ◌≤◌, ◌<◌}
use native.Mathlib.Nat.{le_refl}
use native.Mathlib.Omega.{arith}
use mathlib.Core.Path.{◌≡◌, refl, sym, ap, ◌∙◌}
use mathlib.Core.Logic.{◌≢◌}
use mathlib.Core.Bool.{true}
use mathlib.Core.List.{List, [], ◌∷◌, map}
use lib.ListN.{length, get_or, set, replicate}
use lib.Seq.{get_or-set_other}
use Rattle.model.specs.Numbers.{count}
use Rattle.model.specs.Map.{opposite, next, vertex_of}
use Rattle.model.specs.Traversal.{Letter, down, up, first, second, opens}
use Rattle.orbits.specs.Permutation.{Perm}
use Rattle.orbits.specs.Chord.{Involution}
use Rattle.orbits.specs.Stack.{push, stack}
use Rattle.orbits.proofs.Order.{eq_split, lt_suc_split}
use Rattle.orbits.proofs.Tally.{count_all, count_inj}
use Rattle.words.specs.Brackets.{tree_kind, chord_kind, tree_stack, chord_stack}
use Rattle.words.specs.Position.{opened, vertex_no}
use Rattle.words.proofs.Opened.{opened_more, opened_stays, opened_few}
use Rattle.traversal.specs.Steps.{dart, letter_after}
use Rattle.traversal.proofs.Marks.{zeros_at}
use Rattle.traversal.proofs.Steps.{dart_bound}
use Rattle.traversal.proofs.Follow.{Away, follows, away_less, apart}
use Rattle.marks.specs.Marks.{Rounded}
use Rattle.marks.proofs.Trail.{trail_start, tells_down, tells_first, tells_up, tells_second, own_mark, trail_down, trail_first, trail_up, trail_second}
use Rattle.mesh_walks.specs.Told.{told, tell, written}
use Rattle.mesh_trails.specs.Strolls.{CrossedAt, Strolled}

pub down≢up : down ≢ up
down≢up e = let z : ◌≡◌ {A = ℕ} 0 1 = cc in omega arith

pub first≢up : first ≢ up
first≢up e = let z : ◌≡◌ {A = ℕ} 0 1 = cc in omega arith

pub second≢up : second ≢ up
second≢up e = let z : ◌≡◌ {A = ℕ} 0 1 = cc in omega arith

module _ (ℓ : ℕ → Letter) (k : ℕ) (l : Letter) (e : ℓ k ≡ l) where
  pub tree_step : tree_stack ℓ (suc k) ≡ push (tree_kind l) k (tree_stack ℓ k)
  unfolding stack
  tree_step = ap (λ (a : Letter). push (tree_kind a) k (tree_stack ℓ k)) e

  pub chord_step : chord_stack ℓ (suc k) ≡ push (chord_kind l) k (chord_stack ℓ k)
  unfolding stack
  chord_step = ap (λ (a : Letter). push (chord_kind a) k (chord_stack ℓ k)) e

module _ (P : ℕ → Type 0) (rot : List ℕ) (r : ℕ) (turn : Perm (length rot) (next rot)) (cross : Involution (length rot) opposite) (hr : r < length rot) where
  abbrev N : ℕ
  N = length rot

  abbrev D : ℕ → ℕ
  D = dart rot r

  abbrev ℓ : ℕ → Letter
  ℓ = letter_after rot r

  pub stroll_start : (c : ℕ) → 32768 ≤ c → (b ts : List ℕ) → Rounded rot r c (replicate (length rot) 0) b
      → ((z : ℕ) → z < length rot → vertex_of rot z ≡ vertex_of rot r → P z) → Strolled P rot r 0 b [] ts
  unfolding stack opened count written
  stroll_start c big b ts t good = record {
    trail = trail_start rot r turn cross hr c big b t;
    even = refl;
    faces = λ x h m. eq_split (vertex_of rot x) (vertex_of rot r) (good x h) (λ far. absurd (m (t.others x h far ∙ zeros_at N x)));
    crossed = λ i h. absurd (omega arith);
    before = ts;
    types = refl;
  }

  module _ (k : ℕ) (b waits ts : List ℕ) (s : Strolled P rot r k b waits ts) (on : 0 < k → D k ≢ r) where
    abbrev o : ℕ
    o = opposite (D k)

    out : Away rot r turn cross hr (suc k)
    out j h g = lt_suc_split g (λ e z. on (omega arith) (ap D (sym e) ∙ z)) (s.trail.away j h)

    pub within : k < length rot
    within =
        let f = follows rot r turn cross hr k (away_less rot r turn cross hr k out) in
        let i = count_inj (λ x. true) (λ x. true) (suc k) N (record {
          to = λ x p t. D x;
          bound = λ x p t. dart_bound rot r turn cross hr x;
          passes = λ x p t. tt;
          inj = λ x y p q t u e. apart rot r turn cross hr k f k (le_refl k) out x y (omega arith) (omega arith) e;
        }) in
        let a = count_all (suc k) in
        let c = count_all N in
        omega arith

    pub own : 32768 ≤ get_or b (D k) 0
    own = own_mark rot r turn cross hr k b waits s.trail on

    inside : D k < N
    inside = dart_bound rot r turn cross hr k

    crossed_on : ((i : ℕ) → suc i ≡ k → CrossedAt rot r i) → (i : ℕ) → suc i < suc k → CrossedAt rot r i
    crossed_on here i h = lt_suc_split h (here i) (s.crossed i)

    no_up : (l : Letter) → ℓ k ≡ l → l ≢ up → (i : ℕ) → suc i ≡ k → CrossedAt rot r i
    no_up l e ne i q a u = absurd (ne (sym e ∙ ap ℓ (sym q) ∙ u))

    types_on : (ts' : List ℕ) → ts' ≡ tell (told ℓ k) (vertex_no ℓ k) ts → ts' ≡ written ℓ s.before (suc k)
    unfolding written
    types_on ts' e = e ∙ ap (tell (told ℓ k) (vertex_no ℓ k)) s.types

    faces_set : (b' : List ℕ) (v : ℕ) → length b' ≡ N → ((x : ℕ) → x < N → get_or b' x 0 ≢ 0 → P x) → (x : ℕ) → x < N → get_or (set b' (D k) v) x 0 ≢ 0 → P x
    faces_set b' v size good x h m = eq_split x (D k)
        (λ e. s.faces x h (λ z. let i = own in let q : get_or b (D k) 0 ≡ 0 = ap (λ (y : ℕ). get_or b y 0) (sym e) ∙ z in omega arith))
        (λ ne. good x h (λ z. m (get_or-set_other b' (D k) x v 0 ne ∙ z)))

    module _ (few : length rot ≤ 8192) (ts' : List ℕ) (tells : ts' ≡ tell (told (letter_after rot r) k) (vertex_no (letter_after rot r) k) ts) where
      pub stroll_down : get_or b (opposite (dart rot r k)) 0 ≡ 0 → (c : ℕ) → 32768 ≤ c → (b' : List ℕ) → Rounded rot (opposite (dart rot r k)) c b b'
          → ((z : ℕ) → z < length rot → vertex_of rot z ≡ vertex_of rot (opposite (dart rot r k)) → P z)
          → Strolled P rot r (suc k) (set b' (dart rot r k) (16384 + opened (letter_after rot r) k)) waits ts'
      stroll_down none c big b' u good =
          let e = tells_down rot r turn cross hr k b waits s.trail on none in
          let t = ap length (tree_step ℓ k down e) in
          let q = ap length (chord_step ℓ k down e) in
          let m = opened_more ℓ k (ap opens e) in
          record {
            trail = trail_down rot r turn cross hr k b waits s.trail on none (let y = opened_few ℓ k in let z = within in omega arith) c big b' u;
            even = let v = s.even in omega arith;
            faces = faces_set b' _ (u.size ∙ s.trail.stands.size) (λ x h m. eq_split (vertex_of rot x) (vertex_of rot o) (good x h)
                (λ far. s.faces x h (λ z. m (u.others x h far ∙ z))));
            crossed = crossed_on (no_up down e down≢up);
            before = s.before;
            types = types_on ts' tells;
          }

      pub stroll_first : 32768 ≤ get_or b (opposite (dart rot r k)) 0
          → Strolled P rot r (suc k) (set b (dart rot r k) (8192 + opened (letter_after rot r) k)) (opened (letter_after rot r) k ∷ waits) ts'
      stroll_first big =
          let e = tells_first rot r turn cross hr k b waits s.trail on big in
          let t = ap length (tree_step ℓ k first e) in
          let q = ap length (chord_step ℓ k first e) in
          let m = opened_more ℓ k (ap opens e) in
          record {
            trail = trail_first rot r turn cross hr k b waits s.trail on big (let y = opened_few ℓ k in let z = within in omega arith);
            even = let v = s.even in omega arith;
            faces = faces_set b _ s.trail.stands.size s.faces;
            crossed = crossed_on (no_up first e first≢up);
            before = s.before;
            types = types_on ts' tells;
          }

      pub stroll_up : 16384 ≤ get_or b (opposite (dart rot r k)) 0 → get_or b (opposite (dart rot r k)) 0 < 32768
          → (j : ℕ) (T : List ℕ) → tree_stack (letter_after rot r) k ≡ j ∷ T → ((i : ℕ) → suc i ≡ k → CrossedAt rot r i) → Strolled P rot r (suc k) b waits ts'
      stroll_up lo hi j T some over =
          let e = tells_up rot r turn cross hr k b waits s.trail on lo hi in
          let t = ap length (tree_step ℓ k up e ∙ ap (push (tree_kind up) k) some) in
          let q = ap length (chord_step ℓ k up e) in
          let m = opened_stays ℓ k (ap opens e) in
          record {
            trail = trail_up rot r turn cross hr k b waits s.trail on lo hi;
            even = let v = s.even in let z = ap length some in omega arith;
            faces = s.faces;
            crossed = crossed_on over;
            before = s.before;
            types = types_on ts' tells;
          }

      pub stroll_second : 0 < get_or b (opposite (dart rot r k)) 0 → get_or b (opposite (dart rot r k)) 0 < 16384
          → (f : ℕ) (fs : List ℕ) → waits ≡ f ∷ fs → get_or b (opposite (dart rot r k)) 0 ≡ 8192 + f → Strolled P rot r (suc k) b fs ts'
      stroll_second lo hi f fs w g =
          let e = tells_second rot r turn cross hr k b waits s.trail on lo hi in
          let t = ap length (tree_step ℓ k second e) in
          let m = opened_stays ℓ k (ap opens e) in
          let (x, c, p) = some_waits (chord_stack ℓ k) (sym w ∙ s.trail.stacked) in
          let q = ap length (chord_step ℓ k second e ∙ ap (push (chord_kind second) k) p) in
          record {
            trail = trail_second rot r turn cross hr k b waits s.trail on lo hi f fs w g;
            even = let v = s.even in let z = ap length p in omega arith;
            faces = s.faces;
            crossed = crossed_on (no_up second e second≢up);
            before = s.before;
            types = types_on ts' tells;
          }
        where
          some_waits : (c : List ℕ) → f ∷ fs ≡ map (opened ℓ) c → (x : ℕ) × (c' : List ℕ) × (c ≡ x ∷ c')
          some_waits [] q = let z = ap length q in absurd (omega arith)
          some_waits (x ∷ c) q = (x, c, refl)
