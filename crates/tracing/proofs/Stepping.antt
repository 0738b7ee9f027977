-- One step of the walk by marks keeps what `Tracing` says.
--
--   waiting_count        how many edges wait, by the stack
--   placed               position, dart and numbers are in range
--   unmarked             where the opposite has no mark, no dart of its vertex has one
--   is_up, is_second_lem     the letter, by the mark of the opposite
--   edge_of, end_edge_lem, up_in, end_in   the number of the edge that ends at an up or a second, in range
--   traced_down, traced_first, traced_up, traced_second   one step
use mathlib.Core.Path.{◌≡◌, refl, sym, ap, ap₂, ◌∙◌, subst}
use mathlib.Core.Logic.{◌≢◌}
use mathlib.Core.Bool.{true, false, cond, false≢true}
use mathlib.Core.List.{List, [], ◌∷◌}
use Prim.Native.Nat.{ℕ, suc, ◌+◌, ◌-◌, ◌*◌, ◌/◌, ◌≤◌, ◌<◌}
use native.Mathlib.Nat.{le_of_lt}
use native.Mathlib.Omega.{arith}
use lib.Dec.{eqb}
use lib.ListN.{length, get_or, set, drop, length-set, length-map}
use lib.Seq.{drop-set-lt}
use borrow.Author.Tests.{eqb-true, ne_eqb}
use Rattle.model.specs.Map.{Plan, opposite, next, vertex_of, degree_one}
use Rattle.model.specs.Traversal.{Letter, down, up, first, second, code, opens, onward, word}
use Rattle.model.proofs.Fitness.{count_even, count_parts}
use Rattle.orbits.specs.Permutation.{Perm}
use Rattle.orbits.specs.Chord.{Involution}
use Rattle.orbits.proofs.Order.{lt_suc_split}
use Rattle.orbits.proofs.Maps.{next_perm, opposite_inv}
use Rattle.words.specs.Word.{tail, starts_second}
use Rattle.words.specs.Brackets.{chord_stack}
use Rattle.words.specs.Position.{opened}
use Rattle.words.specs.Toured.{Toured, dart_at, letter_of, mate_of}
use Rattle.words.proofs.Opened.{opened_more, opened_stays, opened_few}
use Rattle.traversal.specs.Steps.{dart, letter_after}
use Rattle.traversal.proofs.Steps.{dart_step, dart_bound}
use Rattle.traversal.proofs.Positions.{letter_at, dart_at_lem, opened_at, stack_at, back_at, mate_is}
use Rattle.forward.proofs.Tops.{open_room, stacks_size}
use Rattle.work.specs.Map.{WAITING}
use Rattle.work.specs.Area.{region, stack}
use Rattle.work.proofs.Regions.{length_region, region_set_other}
use Rattle.work.proofs.Stacks.{length_stack, stack_push, stack_pop}
use Rattle.marks.specs.Marks.{Distinct, Rounded, mark_of, Trailed}
use Rattle.marks.proofs.Alike.{distinct_set, distinct_round}
use Rattle.marks.proofs.Trail.{Began, tells_down, tells_first, tells_up, tells_second, began_up, began_second, began_mark, apart_first, trail_down, trail_first}
use Rattle.marks.proofs.Trail.{trail_up, trail_second}
use Rattle.marks.proofs.Walk.{unmarked_vertex}
use Rattle.trace_steps.specs.declared.Trace.{Trace}
use Rattle.trace_puts.specs.Putting.{follows, down_put, first_put, up_put, second_put}
use Rattle.trace_steps.specs.Steps.{Placed, down_on, WentDown, first_on, first_area, up_on, up_area, second_on, second_area, last_is}
use Rattle.tracing.specs.Tracing.{Put, from, Tracing}
use Rattle.tracing.proofs.Places.{mark_at, region_mark, from_drop, above_stack, down_below, first_below, up_below, second_below}
use Rattle.tracing.proofs.Positions.{tops_at, next_second}
use Rattle.tracing.proofs.Puts.{puts_same, puts_down, puts_first, puts_up, puts_second}

last_split : (q : List ℕ) (f : ℕ) → last_is q f ≡ true → (fs : List ℕ) × (q ≡ f ∷ fs)
last_split [] f e = absurd (false≢true e)
last_split (a ∷ q) f e = (q, ap (λ (x : ℕ). x ∷ q) (eqb-true a f e))

module _ (family : ℕ) (rot : List ℕ) (k : ℕ) (w : List ℕ) (s : Trace) (g : Tracing family rot k w s) (here : k < length rot)
    (on : 0 < k → s.dart ≢ s.root) where
  abbrev n : ℕ
  n = length rot

  abbrev r : ℕ
  r = s.root

  abbrev p : Plan
  p = from rot r

  abbrev D : ℕ → ℕ
  D = dart rot r

  abbrev ℓ : ℕ → Letter
  ℓ = letter_after rot r

  abbrev o : ℕ
  o = opposite s.dart

  pub turn : Perm n (next rot)
  turn = next_perm rot g.ground.perm

  pub cross : Involution n opposite
  cross = opposite_inv n (count_even n g.ground.count)

  few : n ≤ 8192
  few = (count_parts n g.ground.count).2

  away : 0 < k → D k ≢ r
  away some e = on some (g.here ∙ e)

  -- ---- ranges

  dart_in : s.dart < n
  dart_in = subst (λ (x : ℕ). x < n) (sym g.here) (dart_bound rot r turn cross g.root_in k)

  pub across_in : o < n
  across_in = cross.bound s.dart dart_in

  same_across : opposite (D k) ≡ o
  same_across = ap opposite (sym g.here)

  pub waiting_count : (j : ℕ) (b q : List ℕ) → Trailed rot r j b q → length q ≡ length (chord_stack ℓ j)
  waiting_count j b q t = ap length t.stacked ∙ length-map (chord_stack ℓ j) (opened ℓ)

  waiting_few : s.waiting ≤ k
  waiting_few =
      let e = waiting_count k _ _ g.trail in
      let l = length_stack (WAITING * n) s.waiting w in
      let z = stacks_size ℓ k in
      let y = opened_few ℓ k in
      omega arith

  pub placed : Placed rot k s
  placed = record {
    position = here;
    dart = dart_in;
    edges = let e = g.edges in let y = opened_few ℓ k in omega arith;
    waiting = waiting_few;
  }

  -- the cursor of the tree bits stays within them
  cursor : (b q : List ℕ) → Trailed rot r (suc k) b q → Toured p → suc k + length q ≤ n
  cursor b q t u =
      let e = waiting_count (suc k) b q t in
      let c = ap length (stack_at p g.ground.count g.root_in g.ground.perm u (suc k) here) in
      let z = open_room p u g.ground.count (suc k) here
      (tops_at rot r g.ground.count g.ground.perm g.root_in u (suc k) here t.tops) in
      omega arith

  -- ---- marks

  abbrev marks : List ℕ
  marks = region 0 n w

  abbrev mark : ℕ
  mark = get_or w o 0

  mark_is : get_or marks (opposite (D k)) 0 ≡ mark
  mark_is = ap (λ (x : ℕ). get_or marks x 0) same_across ∙ mark_at n w o across_in

  as_marked : (P : ℕ → Type 0) → P mark → P (get_or marks (opposite (D k)) 0)
  as_marked P = subst P (sym mark_is)

  is_down_lem : mark ≡ 0 → ℓ k ≡ down
  is_down_lem e = tells_down rot r turn cross g.root_in k marks _ g.trail away (mark_is ∙ e)

  is_first_lem : 32768 ≤ mark → ℓ k ≡ first
  is_first_lem h = tells_first rot r turn cross g.root_in k marks _ g.trail away (as_marked (λ m. 32768 ≤ m) h)

  pub is_up : 16384 ≤ mark → mark < 32768 → ℓ k ≡ up
  is_up lo hi = tells_up rot r turn cross g.root_in k marks _ g.trail away (as_marked (λ m. 16384 ≤ m) lo) (as_marked (λ m. m < 32768) hi)

  pub is_second_lem : 0 < mark → mark < 16384 → ℓ k ≡ second
  is_second_lem lo hi = tells_second rot r turn cross g.root_in k marks _ g.trail away (as_marked (λ m. 0 < m) lo) (as_marked (λ m. m < 16384) hi)

  pub unmarked : mark ≡ 0 → (z : ℕ) → z < n → vertex_of rot z ≡ vertex_of rot o → get_or w z 0 ≡ 0
  unmarked e z h q =
      sym (mark_at n w z h)
      ∙ unmarked_here (is_down_lem e) z h (q ∙ ap (vertex_of rot) (sym same_across))
    where
      unmarked_here : ℓ k ≡ down → (z : ℕ) → z < n → vertex_of rot z ≡ vertex_of rot (opposite (D k)) → get_or marks z 0 ≡ 0
      unmarked_here = unmarked_vertex rot r turn cross g.root_in k (λ j h l. out j h l) marks g.trail.stands
        where
          out : (j : ℕ) → 0 < j → j < suc k → D j ≢ r
          out j h l = lt_suc_split l (λ e z. away (omega arith) (ap D (sym e) ∙ z)) (g.trail.away j h)

  region_size : (u : List ℕ) → length u ≡ length w → length (region 0 n u) ≡ n
  region_size u e = length_region 0 n u (omega (arith, g.ground.room))

  -- ---- the parts of the next state

  abbrev To : ℕ → ℕ → ℕ → Trace
  To x e c = record { root = r; dart = x; edges = e; waiting = c }

  step_to : (l : Letter) → ℓ k ≡ l → (w' : List ℕ) (x e c : ℕ) → length w' ≡ length w → x ≡ onward rot l (D k) → e ≡ opened ℓ (suc k)
      → Trailed rot r (suc k) (region 0 n w') (stack (WAITING * n) c w')
      → (family ≢ 4 → l ≡ first → vertex_of rot (D k) ≢ vertex_of rot (opposite (D k))) → (family ≡ 1 → l ≡ up → degree_one rot (D k) ≡ false)
      → Distinct rot (region 0 n w') (32768 + e) → Put family p (suc k) (suc k + c) w' → Tracing family rot (suc k) w' (To x e c)
  step_to l is w' x e c size to edges trail loop leaf distinct put = record {
    ground = record { count = g.ground.count; perm = g.ground.perm; room = omega (arith, g.ground.room) };
    root_in = g.root_in;
    here = to ∙ sym (dart_step rot r k ∙ ap (λ (a : Letter). onward rot a (D k)) is);
    edges = edges;
    trail = trail;
    no_loop = λ f j h e. lt_suc_split h
        (λ q. subst (λ (i : ℕ). vertex_of rot (D i) ≢ vertex_of rot (opposite (D i))) (sym q) (loop f (sym is ∙ ap ℓ (sym q) ∙ e)))
        (λ l. g.no_loop f j l e);
    no_leaf = λ f j h e. lt_suc_split h
        (λ q. subst (λ (i : ℕ). degree_one rot (D i) ≡ false) (sym q) (leaf f (sym is ∙ ap ℓ (sym q) ∙ e)))
        (λ l. g.no_leaf f j l e);
    distinct = distinct;
    puts = put;
  }

  as_put : (c c' : ℕ) (u w' : List ℕ) → c ≡ c' → w' ≡ u → Put family p (suc k) c u → Put family p (suc k) c' w'
  as_put c c' u w' e q put = subst (λ (x : ℕ). Put family p (suc k) x w') e (subst (λ (v : List ℕ). Put family p (suc k) c v) (sym q) put)

  -- ---- down

  pub traced_down : mark ≡ 0 → (t : Trace) (w' : List ℕ) → WentDown rot family k o s w t w' → Tracing family rot (suc k) w' (down_on rot o s)
  unfolding onward
  traced_down none t w' wd =
      let c = wd.circled in
      let v = 16384 + s.edges in
      let is = is_down_lem none in
      let w₁ = set c s.dart v in
      let t₀ = k + s.waiting in
      let size : length w₁ ≡ length w = length-set c s.dart v ∙ wd.round.kept in
      let below = down_below n s.waiting (omega (arith, waiting_few)) family k t₀ w₁ in
      let marked : region 0 n w' ≡ set (region 0 n c) (D k) (16384 + opened ℓ k) =
      ap (region 0 n) wd.area ∙ below.marks ∙ region_mark n c s.dart v dart_in ∙ ap₂ (λ (x y : ℕ). set (region 0 n c) x (16384 + y)) g.here g.edges in
      let over : drop n w₁ ≡ drop n w = drop-set-lt n c s.dart v dart_in ∙ wd.round.rest in
      let waits : stack (WAITING * n) s.waiting w' ≡ stack (WAITING * n) s.waiting w =
      ap (stack (WAITING * n) s.waiting) wd.area ∙ below.waits ∙ above_stack n w w₁ over (WAITING * n) s.waiting (omega arith) in
      let round : Rounded rot (opposite (D k)) (32769 + s.edges) marks (region 0 n c) =
      subst (λ (x : ℕ). Rounded rot x (32769 + s.edges) marks (region 0 n c)) (sym same_across) wd.round.marks in
      let trail : Trailed rot r (suc k) (region 0 n w') (stack (WAITING * n) s.waiting w') =
      rw (marked, waits) (trail_down rot r turn cross g.root_in k marks _ g.trail away (mark_is ∙ none)
      (let y = opened_few ℓ k in omega (arith, few)) (32769 + s.edges) (omega arith) (region 0 n c) round) in
      let put = puts_down family p g.ground.count k t₀ w₁
      (puts_same family p g.ground.count k t₀ w w₁ (from_drop n w w₁ over (2 * n) (omega arith)) g.puts)
      (omega (arith, g.ground.room)) here down is (λ u. letter_at p g.ground.count g.root_in g.ground.perm u k here ∙ is)
      (omega (arith, waiting_few)) refl
      (λ u. let z = cursor _ _ trail u in let l = length_stack (WAITING * n) s.waiting w' in omega arith) in
      step_to down is w' (next rot o) (s.edges + 1) s.waiting (ap length wd.area ∙ below.size ∙ size)
      (ap (next rot) (sym same_across))
      (ap (λ (x : ℕ). x + 1) g.edges ∙ sym (opened_more ℓ k (ap opens is)))
      trail (λ f e. absurd (omega (arith, ap code e))) (λ f e. absurd (omega (arith, ap code e)))
      (rw marked (distinct_set rot (region 0 n c) (32769 + s.edges)
      (distinct_round rot marks (32768 + s.edges) g.distinct (opposite (D k)) (32769 + s.edges) (region 0 n c) round (omega arith))
      (D k) (16384 + opened ℓ k) (32768 + (s.edges + 1)) (omega (arith, region_size c wd.round.kept, dart_bound rot r turn cross g.root_in k))
      (let y = opened_few ℓ k in omega (arith, few)) (omega arith) (omega arith)))
      (as_put (suc t₀) (suc k + s.waiting) (down_put n family k t₀ w₁) w' (omega arith) wd.area put)

  -- ---- first

  pub traced_first : 32768 ≤ mark → (family ≢ 4 → mark ≢ get_or w s.dart 0) → (w' : List ℕ) → w' ≡ first_area n family k s w
      → Tracing family rot (suc k) w' (first_on rot s)
  unfolding onward first_area
  traced_first big no_loop w' area =
      let v = 8192 + s.edges in
      let is = is_first_lem big in
      let w₀ = set w s.dart v in
      let w₁ = set w₀ (WAITING * n + s.waiting) s.edges in
      let t₀ = k + s.waiting in
      let size₀ : length w₀ ≡ length w = length-set w s.dart v in
      let size : length w₁ ≡ length w = length-set w₀ (WAITING * n + s.waiting) s.edges ∙ size₀ in
      let below = first_below n (s.waiting + 1) (omega (arith, waiting_few)) family k t₀ w₁ in
      let marked : region 0 n w' ≡ set marks (D k) (8192 + opened ℓ k) =
      ap (region 0 n) area ∙ below.marks ∙ region_set_other 0 n w₀ (WAITING * n + s.waiting) s.edges (λ _. omega arith)
      ∙ region_mark n w s.dart v dart_in ∙ ap₂ (λ (x y : ℕ). set marks x (8192 + y)) g.here g.edges in
      let one : s.waiting + 1 ≡ suc s.waiting = omega arith in
      let waits : stack (WAITING * n) (s.waiting + 1) w' ≡ opened ℓ k ∷ stack (WAITING * n) s.waiting w =
      ap (stack (WAITING * n) (s.waiting + 1)) area ∙ below.waits ∙ ap (λ (c : ℕ). stack (WAITING * n) c w₁) one
      ∙ stack_push (WAITING * n) s.waiting w₀ s.edges (omega (arith, g.ground.room, waiting_few))
      ∙ ap₂ (λ (x : ℕ) (xs : List ℕ). x ∷ xs) g.edges
      (above_stack n w w₀ (drop-set-lt n w s.dart v dart_in) (WAITING * n) s.waiting (omega arith)) in
      let trail : Trailed rot r (suc k) (region 0 n w') (stack (WAITING * n) (s.waiting + 1) w') =
      rw (marked, waits) (trail_first rot r turn cross g.root_in k marks _ g.trail away (as_marked (λ m. 32768 ≤ m) big)
      (let y = opened_few ℓ k in omega (arith, few))) in
      let over : drop (2 * n) w₁ ≡ drop (2 * n) w =
      drop-set-lt (2 * n) w₀ (WAITING * n + s.waiting) s.edges (omega (arith, waiting_few)) ∙ drop-set-lt (2 * n) w s.dart v (omega (arith, dart_in)) in
      let put = puts_first family p g.ground.count k t₀ w₁ (puts_same family p g.ground.count k t₀ w w₁ over g.puts)
      (omega (arith, g.ground.room)) here first is (λ u. letter_at p g.ground.count g.root_in g.ground.perm u k here ∙ is)
      (omega (arith, waiting_few)) refl
      (λ u. let z = cursor _ _ trail u in let l = length_stack (WAITING * n) (s.waiting + 1) w' in omega arith) in
      step_to first is w' (next rot s.dart) (s.edges + 1) (s.waiting + 1) (ap length area ∙ below.size ∙ size)
      (ap (next rot) g.here)
      (ap (λ (x : ℕ). x + 1) g.edges ∙ sym (opened_more ℓ k (ap opens is)))
      trail
      (λ f e. apart_first rot r turn cross g.root_in k marks _ g.trail away (as_marked (λ m. 32768 ≤ m) big)
      (λ q. no_loop f (sym mark_is ∙ q ∙ ap (λ (x : ℕ). get_or marks x 0) (sym g.here) ∙ mark_at n w s.dart dart_in)))
      (λ f e. absurd (omega (arith, ap code e)))
      (rw marked (distinct_set rot marks (32768 + s.edges) g.distinct (D k) (8192 + opened ℓ k) (32768 + (s.edges + 1))
      (omega (arith, region_size w refl, dart_bound rot r turn cross g.root_in k)) (let y = opened_few ℓ k in omega (arith, few)) (omega arith) (omega arith)))
      (as_put (suc (suc t₀)) (suc k + (s.waiting + 1)) (first_put n family k t₀ w₁) w' (omega arith) area put)

  -- ---- what comes after an edge that ends

  known_letter : Toured p → letter_of p k ≡ ℓ k
  known_letter u = letter_at p g.ground.count g.root_in g.ground.perm u k here

  known_dart : Toured p → dart_at p k ≡ D k
  known_dart u = dart_at_lem p g.ground.count g.root_in g.ground.perm u k here

  follows_next : (q : List ℕ) → Trailed rot r (suc k) marks q → (x : ℕ) → x ≡ D (suc k) → x < n → Toured p → starts_second (drop (suc k) (word p)) ≡ follows w x
  unfolding follows
  follows_next q t x e h u =
      sym (next_second rot r g.ground.count g.ground.perm g.root_in u (suc k) marks q t here
      (λ z. back_at p g.ground.count g.root_in g.ground.perm u k z))
      ∙ ap (λ (m : ℕ). cond (eqb (m / 8192) 1) 1 0)
      (ap (λ (y : ℕ). get_or marks (opposite y) 0) (sym e) ∙ mark_at n w (opposite x) (cross.bound x h))

  -- the number of the edge that ends, by where it began
  edge_of : (a : Letter) (b : Began rot r turn cross g.root_in k a) → opens a ≡ true → mark ≡ mark_of a + opened ℓ b.position
  edge_of a b e = sym mark_is ∙ began_mark rot r turn cross g.root_in k marks _ g.trail away a b e

  edge_known : (a : Letter) (b : Began rot r turn cross g.root_in k a) (f : ℕ) → f ≡ opened ℓ b.position → Toured p → f ≡ opened (letter_of p) (mate_of p k)
  edge_known a b f e u =
      let in_walk : b.position < n = let z = b.earlier in omega arith in
      let mate = mate_is p g.ground.count g.root_in g.ground.perm u k b.position here in_walk b.across in
      e ∙ sym (opened_at p g.ground.count g.root_in g.ground.perm u b.position (le_of_lt in_walk)) ∙ ap (opened (letter_of p)) (sym mate)

  -- ---- up

  abbrev up_edge : ℕ
  up_edge = mark - 16384

  up_edge_lem : (h : 16384 ≤ mark) (i : mark < 32768) → (b : Began rot r turn cross g.root_in k down) × (up_edge ≡ opened ℓ b.position)
  up_edge_lem h i =
      let b = began_up rot r turn cross g.root_in k marks _ g.trail away (is_up h i) in
      let e = edge_of down b refl in
      (b, omega arith)

  pub up_in : 16384 ≤ mark → mark < 32768 → up_edge < n
  up_in h i = let (b, e) = up_edge_lem h i in let z = opened_few ℓ b.position in let y = b.earlier in omega arith

  pub traced_up : 16384 ≤ mark → mark < 32768 → (family ≡ 1 → next rot s.dart ≢ s.dart) → (w' : List ℕ) → w' ≡ up_area rot family k o up_edge s w
      → Tracing family rot (suc k) w' (up_on rot o s)
  unfolding onward up_area degree_one
  traced_up lo hi no_leaf w' area =
      let is = is_up lo hi in
      let (b, e) = up_edge_lem lo hi in
      let t₀ = k + s.waiting in
      let x = next rot o in
      let leaf = eqb (next rot s.dart) s.dart in
      let below = up_below n s.waiting (omega (arith, waiting_few)) family k t₀ w up_edge leaf (follows w x) in
      let here-trail = trail_up rot r turn cross g.root_in k marks _ g.trail away (as_marked (λ m. 16384 ≤ m) lo) (as_marked (λ m. m < 32768) hi) in
      let marked : region 0 n w' ≡ marks = ap (region 0 n) area ∙ below.marks in
      let waits : stack (WAITING * n) s.waiting w' ≡ stack (WAITING * n) s.waiting w = ap (stack (WAITING * n) s.waiting) area ∙ below.waits in
      let trail : Trailed rot r (suc k) (region 0 n w') (stack (WAITING * n) s.waiting w') = rw (marked, waits) here-trail in
      let to : x ≡ onward rot up (D k) = ap (next rot) (sym same_across) in
      let put = puts_up family p g.ground.count k t₀ w g.puts g.ground.room here up is (λ u. known_letter u ∙ is) (omega (arith, waiting_few))
      up_edge leaf (follows w x) refl
      (λ u. let z = cursor _ _ trail u in let l = length_stack (WAITING * n) s.waiting w' in omega arith)
      (edge_known down b up_edge e)
      (λ u. ap (λ (d : ℕ). eqb (next rot d) d) (known_dart u ∙ sym g.here))
      (follows_next _ here-trail x (to ∙ sym (dart_step rot r k ∙ ap (λ (a : Letter). onward rot a (D k)) is)) (turn.bound o across_in)) in
      step_to up is w' x s.edges s.waiting (ap length area ∙ below.size) to
      (g.edges ∙ sym (opened_stays ℓ k (ap opens is))) trail (λ f q. absurd (omega (arith, ap code q)))
      (λ f q. ap (λ (d : ℕ). eqb (next rot d) d) (sym g.here) ∙ ne_eqb _ _ (no_leaf f))
      (rw marked g.distinct)
      (as_put (suc t₀) (suc k + s.waiting) (up_put n family k t₀ up_edge leaf (follows w x) w) w' (omega arith) area put)

  -- ---- second

  abbrev end_edge : ℕ
  end_edge = mark - 8192

  pub end_edge_lem : (h : 0 < mark) (i : mark < 16384) → (b : Began rot r turn cross g.root_in k first) × (mark ≡ 8192 + end_edge) × (end_edge ≡ opened ℓ b.position)
  end_edge_lem h i =
      let b = began_second rot r turn cross g.root_in k marks _ g.trail away (is_second_lem h i) in
      let e = edge_of first b refl in
      (b, omega arith, omega arith)

  pub end_in : 0 < mark → mark < 16384 → (8192 ≤ mark) × (end_edge < n)
  end_in h i = let (b, m, e) = end_edge_lem h i in let z = opened_few ℓ b.position in let y = b.earlier in (omega arith, omega arith)

  abbrev waiters : List ℕ
  waiters = stack (WAITING * n) s.waiting w

  pub some_waits : last_is waiters end_edge ≡ true → 1 ≤ s.waiting
  some_waits h = let (fs, e) = last_split waiters end_edge h in let l = ap length e in let z = length_stack (WAITING * n) s.waiting w in omega arith

  pub traced_second : 0 < mark → mark < 16384 → last_is waiters end_edge ≡ true → (w' : List ℕ) → w' ≡ second_area rot family k end_edge s w
      → Tracing family rot (suc k) w' (second_on rot s)
  unfolding onward second_area
  traced_second lo hi last w' area =
      let is = is_second_lem lo hi in
      let (b, m, e) = end_edge_lem lo hi in
      let (fs, q) = last_split waiters end_edge last in
      let some = some_waits last in
      let t₀ = k + s.waiting in
      let x = next rot s.dart in
      let rest : stack (WAITING * n) (s.waiting - 1) w ≡ fs = ap tail (sym (stack_pop (WAITING * n) s.waiting w some) ∙ q) in
      let below = second_below n (s.waiting - 1) (omega (arith, waiting_few)) family k t₀ w end_edge (follows w x) in
      let here-trail = trail_second rot r turn cross g.root_in k marks _ g.trail away (as_marked (λ m. 0 < m) lo) (as_marked (λ m. m < 16384) hi)
      end_edge fs q (mark_is ∙ m) in
      let marked : region 0 n w' ≡ marks = ap (region 0 n) area ∙ below.marks in
      let waits : stack (WAITING * n) (s.waiting - 1) w' ≡ fs = ap (stack (WAITING * n) (s.waiting - 1)) area ∙ below.waits ∙ rest in
      let trail : Trailed rot r (suc k) (region 0 n w') (stack (WAITING * n) (s.waiting - 1) w') = rw (marked, waits) here-trail in
      let to : x ≡ onward rot second (D k) = ap (next rot) g.here in
      let put = puts_second family p g.ground.count k t₀ w g.puts g.ground.room here second is (λ u. known_letter u ∙ is)
      end_edge (follows w x) refl
      (λ u. let z = cursor _ _ trail u in let l = length_stack (WAITING * n) (s.waiting - 1) w' in omega arith)
      (edge_known first b end_edge e)
      (follows_next _ here-trail x (to ∙ sym (dart_step rot r k ∙ ap (λ (a : Letter). onward rot a (D k)) is)) (turn.bound s.dart dart_in)) in
      step_to second is w' x s.edges (s.waiting - 1) (ap length area ∙ below.size) to
      (g.edges ∙ sym (opened_stays ℓ k (ap opens is))) trail (λ f q. absurd (omega (arith, ap code q))) (λ f q. absurd (omega (arith, ap code q)))
      (rw marked g.distinct)
      (as_put t₀ (suc k + (s.waiting - 1)) (second_put n family k end_edge (follows w x) w) w' (omega arith) area put)
