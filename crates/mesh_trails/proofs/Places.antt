-- The walk of a dual whose vertices have three darts: what comes at each place of a vertex.
--
--   starts               about to go down at the root
--   goes_down            a vertex is entered
--   first_down, first_leaf   at its first place a down, or a first
--   second_down, second_first, second_second   what comes at a second place
--   home_first, home_second  the two last positions, at the root's vertex
--   all_even             where no edge is open, each is met twice
use Prim.Native.Nat.{ℕ, suc, ◌+◌, ◌-◌, ◌*◌, ◌≤◌, ◌<◌}
use native.Mathlib.Omega.{arith}
use mathlib.Core.Path.{◌≡◌, refl, sym, ap, subst, ◌∙◌}
use mathlib.Core.Logic.{inl, inr, ◌≢◌}
use mathlib.Core.Bool.{Bool, true, false, ◌&&◌, cond}
use mathlib.Core.List.{List, [], ◌∷◌, map}
use lib.Dec.{ltb}
use lib.ListN.{length, get_or, set, length-map}
use Rattle.model.specs.Map.{opposite, next, vertex_of}
use Rattle.model.specs.Traversal.{Letter, down, first, second, opens, onward}
use Rattle.model.proofs.Opposite.{opposite_opposite}
use Rattle.orbits.specs.Permutation.{Perm}
use Rattle.orbits.specs.Chord.{Involution}
use Rattle.orbits.specs.Stack.{stack}
use Rattle.orbits.proofs.Order.{lt_or_le}
use Rattle.orbits.proofs.Tally.{count_below}
use Rattle.words.specs.Brackets.{tree_stack, chord_stack}
use Rattle.words.specs.Position.{opened, vertex_count, vertex_top, vertex_no}
use Rattle.words.proofs.Opened.{opened_stays}
use Rattle.traversal.specs.Steps.{dart, letter_after}
use Rattle.traversal.proofs.Steps.{dart_step}
use Rattle.forward.proofs.Tops.{tree_opener, chord_opener}
use Rattle.marks.specs.Marks.{Rounded}
use Rattle.marks.proofs.Trail.{tells_down, tells_first, tells_second}
use Rattle.mesh_walks.specs.Told.{told_after, told, tell}
use Rattle.mesh_trails.specs.Strolls.{Strolled, Hung, Entering, Entered, Halfway, Climbing, Homing}
use Rattle.mesh_trails.proofs.Strolls.{tree_step, stroll_down, stroll_first, stroll_second}
use Rattle.mesh_trails.proofs.Climbs.{told_last, tell_none, down_apart, over_in, first_vertex, second_vertex, node_good}

module _ (P : ℕ → Type 0) (rot : List ℕ) (r : ℕ) (turn : Perm (length rot) (next rot)) (cross : Involution (length rot) opposite) (hr : r < length rot)
    (few : length rot ≤ 8192) (three : (x : ℕ) → x < length rot → P x → next rot (next rot (next rot x)) ≡ x) where
  abbrev D : ℕ → ℕ
  D = dart rot r

  abbrev ℓ : ℕ → Letter
  ℓ = letter_after rot r

  step_to : (k : ℕ) (l : Letter) → ℓ k ≡ l → D (suc k) ≡ onward rot l (D k)
  step_to k l e = dart_step rot r k ∙ ap (λ (a : Letter). onward rot a (D k)) e

  pub starts : (b ts : List ℕ) → Strolled P rot r 0 b [] ts → get_or b (opposite (dart rot r 0)) 0 ≡ 0 → Entering P rot r 0 [] b [] ts
  unfolding Hung stack told
  starts b ts s none = record {
    earlier = ts;
    strolled = s;
    away = λ h. absurd (omega arith);
    blank = none;
    hung = (refl, refl);
    tells = tell_none _ _ ts refl;
  }

  -- ---- down

  pub goes_down : (k : ℕ) (us b waits ts : List ℕ) → Entering P rot r k us b waits ts → (c : ℕ) → 32768 ≤ c → (b' : List ℕ)
      → Rounded rot (opposite (dart rot r k)) c b b' → ((z : ℕ) → z < length rot → vertex_of rot z ≡ vertex_of rot (opposite (dart rot r k)) → P z)
      → Entered P rot r k us (set b' (dart rot r k) (16384 + opened (letter_after rot r) k)) waits ts
  unfolding onward
  goes_down k us b waits ts n c big b' u good =
      let e = tells_down rot r turn cross hr k b waits n.strolled.trail n.away n.blank in
      let to = step_to k down e in
      record {
        strolled = stroll_down P rot r turn cross hr k b waits n.earlier n.strolled n.away few ts n.tells n.blank c big b' u good;
        is_down = e;
        here = to;
        away = down_apart P rot r turn cross hr few three k e (D (suc k)) (ap (vertex_of rot) to ∙ first_vertex P rot r turn cross hr few three k);
        stacked = tree_step ℓ k down e;
        hung = n.hung;
      }

  module _ (k : ℕ) (us b waits ts : List ℕ) (n : Entered P rot r k us b waits ts) where
    quiet : (x : Letter) → ℓ (suc k) ≡ x → told ℓ (suc k) ≡ 0
    unfolding told_after
    quiet x e = told_last ℓ (suc k) k down x refl n.is_down e

    pub first_down : get_or b (opposite (dart rot r (suc k))) 0 ≡ 0 → Entering P rot r (suc k) (k ∷ us) b waits ts
    unfolding Hung
    first_down none =
        let e = tells_down rot r turn cross hr (suc k) b waits n.strolled.trail (λ _. n.away) none in
        record {
          earlier = ts;
          strolled = n.strolled;
          away = λ _. n.away;
          blank = none;
          hung = subst (λ (T : List ℕ). Hung rot r (suc k ∷ T) (k ∷ us)) (sym n.stacked) (inl (us, refl, n.here, n.hung));
          tells = tell_none _ _ ts (quiet down e);
        }

    pub first_leaf : 32768 ≤ get_or b (opposite (dart rot r (suc k))) 0
        → Halfway P rot r (suc (suc k)) k first us (set b (dart rot r (suc k)) (8192 + opened (letter_after rot r) (suc k)))
        (opened (letter_after rot r) (suc k) ∷ waits) ts
    unfolding onward
    first_leaf big =
        let e = tells_first rot r turn cross hr (suc k) b waits n.strolled.trail (λ _. n.away) big in
        record {
          strolled = stroll_first P rot r turn cross hr (suc k) b waits ts n.strolled (λ _. n.away) few ts (tell_none _ _ ts (quiet first e)) big;
          below = tree_stack ℓ k;
          stacked = tree_step ℓ (suc k) first e ∙ n.stacked;
          hung = n.hung;
          here = step_to (suc k) first e ∙ ap (next rot) n.here;
          last = suc k;
          before = refl;
          after = e;
        }

  -- ---- second places

  module _ (k node : ℕ) (l : Letter) (us b waits ts : List ℕ) (n : Halfway P rot r k node l us b waits ts) where
    pub half_away : dart rot r k ≢ r
    half_away =
        let (h, d) = tree_opener ℓ k node n.below n.stacked in
        down_apart P rot r turn cross hr few three node d (D k) (ap (vertex_of rot) n.here ∙ second_vertex P rot r turn cross hr few three node)

    pub half_number : vertex_no (letter_after rot r) k ≡ vertex_count (letter_after rot r) node
    unfolding vertex_no
    half_number = ap (vertex_top ℓ) n.stacked

    telling : (x : Letter) → ℓ k ≡ x → (ts' : List ℕ) → ts' ≡ tell (told_after l x) (vertex_count ℓ node) ts → ts' ≡ tell (told ℓ k) (vertex_no ℓ k) ts
    telling x e ts' q = rw (told_last ℓ k n.last l x n.before n.after e, half_number) q

    third_place : next rot (D k) ≡ opposite (D node)
    third_place =
        let (h, d) = tree_opener ℓ k node n.below n.stacked in
        ap (next rot) n.here
        ∙ three (opposite (D node)) (over_in P rot r turn cross hr few three node) (node_good P rot r turn cross hr few three k b waits ts n.strolled node h)

    pub second_down : get_or b (opposite (dart rot r k)) 0 ≡ 0 → (ts' : List ℕ) → ts' ≡ tell (told_after l down) (vertex_count (letter_after rot r) node) ts
        → Entering P rot r k us b waits ts'
    unfolding Hung
    second_down none ts' q =
        let e = tells_down rot r turn cross hr k b waits n.strolled.trail (λ _. half_away) none in
        record {
          earlier = ts;
          strolled = n.strolled;
          away = λ _. half_away;
          blank = none;
          hung = subst (λ (T : List ℕ). Hung rot r (k ∷ T) us) (sym n.stacked) (inr (n.here, n.hung));
          tells = telling down e ts' q;
        }

    pub second_first : 32768 ≤ get_or b (opposite (dart rot r k)) 0 → (ts' : List ℕ) → ts' ≡ tell (told_after l first) (vertex_count (letter_after rot r) node) ts
        → Climbing P rot r (suc k) us (set b (dart rot r k) (8192 + opened (letter_after rot r) k)) (opened (letter_after rot r) k ∷ waits) ts'
    unfolding onward
    second_first big ts' q =
        let e = tells_first rot r turn cross hr k b waits n.strolled.trail (λ _. half_away) big in
        record {
          strolled = stroll_first P rot r turn cross hr k b waits ts n.strolled (λ _. half_away) few ts' (telling first e ts' q) big;
          node = node;
          below = n.below;
          stacked = tree_step ℓ k first e ∙ n.stacked;
          hung = n.hung;
          third = step_to k first e ∙ third_place;
          over = λ i h a. absurd (first≢second (sym e ∙ ap ℓ (same i k (sym h)) ∙ a));
        }
      where
        same : (i k : ℕ) → suc k ≡ suc i → k ≡ i
        same i k h = omega arith

        first≢second : first ≢ second
        first≢second e = let z : ◌≡◌ {A = ℕ} 0 1 = cc in omega arith

    pub second_second : 0 < get_or b (opposite (dart rot r k)) 0 → get_or b (opposite (dart rot r k)) 0 < 16384
        → (f g : ℕ) (fs : List ℕ) → waits ≡ f ∷ (g ∷ fs) → get_or b (opposite (dart rot r k)) 0 ≡ 8192 + f → opened (letter_after rot r) node ≤ g
        → (ts' : List ℕ) → ts' ≡ tell (told_after l second) (vertex_count (letter_after rot r) node) ts
        → Climbing P rot r (suc k) us b (g ∷ fs) ts'
    unfolding onward opened
    second_second lo hi f g fs w m late ts' q =
        let e = tells_second rot r turn cross hr k b waits n.strolled.trail (λ _. half_away) lo hi in
        let s = stroll_second P rot r turn cross hr k b waits ts n.strolled (λ _. half_away) few ts' (telling second e ts' q) lo hi f (g ∷ fs) w m in
        let to = step_to k second e ∙ third_place in
        record {
          strolled = s;
          node = node;
          below = n.below;
          stacked = tree_step ℓ k second e ∙ n.stacked;
          hung = n.hung;
          third = to;
          over = λ i h a u. subst (CrossedUp to) (same i k (sym h)) (crossing to (chord_stack ℓ (suc k)) refl s.trail.stacked);
        }
      where
        same : (i k : ℕ) → suc k ≡ suc i → k ≡ i
        same i k h = omega arith

        CrossedUp : D (suc k) ≡ opposite (D node) → ℕ → Type 0
        CrossedUp to i = (x : ℕ) × (s : List ℕ) × (j : ℕ) × (chord_stack ℓ (suc i) ≡ x ∷ s) × (D j ≡ opposite (D (suc i))) × (j ≤ x)

        crossing : (to : D (suc k) ≡ opposite (D node)) (c : List ℕ) → chord_stack ℓ (suc k) ≡ c → g ∷ fs ≡ map (opened ℓ) (chord_stack ℓ (suc k)) → CrossedUp to k
        crossing to [] z p = let y = ap length (p ∙ ap (map (opened ℓ)) z) in absurd (omega arith)
        crossing to (x ∷ c) z p =
            let top : g ≡ opened ℓ x = ap head' (p ∙ ap (map (opened ℓ)) z) in
            let (h, o) = chord_opener ℓ (suc k) x c z in
            (x, c, node, z, sym (ap opposite to ∙ opposite_opposite (D node)), lt_or_le x node (λ y. absurd (before x o y top)) (λ y. y))
          where
            head' : List ℕ → ℕ
            head' [] = 0
            head' (a ∷ s) = a

            before : (x : ℕ) → ℓ x ≡ first → x < node → g ≡ opened ℓ x → ⊥
            before x o h t = let c = count_below (λ j. opens (ℓ j)) x node h (ap opens o) in let i = late in omega arith

  -- ---- the end

  module _ (k : ℕ) (b waits ts : List ℕ) (n : Homing P rot r k b waits ts) (one : next rot r ≢ r) where
    home_number : vertex_no ℓ k ≡ 0
    unfolding vertex_no
    home_number = ap (vertex_top ℓ) n.stacked

    home_away : D k ≢ r
    home_away e = one (sym n.here ∙ e)

    pub home_first : (f : ℕ) (fs : List ℕ) → 0 < get_or b (opposite (dart rot r k)) 0 → get_or b (opposite (dart rot r k)) 0 < 16384
        → waits ≡ f ∷ fs → get_or b (opposite (dart rot r k)) 0 ≡ 8192 + f
        → Strolled P rot r (suc k) b fs ts × (dart rot r (suc k) ≡ next rot (next rot r)) × (tree_stack (letter_after rot r) (suc k) ≡ []) × (letter_after rot r k ≡ second)
    unfolding onward tell
    home_first f fs lo hi w m =
        let e = tells_second rot r turn cross hr k b waits n.strolled.trail (λ _. home_away) lo hi in (
          stroll_second P rot r turn cross hr k b waits ts n.strolled (λ _. home_away) few ts (sym (ap (λ (x : ℕ). tell (told ℓ k) x ts) home_number ∙ nothing (told ℓ k))) lo hi f fs w m,
          step_to k second e ∙ ap (next rot) n.here,
          tree_step ℓ k second e ∙ n.stacked,
          e,
        )
      where
        nothing : (t : ℕ) → tell t 0 ts ≡ ts
        nothing t = go (ltb 0 t)
          where
            go : (x : Bool) → cond (x && false) (set ts (0 - 1) t) ts ≡ ts
            go true = refl
            go false = refl

    pub home_second : next rot (next rot r) ≢ r → (f g : ℕ) (fs : List ℕ) → 0 < get_or b (opposite (dart rot r k)) 0 → get_or b (opposite (dart rot r k)) 0 < 16384
        → waits ≡ f ∷ (g ∷ fs) → get_or b (opposite (dart rot r k)) 0 ≡ 8192 + f
        → 0 < get_or b (opposite (dart rot r (suc k))) 0 → get_or b (opposite (dart rot r (suc k))) 0 < 16384 → get_or b (opposite (dart rot r (suc k))) 0 ≡ 8192 + g
        → Strolled P rot r (suc (suc k)) b fs ts × (dart rot r (suc (suc k)) ≡ r) × (tree_stack (letter_after rot r) (suc (suc k)) ≡ [])
        × (opened (letter_after rot r) (suc (suc k)) ≡ opened (letter_after rot r) k)
    unfolding onward told_after
    home_second two f g fs lo hi w m lo' hi' m' =
        let (s, h, t, e) = home_first f (g ∷ fs) lo hi w m in
        let on : 0 < suc k → D (suc k) ≢ r = λ _ z. two (sym h ∙ z) in
        let e' = tells_second rot r turn cross hr (suc k) b (g ∷ fs) s.trail on lo' hi' in (
          stroll_second P rot r turn cross hr (suc k) b (g ∷ fs) ts s on few ts (tell_none _ _ ts (told_last ℓ (suc k) k second second refl e e')) lo' hi' g fs refl m',
          step_to (suc k) second e' ∙ ap (next rot) h ∙ three r hr n.root,
          tree_step ℓ (suc k) second e' ∙ t,
          opened_stays ℓ (suc k) (ap opens e') ∙ opened_stays ℓ k (ap opens e),
        )

  pub all_even : (k : ℕ) (b ts : List ℕ) → Strolled P rot r k b [] ts → tree_stack (letter_after rot r) k ≡ [] → k ≡ 2 * opened (letter_after rot r) k
  all_even k b ts s t =
      let e = s.even in
      let x = ap length t in
      let y = ap length s.trail.stacked in
      let z = length-map (chord_stack ℓ k) (opened ℓ) in
      omega arith
