-- The walk of a dual whose vertices have three darts, from place to place.
--
--   entered_more, entered_stays   how many vertices are entered after a letter
--   told-none, told_last          what is told after and at a letter
--   down_apart                    a vertex that is entered is not the root's
--   Climbed, climbs               ups lead to the second place of the last vertex that waits at its first, or home
use Prim.Native.Nat.{ℕ, zero, suc, ◌+◌, ◌-◌, ◌≤◌, ◌<◌}
use native.Mathlib.Omega.{arith}
use mathlib.Core.Path.{◌≡◌, refl, sym, ap, subst, ◌∙◌}
use mathlib.Core.Logic.{◌⊎◌, inl, inr, ◌≢◌}
use mathlib.Core.Bool.{Bool, false}
use mathlib.Core.List.{List, [], ◌∷◌}
use lib.Dec.{T}
use lib.ListN.{length, get_or, set}
use borrow.Author.Tests.{lt-ltb}
use Rattle.model.specs.Map.{opposite, next, vertex_of}
use Rattle.model.specs.Traversal.{Letter, down, up, first, second, opens, onward}
use Rattle.model.specs.Mesh.{node_type}
use Rattle.model.proofs.Opposite.{opposite_opposite}
use Rattle.orbits.specs.Permutation.{Perm}
use Rattle.orbits.specs.Chord.{Involution}
use Rattle.orbits.specs.Stack.{push}
use Rattle.orbits.proofs.Order.{eq_split}
use Rattle.orbits.proofs.Tally.{count_in, count_out}
use Rattle.orbits.proofs.Maps.{vertex_turn}
use Rattle.words.specs.Brackets.{tree_kind, tree_stack}
use Rattle.words.specs.Entered.{is_down}
use Rattle.words.specs.Position.{opened, vertex_count}
use Rattle.words.proofs.Opened.{opened_few, opened_stays}
use Rattle.traversal.specs.Steps.{at, start, dart, letter_after, seen_mark}
use Rattle.traversal.proofs.Steps.{case, down_case, dart_step, across_bound, seen_here, seen_across}
use Rattle.forward.proofs.Tops.{tree_opener}
use Rattle.marks.specs.Marks.{mark_of}
use Rattle.marks.proofs.Trail.{tells_up}
use Rattle.mesh_walks.specs.Told.{told_after, told, tell}
use Rattle.mesh_trails.specs.Strolls.{CrossedAt, Strolled, place, Hung, Halfway, Homing}
use Rattle.mesh_trails.proofs.Strolls.{down≢up, tree_step, within, stroll_up}

-- ---- letters

pub up≢second : up ≢ second
up≢second e = let z : ◌≡◌ {A = ℕ} 0 1 = cc in omega arith

module _ (ℓ : ℕ → Letter) (k : ℕ) where
  pub entered_more : ℓ k ≡ down → vertex_count ℓ (suc k) ≡ suc (vertex_count ℓ k)
  unfolding vertex_count
  entered_more e = ap suc (count_in (λ j. is_down (ℓ j)) k (subst (λ (l : Letter). T (is_down l)) (sym e) tt))

  pub entered_stays : (l : Letter) → ℓ k ≡ l → is_down l ≡ false → vertex_count ℓ (suc k) ≡ vertex_count ℓ k
  unfolding vertex_count
  entered_stays l e f = ap suc (count_out (λ j. is_down (ℓ j)) k (λ t. subst (λ (b : Bool). T b) f (subst (λ (a : Letter). T (is_down a)) e t)))

pub told_up : (ℓ : ℕ → Letter) (k : ℕ) → ℓ k ≡ up → told ℓ k ≡ 0
unfolding told told_after node_type
told_up ℓ zero e = refl
told_up ℓ (suc j) e = ap (told_after (ℓ j)) e ∙ none (ℓ j)
  where
    none : (l : Letter) → told_after l up ≡ 0
    none down = refl
    none up = refl
    none first = refl
    none second = refl

pub told_last : (ℓ : ℕ → Letter) (k j : ℕ) (l x : Letter) → suc j ≡ k → ℓ j ≡ l → ℓ k ≡ x → told ℓ k ≡ told_after l x
unfolding told
told_last ℓ k j l x q e f = ap (told ℓ) (sym q) ∙ ap (λ (a : Letter). told_after a (ℓ (suc j))) e ∙ ap (told_after l) (ap ℓ q ∙ f)

pub tell_none : (t n : ℕ) (ts : List ℕ) → t ≡ 0 → ts ≡ tell t n ts
unfolding tell
tell_none t n ts e = rw e refl

pub tell_set : (t n : ℕ) (ts : List ℕ) → 0 < t → 0 < n → set ts (n - 1) t ≡ tell t n ts
unfolding tell
tell_set t n ts ht hn = rw (lt-ltb 0 t ht, lt-ltb 0 n hn) refl

-- ---- the walk

module _ (P : ℕ → Type 0) (rot : List ℕ) (r : ℕ) (turn : Perm (length rot) (next rot)) (cross : Involution (length rot) opposite) (hr : r < length rot)
    (few : length rot ≤ 8192) (three : (x : ℕ) → x < length rot → P x → next rot (next rot (next rot x)) ≡ x) where
  abbrev D : ℕ → ℕ
  D = dart rot r

  abbrev ℓ : ℕ → Letter
  ℓ = letter_after rot r

  root_first : D 0 ≡ r
  unfolding dart at start
  root_first = refl

  pub down_apart : (j : ℕ) → ℓ j ≡ down → (x : ℕ) → vertex_of rot x ≡ vertex_of rot (opposite (D j)) → x ≢ r
  unfolding seen_mark
  down_apart j e x q z =
      seen_here rot r turn cross hr j 0 (omega arith)
      (ap (λ (y : ℕ). seen_mark rot r j y) (root_first ∙ sym z) ∙ ap (λ (v : ℕ). get_or (at rot r j).seen v 0) q ∙ (down_case (case rot r j) e).1)

  pub turned : (x : ℕ) → x < length rot → vertex_of rot (next rot x) ≡ vertex_of rot x
  turned = vertex_turn rot turn

  pub over_in : (j : ℕ) → opposite (D j) < length rot
  over_in = across_bound rot r turn cross hr

  pub first_vertex : (j : ℕ) → vertex_of rot (next rot (opposite (D j))) ≡ vertex_of rot (opposite (D j))
  first_vertex j = turned (opposite (D j)) (over_in j)

  pub second_vertex : (j : ℕ) → vertex_of rot (place rot r j) ≡ vertex_of rot (opposite (D j))
  second_vertex j = turned (next rot (opposite (D j))) (turn.bound (opposite (D j)) (over_in j)) ∙ first_vertex j

  -- a dart of a vertex seen has a mark
  pub seen_marked : (k : ℕ) (b waits ts : List ℕ) → Strolled P rot r k b waits ts → (x : ℕ) → x < length rot → seen_mark rot r k x ≢ 0 → get_or b x 0 ≢ 0
  unfolding seen_mark
  seen_marked k b waits ts s x h m z = eq_split (get_or (at rot r k).met x 0) 1
      (λ e. let (lo, hi) = s.trail.stands.downs x h e in omega arith)
      (λ ne. eq_split (get_or (at rot r k).met x 0) 3
      (λ e. let (lo, hi) = s.trail.stands.firsts x h e in omega arith)
      (λ nf. let i = s.trail.stands.light x h m ne nf in omega arith))

  pub node_good : (k : ℕ) (b waits ts : List ℕ) → Strolled P rot r k b waits ts → (j : ℕ) → j < k → P (opposite (D j))
  node_good k b waits ts s j h = s.faces (opposite (D j)) (over_in j) (seen_marked k b waits ts s (opposite (D j)) (over_in j) (seen_across rot r turn cross hr k j h))

  pub record Climbed (k : ℕ) (us b waits ts : List ℕ) : Type 0 where
    pub position : ℕ
    pub edges : opened (letter_after rot r) position ≡ opened (letter_after rot r) k
    pub faces : vertex_count (letter_after rot r) position ≡ vertex_count (letter_after rot r) k
    pub stands : ((us ≡ []) × Homing P rot r position b waits ts)
        ⊎ ((i : ℕ) × (vs : List ℕ) × (us ≡ i ∷ vs) × Halfway P rot r position i up vs b waits ts)

  -- one up
  pub record Upped (k j : ℕ) (below b waits ts : List ℕ) : Type 0 where
    pub strolled : Strolled P rot r (suc k) b waits ts
    pub letter : letter_after rot r k ≡ up
    pub stacked : tree_stack (letter_after rot r) (suc k) ≡ below
    pub here : dart rot r (suc k) ≡ next rot (dart rot r j)
    pub edges : opened (letter_after rot r) (suc k) ≡ opened (letter_after rot r) k
    pub faces : vertex_count (letter_after rot r) (suc k) ≡ vertex_count (letter_after rot r) k
    pub earlier : j < k
    pub marked : get_or b (dart rot r j) 0 ≢ 0

  module _ (b waits ts : List ℕ) where
    go_up_lem : (k j : ℕ) (T : List ℕ) → Strolled P rot r k b waits ts → tree_stack ℓ k ≡ j ∷ T → D k ≡ opposite (D j) → ((i : ℕ) → suc i ≡ k → CrossedAt rot r i)
        → Upped k j T b waits ts
    unfolding onward
    go_up_lem k j T s t h over =
        let (l, d) = tree_opener ℓ k j T t in
        let on : 0 < k → D k ≢ r = λ _. down_apart j d (D k) (ap (vertex_of rot) h) in
        let back : opposite (D k) ≡ D j = ap opposite h ∙ opposite_opposite (D j) in
        let m : get_or b (opposite (D k)) 0 ≡ 16384 + opened ℓ j =
        ap (λ (x : ℕ). get_or b x 0) back ∙ s.trail.numbers j l (ap opens d) ∙ ap (λ (a : Letter). mark_of a + opened ℓ j) d in
        let f = opened_few ℓ j in
        let n = within P rot r turn cross hr k b waits ts s on in
        let lo : 16384 ≤ get_or b (opposite (D k)) 0 = omega arith in
        let hi : get_or b (opposite (D k)) 0 < 32768 = omega arith in
        let e = tells_up rot r turn cross hr k b waits s.trail on lo hi in
        record {
          strolled = stroll_up P rot r turn cross hr k b waits ts s on few ts (tell_none _ _ ts (told_up ℓ k e)) lo hi j T t over;
          letter = e;
          stacked = tree_step ℓ k up e ∙ ap (push (tree_kind up) k) t;
          here = dart_step rot r k ∙ ap (λ (a : Letter). onward rot a (D k)) e ∙ ap (next rot) back;
          edges = opened_stays ℓ k (ap opens e);
          faces = entered_stays ℓ k up e refl;
          earlier = l;
          marked = λ z. let q : get_or b (opposite (D k)) 0 ≡ 0 = ap (λ (x : ℕ). get_or b x 0) back ∙ z in omega arith;
        }

    pub climbs : (T us : List ℕ) (k j : ℕ) → Strolled P rot r k b waits ts → tree_stack ℓ k ≡ j ∷ T → Hung rot r (j ∷ T) us → D k ≡ opposite (D j)
        → ((i : ℕ) → suc i ≡ k → CrossedAt rot r i) → Climbed k us b waits ts
    unfolding Hung
    climbs [] us k j s t (z, e) h over =
        let u = go_up_lem k j [] s t h over in
        record {
          position = suc k;
          edges = u.edges;
          faces = u.faces;
          stands = inl (
            e,
            record {
              strolled = u.strolled;
              stacked = u.stacked;
              here = u.here ∙ ap (λ (i : ℕ). next rot (D i)) z ∙ ap (next rot) root_first;
              root = s.faces r hr (λ q. u.marked (ap (λ (i : ℕ). get_or b (D i) 0) z ∙ ap (λ (x : ℕ). get_or b x 0) root_first ∙ q));
              later = omega arith;
            },
          );
        }
    climbs (i ∷ T) us k j s t (inl (vs, e, q, g)) h over =
        let u = go_up_lem k j (i ∷ T) s t h over in
        record {
          position = suc k;
          edges = u.edges;
          faces = u.faces;
          stands = inr (
            i,
            vs,
            e,
            record {
              strolled = u.strolled;
              below = T;
              stacked = u.stacked;
              hung = g;
              here = u.here ∙ ap (next rot) q;
              last = k;
              before = refl;
              after = u.letter;
            },
          );
        }
    climbs (i ∷ T) us k j s t (inr (q, g)) h over =
        let u = go_up_lem k j (i ∷ T) s t h over in
        let c = climbs T us (suc k) i u.strolled u.stacked g
        (u.here ∙ ap (next rot) q ∙ three (opposite (D i)) (over_in i) (node_good k b waits ts s i (below_earlier u)))
        (λ x e a. absurd (up≢second (sym u.letter ∙ ap ℓ (sym (suc_is x k e)) ∙ a))) in
        record { position = c.position; edges = c.edges ∙ u.edges; faces = c.faces ∙ u.faces; stands = c.stands }
      where
        below_earlier : Upped k j (i ∷ T) b waits ts → i < k
        below_earlier u = let (l, d) = tree_opener ℓ (suc k) i T u.stacked in eq_split i k (λ e. absurd (down≢up (sym d ∙ ap ℓ e ∙ u.letter))) (λ n. omega arith)

        suc_is : (x y : ℕ) → suc x ≡ suc y → x ≡ y
        suc_is x y e = omega arith
