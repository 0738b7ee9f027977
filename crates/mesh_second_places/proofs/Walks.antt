-- The walk of a mesh's dual in the work area, place by place.
--
--   hung_size            fewer second places are to come than tree edges are open
--   count_few            how many faces are seen
--   Ranges, ranges       what stands in s is in range
--   root_dual, dart_in, over_in   the root, the darts and their opposites are darts
--   few_darts, waiting_is, halves_is   there are not many; how many edges wait, and how many second places are still to come
--   mark_is              a mark, in the work area
use Prim.Native.Nat.{ℕ, suc, ◌≤◌, ◌<◌}
use native.Mathlib.Omega.{arith}
use mathlib.Core.Path.{◌≡◌, sym, ap, subst, ◌∙◌}
use mathlib.Core.Logic.{inl, inr, ◌≢◌}
use mathlib.Core.List.{List, [], ◌∷◌}
use lib.ListN.{length, get_or, length-map}
use Rattle.model.specs.Map.{opposite}
use Rattle.model.specs.Traversal.{Letter}
use Rattle.model.specs.Mesh.{dual_of}
use Rattle.orbits.proofs.Tally.{count_le}
use Rattle.words.specs.Brackets.{tree_stack, chord_stack}
use Rattle.words.specs.Entered.{is_down}
use Rattle.words.specs.Position.{opened, vertex_count}
use Rattle.words.proofs.Opened.{opened_few}
use Rattle.traversal.specs.Steps.{dart, letter_after}
use Rattle.traversal.proofs.Steps.{dart_bound, across_bound}
use Rattle.forward.proofs.Tops.{stacks_size}
use Rattle.duals.proofs.Duals.{length_dual}
use Rattle.tracing.proofs.Places.{mark_at}
use Rattle.mesh_trails.specs.Strolls.{Strolled, place, Hung}
use Rattle.mesh_trails.proofs.Strolls.{within}
use Rattle.mesh_second_places.specs.declared.Stroll.{Stroll}
use Rattle.mesh_second_places.specs.Walks.{Good, Held}
use Rattle.mesh_second_places.proofs.Dual.{turn, cross, few}
use Rattle.mesh_second_places.proofs.Views.{open_count, half_count}

pub hung_size : (rot : List ℕ) (r : ℕ) (T us : List ℕ) → Hung rot r T us → length us < length T
unfolding Hung
hung_size rot r [] us h = absurd h
hung_size rot r (j ∷ []) us (z, e) = let l = ap length e in omega arith
hung_size rot r (j ∷ (i ∷ T)) us (inl (vs, e, q, g)) = let l = ap length e in let m = hung_size rot r (i ∷ T) vs g in omega arith
hung_size rot r (j ∷ (i ∷ T)) us (inr (q, g)) = let m = hung_size rot r (i ∷ T) us g in omega arith

pub count_few : (ℓ : ℕ → Letter) (k : ℕ) → (1 ≤ vertex_count ℓ k) × (vertex_count ℓ k ≤ suc k)
unfolding vertex_count
count_few ℓ k = let c = count_le (λ j. is_down (ℓ j)) k in (omega arith, omega arith)

-- ---- what stands in s is in range

pub record Ranges (n : ℕ) (s : Stroll) : Type 0 where
  pub few_darts : n ≤ 8192
  pub edges : s.edges < n
  pub faces : s.faces ≤ n
  pub some_face : 1 ≤ s.faces
  pub waiting : s.waiting < n
  pub halves : s.halves < n

module _ (order w : List ℕ) (s : Stroll) (k : ℕ) (us b waits ts : List ℕ) (g : Held order w s k us b waits ts) where
  abbrev n : ℕ
  n = length order

  abbrev rot : List ℕ
  rot = dual_of order

  abbrev r : ℕ
  r = s.root

  abbrev ℓ : ℕ → Letter
  ℓ = letter_after rot r

  abbrev D : ℕ → ℕ
  D = dart rot r

  size : length rot ≡ n
  size = length_dual order

  pub root_dual : s.root < length (dual_of order)
  root_dual = subst (λ (m : ℕ). r < m) (sym size) g.root_in

  pub few_darts : length order ≤ 8192
  few_darts = subst (λ (m : ℕ). m ≤ 8192) size (few order g.count g.perm)

  pub waiting_is : s.waiting ≡ length waits
  waiting_is = sym (open_count n s.waiting s.halves w b waits _ _ _ ts g.view)

  pub halves_is : s.halves ≡ length us
  halves_is = sym (half_count n s.waiting s.halves w b waits _ _ _ ts g.view) ∙ length-map us (place rot r)

  pub dart_in : (j : ℕ) → dart (dual_of order) s.root j < length order
  dart_in j = subst (λ (m : ℕ). D j < m) size (dart_bound rot r (turn order g.count g.perm) (cross order g.count g.perm) root_dual j)

  pub over_in : (j : ℕ) → opposite (dart (dual_of order) s.root j) < length order
  over_in j = subst (λ (m : ℕ). opposite (D j) < m) size (across_bound rot r (turn order g.count g.perm) (cross order g.count g.perm) root_dual j)

  pub mark_is : (x : ℕ) → x < length order → get_or b x 0 ≡ get_or w x 0
  mark_is x h = ap (λ (l : List ℕ). get_or l x 0) (sym g.view.marks) ∙ mark_at n w x h

  module _ (ts' : List ℕ) (st : Strolled (Good order) (dual_of order) s.root k b waits ts') (on : 0 < k → dart (dual_of order) s.root k ≢ s.root)
      (T : List ℕ) (e_t : tree_stack (letter_after (dual_of order) s.root) k ≡ T) (fits : length us ≤ length T) where
    pub ranges : Ranges (length order) s
    ranges =
        let m : k < n = subst (λ (m : ℕ). k < m) size
        (within (Good order) rot r (turn order g.count g.perm) (cross order g.count g.perm) root_dual k b waits ts' st on) in
        let o = opened_few ℓ k in
        let z = stacks_size ℓ k in
        let e = g.edges in
        let f = g.faces in
        let c = count_few ℓ k in
        let t = ap length e_t in
        let h = halves_is in
        let i = waiting_is in
        let j = ap length st.trail.stacked ∙ length-map (chord_stack ℓ k) (opened ℓ) in
        record {
          few_darts = few_darts;
          edges = omega arith;
          faces = omega (arith, c.1);
          some_face = omega (arith, c.0);
          waiting = omega arith;
          halves = omega arith;
        }
