-- Laws of fitness: what `fit k p` says, part by part. The laws of opposites and of permutations as lists are passed on from here.
--
--   Fit, fit_parts, parts_fit    the parts of fitness
--   edges_parts, parts_edges     an edge count that fits is from 1 to 4,096; edges-unfit, one that does not is not
--   count_parts, parts_count     a dart count that fits is positive, even and at most 8,192; count-unfit, one that does not is not
--   count_positive, count_even   its first two parts
--   even_darts                   the dart count is twice the number of edges
--   connected_at, at_connected   every dart is reached
--   outside_dart, dart_outside   where the outside is stored it is a dart, or 17 is given
--   loopless, no_loop_refused    where 11 is not given and the family takes no loops there is none; and 11 is not given if there is none, or the family takes them
--   loopless_at, at_loopless     no edge has both its darts at one vertex
--   dead_end_at_lem, at_dead_end     some dart is alone at its vertex, which is not the root's
use mathlib.Core.Path.{◌≡◌, refl, ap}
use mathlib.Core.Logic.{◌≢◌}
use mathlib.Core.Bool.{Bool, true, false, not, ◌&&◌}
use Prim.Native.Nat.{ℕ, ◌*◌, ◌/◌, ◌%◌, ◌≤◌, ◌<◌}
use native.Mathlib.Omega.{arith}
use mathlib.Core.List.{List}
use lib.Dec.{eqb, ltb}
use lib.ListN.{length, get_or}
use borrow.Author.Tests.{ltb-true, eqb-true, eqb-false, leb-true, lt-ltb, eq-eqb, ne_eqb, le-leb, not-true, not-false}
use Rattle.model.specs.Numbers.{is_permutation}
use Rattle.model.specs.Map.{Plan, darts, opposite, next, vertex_of, edges, is_kind, edge_count_fits, dart_count_fits, degree_one, reached, connected, planar, has_loop, has_dead_end, family, stores_outside, takes_loops, outside_refused, loop_refused, face_refused, degree_refused, fit}
use Rattle.model.proofs.Booleans.{and_left, and_right, both, not_intro, some_at, some_in, some_no, no_some}
pub use Rattle.model.proofs.Opposite.{opposite_opposite, opposite_ne, opposite_bound, opposite_edge}
pub use Rattle.model.proofs.Permutations.{below_all, distinct_at, position_entry}

pub record Fit (k : ℕ) (p : Plan) : Type 0 where
  pub kind : is_kind k ≡ true
  pub count : dart_count_fits (darts p) ≡ true
  pub root : p.root < darts p
  pub outside : outside_refused k p ≡ false
  pub entries : is_permutation p.rotation ≡ true
  pub joined : connected p.rotation ≡ true
  pub flat : planar p.rotation ≡ true
  pub loops : loop_refused (family k) p.rotation ≡ false
  pub triangles : face_refused (family k) p.rotation ≡ false
  pub degrees : degree_refused (family k) p ≡ false

module _ (k : ℕ) (p : Plan) where
  pub fit_parts : fit k p ≡ true → Fit k p
  unfolding fit
  fit_parts e =
      let e3 = and_right (is_kind k) _ e in
      let e4 = and_right (dart_count_fits (darts p)) _ e3 in
      let e17 = and_right (ltb p.root (darts p)) _ e4 in
      let e6 = and_right (not (outside_refused k p)) _ e17 in
      let e9 = and_right (is_permutation p.rotation) _ e6 in
      let e10 = and_right (connected p.rotation) _ e9 in
      let e11 = and_right (planar p.rotation) _ e10 in
      let e18 = and_right (not (loop_refused (family k) p.rotation)) _ e11 in
      record {
        kind = and_left (is_kind k) _ e;
        count = and_left (dart_count_fits (darts p)) _ e3;
        root = ltb-true p.root (darts p) (and_left (ltb p.root (darts p)) _ e4);
        outside = not-true (outside_refused k p) (and_left (not (outside_refused k p)) _ e17);
        entries = and_left (is_permutation p.rotation) _ e6;
        joined = and_left (connected p.rotation) _ e9;
        flat = and_left (planar p.rotation) _ e10;
        loops = not-true (loop_refused (family k) p.rotation) (and_left (not (loop_refused (family k) p.rotation)) _ e11);
        triangles = not-true (face_refused (family k) p.rotation) (and_left (not (face_refused (family k) p.rotation)) _ e18);
        degrees = not-true (degree_refused (family k) p) (and_right (not (face_refused (family k) p.rotation)) _ e18);
      }

  pub parts_fit : Fit k p → fit k p ≡ true
  unfolding fit
  parts_fit f = rw (f.kind, f.count, lt-ltb p.root (darts p) f.root, f.outside, f.entries, f.joined, f.flat, f.loops, f.triangles, f.degrees)

-- ---- the outside, by kind

pub outside_dart : (k : ℕ) (p : Plan) → outside_refused k p ≡ false → stores_outside k ≡ true → p.outside < darts p
unfolding outside_refused
outside_dart k p e s = ltb-true _ _ (not-false (ltb p.outside (darts p)) (rw s at e))

pub dart_outside : (k : ℕ) (p : Plan) → (stores_outside k ≡ true → p.outside < darts p) → outside_refused k p ≡ false
unfolding outside_refused
dart_outside k p h = go (stores_outside k) h
  where
    go : (b : Bool) → (b ≡ true → p.outside < darts p) → (b && not (ltb p.outside (darts p))) ≡ false
    go true h = ap not (lt-ltb p.outside (darts p) (h refl))
    go false h = refl

-- ---- loops, by family

pub loopless : (f : ℕ) (rot : List ℕ) → loop_refused f rot ≡ false → takes_loops f ≡ false → has_loop rot ≡ false
unfolding loop_refused
loopless f rot e t = rw t at e

pub no_loop_refused : (f : ℕ) (rot : List ℕ) → (takes_loops f ≡ false → has_loop rot ≡ false) → loop_refused f rot ≡ false
unfolding loop_refused
no_loop_refused f rot h = go (takes_loops f) h
  where
    go : (b : Bool) → (b ≡ false → has_loop rot ≡ false) → (not b && has_loop rot) ≡ false
    go true h = refl
    go false h = h refl

pub edges_parts : (m : ℕ) → edge_count_fits m ≡ true → (1 ≤ m) × (m ≤ 4096)
edges_parts m e = (ltb-true 0 m (and_left (ltb 0 m) _ e), leb-true m 4096 (and_right (ltb 0 m) _ e))

pub parts_edges : (m : ℕ) → 1 ≤ m → m ≤ 4096 → edge_count_fits m ≡ true
parts_edges m h l = both (lt-ltb 0 m h) (le-leb m 4096 l)

pub edges_unfit : (m : ℕ) → ((1 ≤ m) × (m ≤ 4096) → ⊥) → edge_count_fits m ≡ false
edges_unfit m f = not_intro (edge_count_fits m) (λ e. f (edges_parts m e))

pub count_parts : (n : ℕ) → dart_count_fits n ≡ true → (0 < n) × (n % 2 ≡ 0) × (n ≤ 8192)
unfolding dart_count_fits
count_parts n e =
    let even = eqb-true (n % 2) 0 (and_left (eqb (n % 2) 0) _ e) in
    let m = edges_parts (n / 2) (and_right (eqb (n % 2) 0) _ e) in
    (omega arith, even, omega arith)

pub parts_count : (n : ℕ) → 0 < n → n % 2 ≡ 0 → n ≤ 8192 → dart_count_fits n ≡ true
unfolding dart_count_fits
parts_count n h e l = both (eq-eqb (n % 2) 0 e) (parts_edges (n / 2) (omega arith) (omega arith))

pub count_unfit : (n : ℕ) → ((0 < n) × (n % 2 ≡ 0) × (n ≤ 8192) → ⊥) → dart_count_fits n ≡ false
count_unfit n f = not_intro (dart_count_fits n) (λ e. f (count_parts n e))

pub count_positive : (n : ℕ) → dart_count_fits n ≡ true → 0 < n
count_positive n e = (count_parts n e).0

pub count_even : (n : ℕ) → dart_count_fits n ≡ true → n % 2 ≡ 0
count_even n e = (count_parts n e).1

pub even_darts : (p : Plan) → dart_count_fits (darts p) ≡ true → darts p ≡ 2 * edges p.rotation
unfolding edges
even_darts p e = let c = count_parts (darts p) e in omega arith

-- ---- tests of every dart

module _ (rot : List ℕ) where
  pub connected_at : connected rot ≡ true → (d : ℕ) → d < length rot → get_or (reached rot) d 0 ≢ 0
  unfolding connected
  connected_at e d h = eqb-false (get_or (reached rot) d 0) 0 (some_no (λ d. eqb (get_or (reached rot) d 0) 0) (length rot) (not-true _ e) d h)

  pub at_connected : ((d : ℕ) → d < length rot → get_or (reached rot) d 0 ≢ 0) → connected rot ≡ true
  unfolding connected
  at_connected all = ap not (no_some (λ d. eqb (get_or (reached rot) d 0) 0) (length rot) (λ d h. ne_eqb (get_or (reached rot) d 0) 0 (all d h)))

  pub loopless_at : has_loop rot ≡ false → (d : ℕ) → d < length rot → vertex_of rot d ≢ vertex_of rot (opposite d)
  unfolding has_loop
  loopless_at e d h =
      eqb-false (vertex_of rot d) (vertex_of rot (opposite d)) (some_no (λ d. eqb (vertex_of rot d) (vertex_of rot (opposite d))) (length rot) e d h)

  pub at_loopless : ((d : ℕ) → d < length rot → vertex_of rot d ≢ vertex_of rot (opposite d)) → has_loop rot ≡ false
  unfolding has_loop
  at_loopless all = no_some (λ d. eqb (vertex_of rot d) (vertex_of rot (opposite d))) (length rot)
      (λ d h. ne_eqb (vertex_of rot d) (vertex_of rot (opposite d)) (all d h))

module _ (p : Plan) where
  abbrev vertex : ℕ → ℕ
  vertex d = vertex_of p.rotation d

  abbrev ends_at : ℕ → Bool
  ends_at d = degree_one p.rotation d && not (eqb (vertex d) (vertex p.root))

  pub dead_end_at_lem : has_dead_end p ≡ true → (d : ℕ) × (d < darts p) × (next p.rotation d ≡ d) × (vertex d ≢ vertex p.root)
  unfolding has_dead_end degree_one
  dead_end_at_lem e =
      let (d, h, a) = some_at ends_at (darts p) e in
      let alone = eqb-true (next p.rotation d) d (and_left (degree_one p.rotation d) _ a) in
      (d, h, alone, eqb-false (vertex d) (vertex p.root) (not-true _ (and_right (degree_one p.rotation d) _ a)))

  pub at_dead_end : (d : ℕ) → d < darts p → next p.rotation d ≡ d → vertex d ≢ vertex p.root → has_dead_end p ≡ true
  unfolding has_dead_end degree_one
  at_dead_end d h alone other =
      some_in ends_at (darts p) d h (both (eq-eqb (next p.rotation d) d alone) (ap not (ne_eqb (vertex d) (vertex p.root) other)))
