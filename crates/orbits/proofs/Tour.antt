-- The faces of a map are those of the chord diagram that a tour makes of it, and its vertices those of the dual's. Assumes nothing.
--
--   tour_perm          the tour that crosses a set of edges is a permutation
--   diagram_inv        the diagram is an involution
--   faces_tour         it has the map's faces
--   map_faces_le, map_nested, map_faces   so with k chords a map has at most k + 1 faces, and that many exactly where the diagram is nested
--   dual               the tour as it is seen from the dual map, in which the tree's edges are the chords
--   κ, ν, ε            the chords outside the tree, those of the tree, and all of them
--   ε-inv, edges       all are an involution, and as many as both together
--   euler_le, euler_nested, nested_euler   V + F ≤ E + 2, with equality exactly where both diagrams are nested
use Prim.Native.Nat.{ℕ, zero, suc, ◌+◌, ◌≤◌, ◌<◌}
use native.Mathlib.Nat.{le_of_eq}
use native.Mathlib.Omega.{arith}
use mathlib.Core.Path.{◌≡◌, refl, sym, ap, subst, ◌∙◌}
use mathlib.Core.Bool.{Bool, true, false, not, cond, ◌||◌, or-false}
use lib.Dec.{T, ltb}
use borrow.Author.Tests.{le-ltb}
use Rattle.model.specs.Numbers.{cycles}
use Rattle.orbits.specs.Permutation.{Perm}
use Rattle.orbits.specs.Chord.{Involution, opener, chords, next, φ, faces, Nested}
use Rattle.orbits.specs.Tour.{face, tour_next, chord, Tour, diagram, rest}
use Rattle.orbits.proofs.Chord.{φ-perm, crossed_perm, faces_le, nested_of_faces, faces_of_nested}
use Rattle.orbits.proofs.Tally.{count_ext, count_either}
use Rattle.orbits.proofs.Transversal.{cycles_conj, cycles_ext}

-- ---- the tour that crosses a set of edges

module _ (N : ℕ) (σ α : ℕ → ℕ) (turn : Perm N σ) (cross : Involution N α) (t : ℕ → Bool) (whole : (d : ℕ) → d < N → t (α d) ≡ t d) where
  -- across the edges of the set
  abbrev ψ : ℕ → ℕ
  ψ d = cond (t d) (α d) d

  crossed_bound : (b : Bool) (d : ℕ) → d < N → cond b (α d) d < N
  crossed_bound true d h = cross.bound d h
  crossed_bound false d h = h

  crossed_back : (b : Bool) (d : ℕ) → d < N → t d ≡ b → ψ (cond b (α d) d) ≡ d
  crossed_back true d h e = ap (λ (c : Bool). cond c (α (α d)) (α d)) (whole d h ∙ e) ∙ cross.back d h
  crossed_back false d h e = ap (λ (c : Bool). cond c (α d) d) e

  crossed_on : (b : Bool) (d : ℕ) → cond b (σ (α d)) (σ d) ≡ σ (cond b (α d) d)
  crossed_on true d = refl
  crossed_on false d = refl

  pub tour_perm : Perm N (tour_next σ α t)
  tour_perm = record {
    bound = λ d h. subst (λ (x : ℕ). x < N) (sym (crossed_on (t d) d)) (turn.bound (ψ d) (crossed_bound (t d) d h));
    inj = λ d e hd he q.
        let same : ψ d ≡ ψ e = turn.inj (ψ d) (ψ e) (crossed_bound (t d) d hd) (crossed_bound (t e) e he)
        (sym (crossed_on (t d) d) ∙ q ∙ crossed_on (t e) e) in
        sym (crossed_back (t d) d hd refl) ∙ ap ψ same ∙ crossed_back (t e) e he refl;
  }

-- ---- faces

module _ (N : ℕ) (σ α : ℕ → ℕ) (tree : ℕ → Bool) (pos dart : ℕ → ℕ) (t : Tour N σ α tree pos dart) where
  abbrev μ : ℕ → ℕ
  μ = diagram α tree pos dart

  face_perm : Perm N (face σ α)
  face_perm = crossed_perm N α t.cross σ t.turn

  -- by whether a dart is in the tree
  chord_bound : (b : Bool) (d : ℕ) → d < N → cond b d (α d) < N
  chord_bound true d h = h
  chord_bound false d h = t.cross.bound d h

  chord_back : (b : Bool) (d : ℕ) → d < N → tree d ≡ b → chord α tree (cond b d (α d)) ≡ d
  chord_back true d h e = ap (λ (c : Bool). cond c d (α d)) e
  chord_back false d h e = ap (λ (c : Bool). cond c (α d) (α (α d))) (t.whole d h ∙ e) ∙ t.cross.back d h

  -- the face's step is the tour's step from the chord's other end
  face_step : (b : Bool) (d : ℕ) → d < N → tree d ≡ b → face σ α d ≡ tour_next σ α tree (cond b d (α d))
  face_step true d h e = ap (λ (c : Bool). cond c (σ (α d)) (σ d)) (sym e)
  face_step false d h e = ap (λ (c : Bool). cond c (σ (α (α d))) (σ (α d))) (sym (t.whole d h ∙ e))

  pub diagram_inv : Involution N μ
  diagram_inv = record {
    bound = λ i h. t.pos_bound (chord α tree (dart i)) (chord_bound (tree (dart i)) (dart i) (t.dart_bound i h));
    back = λ i h.
        let d = dart i in
        let hd : d < N = t.dart_bound i h in
        let hc : chord α tree d < N = chord_bound (tree d) d hd in
        ap (λ (x : ℕ). pos (chord α tree x)) (t.dart_pos (chord α tree d) hc) ∙ ap pos (chord_back (tree d) d hd refl) ∙ t.pos_dart i h;
  }

  face_pos : (d : ℕ) → d < N → pos (face σ α d) ≡ φ μ N (pos d)
  unfolding φ
  face_pos d h =
      ap pos (face_step (tree d) d h refl) ∙ t.step (chord α tree d) (chord_bound (tree d) d h)
      ∙ ap (λ (x : ℕ). next N (pos (chord α tree x))) (sym (t.dart_pos d h))

  pub faces_tour : faces μ N ≡ cycles (face σ α) N
  unfolding faces
  faces_tour = cycles_conj N (φ μ N) (φ-perm N μ diagram_inv) N (face σ α) face_perm pos dart
      (record { t_bound = t.pos_bound; t_step = face_pos; s_bound = t.dart_bound; t_s = t.pos_dart })
      t.dart_pos

  pub map_faces_le : cycles (face σ α) N ≤ suc (chords μ N)
  map_faces_le = subst (λ (f : ℕ). f ≤ suc (chords μ N)) faces_tour (faces_le N μ diagram_inv)

  pub map_nested : cycles (face σ α) N ≡ suc (chords μ N) → Nested μ N
  map_nested e = nested_of_faces N μ diagram_inv (faces_tour ∙ e)

  pub map_faces : zero < N → Nested μ N → cycles (face σ α) N ≡ suc (chords μ N)
  map_faces h nested = sym faces_tour ∙ faces_of_nested N μ diagram_inv h nested

-- ---- the vertices: the tour as it is seen from the dual map, in which the tree's edges are the chords

module _ (N : ℕ) (σ α : ℕ → ℕ) (tree : ℕ → Bool) (pos dart : ℕ → ℕ) (t : Tour N σ α tree pos dart) where
  abbrev δ : ℕ → ℕ
  δ d = σ (α d)

  -- across an edge and on along the face's turn is about the vertex
  turn_face : (d : ℕ) → d < N → δ (α d) ≡ σ d
  turn_face d h = ap σ (t.cross.back d h)

  onward_dual : (b : Bool) (d : ℕ) → d < N → cond (not b) (δ (α d)) (δ d) ≡ cond b (σ (α d)) (σ d)
  onward_dual true d h = refl
  onward_dual false d h = turn_face d h

  pub dual : Tour N δ α (rest tree) pos dart
  dual = record {
    turn = face_perm N σ α tree pos dart t;
    cross = t.cross;
    whole = λ d h. ap not (t.whole d h);
    pos_bound = t.pos_bound;
    dart_bound = t.dart_bound;
    dart_pos = t.dart_pos;
    pos_dart = t.pos_dart;
    step = λ d h. ap pos (onward_dual (tree d) d h) ∙ t.step d h;
  }

  -- the chords of the dual are the edges of the tree, and its faces are the vertices
  abbrev pub ν : ℕ → ℕ
  ν = diagram α (rest tree) pos dart

  vertices : cycles σ N ≡ cycles (face δ α) N
  vertices = cycles_ext N σ (face δ α) t.turn (face_perm N δ α (rest tree) pos dart dual) turn_face

  -- ---- Euler's formula

  abbrev pub κ : ℕ → ℕ
  κ = diagram α tree pos dart

  -- where every edge is a chord
  abbrev pub ε : ℕ → ℕ
  ε i = pos (α (dart i))

  pub ε-inv : Involution N ε
  ε-inv = record {
    bound = λ i h. t.pos_bound (α (dart i)) (t.cross.bound (dart i) (t.dart_bound i h));
    back = λ i h.
        ap (λ (d : ℕ). pos (α d)) (t.dart_pos (α (dart i)) (t.cross.bound (dart i) (t.dart_bound i h)))
        ∙ ap pos (t.cross.back (dart i) (t.dart_bound i h)) ∙ t.pos_dart i h;
  }

  no_opener : (i : ℕ) → i < N → opener (λ k. pos (dart k)) i ≡ false
  no_opener i h = le-ltb i (pos (dart i)) (le_of_eq (t.pos_dart i h))

  -- an opener is one of a chord or one of the tree, and not both
  one_of : (b : Bool) (i : ℕ) → i < N → (ltb i (pos (cond b (dart i) (α (dart i)))) || ltb i (pos (cond (not b) (dart i) (α (dart i))))) ≡ opener ε i
  one_of true i h = ap (λ (c : Bool). c || opener ε i) (no_opener i h)
  one_of false i h = ap (λ (c : Bool). opener ε i || c) (no_opener i h) ∙ or-false (opener ε i)

  not_both : (b : Bool) (i : ℕ) → i < N → T (ltb i (pos (cond b (dart i) (α (dart i))))) → T (ltb i (pos (cond (not b) (dart i) (α (dart i))))) → ⊥
  not_both true i h u v = subst T (no_opener i h) u
  not_both false i h u v = subst T (no_opener i h) v

  pub edges : chords ε N ≡ chords κ N + chords ν N
  unfolding chords
  edges =
      sym (count_ext (λ i. opener κ i || opener ν i) (opener ε) N (λ i h. one_of (tree (dart i)) i h))
      ∙ count_either (opener κ) (opener ν) N (λ i h. not_both (tree (dart i)) i h)

  few_vertices : cycles σ N ≤ suc (chords ν N)
  few_vertices = subst (λ (v : ℕ). v ≤ suc (chords ν N)) (sym vertices) (map_faces_le N δ α (rest tree) pos dart dual)

  few_faces : cycles (face σ α) N ≤ suc (chords κ N)
  few_faces = map_faces_le N σ α tree pos dart t

  -- V + F ≤ E + 2
  pub euler_le : cycles σ N + cycles (face σ α) N ≤ chords ε N + 2
  euler_le = omega (arith, few_vertices, few_faces, edges)

  -- where they are equal, both the chords and the tree are nested
  pub euler_nested : cycles σ N + cycles (face σ α) N ≡ chords ε N + 2 → Nested κ N × Nested ν N
  euler_nested e = (
    map_nested N σ α tree pos dart t (omega (arith, few_vertices, few_faces, edges)),
    map_nested N δ α (rest tree) pos dart dual (sym vertices ∙ omega (arith, few_vertices, few_faces, edges)),
  )

  -- and the other way round
  pub nested_euler : zero < N → Nested κ N → Nested ν N → cycles σ N + cycles (face σ α) N ≡ chords ε N + 2
  nested_euler h u v = omega (arith, vertices, map_faces N σ α tree pos dart t h u, map_faces N δ α (rest tree) pos dart dual h v, edges)
