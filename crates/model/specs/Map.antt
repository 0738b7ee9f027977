-- A plan (document 01) is a rooted map: a rotation of darts and a root dart. `rot` is always the rotation, a list of N = 2m numbers.
--
--   Plan                 a rotation, a root and a dart of the outer face
--   opposite d           the other dart of d's edge
--   next rot d           the next dart counterclockwise around d's vertex
--   vertex_of rot d       d's vertex, named by its least dart
--   face_next rot d       one step of d's face
--   face_of rot d         d's face, named by its least dart
--   edges, vertices, faces rot   how many there are
--   face_lengths rot      how many darts each face has
--   degree_one rot d      d is alone at its vertex
--   spread, spreads      one round of marks that spread by opposites and entries, and so many rounds
--   reached rot          the darts reached from dart 0, as 0/1 marks
--   connected rot        every dart is reached
--   characteristic rot   vertices minus edges plus faces, a signed number
--   is z n               the integer z is the number n
--   planar rot           the characteristic is 2
--   has_loop rot          some edge has both darts at one vertex
--   has_dead_end p         some vertex other than the root's has degree one
--   is_triangle rot d     d's face has three darts, of three different edges
--   has_other_face rot     some face is not such a triangle
--   is_family f           f is a kind without the outside's bytes: 1, 2, 3 or 4
--   stores_outside k      k is a kind with them: 101h, 102h or 104h
--   is_kind k             k is a kind of record
--   family k             the kind k without the outside's bytes
--   edge_count_fits m      m is an edge count that a plan may have; dart_count_fits n, n is a dart count
--   takes_loops f         kinds of family f take plans with loops
--   loop_refused f rot    they do not take a plan with this rotation for its loop
--   face_refused f rot    nor for a face that is no triangle
--   degree_refused f p    they do not take p for its dead end
--   outside_refused k p   kind k stores the outside, and p has no such dart
--   fit k p              the plan p is fit for kind k
use Rattle.std.specs.Prelude.{ℕ, zero, suc, ◌-◌, ◌*◌, ◌/◌, ◌%◌, Bool, false, not, ◌&&◌, ◌||◌, cond, List, [], ◌∷◌, eqb, ltb, leb, ℤ, pos, negsuc, ◌+ℤ◌, ◌-ℤ◌, length, get_or, set, replicate}
use Rattle.model.specs.Numbers.{some, elem, least, cycles, cycle_sizes, is_permutation}

-- "A plan has m trails .. and 2m darts (trail ends), numbered from 0": an edge is a trail, a dart a trail end, the rotation the turning order,
-- the root the start. Document 02 (e): "A plan gains an outside dart, any dart on that area's walk."
pub record Plan : Type 0 where
  pub rotation : List ℕ
  pub root : ℕ
  pub outside : ℕ

-- "the list's length is the dart count"
abbrev pub darts : Plan → ℕ
darts p = length p.rotation

-- "Darts 2e and 2e+1 are the two ends of trail e, each the opposite of the other."
unfoldable pub opposite : ℕ → ℕ
opposite d = suc d - 2 * (d % 2)

-- "entry d is the next dart counterclockwise around d's junction"
unfoldable pub next : List ℕ → ℕ → ℕ
next rot d = get_or rot d 0

-- "Its cycles are the junctions": a vertex is a junction.
unfoldable pub vertex_of : List ℕ → ℕ → ℕ
vertex_of rot d = least (next rot) (length rot) d

-- "An area walk goes from dart d to the entry at the opposite of d; its cycles are the areas": a face is an area.
unfoldable pub face_next : List ℕ → ℕ → ℕ
face_next rot d = next rot (opposite d)

unfoldable pub face_of : List ℕ → ℕ → ℕ
face_of rot d = least (face_next rot) (length rot) d

unfoldable pub edges : List ℕ → ℕ
edges rot = length rot / 2

unfoldable pub vertices : List ℕ → ℕ
vertices rot = cycles (next rot) (length rot)

unfoldable pub faces : List ℕ → ℕ
faces rot = cycles (face_next rot) (length rot)

-- document 02 (d): "for each area its number of darts, areas in the order of their lowest dart"
unfoldable pub face_lengths : List ℕ → List ℕ
face_lengths rot = cycle_sizes (face_next rot) (length rot)

-- "a junction with one dart has degree one"
unfoldable pub degree_one : List ℕ → ℕ → Bool
degree_one rot d = eqb (next rot d) d

-- ---- "A plan is connected when every dart is reached from dart 0 by opposites and entries."

-- every marked dart below n marks its opposite and its entry
unfoldable pub spread : List ℕ → ℕ → List ℕ → List ℕ
spread rot zero marks = marks
spread rot (suc d) marks =
    let so_far = spread rot d marks in cond (eqb (get_or so_far d 0) 0) so_far (set (set so_far (opposite d) 1) (next rot d) 1)

unfoldable pub spreads : List ℕ → ℕ → List ℕ → List ℕ
spreads rot zero marks = marks
spreads rot (suc k) marks = spreads rot k (spread rot (length rot) marks)

unfoldable pub reached : List ℕ → List ℕ
reached rot = spreads rot (length rot) (set (replicate (length rot) 0) 0 1)

unfoldable pub connected : List ℕ → Bool
connected rot = not (some (λ d. eqb (get_or (reached rot) d 0) 0) (length rot))

-- ---- "A connected plan is planar when its characteristic, junctions minus trails plus areas, is 2."

unfoldable pub characteristic : List ℕ → ℤ
characteristic rot = (pos (vertices rot) -ℤ pos (edges rot)) +ℤ pos (faces rot)

-- an integer is the number n
abbrev pub is : ℤ → ℕ → Bool
is (pos k) n = eqb k n
is (negsuc k) n = false

unfoldable pub planar : List ℕ → Bool
planar rot = is (characteristic rot) 2

-- "A loop is a trail whose two darts belong to one junction."
unfoldable pub has_loop : List ℕ → Bool
has_loop rot = some (λ d. eqb (vertex_of rot d) (vertex_of rot (opposite d))) (length rot)

-- document 02 (a): "a degree-one junction other than the start's"
unfoldable pub has_dead_end : Plan → Bool
has_dead_end p =
    some (λ d. degree_one p.rotation d && not (eqb (vertex_of p.rotation d) (vertex_of p.rotation p.root))) (darts p)

-- document 02 (f): "three darts of three different trails"
unfoldable pub is_triangle : List ℕ → ℕ → Bool
is_triangle rot d =
    let e = face_next rot d in
    let f = face_next rot e in
    eqb (face_next rot f) d && (not (eqb (d / 2) (e / 2)) && (not (eqb (e / 2) (f / 2)) && not (eqb (f / 2) (d / 2))))

unfoldable pub has_other_face : List ℕ → Bool
has_other_face rot = some (λ d. not (is_triangle rot d)) (length rot)

-- ---- fitness

-- 2. "The kind is not 1 or 2"; of kind 4, document 02 (c): "2 now admits it", and so of kind 3, (f)
unfoldable pub is_family : ℕ → Bool
is_family f = elem f (1 ∷ 2 ∷ 3 ∷ 4 ∷ [])

-- document 02 (e): "Kinds 101h, 102h and 104h are 1, 2 and 4 with two more bytes"
unfoldable pub stores_outside : ℕ → Bool
stores_outside k = elem k (0x101 ∷ 0x102 ∷ 0x104 ∷ [])

unfoldable pub is_kind : ℕ → Bool
is_kind k = is_family k || stores_outside k

unfoldable pub family : ℕ → ℕ
family k = cond (stores_outside k) (k - 0x100) k

-- "A plan has m trails, m from 1 to 4,096, and 2m darts"
abbrev pub edge_count_fits : ℕ → Bool
edge_count_fits m = ltb 0 m && leb m 4096

unfoldable pub dart_count_fits : ℕ → Bool
dart_count_fits n = eqb (n % 2) 0 && edge_count_fits (n / 2)

-- "Kind 1 takes connected planar plans with no loop and no junction of degree one", by document 02 (a) none "other than the start's". "Kind 2 takes
-- connected planar plans with no loop." Document 02 (c): "Kind 4 takes any connected planar plan"; "Refusals 11 and 12 never concern this kind". Of kind 3,
-- document 02 (f): "A loop is 11 here too"; "18, an area that is not three darts of three different trails".
abbrev pub takes_loops : ℕ → Bool
takes_loops f = eqb f 4

unfoldable pub loop_refused : ℕ → List ℕ → Bool
loop_refused f rot = not (takes_loops f) && has_loop rot

unfoldable pub face_refused : ℕ → List ℕ → Bool
face_refused f rot = eqb f 3 && has_other_face rot

unfoldable pub degree_refused : ℕ → Plan → Bool
degree_refused f p = eqb f 1 && has_dead_end p

-- document 02 (e): "only in writing the new kinds: 17, outside dart not below the dart count"
unfoldable pub outside_refused : ℕ → Plan → Bool
outside_refused k p = stores_outside k && not (ltb p.outside (darts p))

-- "A plan as set down here, its entries all different and, like the start, below the dart count, is fit for each kind that takes it." Document 02 (e): so is
-- the outside, in a kind that stores it.
unfoldable pub fit : ℕ → Plan → Bool
fit k p =
    is_kind k && (dart_count_fits (darts p) && (ltb p.root (darts p) && (not (outside_refused k p) && (is_permutation p.rotation
    && (connected p.rotation && (planar p.rotation && (not (loop_refused (family k) p.rotation)
    && (not (face_refused (family k) p.rotation) && not (degree_refused (family k) p)))))))))
