-- The contour walk (document 01), a depth-first traversal of the map, and the standard numbering that it gives.
--
--   Letter               what the walk does at a dart: down, up, first, second
--   code l               a letter as a number; 0 stands for a dart not met yet
--   Visit                a dart and its letter
--   letter_at             the letter of a dart, from what is met and seen so far
--   onward rot l d       the dart after d
--   seen_after            the vertices seen after d is met
--   walk                 the visits from a dart on, until the walk is back at the root
--   visits p             the whole walk
--   word p               its letters
--   opens l              at this letter an edge is met first
--   standard_numbers p    for each dart its standard number; number, from a list of visits
--   renumbered           a rotation in new numbers
--   standard_rotation p   the rotation in standard numbers
--   standard_face p d     the face of d, named by its least standard number
--   standard_plan p       the plan in standard numbers: root 0, and the least dart of the outer face
use Rattle.std.specs.Prelude.{ℕ, zero, suc, ◌+◌, ◌*◌, Bool, true, false, cond, List, [], ◌∷◌, map, eqb, get_or, set, replicate}
use Rattle.model.specs.Map.{Plan, darts, opposite, next, vertex_of, face_of}

-- down: across a tree edge to a vertex not yet seen. up: the arrival dart, on the way back. first, second: the dart met first and the one met
-- second of an edge that is no tree edge.
pub data Letter : Type 0 where
  down up first second : Letter

abbrev pub code : Letter → ℕ
code down = 1
code up = 2
code first = 3
code second = 4

pub record Visit : Type 0 where
  pub dart : ℕ
  pub letter : Letter

-- `met` has the code of each dart's letter, `seen` a 1 at the name of each vertex seen.
-- "At each dart, if the opposite belongs to a junction not yet seen, the trail is a tree trail: go across .. Otherwise the dart is only noted."
-- The arrival dart of a vertex is the one whose opposite went down.
unfoldable pub letter_at : List ℕ → List ℕ → List ℕ → ℕ → Letter
letter_at rot met seen d =
    cond (eqb (get_or met (opposite d) 0) 0) (cond (eqb (get_or seen (vertex_of rot (opposite d)) 0) 0) down first)
    (cond (eqb (get_or met (opposite d) 0) (code down)) up second)

-- "go across, treat that junction's darts from the entry after the arrival dart round to it, come back, and go on to the next entry at the first
-- junction": after down and up the next dart is the entry at the opposite, after the others the entry at the dart itself.
unfoldable pub onward : List ℕ → Letter → ℕ → ℕ
onward rot down d = next rot (opposite d)
onward rot up d = next rot (opposite d)
onward rot first d = next rot d
onward rot second d = next rot d

-- the vertices seen after d is met
unfoldable pub seen_after : List ℕ → Letter → ℕ → List ℕ → List ℕ
seen_after rot down d seen = set seen (vertex_of rot (opposite d)) 1
seen_after rot up d seen = seen
seen_after rot first d seen = seen
seen_after rot second d seen = seen

-- at most n visits, from d on. "The start junction .. ends when the walk is round to the start dart."
unfoldable pub walk : List ℕ → ℕ → ℕ → ℕ → List ℕ → List ℕ → List Visit
walk rot root zero d met seen = []
walk rot root (suc n) d met seen =
    let l = letter_at rot met seen d in
    let e = onward rot l d in
    let rest = walk rot root n e (set met d (code l)) (seen_after rot l d seen) in
    record { dart = d; letter = l } ∷ cond (eqb e root) [] rest

-- "Begin at the start dart. .. The start junction counts as seen"
unfoldable pub visits : Plan → List Visit
visits p =
    walk p.rotation p.root (darts p) p.root (replicate (darts p) 0)
    (set (replicate (darts p) 0) (vertex_of p.rotation p.root) 1)

unfoldable pub word : Plan → List Letter
word p = map (λ v. v.letter) (visits p)

-- ---- "Trails are renumbered 0, 1, .. as first met; the dart of trail e met first becomes 2e, the other 2e+1. The start becomes 0."

abbrev pub opens : Letter → Bool
opens down = true
opens up = false
opens first = true
opens second = false

-- e edges have their numbers
unfoldable pub number : List Visit → ℕ → List ℕ → List ℕ
number [] e numbers = numbers
number (v ∷ vs) e numbers =
    cond (opens v.letter) (number vs (suc e) (set (set numbers v.dart (2 * e)) (opposite v.dart) (2 * e + 1)))
    (number vs e numbers)

unfoldable pub standard_numbers : Plan → List ℕ
standard_numbers p = number (visits p) 0 (replicate (darts p) 0)

-- the entry at the new number of d is the new number of the entry at d, for the darts d below n
unfoldable pub renumbered : List ℕ → List ℕ → ℕ → List ℕ → List ℕ
renumbered numbers rot zero out = out
renumbered numbers rot (suc d) out = set (renumbered numbers rot d out) (get_or numbers d 0) (get_or numbers (next rot d) 0)

unfoldable pub standard_rotation : Plan → List ℕ
standard_rotation p = renumbered (standard_numbers p) p.rotation (darts p) (replicate (darts p) 0)

-- document 02 (e): "the lowest standard dart of the outside area", and of any dart's
unfoldable pub standard_face : Plan → ℕ → ℕ
standard_face p d = face_of (standard_rotation p) (get_or (standard_numbers p) d 0)

unfoldable pub standard_plan : Plan → Plan
standard_plan p = record { rotation = standard_rotation p; root = 0; outside = standard_face p p.outside }
