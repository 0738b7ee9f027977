-- Triangle meshes (document 02 (f)): the dual of a map, the node types of the dual's contour walk, and their codes (document 002, section 4).
--
--   dual_of rot            the dual's rotation: its vertices are the faces of the map, its faces the vertices
--   dual_plan p            the dual of a plan
--   letter_on q d          the letter of dart d in q's contour walk
--   node_type x y          the type of a node whose two places have the letters x and y; 0 where there is none
--   type_from q d          the type of the node that is entered across the dart d
--   type_at q l d          what a dart d with the letter l gives: a type at each down
--   types p               the node types of p's dual, in preorder, the start node left out
--   code_a t, type_bits ts  the bits of a type in code A, and of a list of types
--   digit_of t, type_digits ts   the digit of type 3, 4 or 5, and those of a list of types
use Rattle.std.specs.Prelude.{ℕ, zero, suc, List, [], ◌∷◌, ◌++◌, map, length, get_or}
use Rattle.model.specs.Numbers.{position, tabulate}
use Rattle.model.specs.Map.{Plan, opposite, next, face_next}
use Rattle.model.specs.Traversal.{Letter, down, up, first, second, visits, word}
use Rattle.model.specs.LabelledTree.{along}

-- "the dual, whose entry at dart d is the plan's entry at the opposite of d, with the same start"
unfoldable pub dual_of : List ℕ → List ℕ
dual_of rot = tabulate (face_next rot) 0 (length rot)

unfoldable pub dual_plan : Plan → Plan
dual_plan p = record { rotation = dual_of p.rotation; root = p.root; outside = p.outside }

-- ---- "The tree's five node types"

unfoldable pub letter_on : Plan → ℕ → Letter
letter_on q d = get_or (word q) (position d (map (λ v. v.dart) (visits q))) second

-- by first and second child: one that is no leaf is met by down, a leaf stands for first, a missing child for second
unfoldable pub node_type : Letter → Letter → ℕ
node_type down down = 1
node_type down up = 0
node_type down first = 3
node_type down second = 2
node_type up y = 0
node_type first down = 4
node_type first up = 0
node_type first first = 5
node_type first second = 0
node_type second y = 0

-- document 002: "Children of a node v are called first or second, according to their position in CCW order around v from its parent"
unfoldable pub type_from : Plan → ℕ → ℕ
type_from q d =
    let e = next q.rotation (opposite d) in
    node_type (letter_on q e) (letter_on q (next q.rotation e))

-- ".. are written in preorder, the start node left out": a node for each down
unfoldable pub type_at : Plan → Letter → ℕ → List ℕ
type_at q down d = type_from q d ∷ []
type_at q up d = []
type_at q first d = []
type_at q second d = []

unfoldable pub types : Plan → List ℕ
types p = along (type_at (dual_plan p)) (visits (dual_plan p))

-- ---- "in code A padded to a byte; then types 3, 4, 5 as digits 0, 1, 2 in groups of five"

-- document 002: "Type 1: 00. Type 2: 01. Types 3-5: 1"
unfoldable pub code_a : ℕ → List ℕ
code_a zero = []
code_a (suc zero) = 0 ∷ 0 ∷ []
code_a (suc (suc zero)) = 0 ∷ 1 ∷ []
code_a (suc (suc (suc n))) = 1 ∷ []

unfoldable pub type_bits : List ℕ → List ℕ
type_bits [] = []
type_bits (t ∷ ts) = code_a t ++ type_bits ts

unfoldable pub digit_of : ℕ → List ℕ
digit_of zero = []
digit_of (suc zero) = []
digit_of (suc (suc zero)) = []
digit_of (suc (suc (suc n))) = n ∷ []

unfoldable pub type_digits : List ℕ → List ℕ
type_digits [] = []
type_digits (t ∷ ts) = digit_of t ++ type_digits ts
