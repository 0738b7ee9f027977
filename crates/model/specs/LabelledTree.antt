-- The labelled tree of a plan, as document 01 sets it down: one edge for each edge of the map, with a label.
--
--   codes p              the code of each dart's letter; codes_of, from a list of visits
--   Labels               the labels of the tree edges and of the cut edges, and which cut edges are removed; each by edge
--   unlabelled m         all of them 0
--   is_upper codes d      at d's place stands a cut edge: d is an upper end
--   gone codes s d       the edge at d's place is removed
--   before rot codes s n d   the place before d at its vertex, among those whose edge is present
--   label_one codes s d   the edge at d's place gets label 1
--   remove_cut s e        the steps (2) and (3) for edge e
--   take_leaf             the three steps for a leaf with a cut edge
--   take_one              the same at a visit, if a leaf with a cut edge is met there
--   take_leaves           the leaves from left to right
--   tree_labels p         the tree edges' labels at the end, by edge
--   label_of, bits_of      the label and the tree bits that a visit gives
--   along f vs           what f gives at each visit, one after the other
--   labels p             the labels in the order of going down; a star is 2
--   tree_bits p           the tree bits
use Rattle.std.specs.Prelude.{ℕ, zero, suc, ◌/◌, Bool, ◌&&◌, cond, List, [], ◌∷◌, ◌++◌, eqb, length, get_or, set, replicate}
use Rattle.model.specs.Numbers.{position}
use Rattle.model.specs.Map.{Plan, darts, edges, opposite, degree_one}
use Rattle.model.specs.Traversal.{Letter, down, up, first, second, code, Visit, visits}

unfoldable pub codes_of : List Visit → List ℕ → List ℕ
codes_of [] met = met
codes_of (v ∷ vs) met = codes_of vs (set met v.dart (code v.letter))

unfoldable pub codes : Plan → List ℕ
codes p = codes_of (visits p) (replicate (darts p) 0)

-- "The trail becomes a new leaf under v at the lower end's place, and a cut edge from that leaf to u at the upper end's place. The tree now has m
-- edges. All tree and cut edges have label 0." Edge d / 2 of the tree is the tree edge itself, or the edge to the new leaf.
pub record Labels : Type 0 where
  pub tree : List ℕ
  pub cut : List ℕ
  pub removed : List ℕ

unfoldable pub unlabelled : ℕ → Labels
unlabelled m = record { tree = replicate m 0; cut = replicate m 0; removed = replicate m 0 }

-- "the dart met first is the lower end ..; the other is the upper end"
unfoldable pub is_upper : List ℕ → ℕ → Bool
is_upper codes d = eqb (get_or codes d 0) (code second)

unfoldable pub gone : List ℕ → Labels → ℕ → Bool
gone codes s d = is_upper codes d && eqb (get_or s.removed (d / 2) 0) 1

-- "immediately before .., counterclockwise at u, among edges still present": at most n places back
unfoldable pub before : List ℕ → List ℕ → Labels → ℕ → ℕ → ℕ
before rot codes s zero d = d
before rot codes s (suc n) d =
    let e = position d rot in let further = before rot codes s n e in cond (gone codes s e) further e

unfoldable pub label_one : List ℕ → Labels → ℕ → Labels
label_one codes s d = record {
  tree = cond (is_upper codes d) s.tree (set s.tree (d / 2) 1);
  cut = cond (is_upper codes d) (set s.cut (d / 2) 1) s.cut;
  removed = s.removed;
}

-- "(2) the leaf's edge to its parent gets the cut edge's label; (3) the cut edge is removed"
unfoldable pub remove_cut : Labels → ℕ → Labels
remove_cut s e = record { tree = set s.tree e (get_or s.cut e 0); cut = s.cut; removed = set s.removed e 1 }

-- "(1) the edge immediately before the cut edge .. gets label 1": d is the lower end
unfoldable pub take_leaf : List ℕ → List ℕ → Labels → ℕ → Labels
take_leaf rot codes s d = remove_cut (label_one codes s (before rot codes s (length rot) (opposite d))) (d / 2)

-- "In kind 2 a leaf that is a degree-one junction has no cut edge and is passed over"
unfoldable pub take_one : List ℕ → List ℕ → Letter → ℕ → Labels → Labels
take_one rot codes down d s = s
take_one rot codes up d s = s
take_one rot codes first d s = take_leaf rot codes s d
take_one rot codes second d s = s

-- "Take the leaves from left to right."
unfoldable pub take_leaves : List ℕ → List ℕ → List Visit → Labels → Labels
take_leaves rot codes [] s = s
take_leaves rot codes (v ∷ vs) s = take_leaves rot codes vs (take_one rot codes v.letter v.dart s)

unfoldable pub tree_labels : Plan → List ℕ
tree_labels p = (take_leaves p.rotation (codes p) (visits p) (unlabelled (edges p.rotation))).tree

-- ---- "at the end its label is its saved label and its edge is relabelled star". Kind 1 has no such leaf.

abbrev pub star : ℕ
star = 2

-- the label of the tree edge of d, if d goes down
unfoldable pub label_of : List ℕ → List ℕ → Letter → ℕ → List ℕ
label_of rot tree down d = cond (degree_one rot (opposite d)) star (get_or tree (d / 2) 0) ∷ []
label_of rot tree up d = []
label_of rot tree first d = get_or tree (d / 2) 0 ∷ []
label_of rot tree second d = []

-- "1 on going down an edge, 0 on coming up. In kind 2 the up bit of a star edge is its saved label."
unfoldable pub bits_of : List ℕ → List ℕ → Letter → ℕ → List ℕ
bits_of rot tree down d = 1 ∷ []
bits_of rot tree up d = cond (degree_one rot d) (get_or tree (d / 2) 0) 0 ∷ []
bits_of rot tree first d = 1 ∷ 0 ∷ []
bits_of rot tree second d = []

-- what `f` gives at each visit, one after the other
unfoldable pub along : (Letter → ℕ → List ℕ) → List Visit → List ℕ
along f [] = []
along f (v ∷ vs) = f v.letter v.dart ++ along f vs

-- "Labels stand in the order of going down."
unfoldable pub labels : Plan → List ℕ
labels p = along (label_of p.rotation (tree_labels p)) (visits p)

unfoldable pub tree_bits : Plan → List ℕ
tree_bits p = along (bits_of p.rotation (tree_labels p)) (visits p)
