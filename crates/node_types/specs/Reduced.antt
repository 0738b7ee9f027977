-- The word of the dual reduced from its end to the types of its nodes. A stack holds letters: what stands at a node's two places and its up lie on it when its
-- down is met, which takes their place.
--
--   Reduced               reduced, the stack and the types so far; stuck, a down found less than three letters
--   enclose s ts          a down before what is reduced to s and ts
--   reduce_one l r         the letter l before what is reduced to r
--   reduce w              the letters w
--   types_of r             the types of what is reduced, none where it is stuck
--   word_types w           the types of a word
--   Whole w               w is the word of a tree
use Rattle.std.specs.Prelude.{ℕ, ◌≡◌, List, [], ◌∷◌}
use Rattle.model.specs.Traversal.{Letter, down, up, first, second}
use Rattle.model.specs.Mesh.{node_type}
use Rattle.node_types.specs.Tree.{Tree, whole}

pub data Reduced : Type 0 where
  reduced : List Letter → List ℕ → Reduced
  stuck : Reduced

unfoldable pub enclose : List Letter → List ℕ → Reduced
enclose [] ts = stuck
enclose (a ∷ []) ts = stuck
enclose (a ∷ b ∷ []) ts = stuck
enclose (a ∷ b ∷ c ∷ s) ts = reduced (down ∷ s) (node_type a b ∷ ts)

unfoldable pub reduce_one : Letter → Reduced → Reduced
reduce_one down (reduced s ts) = enclose s ts
reduce_one down stuck = stuck
reduce_one up (reduced s ts) = reduced (up ∷ s) ts
reduce_one up stuck = stuck
reduce_one first (reduced s ts) = reduced (first ∷ s) ts
reduce_one first stuck = stuck
reduce_one second (reduced s ts) = reduced (second ∷ s) ts
reduce_one second stuck = stuck

unfoldable pub reduce : List Letter → Reduced
reduce [] = reduced [] []
reduce (l ∷ w) = reduce_one l (reduce w)

abbrev pub types_of : Reduced → List ℕ
types_of (reduced s ts) = ts
types_of stuck = []

unfoldable pub word_types : List Letter → List ℕ
word_types w = types_of (reduce w)

abbrev pub Whole : List Letter → Type 0
Whole w = (t : Tree) × (w ≡ whole t)
