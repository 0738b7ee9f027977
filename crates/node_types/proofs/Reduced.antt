-- The word of a tree reduces to the tree's types.
--
--   reduce_letters        the letters of a tree before what is reduced
--   reduce_whole, word_types_lem   the whole word, and its types
--   whole_types           the same where a word is known to be a tree's
--   whole_proper          they are types
use Prim.Native.Nat.{ℕ}
use mathlib.Core.Path.{◌≡◌, refl, ap, ◌∙◌}
use mathlib.Core.Bool.{true}
use mathlib.Core.List.{List, [], ◌∷◌}
use Rattle.model.specs.Traversal.{Letter, down, up, first, second}
use Rattle.model.specs.Mesh.{node_type}
use Rattle.packing.specs.Types.{all_types}
use Rattle.node_types.specs.Tree.{Tree, fork, free, late, soon, tips, letters, whole, type_list}
use Rattle.node_types.specs.Reduced.{Reduced, reduced, enclose, reduce_one, reduce, types_of, word_types, Whole}
use Rattle.node_types.proofs.Trees.{tree_types}

-- ---- the word of a tree

pub reduce_letters : (t : Tree) (w s : List Letter) (ts : List ℕ) → reduce w ≡ reduced s ts → reduce (letters t w) ≡ reduced (down ∷ s) (type_list t ts)
unfolding letters type_list reduce reduce_one enclose node_type
reduce_letters (fork a b) w s ts e =
    ap (reduce_one down) (reduce_letters a (letters b (up ∷ w)) (down ∷ up ∷ s) (type_list b ts) (reduce_letters b (up ∷ w) (up ∷ s) ts (ap (reduce_one up) e)))
reduce_letters (free a) w s ts e =
    ap (reduce_one down) (reduce_letters a (second ∷ up ∷ w) (second ∷ up ∷ s) ts (ap (λ (r : Reduced). reduce_one second (reduce_one up r)) e))
reduce_letters (late a) w s ts e =
    ap (reduce_one down) (reduce_letters a (first ∷ up ∷ w) (first ∷ up ∷ s) ts (ap (λ (r : Reduced). reduce_one first (reduce_one up r)) e))
reduce_letters (soon a) w s ts e =
    ap (λ (r : Reduced). reduce_one down (reduce_one first r)) (reduce_letters a (up ∷ w) (up ∷ s) ts (ap (reduce_one up) e))
reduce_letters tips w s ts e = ap (λ (r : Reduced). reduce_one down (reduce_one first (reduce_one first (reduce_one up r)))) e

pub reduce_whole : (t : Tree) → reduce (whole t) ≡ reduced (down ∷ second ∷ second ∷ []) (type_list t [])
unfolding whole reduce reduce_one
reduce_whole t = reduce_letters t (second ∷ second ∷ []) (second ∷ second ∷ []) [] refl

pub word_types_lem : (t : Tree) → word_types (whole t) ≡ type_list t []
unfolding word_types
word_types_lem t = ap types_of (reduce_whole t)

module _ (w : List Letter) (of : Whole w) where
  pub whole_types : word_types w ≡ type_list of.0 []
  whole_types = ap word_types of.1 ∙ word_types_lem of.0

  pub whole_proper : all_types (word_types w) ≡ true
  unfolding all_types
  whole_proper = rw whole_types (tree_types of.0 [] refl)
