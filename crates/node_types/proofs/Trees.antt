-- Laws of trees.
--
--   net_positive      a good tree leaves an edge open
--   good_left, good_right, free_net, free_good, late_good, soon_good   the parts of goodness
--   tree_types        the types of a tree are types
--   types_longer      a tree has a type
--   size_types        and three letters for each type, and one
--   length_letters    as many letters as its size
--   whole_even, length_whole   how many letters the whole word has
use Prim.Native.Nat.{ℕ, ◌+◌, ◌*◌, ◌%◌, ◌≤◌, ◌<◌}
use native.Mathlib.Nat.{lt-suc_self}
use native.Mathlib.Omega.{arith}
use mathlib.Core.Path.{◌≡◌, refl}
use mathlib.Core.Bool.{true}
use mathlib.Core.List.{List, [], ◌∷◌}
use lib.Dec.{leb}
use lib.ListN.{length}
use borrow.Author.Tests.{leb-true}
use Rattle.model.specs.Traversal.{Letter, up, first, second}
use Rattle.model.proofs.Booleans.{and_left, and_right}
use Rattle.packing.specs.Types.{is_type, all_types}
use Rattle.node_types.specs.Tree.{Tree, fork, free, late, soon, tips, letters, whole, size, type_list, net, good}

pub good_left : (a b : Tree) → good (fork a b) ≡ true → good a ≡ true
unfolding good
good_left a b e = and_left (good a) (good b) e

pub good_right : (a b : Tree) → good (fork a b) ≡ true → good b ≡ true
unfolding good
good_right a b e = and_right (good a) (good b) e

pub free_net : (a : Tree) → good (free a) ≡ true → 2 ≤ net a
unfolding good
free_net a e = leb-true 2 (net a) (and_left (leb 2 (net a)) (good a) e)

pub free_good : (a : Tree) → good (free a) ≡ true → good a ≡ true
unfolding good
free_good a e = and_right (leb 2 (net a)) (good a) e

pub late_good : (a : Tree) → good (late a) ≡ true → good a ≡ true
unfolding good
late_good a e = e

pub soon_good : (a : Tree) → good (soon a) ≡ true → good a ≡ true
unfolding good
soon_good a e = e

pub tree_types : (t : Tree) (ts : List ℕ) → all_types ts ≡ true → all_types (type_list t ts) ≡ true
unfolding type_list all_types is_type
tree_types (fork a b) ts e = tree_types a (type_list b ts) (tree_types b ts e)
tree_types (free a) ts e = tree_types a ts e
tree_types (late a) ts e = tree_types a ts e
tree_types (soon a) ts e = tree_types a ts e
tree_types tips ts e = e

pub net_positive : (t : Tree) → good t ≡ true → 1 ≤ net t
unfolding net good
net_positive (fork a b) e = let i = net_positive a (good_left a b e) in omega arith
net_positive (free a) e = let i = free_net a e in omega arith
net_positive (late a) e = omega arith
net_positive (soon a) e = omega arith
net_positive tips e = omega arith

pub types_longer : (t : Tree) (ts : List ℕ) → length ts < length (type_list t ts)
unfolding type_list
types_longer (fork a b) ts = let i = types_longer a (type_list b ts) in let j = types_longer b ts in omega arith
types_longer (free a) ts = let i = types_longer a ts in omega arith
types_longer (late a) ts = let i = types_longer a ts in omega arith
types_longer (soon a) ts = let i = types_longer a ts in omega arith
types_longer tips ts = lt-suc_self (length ts)

pub size_types : (t : Tree) (ts : List ℕ) → size t + 3 * length ts ≡ 3 * length (type_list t ts) + 1
unfolding type_list size
size_types (fork a b) ts = let i = size_types a (type_list b ts) in let j = size_types b ts in omega arith
size_types (free a) ts = let i = size_types a ts in omega arith
size_types (late a) ts = let i = size_types a ts in omega arith
size_types (soon a) ts = let i = size_types a ts in omega arith
size_types tips ts = omega arith

pub length_letters : (t : Tree) (w : List Letter) → length (letters t w) ≡ size t + length w
unfolding letters size
length_letters (fork a b) w = let i = length_letters a (letters b (up ∷ w)) in let j = length_letters b (up ∷ w) in omega arith
length_letters (free a) w = let i = length_letters a (second ∷ up ∷ w) in omega arith
length_letters (late a) w = let i = length_letters a (first ∷ up ∷ w) in omega arith
length_letters (soon a) w = let i = length_letters a (up ∷ w) in omega arith
length_letters tips w = omega arith

-- its letters and the edges that it leaves open are an even number
even_size : (t : Tree) → good t ≡ true → (size t + net t) % 2 ≡ 0
unfolding size net
even_size (fork a b) g = let i = even_size a (good_left a b g) in let j = even_size b (good_right a b g) in omega arith
even_size (free a) g = let i = even_size a (free_good a g) in let n = free_net a g in omega arith
even_size (late a) g = let i = even_size a (late_good a g) in omega arith
even_size (soon a) g = let i = even_size a (soon_good a g) in omega arith
even_size tips g = refl

pub whole_even : (t : Tree) → good t ≡ true → net t ≡ 2 → length (whole t) % 2 ≡ 0
unfolding whole
whole_even t g n = omega (arith, length_letters t (second ∷ second ∷ []), even_size t g)

-- the word of t has three letters for each type, and three for the start node
pub length_whole : (t : Tree) → length (whole t) ≡ 3 * (length (type_list t []) + 1)
unfolding whole
length_whole t = omega (arith, length_letters t (second ∷ second ∷ []), size_types t [])
