-- The places of a node in the walk of a mesh's dual: the first just after the down that enters it, the second, and that of its up.
--
--   second_place q i       the second place of the node that is entered at i: after the subtree at its first place, or, where a leaf is there, one on
use Rattle.std.specs.Prelude.{ℕ, suc, cond}
use Rattle.model.specs.Map.{Plan}
use Rattle.words.specs.Toured.{letter_of, mate_of, is_tree}

unfoldable pub second_place : Plan → ℕ → ℕ
second_place q i = cond (is_tree (letter_of q (suc i))) (suc (mate_of q (suc i))) (suc (suc i))
