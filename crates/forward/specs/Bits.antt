-- The tree bits that each position of a traversal gives, in the order of the traversal.
--
--   bits_by p j l       the tree bits of position j, whose letter is l
--   bits_at p j         the tree bits of position j
--   bits_to p j         those of the positions before j
use Rattle.std.specs.Prelude.{ℕ, zero, suc, cond, List, [], ◌∷◌, ◌++◌, drop}
use Rattle.model.specs.Map.{Plan, degree_one}
use Rattle.model.specs.Traversal.{Letter, down, up, first, second, word}
use Rattle.words.specs.Word.{starts_second}
use Rattle.words.specs.Toured.{dart_at, letter_of}

-- an up that leaves a vertex of degree one gives the label that is saved there
unfoldable pub bits_by : Plan → ℕ → Letter → List ℕ
bits_by p j down = 1 ∷ []
bits_by p j up = cond (degree_one p.rotation (dart_at p j)) (starts_second (drop (suc j) (word p))) 0 ∷ []
bits_by p j first = 1 ∷ 0 ∷ []
bits_by p j second = []

unfoldable pub bits_at : Plan → ℕ → List ℕ
bits_at p j = bits_by p j (letter_of p j)

unfoldable pub bits_to : Plan → ℕ → List ℕ
bits_to p zero = []
bits_to p (suc j) = bits_to p j ++ bits_at p j
