-- The label of each edge, read at the position where the edge ends.
--
--   label_by p j l      the label of the edge that ends at position j, whose letter is l; 0 where l opens an edge
--   label_at p j        the label of the edge that ends at position j
--   Written p n L      the labels of the edges that end before position n stand in L, each at the number of its edge
use Rattle.std.specs.Prelude.{ℕ, suc, ◌/◌, ◌<◌, ◌≡◌, false, cond, List, length, get_or, drop}
use Rattle.model.specs.Map.{Plan, darts, degree_one}
use Rattle.model.specs.Traversal.{Letter, down, up, first, second, opens, word}
use Rattle.model.specs.LabelledTree.{star}
use Rattle.words.specs.Word.{starts_second}
use Rattle.words.specs.Position.{opened}
use Rattle.words.specs.Toured.{dart_at, letter_of, mate_of}

unfoldable pub label_by : Plan → ℕ → Letter → ℕ
label_by p j down = 0
label_by p j up = cond (degree_one p.rotation (dart_at p j)) star (starts_second (drop (suc j) (word p)))
label_by p j first = 0
label_by p j second = starts_second (drop (suc j) (word p))

unfoldable pub label_at : Plan → ℕ → ℕ
label_at p j = label_by p j (letter_of p j)

pub record Written (p : Plan) (n : ℕ) (L : List ℕ) : Type 0 where
  pub size : length L ≡ darts p / 2
  pub ended : (j : ℕ) → j < n → opens (letter_of p j) ≡ false → get_or L (opened (letter_of p) (mate_of p j)) 0 ≡ label_at p j
