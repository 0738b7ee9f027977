-- Whether a second stands right after a position, from the letter that the walk gives next.
--
--   starts_second_lem      there it does
--   starts_other       elsewhere it does not
--   starts_none        nor at the end
use Prim.Native.Nat.{ℕ, suc, ◌<◌}
use mathlib.Core.Path.{◌≡◌, refl, ap, ◌∙◌}
use mathlib.Core.Logic.{◌≢◌}
use mathlib.Core.List.{◌∷◌}
use lib.ListN.{drop}
use Rattle.model.specs.Map.{Plan, darts}
use Rattle.model.specs.Traversal.{Letter, down, up, first, second, word}
use Rattle.words.specs.Word.{starts_second}
use Rattle.words.specs.Toured.{Toured, letter_of}
use Rattle.words.proofs.Positions.{word_left, word_end}

module _ (p : Plan) (t : Toured p) where
  pub starts_second_lem : (k : ℕ) → k < darts p → letter_of p k ≡ second → starts_second (drop k (word p)) ≡ 1
  unfolding starts_second
  starts_second_lem k h e = ap starts_second (word_left p t k h) ∙ rw e

  pub starts_other : (k : ℕ) → k < darts p → letter_of p k ≢ second → starts_second (drop k (word p)) ≡ 0
  unfolding starts_second
  starts_other k h n = ap starts_second (word_left p t k h) ∙ go (letter_of p k) n
    where
      go : (l : Letter) → l ≢ second → starts_second (l ∷ drop (suc k) (word p)) ≡ 0
      go down n = refl
      go up n = refl
      go first n = refl
      go second n = absurd (n refl)

  pub starts_none : starts_second (drop (darts p) (word p)) ≡ 0
  unfolding starts_second
  starts_none = ap starts_second (word_end p t)
