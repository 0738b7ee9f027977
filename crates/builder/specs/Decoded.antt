-- What decoding a payload answers.
--
--   Answered found n b w'   b says whether a word is found; if so, the rotation of its standard plan stands in the first n entries of w'
use Rattle.std.specs.Prelude.{ℕ, ◌≡◌, Bool, true, false, List}
use Rattle.model.specs.Traversal.{Letter}
use Rattle.words.specs.Word.{Found, found, none, rotation_of}
use Rattle.work.specs.Area.{region}

pub record Answered (result : Found) (n : ℕ) (answer : Bool) (w' : List ℕ) : Type 0 where
  pub word_found : answer ≡ true → (v : List Letter) × (result ≡ found v) × (region 0 n w' ≡ rotation_of v)
  pub none_found : answer ≡ false → result ≡ none
