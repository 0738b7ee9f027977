-- What building from the word in the work area gives.
--
--   Built n w w'          the rotation of the word of n letters in w stands in the first n entries of w'
use Rattle.std.specs.Prelude.{ℕ, ◌≡◌, List, length}
use Rattle.words.specs.Word.{rotation_of}
use Rattle.work.specs.Area.{region}
use Rattle.work.specs.Letters.{letters_in}

pub record Built (n : ℕ) (w w' : List ℕ) : Type 0 where
  pub rotation : region 0 n w' ≡ rotation_of (letters_in n w)
  pub kept : length w' ≡ length w
