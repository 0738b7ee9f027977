-- What spelling node types answers.
--
--   Entering m t w s          the state s in the work area w, with the type t to be read
--   Spelled result n b w w'   b says whether a word is found; if so, it has n letters, and their codes stand in the work area w'; w is the one before
use Rattle.std.specs.Prelude.{ℕ, ◌+◌, ◌*◌, ◌<◌, ◌≡◌, Bool, true, false, List, map, length, get_or}
use Rattle.model.specs.Traversal.{Letter, code}
use Rattle.words.specs.Word.{Found, found, none}
use Rattle.work.specs.Map.{LETTERS, TYPES}
use Rattle.work.specs.Area.{region}
use Rattle.node_ends.specs.declared.State.{State}
use Rattle.node_ends.specs.Steps.{type_count, Standing}

pub record Entering (m t : ℕ) (w : List ℕ) (s : State) : Type 0 where
  pub standing : Standing m 1 w s
  pub more : s.read < type_count m
  pub next : get_or w (TYPES * (2 * m) + s.read) 0 ≡ t

pub record Spelled (result : Found) (n : ℕ) (answer : Bool) (w w' : List ℕ) : Type 0 where
  pub word_found : answer ≡ true → (v : List Letter) × (result ≡ found v) × (length v ≡ n) × (region (LETTERS * n) n w' ≡ map code v)
  pub none_found : answer ≡ false → result ≡ none
  pub kept : length w' ≡ length w
