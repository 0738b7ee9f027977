-- Letters read, one after the other: what they come to. m is the number of edges; w and s are the work area and the state before the letters ls, where e
-- edges have begun.
--
--   goes_on m w s v           whether the word v goes on well from the state s
--   Left m s e v             v has as many letters as are left of 2m: each that is read began an edge or ended one
--   Fits m w s e             the numbers and stacks are in range
--   Able l m p s e           the letter l may come, where the parts are p
--   Moved                    of ls all letters but `rest` are read: their darts are entered, and k edges have begun; w' and t are the work area and the
--                            state then
use Rattle.std.specs.Prelude.{ℕ, ◌+◌, ◌*◌, ◌≤◌, ◌<◌, ◌≡◌, Bool, true, List, ◌++◌, length}
use Rattle.model.specs.Traversal.{Letter, down, up, first, second}
use Rattle.words.specs.Word.{nested, head}
use Rattle.work.specs.Map.{LABELS, BELOW}
use Rattle.work.specs.Area.{region}
use Rattle.builder.specs.declared.State.{State}
use Rattle.builder.specs.Steps.{Parts, parts_at, outcome_at, Standing}

abbrev pub goes_on : ℕ → List ℕ → State → List Letter → Bool
goes_on m w s v = nested true s.n s.here (parts_at m w s).below (parts_at m w s).begun v

abbrev pub Left : ℕ → State → ℕ → List Letter → Type 0
Left m s e v = 2 * e + length v ≡ 2 * m + (s.depth + s.opens)

pub record Fits (m : ℕ) (w : List ℕ) (s : State) (e : ℕ) : Type 0 where
  pub stands : Standing m w s
  pub edges : e ≤ m
  pub few_open : s.depth + s.opens ≤ e
  pub vertices : s.n ≤ e + 1

abbrev pub Able : Letter → ℕ → Parts → State → ℕ → Type 0
Able down m p s e = e < m
Able up m p s e = 0 < s.depth
Able first m p s e = e < m
Able second m p s e = (0 < s.opens) × (s.here ≤ head p.begun)

-- whatever word v comes after them
pub record Moved (ls rest : List Letter) (m : ℕ) (w : List ℕ) (s : State) (e : ℕ) (t : State) (k : ℕ) (w' : List ℕ) : Type 0 where
  pub fits : Fits m w' t k
  pub left : (v : List Letter) → Left m s e (ls ++ v) → Left m t k (rest ++ v)
  pub nests : (v : List Letter) → goes_on m w' t (rest ++ v) ≡ goes_on m w s (ls ++ v)
  pub built : (v : List Letter) → outcome_at m w' t k (rest ++ v) ≡ outcome_at m w s e (ls ++ v)
  pub kept : length w' ≡ length w
  pub beside : (a k : ℕ) → 2 * m ≤ a → (BELOW * (2 * m) < a + k → LABELS * (2 * m) ≤ a) → region a k w' ≡ region a k w
