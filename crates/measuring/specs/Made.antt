-- What measuring leaves before the work area is cleared.
--
--   Made                 the answer and the list of measuring, and the work area's length
use Rattle.std.specs.Prelude.{ℕ, ◌≡◌, List, length, Result}
use Rattle.model.specs.declared.Refusal.{Refusal}
use Rattle.model.specs.Calls.{measure_answer, measured_list}

pub record Made (rot work list : List ℕ) (answer : Result ℕ Refusal) (work' list' : List ℕ) : Type 0 where
  pub answered : answer ≡ measure_answer rot (length work) (length list)
  pub filled : list' ≡ measured_list rot (length work) list
  pub kept : length work' ≡ length work
