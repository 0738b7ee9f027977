-- Measuring's refusals that need no work area, and the list that is filled.
--
--   early_refusal         the first of 3, 6, 7 that concerns the call; 0 if none does
--   Lengths              a work area of n darts that has room for so many faces' lengths
--   Copied               8 if the list is too short; else it begins with these lengths
use Rattle.std.specs.Prelude.{ℕ, ◌*◌, ◌≤◌, ◌≡◌, not, cond, List, [], ◌∷◌, ltb, length, Result, Ok, Err}
use Rattle.model.specs.declared.Refusal.{Refusal}
use Rattle.model.specs.declared.Refusal.TheVariants.{ShortOutput}
use Rattle.model.specs.Numbers.{first_refusal, refuse, is_permutation}
use Rattle.model.specs.Map.{edges, dart_count_fits}
use Rattle.model.specs.Calls.{front}
use Rattle.work.specs.Map.{LENGTHS}
use Rattle.work.specs.Area.{region}

unfoldable pub early_refusal : List ℕ → ℕ → ℕ
early_refusal rot work_length = first_refusal
    (refuse 3 (not (dart_count_fits (length rot)))
    ∷ refuse 6 (not (is_permutation rot))
    ∷ refuse 7 (ltb work_length (32 * edges rot))
    ∷ [])

pub record Lengths (n count : ℕ) (w : List ℕ) : Type 0 where
  pub few : count ≤ n
  pub small : n ≤ 8192
  pub room : 16 * n ≤ length w

pub record Copied (n count : ℕ) (w list : List ℕ) (answer : Result ℕ Refusal) (list' : List ℕ) : Type 0 where
  pub answered : answer ≡ cond (ltb (length list) count) (Err ShortOutput) (Ok count)
  pub filled : list' ≡ cond (ltb (length list) count) list (front (region (LENGTHS * n) count w) list)
