-- Writing's refusals before those of the plan itself.
--
--   Entries              whether the entries are a permutation, with zeros in the work area if they are
--   early_refusal         the first of 2, 3, 4, 17, 6, 7, 8 that concerns the call; 0 if none does
use Rattle.std.specs.Prelude.{ℕ, ◌≤◌, ◌≡◌, Bool, true, List, length, replicate}
use Rattle.model.specs.Numbers.{first_refusal, is_permutation}
use Rattle.model.specs.Map.{Plan}
use Rattle.model.specs.Calls.{early_refusals}
use Rattle.work.specs.Area.{region}

pub record Entries (order w : List ℕ) (r : Bool) (w' : List ℕ) : Type 0 where
  pub answer : length order ≤ 8192 → r ≡ is_permutation order
  pub zeros : r ≡ true → length order ≤ length w → region 0 (length order) w' ≡ replicate (length order) 0
  pub kept : length w' ≡ length w

unfoldable pub early_refusal : ℕ → Plan → ℕ → ℕ → ℕ
early_refusal k p work_length out_length = first_refusal (early_refusals k p work_length out_length)
