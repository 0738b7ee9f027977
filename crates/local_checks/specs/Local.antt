-- The refusals that look at one edge, face or vertex at a time.
--
--   local_refusal f p     the first of 11, 18 and 12 that concerns the plan; 0 if none does
use Rattle.std.specs.Prelude.{ℕ, cond}
use Rattle.model.specs.Map.{Plan, loop_refused, face_refused, degree_refused}

unfoldable pub local_refusal : ℕ → Plan → ℕ
local_refusal f p = cond (loop_refused f p.rotation) 11 (cond (face_refused f p.rotation) 18 (cond (degree_refused f p) 12 0))
