use native.Mathlib.Omega.{arith}
use Rattle.shelf.proofs.Refusals.{fetch_broken, fetch_past, fetch_fine}
use Rattle.shelf.proofs.check.Goals as goal

pub returns-in_default : goal.returns-in_default
returns-in_default c = fetch_broken _ _ _ c.in_default.ensures

pub returns-then-n-records : goal.returns-then-n-records
returns-then-n-records c = fetch_fine _ _ _ _ c.in-Some.ensures (omega arith)

pub returns : goal.returns
returns c = fetch_past _ _ _ _ c.in-Some.ensures (omega arith)
