use Rattle.std.proofs.Common.{sym, rules}
use Rattle.model.specs.Calls.{zeros}
use Rattle.shelving.proofs.Refusals.{stored_refused, stored_read, read_long}
use Rattle.shelving.proofs.shelve.Goals as goal

pub place-requires : goal.place-requires
place-requires c = read_long _ _ _ _ c.verdict-verdict.ensures _ c.in_default.is

pub returns-in_default : goal.returns-in_default
unfolding zeros
returns-in_default c =
    record {
      outcome = stored_read _ _ _ _ c.verdict-verdict.ensures _ c.in_default.is _ _ _ _ c.place.ensures.0 c.place.ensures.1;
      cleared = let kept = sym c.verdict-verdict.auto.work in rw kept (search rules);
    }

pub returns : goal.returns
unfolding zeros
returns c =
    record {
      outcome = stored_refused _ _ _ _ c.verdict-verdict.ensures _ _ _ c.in-Err.is;
      cleared = let kept = sym c.verdict-verdict.auto.work in rw kept (search rules);
    }
