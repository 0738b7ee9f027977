use Rattle.shelf.proofs.Walking.{fetched_part}
use Rattle.shelf.proofs.fetch.Goals as goal

pub returns : goal.returns
returns c = fetched_part _ _ _ _ _ _ _ c.in_ok-at.ensures c.used_part.ensures c.record_at.ensures
