use mathlib.Core.Path.{refl}
use Rattle.model.proofs.Numbered.{refusal_some}
use Rattle.jurnadel.proofs.Parts.{fetch_refused, fetch_fine}
use Rattle.jurnadel.proofs.jurnadel_fetch.Goals as goal

pub returns-in-Ok : goal.returns-in-Ok
returns-in-Ok c = fetch_fine _ _ _ _ _ c.in-Ok.ensures refl _ c.walk_length.ensures

pub returns-in-Err : goal.returns-in-Err
returns-in-Err c = rw c.into.ensures (fetch_refused _ _ _ _ _ c.in-Err.ensures (refusal_some _))
