use mathlib.Core.Path.{refl, sym}
use lib.Seq.{length-take-le}
use Rattle.model.proofs.Numbered.{refusal_some, passed_on}
use Rattle.shelf.proofs.Walking.{begun_refused, begun_parts, begun_fine}
use Rattle.shelf.proofs.walk_begin.Goals as goal

pub returns-in_err-check : goal.returns-in_err-check
returns-in_err-check c = rw (passed_on _ _ c.from_residual.ensures) (begun_refused _ _ _ _ c.in_err-check.ensures (refusal_some _))

pub slice_bounds-place-end : goal.slice_bounds-place-end
slice_bounds-place-end c = let p = begun_parts _ _ _ _ c.in_ok-check.ensures refl in sym (length-take-le _ _ p.0)

pub place-requires : goal.place-requires
place-requires c = let p = begun_parts _ _ _ _ c.in_ok-check.ensures refl in (p.1, p.2)

pub returns : goal.returns
returns c = begun_fine _ _ _ _ c.in_ok-check.ensures refl _ c.place.ensures
