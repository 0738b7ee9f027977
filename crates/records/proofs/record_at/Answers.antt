use native.Mathlib.Omega.{arith}
use mathlib.Core.Path.{refl, ap}
use Prim.Native.Nat.{ℕ}
use Rattle.records.proofs.Stands.{fits_here, part_none, part_is, begins_none, begins_there}
use Rattle.records.proofs.record_at.Goals as goal

pub overflow_add-result : goal.overflow_add-result
overflow_add-result c = let f = fits_here _ _ _ c.in-Some.ensures.length c.in-Some.ensures.some in omega arith

pub slice_bounds-result-end-in-Some : goal.slice_bounds-result-end-in-Some
slice_bounds-result-end-in-Some c = let f = fits_here _ _ _ c.in-Some.ensures.length c.in-Some.ensures.some in omega arith

pub returns-in-None : goal.returns-in-None
returns-in-None c =
    let l = c.in-None.ensures.length in
    let s = c.args.bytes in
    record {
      bytes_are = part_none _ _ _ l refl;
      begins = ap (λ (o : ℕ). (s.ref_ptr.0, o)) (begins_none _ _ _ l refl s.ref_ptr.1);
    }

pub returns-in-Some : goal.returns-in-Some
returns-in-Some c =
    let l = c.in-Some.ensures.length in
    let s = c.args.bytes in
    record {
      bytes_are = part_is _ _ _ l c.in-Some.ensures.some;
      begins = ap (λ (o : ℕ). (s.ref_ptr.0, o)) (begins_there _ _ _ l c.in-Some.ensures.some s.ref_ptr.1);
    }
