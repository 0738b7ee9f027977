use Rattle.std.proofs.Common.{◌+◌, ◌≤◌, length, refl, sym, ◌∙◌, arith, rules}
use Rattle.records.proofs.Stands.{fits_here}
use Rattle.searching.proofs.Turn.{part_length, search_begins, search_passes, search_goes_on, search_finds, search_stops, search_ends}
use Rattle.searching.proofs.search.Goals as goal
use Rattle.searching.proofs.search.Goals.{In_ok-size, then-size-length+else-equal, else-size-length}

fits : (c : In_ok-size) → (6 ≤ c.in_ok-size.size) × (c.loop-at.at + c.in_ok-size.size ≤ length c.args.bytes.now)
fits c = fits_here _ c.loop-at.at _ c.in_ok-size.ensures.length c.in_ok-size.ensures.some

pub loop-at-init : goal.loop-at-init
loop-at-init c = (search rules, search rules, search rules, search_begins _ _)

pub returns-in_err-size : goal.returns-in_err-size
returns-in_err-size c =
    let l = c.loop-at in
    c.from_residual.ensures ∙ (sym (search_stops _ _ l.at l.n l.compared _ c.in_err-size.ensures.length refl (omega arith)) ∙ l.invariant.3)

pub overflow_add-end : goal.overflow_add-end
overflow_add-end c = let f = fits (goal.at.overflow_add-end c).In_ok-size in omega arith

pub overflow_add-compared : goal.overflow_add-compared
overflow_add-compared c = let f = fits (goal.at.overflow_add-compared c).In_ok-size in omega arith

pub slice_bounds-equal-count : goal.slice_bounds-equal-count
slice_bounds-equal-count c = let f = fits (goal.at.slice_bounds-equal-count c).In_ok-size in omega arith

pub slice_bounds-equal-start : goal.slice_bounds-equal-start
slice_bounds-equal-start c = let f = fits (goal.at.slice_bounds-equal-start c).In_ok-size in omega arith

pub slice_bounds-equal-end : goal.slice_bounds-equal-end
slice_bounds-equal-end c = let f = fits (goal.at.slice_bounds-equal-end c).In_ok-size in omega arith

pub equal-requires : goal.equal-requires
equal-requires c =
    let l = part_length _ c.loop-at.at _ c.in_ok-size.ensures.length c.in_ok-size.ensures.some in
    let f = fits (goal.at.equal-requires c).In_ok-size in
    (sym (l ∙ c.if-size-length.true), omega arith, c.field-kind.ensures)

pub slice_bounds-there-count : goal.slice_bounds-there-count
slice_bounds-there-count c = let f = fits (goal.at.slice_bounds-there-count c).In_ok-size in omega arith

pub slice_bounds-there-start : goal.slice_bounds-there-start
slice_bounds-there-start c = let f = fits (goal.at.slice_bounds-there-start c).In_ok-size in omega arith

pub slice_bounds-there-end : goal.slice_bounds-there-end
slice_bounds-there-end c = let f = fits (goal.at.slice_bounds-there-end c).In_ok-size in omega arith

pub returns-then-equal : goal.returns-then-equal
returns-then-equal c =
    let l = c.loop-at in
    let f = search_finds _ _ l.at l.n l.compared _ c.in_ok-size.ensures.length c.in_ok-size.ensures.some (sym c.equal.ensures ∙ c.if-equal.true) in
    c.there.ensures ∙ (sym f ∙ l.invariant.3)

pub overflow_add-n : goal.overflow_add-n
overflow_add-n c = let f = fits (goal.at.overflow_add-n c).In_ok-size in omega arith

pub loop-at-smaller : goal.loop-at-smaller
loop-at-smaller c = let f = fits (goal.at.loop-at-smaller c).In_ok-size in omega arith

pub loop-at-preserved : goal.loop-at-preserved
loop-at-preserved c =
    let l = c.loop-at in
    let f = fits (goal.at.loop-at-preserved c).In_ok-size in
    elim c.if-size-length.branch [
      | then-size-length+else-equal u ↦
          let t = search_goes_on _ _ l.at l.n l.compared _ c.in_ok-size.ensures.length c.in_ok-size.ensures.some u.if-size-length.true (sym u.equal.ensures ∙ u.if-equal.false)
          _ u.compared-is in
          (omega arith, omega arith, omega (arith, u.compared-is), sym t ∙ l.invariant.3)
      | else-size-length v ↦
          let t = search_passes _ _ l.at l.n l.compared _ c.in_ok-size.ensures.length c.in_ok-size.ensures.some v.if-size-length.false _ v.compared-is in
          (omega arith, omega arith, omega (arith, v.compared-is), sym t ∙ l.invariant.3)
    ]

pub returns : goal.returns
returns c = let l = c.loop-at in sym (search_ends _ _ l.at l.n l.compared (omega arith)) ∙ l.invariant.3
