use native.Mathlib.Omega.{arith}
use borrow.Author.Rules.{rules}
use mathlib.Core.Path.{refl, sym, ◌∙◌}
use Rattle.records.proofs.Turn.{count_begins, count_turn, count_stops, count_ends}
use Rattle.records.proofs.Stands.{fits_here}
use Rattle.records.proofs.count.Goals as goal

pub loop-at-init : goal.loop-at-init
loop-at-init c = (search rules, search rules, count_begins _)

pub returns-in_err-at : goal.returns-in_err-at
returns-in_err-at c =
    let l = c.loop-at in
    let e = c.in_err-at.ensures.length in
    c.from_residual.ensures ∙ (sym (count_stops _ l.at l.n _ e refl (omega arith)) ∙ l.invariant.2)

pub overflow_add-at : goal.overflow_add-at
overflow_add-at c = let f = fits_here _ c.loop-at.at _ c.in_ok-at.ensures.length c.in_ok-at.ensures.some in omega arith

pub loop-at-smaller : goal.loop-at-smaller
loop-at-smaller c = let f = fits_here _ c.loop-at.at _ c.in_ok-at.ensures.length c.in_ok-at.ensures.some in omega arith

pub loop-at-preserved : goal.loop-at-preserved
loop-at-preserved c =
    let l = c.loop-at in
    let f = fits_here _ l.at _ c.in_ok-at.ensures.length c.in_ok-at.ensures.some in
    (omega arith, omega arith, sym (count_turn _ l.at l.n _ c.in_ok-at.ensures.length c.in_ok-at.ensures.some) ∙ l.invariant.2)

pub returns : goal.returns
returns c = sym (count_ends _ c.loop-at.at c.loop-at.n (omega arith)) ∙ c.loop-at.invariant.2
