use native.Mathlib.Omega.{arith}
use mathlib.Core.Path.{◌≡◌, sym, ◌∙◌}
use Prim.Native.Nat.{suc, ◌+◌, ◌-◌}
use Rattle.records.proofs.Turn.{some_here, room, next_fits, next_end, place_turn, place_fewer, place_ends}
use Rattle.records.proofs.place.Goals as goal

pub field-requires : goal.field-requires
field-requires c = let l = c.loop in let r = room _ l.at l.invariant.0 (some_here _ l.at _ l.invariant.1) in omega arith

pub overflow_add-at : goal.overflow_add-at
overflow_add-at c = let l = c.loop in let f = next_fits _ l.at l.invariant.0 (some_here _ l.at _ l.invariant.1) _ c.field.ensures in omega arith

pub loop-preserved : goal.loop-preserved
loop-preserved c =
    let l = c.loop in
    let h = some_here _ l.at _ l.invariant.1 in
    let next : c.args.n - l.counter ≡ suc (c.args.n - (l.counter + 1)) = omega arith in (
      next_end _ l.at l.invariant.0 h _ c.field.ensures,
      place_fewer _ l.at l.invariant.0 h _ c.field.ensures _ _ next l.invariant.1,
      sym (place_turn _ l.at l.invariant.0 h _ c.field.ensures _ _ next) ∙ l.invariant.2,
    )

pub returns : goal.returns
returns c = sym (place_ends _ c.loop.at (c.args.n - c.loop.counter) (omega arith)) ∙ c.loop.invariant.2
