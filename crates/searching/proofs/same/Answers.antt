use native.Mathlib.Omega.{arith}
use mathlib.Core.Path.{refl, sym}
use lib.ListN.{length}
use Rattle.searching.proofs.Equality.{same_turn, same_stops, same_ends}
use Rattle.searching.proofs.same.Goals as goal

pub loop-i-init : goal.loop-i-init
loop-i-init c = same_ends _ _ (length c.args.a.now) refl c.requires

pub returns-then-a-i : goal.returns-then-a-i
returns-then-a-i c = sym (same_stops _ _ _ c.if-a-i.true)

pub loop-i-preserved : goal.loop-i-preserved
loop-i-preserved c =
    let n = c.loop-i.auto.i in
    let e = c.requires in
    same_turn _ _ _ c.loop-i.i (omega arith) n (omega arith) c.if-a-i.false c.loop-i.invariant
