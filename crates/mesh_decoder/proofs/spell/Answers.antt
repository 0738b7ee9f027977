use Rattle.std.proofs.Common.{arith}
use Rattle.mesh_decoder.proofs.Spelling.{spelling_first, spelling_on, whole_spelled, climbs_spelled, stuck_spelled, short_spelled}
use Rattle.mesh_decoder.proofs.spell.Goals as goal

pub loop-s-init : goal.loop-s-init
loop-s-init c = let p = c.requires in spelling_first _ _ p.0 p.1 p.2 p.3

pub loop-s-smaller : goal.loop-s-smaller
loop-s-smaller c =
    let a = rw c.in-Some-Reads.field-0-is at c.in-Some-Reads.ensures in
    let n = (spelling_on _ _ _ _ c.loop-s.invariant _ _ a).1 in omega arith

pub loop-s-preserved : goal.loop-s-preserved
loop-s-preserved c = (spelling_on _ _ _ _ c.loop-s.invariant _ _ (rw c.in-Some-Reads.field-0-is at c.in-Some-Reads.ensures)).0

pub returns-in-Some-Whole : goal.returns-in-Some-Whole
returns-in-Some-Whole c = whole_spelled _ _ _ _ c.loop-s.invariant _ (rw c.in-Some-Whole.field-0-is at c.in-Some-Whole.ensures)

pub returns-in-Some-Climbs : goal.returns-in-Some-Climbs
returns-in-Some-Climbs c = climbs_spelled _ _ _ _ c.loop-s.invariant _ _ (rw c.in-Some-Climbs.field-0-is at c.in-Some-Climbs.ensures)

pub returns-in-None : goal.returns-in-None
returns-in-None c = stuck_spelled _ _ _ _ c.loop-s.invariant _ c.in-None.ensures

pub returns : goal.returns
returns c = short_spelled _ _ _ _ c.loop-s.invariant c.loop-s-test.false
