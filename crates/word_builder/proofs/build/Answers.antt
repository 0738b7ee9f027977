use Rattle.std.proofs.Common.{arith}
use Rattle.builder.proofs.Moves.{fits_start, moved_none}
use Rattle.word_builder.proofs.Runs.{Blank, blank, next_able, next_moved, all_built}
use Rattle.word_builder.proofs.build.Goals as goal
use Rattle.word_builder.proofs.build.Goals.{After-fill}

-- the work area where the loop begins
begin : (c : After-fill) → Blank c.args.m c.args.w.now c.fill.new.w
begin c =
    let p = c.requires in
    blank _ _ _ p.le_m.2 p.coded.0 p.coded.1 c.fill.ensures c.fill.auto.w

pub loop-i-init : goal.loop-i-init
loop-i-init c = let p = c.requires.le_m in moved_none _ _ _ _ _ (fits_start _ _ p.0 p.1 (begin (goal.at.loop-i-init c).After-fill).room)

pub step-s-requires : goal.step-s-requires
step-s-requires c =
    let i = c.loop-i.invariant in (i.fits, next_able _ _ _ (begin (goal.at.step-s-requires c).After-fill) _ _ _ _ i c.loop-i-test.true)

pub loop-i-preserved : goal.loop-i-preserved
loop-i-preserved c = next_moved _ _ _ (begin (goal.at.loop-i-preserved c).After-fill) _ _ _ _ c.loop-i.invariant c.loop-i-test.true _ _ c.step-s.ensures

pub returns : goal.returns
returns c = all_built _ _ _ (begin (goal.at.returns c).After-fill) _ _ _ c.loop-i.i c.loop-i.invariant (omega arith)
