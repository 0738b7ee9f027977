use Rattle.std.proofs.Common.{refl}
use Rattle.decoder.proofs.Answers.{running_start, running_asks, running_on, running_less, so_far, answer_stuck, answer_end}
use Rattle.decoder.proofs.run.Goals as goal

pub loop-turn-init : goal.loop-turn-init
loop-turn-init c =
    let z = c.requires.labelled.sized in
    running_start _ _ _ _ z.some_edge z.few_edges c.requires.m_in_bounds.0 _ _ refl refl

pub stretch-requires : goal.stretch-requires
stretch-requires c = running_asks _ _ _ _ _ _ _ c.loop-turn.invariant c.requires.labelled

pub returns-then-m-turn : goal.returns-then-m-turn
returns-then-m-turn c =
    let p = c.requires in
    answer_end _ _ _ _ _ _ _ (so_far _ _ _ _ _ _ _ c.loop-turn.invariant c.in-Some.turn _ c.in-Some.ensures) p.labelled c.if-m-turn.true p.m_in_bounds.1
    _ _ c.finish.ensures

pub loop-turn-smaller : goal.loop-turn-smaller
loop-turn-smaller c = running_less _ _ _ _ _ _ _ c.loop-turn.invariant c.in-Some.turn _ c.in-Some.ensures

pub loop-turn-preserved : goal.loop-turn-preserved
loop-turn-preserved c = running_on _ _ _ _ _ _ _ c.loop-turn.invariant c.in-Some.turn _ c.in-Some.ensures c.if-m-turn.false

pub returns : goal.returns
returns c = answer_stuck _ _ _ _ _ _ _ c.loop-turn.invariant c.stretch.new.w c.in_default.ensures
