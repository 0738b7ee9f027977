use Rattle.std.proofs.Common.{sym, ◌∙◌, arith}
use Rattle.model.proofs.Fitness.{count_parts}
use Rattle.following.proofs.Area.{following_here, following_few, following_start, following_step, following_end}
use Rattle.following.proofs.follow.Goals as goal

pub overflow_cast-name : goal.overflow_cast-name
overflow_cast-name g c = let n = count_parts _ c.requires.size in omega arith

pub loop-x-init : goal.loop-x-init
loop-x-init g c = record {
  dart = c.requires.below;
  part = following_start g.met.S.Steps.permutes c.requires;
  onward = λ l. absurd (omega arith);
}

pub overflow_add-steps : goal.overflow_add-steps
overflow_add-steps g c =
    let n = count_parts _ c.requires.size in
    let k = following_few g.met.S.Steps.permutes c.requires c.loop-x.invariant.part c.loop-x.invariant.onward in
    omega arith

pub returns-then-x-start : goal.returns-then-x-start
returns-then-x-start g c =
    let more = following_step g.met.S.Steps.permutes c.requires c.loop-x.invariant.part c.loop-x.invariant.onward in
    following_end g.met.S.Steps.permutes c.requires more (omega arith) (sym c.step-x.ensures ∙ c.if-x-start.true)

pub loop-x-smaller : goal.loop-x-smaller
loop-x-smaller g c =
    let k = following_few g.met.S.Steps.permutes c.requires c.loop-x.invariant.part c.loop-x.invariant.onward in omega arith

pub loop-x-preserved : goal.loop-x-preserved
loop-x-preserved g c =
    let more = following_step g.met.S.Steps.permutes c.requires c.loop-x.invariant.part c.loop-x.invariant.onward in
    let here = following_here g.met.S.Steps.permutes c.requires more in
    let new = c.if-x-start.false in
    rw c.step-x.ensures (record { dart = here; part = more; onward = λ l e. new (c.step-x.ensures ∙ e) })
