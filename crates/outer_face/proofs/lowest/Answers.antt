use Rattle.std.proofs.Common.{◌+◌, sym, ◌∙◌, arith}
use Rattle.outer_face.proofs.Ahead.{ahead_less}
use Rattle.outer_face.proofs.Along.{along_start, along_on, along_gone, along_end}
use Rattle.outer_face.proofs.Outer.{count_fits, inside, along_faces, marks_there, found}
use Rattle.outer_face.proofs.lowest.Goals as goal

pub standard-least-requires : goal.standard-least-requires
standard-least-requires c = marks_there c.requires _ (inside c.requires)

pub along-x-requires : goal.along-x-requires
along-x-requires c = (count_fits c.requires, inside c.requires)

pub loop-x-init : goal.loop-x-init
loop-x-init c =
    rw (c.along-x.ensures, c.standard-least.ensures) ((along_faces c.requires).bound c.args.outside (inside c.requires), (1, along_start _ _ _))

pub returns-then-least-eq0 : goal.returns-then-least-eq0
returns-then-least-eq0 c =
    let met = c.loop-x.invariant.1.1.met in found c.requires (λ j. omega arith) (met.0, sym c.if-least-eq0.true ∙ met.1)

pub standard-requires : goal.standard-requires
standard-requires c = marks_there c.requires _ c.loop-x.invariant.0

pub along-x-requires-in-loop-x : goal.along-x-requires-in-loop-x
along-x-requires-in-loop-x c = (count_fits c.requires, c.loop-x.invariant.0)

pub loop-x-smaller : goal.loop-x-smaller
loop-x-smaller c =
    rw c.along-x-in-loop-x.ensures
    (ahead_less _ _ _ (along_faces c.requires) (inside c.requires) (along_gone _ _ _ c.loop-x.invariant.1.1) c.loop-x-test.true)

pub loop-x-preserved : goal.loop-x-preserved
loop-x-preserved c =
    rw c.along-x-in-loop-x.ensures (
      (along_faces c.requires).bound c.loop-x.x c.loop-x.invariant.0,
      (
        c.loop-x.invariant.1.0 + 1,
        along_on _ _ _ c.loop-x.invariant.1.1 c.loop-x-test.true _ (omega arith) (omega arith) (grind arith),
      ),
    )

pub returns : goal.returns
returns c = let at = c.loop-x.invariant.1.1 in found c.requires (along_end _ _ _ at c.loop-x-test.false) at.met
