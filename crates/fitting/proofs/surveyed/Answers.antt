use Rattle.dart_steps.specs.Plans.{rooted_plan}
use Rattle.contour.specs.Steps.{VerticesNamed}
use Rattle.fitting.proofs.Cases.{vertices_named, surveyed}
use borrow.Author.Rules.{rules}
use Rattle.fitting.proofs.surveyed.Goals as goal
use Rattle.fitting.proofs.surveyed.Goals.{After-name-vertices}

-- the vertices are named
named : (c : After-name-vertices) → VerticesNamed c.args.plan.rotation.order.now c.name-vertices.new.w
named c = vertices_named (rooted_plan c.args.plan) _ _ _ c.requires c.name-vertices.ensures

pub loop_refused-looped-requires : goal.loop_refused-looped-requires
loop_refused-looped-requires c = (c.args.plan.rotation.sized, search rules, named (goal.at.loop_refused-looped-requires c).After-name-vertices)

pub walk-met-requires : goal.walk-met-requires
walk-met-requires c = (search rules, named (goal.at.walk-met-requires c).After-name-vertices)

pub returns : goal.returns
returns c = surveyed _ _ _ _ c.requires c.name-vertices.ensures _ _ _ _ c.loop_refused-looped.ensures c.walk-met.ensures
