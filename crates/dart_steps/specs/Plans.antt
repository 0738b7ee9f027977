-- The plan that a rotation and its root are.
--
--   rooted_plan r         it, with dart 0 outside
use Rattle.model.specs.Map.{Plan}
use Rattle.dart_steps.specs.declared.Rooted.{Rooted}

abbrev pub rooted_plan : Rooted → Plan
rooted_plan r = record { rotation = r.rotation.order.now; root = r.root; outside = 0 }
