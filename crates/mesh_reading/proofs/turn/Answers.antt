use Rattle.std.proofs.Common.{◌*◌, take, arith}
use Rattle.model.proofs.Fitness.{Fit, count_even}
use Rattle.words.specs.Word.{rooted}
use Rattle.mesh_reading.proofs.Turning.{order_long, mesh_there, turned}
use Rattle.mesh_reading.proofs.turn.Goals as goal
use Rattle.mesh_reading.proofs.turn.Goals.{Start}

-- what is known of the plan in the output
mesh : (c : Start) → Fit 3 (rooted (take (2 * c.args.m) c.args.out.now))
mesh c = let p = c.requires in mesh_there _ c.args.w.now _ p.0 p.1 p.2 p.3

pub invariant_of-rotation : goal.invariant_of-rotation
invariant_of-rotation c = let f = mesh (goal.at.invariant_of-rotation c).Start in record { sized = f.count; entries = f.entries }

-- its count being even, dart 1 would do as well
pub invariant_of-walk : goal.invariant_of-walk
invariant_of-walk c =
    let f = mesh (goal.at.invariant_of-walk c).Start in
    let even = count_even _ f.count in
    record { dart = omega (arith, even, f.root) }

pub walk-requires : goal.walk-requires
walk-requires c =
    let p = c.requires in
    let long = order_long _ c.args.w.now _ p.0 p.1 p.2 p.3 in
    ((mesh (goal.at.walk-requires c).Start).joined, omega arith)

pub returns : goal.returns
returns c = let p = c.requires in turned _ _ _ p.0 p.1 p.2 p.3 _ c.walk.ensures _ c.copy_front.ensures
