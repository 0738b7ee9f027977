use native.Mathlib.Omega.{arith}
use mathlib.Core.Path.{◌≡◌}
use Prim.Native.Nat.{◌+◌, ◌<◌}
use Rattle.mesh_writing.specs.Laid.{payload_size}
use Rattle.mesh_writing.proofs.Recording.{ready, small, no_room, recorded}
use Rattle.mesh_writing.proofs.write.Goals as goal
use Rattle.mesh_writing.proofs.write.Goals.{After-groups-count}

-- the total is the record's length, and small
total_is : (c : After-groups-count) → let total = 6 + c.groups-before.result + c.groups-count.result in
    (total ≡ 6 + payload_size c.coded-s.result) × (total < 65536)
total_is c =
    let (a, b) = small _ _ _ _ c.requires c.coded-s.ensures in
    let e = c.groups-before.ensures in
    let f = c.groups-count.ensures in
    (omega arith, omega arith)

pub groups-before-requires : goal.groups-before-requires
groups-before-requires c = let (a, b) = small _ _ _ _ c.requires c.coded-s.ensures in (omega arith, omega arith, omega arith)

pub groups-count-requires : goal.groups-count-requires
groups-count-requires c = let (a, b) = small _ _ _ _ c.requires c.coded-s.ensures in (omega arith, omega arith, omega arith)

pub returns-then-out-total : goal.returns-then-out-total
returns-then-out-total c =
    no_room _ _ _ _ c.requires c.coded-s.ensures _ _ _ (total_is (goal.at.returns-then-out-total c).After-groups-count).0 c.if-out-total.true

pub overflow_cast-total : goal.overflow_cast-total
overflow_cast-total c = let (e, l) = total_is (goal.at.overflow_cast-total c).After-groups-count in omega arith

pub overflow_cast-result : goal.overflow_cast-result
overflow_cast-result c = let (e, l) = total_is (goal.at.overflow_cast-result c).After-groups-count in omega arith

pub laid_out-requires : goal.laid_out-requires
laid_out-requires c =
    let (e, l) = total_is (goal.at.laid_out-requires c).After-groups-count in
    (ready _ _ _ _ c.requires c.coded-s.ensures, e, omega arith)

pub returns : goal.returns
returns c =
    recorded _ _ _ _ c.requires c.coded-s.ensures _ _ _ (total_is (goal.at.returns c).After-groups-count).0 c.if-out-total.false _ c.laid_out.ensures
