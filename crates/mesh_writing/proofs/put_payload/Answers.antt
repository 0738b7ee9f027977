use Rattle.mesh_writing.proofs.Laying.{table_asked, tabled}
use Rattle.mesh_writing.proofs.put_payload.Goals as goal

pub apply-requires : goal.apply-requires
apply-requires c =
    let p = c.requires in
    table_asked _ _ _ p.0 _ _ p.1 p.2 _ c.put_payload.ensures _ _ c.groups-before.ensures c.groups-count.ensures

pub returns : goal.returns
returns c =
    let p = c.requires in
    tabled _ _ _ p.0 _ _ p.1 p.2 _ c.put_payload.ensures _ _ c.groups-before.ensures c.groups-count.ensures _ _ c.apply.ensures
