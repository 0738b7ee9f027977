use Rattle.packer.proofs.Parts.{starred_asked, starred_placed}
use Rattle.packer.proofs.put_starred.Goals as goal

pub put_parts-requires : goal.put_parts-requires
put_parts-requires c = let p = c.requires in starred_asked _ _ p.0 p.1 _ _ _ _ c.groups.ensures c.groups-2.ensures p.3 p.4 p.5

pub returns : goal.returns
returns c = let p = c.requires in starred_placed _ _ p.0 p.1 _ _ _ _ c.groups.ensures c.groups-2.ensures p.3 _ c.put_parts.ensures
