use Rattle.packer.proofs.Parts.{plain_asked, plain_placed}
use Rattle.packer.proofs.put_plain.Goals as goal

pub put_groups-requires : goal.put_groups-requires
put_groups-requires c = let p = c.requires in plain_asked _ _ _ _ p.0 _ c.groups-count.ensures p.3 p.4 p.5

pub returns : goal.returns
returns c = let p = c.requires in plain_placed _ _ _ _ p.0 _ c.groups-count.ensures p.3 _ c.put_groups.ensures
