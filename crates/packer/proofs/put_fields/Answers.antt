use Rattle.packer.proofs.Heads.{fields_placed}
use Rattle.packer.proofs.put_fields.Goals as goal

pub returns : goal.returns
returns c = fields_placed _ _ _ _ _ _ _ c.requires c.put16.ensures c.put16-2.ensures c.put16-3.ensures
