use Rattle.std.proofs.Common.{rules}
use Rattle.coding.specs.Payloads.{decode_mesh}
use Rattle.mesh_reading.proofs.Spelling.{untyped_spelt, spell_asked, typed_spelt}
use Rattle.mesh_reading.proofs.spell.Goals as goal

pub spell-requires : goal.spell-requires
spell-requires c = let p = c.requires in spell_asked _ _ _ _ _ c.types.ensures (search rules) p.0 p.1 p.3

pub returns-then-types : goal.returns-then-types
unfolding decode_mesh
returns-then-types c = let p = c.requires in typed_spelt _ _ _ _ _ c.types.ensures (search rules) p.1 p.0 _ _ c.spell.ensures

pub returns-else-types : goal.returns-else-types
unfolding decode_mesh
returns-else-types c = rw c.if-types.false (untyped_spelt _ _ _ _ _ c.types.ensures c.if-types.false)
