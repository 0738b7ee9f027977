use Rattle.mesh_reading.proofs.Spelling.{word_there, mesh_there, mesh_found}
use Rattle.mesh_reading.proofs.read.Goals as goal

pub put-requires : goal.put-requires
put-requires c = let p = c.requires in (word_there _ _ _ _ _ c.spell.ensures c.args.out.now c.if-not-spell.false p.0 p.1 p.3, p.4)

pub turn-requires : goal.turn-requires
turn-requires c = let p = c.requires in mesh_there _ _ _ _ _ c.spell.ensures _ c.if-not-spell.false p.0 p.1 p.3 _ _ c.put.ensures p.4

pub returns : goal.returns
returns c = let p = c.requires in mesh_found _ _ _ _ _ c.spell.ensures _ c.if-not-spell.false p.0 p.1 p.3 _ _ c.put.ensures _ c.turn.ensures
