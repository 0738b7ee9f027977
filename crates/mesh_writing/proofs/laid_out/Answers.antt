use mathlib.Core.Path.{refl}
use Rattle.mesh_writing.proofs.Laying.{head_room, payload_asked, laid}
use Rattle.mesh_writing.proofs.laid_out.Goals as goal

pub put_head-at-requires : goal.put_head-at-requires
put_head-at-requires c = head_room _ _ _ c.args.out.now c.requires.0 c.requires.2

pub put_payload-requires : goal.put_payload-requires
put_payload-requires c =
    let h = c.put_head-at in
    let (begins, fits) = payload_asked _ _ _ c.args.out.now c.requires.0 c.requires.2 _ h.new.out h.ensures.begins h.auto.out in
    (c.requires.0, begins, fits)

pub returns : goal.returns
returns c = laid _ _ _ _ c.requires.0 c.requires.2 _ _ _ _ _ _ c.requires.1 refl c.put_head-at.ensures c.put_payload.ensures
