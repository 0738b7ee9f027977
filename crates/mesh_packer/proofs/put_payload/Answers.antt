use Rattle.std.proofs.Common.{◌*◌, arith}
use Rattle.work.specs.Map.{BITS, LABELS}
use Rattle.packer.proofs.Parts.{parts_asked, parts_placed}
use Rattle.mesh_packer.proofs.put_payload.Goals as goal

pub put_parts-requires : goal.put_parts-requires
put_parts-requires c =
    let a = c.args in
    let p = c.requires in
    parts_asked (BITS * a.n) a.s.bits (LABELS * a.n) a.s.digits a.w.now (omega arith) (omega arith) _ _ a.out.now (omega arith) (omega arith) (omega arith) (omega arith) p.4 p.5

pub returns : goal.returns
returns c =
    let a = c.args in
    parts_placed (BITS * a.n) a.s.bits (LABELS * a.n) a.s.digits a.w.now (omega arith) (omega arith) _ _ a.out.now (omega arith) (omega arith) _ c.put_parts.ensures
