use Rattle.packer.proofs.Parts.{plain_room, starred_room, plain_payload, starred_payload}
use Rattle.packer.proofs.put_payload.Goals as goal

pub put_plain-requires : goal.put_plain-requires
put_plain-requires c =
    let p = c.requires in
    let r = plain_room c.args.family c.args.m c.args.at _ _ _ p.0 p.4 p.6 c.if-family-eq1.true in (p.1, p.2, p.3, r.0, p.5, r.1)

pub returns-then-family-eq1 : goal.returns-then-family-eq1
returns-then-family-eq1 c = plain_payload _ _ _ _ _ _ _ c.if-family-eq1.true c.put_plain.ensures

pub put_starred-requires : goal.put_starred-requires
put_starred-requires c =
    let p = c.requires in
    let r = starred_room c.args.family c.args.m c.args.at _ _ _ p.0 p.4 p.6 c.if-family-eq1.false in (p.1, p.2, p.3, r.0, p.5, r.1)

pub returns : goal.returns
returns c = starred_payload _ _ _ _ _ _ _ c.if-family-eq1.false c.put_starred.ensures
