use Rattle.std.proofs.Common.{arith}
use Rattle.mesh_encoder.proofs.Coding.{start_coding, next_coding, end_coding, type_here}
use Rattle.mesh_encoder.proofs.codes.Goals as goal

pub loop-i-init : goal.loop-i-init
loop-i-init c = let p = c.requires in start_coding _ _ _ p.1 p.2

pub put_code-s-requires : goal.put_code-s-requires
put_code-s-requires c =
    let p = c.requires in
    let at = c.loop-i in
    let t = type_here _ _ _ p.1 p.2 at.i _ _ at.invariant c.loop-i-test.true p.3 in
    (p.0, omega (arith, p, at.auto.w), t.0, t.1, t.2)

pub loop-i-preserved : goal.loop-i-preserved
loop-i-preserved c =
    let p = c.requires in
    let at = c.loop-i in
    next_coding _ _ _ p.1 p.2 at.i _ _ at.invariant c.loop-i-test.true _ _ c.put_code-s.ensures

pub returns : goal.returns
returns c = let p = c.requires in let at = c.loop-i in end_coding _ _ _ p.1 p.2 at.i _ _ at.invariant (omega (arith, at.invariant.place, c.loop-i-test.false))
