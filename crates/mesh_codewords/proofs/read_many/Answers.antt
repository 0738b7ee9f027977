use Rattle.mesh_codewords.proofs.Windows.{among_on}
use Rattle.mesh_codewords.proofs.read_many.Goals as goal

pub loop-i-preserved : goal.loop-i-preserved
loop-i-preserved c =
    let b = c.requires.payload_len_bound in let r = c.requires.reading in
    among_on _ _ _ _ _ _ _ _ _ _ c.loop-i.invariant c.loop-i-test.true r.2 b.2 r.1 _ c.eight-x.ensures _ c.pair-pair.ensures _ c.code_of.ensures
