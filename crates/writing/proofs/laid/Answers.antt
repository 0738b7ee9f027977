use Rattle.writing.proofs.Making.{other_laid, mesh_laid}
use Rattle.writing.proofs.laid.Goals as goal

pub write-requires : goal.write-requires
write-requires c = c.requires.mesh c.if-kind-eq3.true

pub returns-then-kind-eq3 : goal.returns-then-kind-eq3
returns-then-kind-eq3 c =
    λ t same. mesh_laid t (record { rotation = c.args.order.now; root = c.args.root; outside = c.args.outside }) same c.write.ensures _ c.if-kind-eq3.true

pub laid_out-requires : goal.laid_out-requires
laid_out-requires c = c.requires.other c.if-kind-eq3.false

pub returns : goal.returns
returns c = λ t same. other_laid t _ _ _ _ _ _ c.if-kind-eq3.false (c.laid_out.ensures t same)
