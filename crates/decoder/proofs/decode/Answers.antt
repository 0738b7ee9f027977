use Rattle.std.proofs.Common.{sym, ◌∙◌, arith}
use Rattle.decoder.proofs.Answers.{Prepared, prepared, answer_unclean, answer_clean}
use Rattle.decoder.proofs.decode.Goals as goal
use Rattle.decoder.proofs.decode.Goals.{After-fill}

begin : (c : After-fill) → let a = c.args in Prepared a.inverse a.family a.m a.payload.now c.fill.new.w
begin c =
    let p = c.requires in let u = c.unpack in let k = u.auto.w in let h = p.2 in
    let clean = sym u.ensures.clean ∙ c.if-not-unpack.false in
    prepared _ _ _ _ p.0 p.1 clean _ _ (omega arith) (u.ensures.labels c.if-not-unpack.false) c.fill.ensures

pub returns-then-not-unpack : goal.returns-then-not-unpack
returns-then-not-unpack c =
    let a = c.args in
    answer_unclean a.inverse _ _ a.payload.now _ _ (sym c.unpack.ensures.clean ∙ c.if-not-unpack.true)

pub run-requires : goal.run-requires
run-requires c = let b = begin (goal.at.run-requires c).After-fill in record { labelled = b.labelled; m_in_bounds = (b.room, b.blank) }

pub returns : goal.returns
returns c = answer_clean _ _ _ _ _ _ _ _ (begin (goal.at.returns c).After-fill) c.run.ensures
