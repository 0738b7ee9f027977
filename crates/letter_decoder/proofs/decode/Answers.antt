use Rattle.std.proofs.Common.{sym, ◌∙◌}
use Rattle.builder.proofs.Whole.{blank_area}
use Rattle.letter_decoder.proofs.Runs.{answer_unclean, answer_clean}
use Rattle.letter_decoder.proofs.decode.Goals as goal

pub returns-then-not-clean : goal.returns-then-not-clean
returns-then-not-clean c = answer_unclean _ _ _ _ (sym c.clean.ensures ∙ c.if-not-clean.true)

pub run-requires-clause-m_in_bounds : goal.run-requires-clause-m_in_bounds
run-requires-clause-m_in_bounds c = let (room, blank, _) = blank_area _ _ _ c.requires.m_in_bounds c.fill.ensures in (room, blank)

pub returns : goal.returns
returns c = answer_clean _ _ _ _ _ (sym c.clean.ensures ∙ c.if-not-clean.false) c.run.ensures
