use mathlib.Core.Path.{◌∙◌}
use Rattle.searching.proofs.Turn.{past_broken, past_whole}
use Rattle.searching.proofs.there.Goals as goal

pub returns-in_err-count : goal.returns-in_err-count
returns-in_err-count c = c.from_residual.ensures ∙ past_broken _ c.args.n c.args.compared c.in_err-count.ensures

pub returns : goal.returns
returns c = past_whole _ _ _ _ c.in_ok-count.ensures
