use Rattle.std.proofs.Common.{sym, ◌∙◌}
use borrow.Author.Tests.{ne_eqb}
use Rattle.table_test.proofs.Exact.{told_marks, told_all}
use Rattle.table_test.proofs.leads_all_back.Goals as goal

pub returns-then-counted : goal.returns-then-counted
returns-then-counted c =
    told_all _ c.told-bytes c.fits-bytes c.told-inverse (sym c.marks-counted.ensures ∙ c.if-counted.true) _ c.leads_back.ensures

pub returns-else-counted : goal.returns-else-counted
returns-else-counted c =
    let d = c.if-counted.false in ne_eqb _ _ d ∙ told_marks _ (λ e. d (c.marks-counted.ensures ∙ e))
