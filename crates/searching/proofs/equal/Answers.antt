use mathlib.Core.Path.{sym, ◌∙◌}
use borrow.Author.Tests.{ne_eqb}
use Rattle.searching.proofs.Equality.{kinds_unlike}
use Rattle.searching.proofs.equal.Goals as goal

pub returns-else-field-kind : goal.returns-else-field-kind
returns-else-field-kind c = ne_eqb _ _ c.if-field-kind.false ∙ sym (kinds_unlike _ _ _ c.requires.2 (λ e. c.if-field-kind.false (c.field.ensures ∙ e)))
