use Rattle.std.proofs.Common.{sym, ◌∙◌, arith}
use Rattle.std.proofs.lemmas.Bool.{false≢true}
use Rattle.unpacker.proofs.Payload.{labels_in_two}
use Rattle.unpacker.proofs.unpack_groups.Goals as goal

pub returns-then-clean : goal.returns-then-clean
returns-then-clean c = record {
  clean = c.groups_clean-clean.ensures;
  labels = λ e. labels_in_two _ _ _ _ (λ q. absurd (omega (arith, q))) ∙ c.spread_groups.ensures;
}

pub returns-else-clean : goal.returns-else-clean
returns-else-clean c = record { clean = c.groups_clean-clean.ensures; labels = λ e. absurd (false≢true (sym c.if-clean.false ∙ e)) }
