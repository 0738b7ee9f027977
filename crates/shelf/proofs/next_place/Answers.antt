use native.Mathlib.Omega.{arith}
use mathlib.Core.Path.{◌∙◌}
use mathlib.Core.Logic.{⊎_elim}
use Rattle.shelf.proofs.Walking.{next_inside, next_is}
use Rattle.shelf.proofs.next_place.Goals as goal

pub overflow_add-result : goal.overflow_add-result
overflow_add-result c =
    let e = c.unwrap_or.ensures ∙ c.length_at.ensures.length in
    ⊎_elim (λ z. omega arith) (λ b. omega arith) (next_inside c.args.bytes.now c.args.at)

pub returns : goal.returns
returns c = next_is _ _ _ (c.unwrap_or.ensures ∙ c.length_at.ensures.length)
