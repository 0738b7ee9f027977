use Rattle.std.proofs.Common.{length, refl, ◌∙◌, arith, rules, tests}
use Rattle.std.proofs.lemmas.Iterator.{YieldsList-from_range}
use Rattle.std.proofs.lemmas.Iterator.Search.{any_from_yields_List}
use Rattle.model.proofs.Booleans.{some_list}
use Rattle.dead_ends.proofs.Search.{alone_at, by_entries}
use Rattle.dead_ends.proofs.has_dead_end.Goals as goal

pub returns : goal.returns
returns c =
    let rot = c.args.order.now in
    let test = alone_at rot c.args.root in
    any_from_yields_List test _ _ _ c.any.ensures.ran (YieldsList-from_range 0 (length rot) (length rot) refl (omega arith)) (λ x b q k. search (rules, tests))
    ∙ some_list test (length rot) ∙ by_entries rot c.args.root c.requires.0 c.requires.1
