use Rattle.std.proofs.Common.{◌/◌, length, refl, ◌∙◌, arith, rules, tests}
use Rattle.std.proofs.lemmas.Iterator.{YieldsList-from_range}
use Rattle.std.proofs.lemmas.Iterator.Search.{any_from_yields_List}
use Rattle.model.proofs.Booleans.{some_list}
use Rattle.loops.proofs.Search.{pair_at, by_pairs}
use Rattle.loops.proofs.has_loop.Goals as goal

pub returns : goal.returns
returns c =
    let names = c.args.names.now in
    let n = length c.args.order.now / 2 in
    any_from_yields_List (pair_at names) _ _ _ c.any.ensures.ran (YieldsList-from_range 0 n n refl (omega arith)) (λ x b q k. search (rules, tests))
    ∙ some_list (pair_at names) n ∙ by_pairs c.args.order.now names c.requires.0 c.requires.2
