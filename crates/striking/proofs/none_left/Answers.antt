use Rattle.std.proofs.Common.{◌≡◌, take, rules}
use Rattle.std.specs.List as list
use Rattle.striking.proofs.Striking.{few_left, left_is}
use Rattle.striking.proofs.none_left.Goals as goal

pub sum-requires-clause-fits : goal.sum-requires-clause-fits
sum-requires-clause-fits c = let few = few_left c.args.n c.args.w.now c.requires.0 c.requires.2 in search (rules, few)

pub returns : goal.returns
returns c =
    let total : c.sum.result ≡ list.sum (take c.args.n c.args.w.now) = search rules in rw (total, left_is c.args.n c.args.w.now)
