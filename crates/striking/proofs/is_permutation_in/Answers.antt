use Rattle.std.proofs.Common.{◌∙◌, rules}
use Rattle.striking.proofs.Tested.{too_large, marks_small, all_below_lem}
use Rattle.striking.proofs.is_permutation_in.Goals as goal

pub none_left-requires : goal.none_left-requires
none_left-requires c =
    let m = marks_small _ _ _ _ c.requires.1 c.fill.ensures _ c.strike.ensures (c.strike.auto.w ∙ c.fill.auto.w) c.if-strike.true in
    (search rules, search rules, m)

pub returns-then-strike : goal.returns-then-strike
returns-then-strike c =
    let kept = c.strike.auto.w ∙ c.fill.auto.w in
    all_below_lem _ _ _ _ c.requires.1 c.fill.ensures _ c.strike.ensures kept c.if-strike.true _ c.none_left.ensures

pub returns-else-strike : goal.returns-else-strike
returns-else-strike c = let k = too_large _ _ _ _ c.requires.1 c.fill.ensures _ c.strike.ensures (c.strike.auto.w ∙ c.fill.auto.w) c.if-strike.false in rw c.if-strike.false k
