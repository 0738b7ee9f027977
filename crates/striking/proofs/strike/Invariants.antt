use Rattle.std.proofs.Common.{◌≡◌, length, drop}
use Rattle.model.specs.Numbers.{all_below}
use Rattle.striking.specs.Marks.{struck}
use Rattle.striking.proofs.strike.Given as goal

abbrev pub invariant-loop-x : goal.invariant-loop-x
invariant-loop-x l =
    (all_below (length l.order) (drop l.x-index l.order) ≡ all_below (length l.order) l.order)
    × (struck (drop l.x-index l.order) l.w ≡ struck l.order l.initial.w) × (drop (length l.order) l.w ≡ drop (length l.order) l.initial.w)
