use Rattle.std.proofs.Common.{length, get_or, sym, ◌∙◌, arith}
use mathlib.Core.Bool.{false≢true}
use Rattle.model.proofs.Below.{below_next, below_stop, below_end}
use Rattle.striking.proofs.Striking.{struck_next, rest_next, struck_end}
use Rattle.striking.proofs.strike.Goals as goal

pub returns-then-x-n : goal.returns-then-x-n
returns-then-x-n c =
    let l = c.loop-x in
    record {
      below = sym (below_stop _ _ l.x-index c.loop-x-test.true c.if-x-n.true) ∙ l.invariant.0;
      marks = λ e. absurd (false≢true e);
      rest = l.invariant.2;
    }

pub loop-x-preserved : goal.loop-x-preserved
loop-x-preserved c =
    let l = c.loop-x in
    let order = c.args.order.now in (
      sym (below_next _ _ l.x-index (omega arith) (omega arith)) ∙ l.invariant.0,
      sym (struck_next _ _ l.x-index (omega arith)) ∙ l.invariant.1,
      rest_next (length order) (get_or order l.x-index 0) _ _ (omega arith) l.invariant.2,
    )

pub returns : goal.returns
returns c =
    let l = c.loop-x in
    record {
      below = sym (below_end _ _ l.x-index (omega arith)) ∙ l.invariant.0;
      marks = λ e. sym (struck_end _ _ l.x-index (omega arith)) ∙ l.invariant.1;
      rest = l.invariant.2;
    }
