use native.Mathlib.Omega.{arith}
use borrow.Author.Rules.{rules}
use mathlib.Core.Path.{refl}
use lib.Seq.{paste-zero}
use Rattle.placing.proofs.Storing.{put_turn, put_ends}
use Rattle.placing.proofs.put.Goals as goal

pub loop-i-init : goal.loop-i-init
loop-i-init c = (paste-zero _ c.args.at c.args.«record».now, refl)

pub loop-i-preserved : goal.loop-i-preserved
loop-i-preserved c = (put_turn _ _ _ _ c.loop-i.i c.loop-i.invariant.0 (omega arith) (omega arith), search rules)

pub returns : goal.returns
returns c = put_ends c.args.shelf.now c.args.at c.args.«record».now _ c.loop-i.i (omega arith) c.loop-i.invariant.0
