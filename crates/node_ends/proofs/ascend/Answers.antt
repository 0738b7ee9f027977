use Rattle.std.proofs.Common.{refl, arith}
use Rattle.model.specs.Traversal.{first, second}
use Rattle.node_ends.proofs.Turns.{turned_from, put_kept, child_turn, gap_stands, gap_turn, leaf_stands, leaf_turn, nothing_stands, nothing_turn}
use Rattle.node_ends.proofs.ascend.Goals as goal

pub returns-in-1 : goal.returns-in-1
returns-in-1 c = child_turn _ _ _ c.requires.0 c.requires.1 c.in-1.is

pub complete-requires : goal.complete-requires
complete-requires c = (gap_stands _ _ _ c.requires.0 c.requires.1 c.in-2.is, c.requires.1)

pub returns-in-2 : goal.returns-in-2
returns-in-2 c =
    let a = c.args in turned_from c.complete.ensures (gap_turn _ _ _ c.requires.0 c.requires.1 c.in-2.is) (put_kept a.m a.w.now a.s.put second)

pub complete-requires-in-3 : goal.complete-requires-in-3
complete-requires-in-3 c = (leaf_stands _ _ _ c.requires.0 c.requires.1 c.in-3.is, c.requires.1)

pub returns-in-3 : goal.returns-in-3
returns-in-3 c =
    let a = c.args in turned_from c.complete-in-3.ensures (leaf_turn _ _ _ c.requires.0 c.requires.1 c.in-3.is) (put_kept a.m a.w.now a.s.put first)

pub complete-requires-in_default : goal.complete-requires-in_default
complete-requires-in_default c =
    (nothing_stands _ _ _ c.requires.0 c.requires.1 (omega arith) (omega arith) (omega arith), c.requires.1)

pub returns-in_default : goal.returns-in_default
returns-in_default c =
    turned_from c.complete-in_default.ensures (nothing_turn _ _ _ c.requires.0 c.requires.1 (omega arith) (omega arith) (omega arith)) refl
