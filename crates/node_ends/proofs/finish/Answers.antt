use Rattle.node_ends.proofs.Turns.{early, other_height, finished}
use Rattle.node_ends.proofs.finish.Goals as goal

pub returns-then-s-m : goal.returns-then-s-m
returns-then-s-m c = early _ _ _ c.requires.0 c.requires.1 c.if-s-m.true

pub returns-then-two : goal.returns-then-two
returns-then-two c = finished _ _ _ c.requires.0 c.requires.1 c.if-s-m.false c.if-two.true

pub returns : goal.returns
returns c = other_height _ _ _ c.requires.0 c.requires.1 c.if-s-m.false c.if-two.false
