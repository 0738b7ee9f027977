use Rattle.decoder_turns.proofs.Turning.{more_seen, turn_up, turn_down}
use Rattle.decoder_turns.proofs.turn.Goals as goal

pub returns-then-bit-eq0 : goal.returns-then-bit-eq0
returns-then-bit-eq0 c =
    let z = c.requires.sees in let x = c.bit-bit in let v = c.rise in
    turn_up _ _ _ _ _ _ x.result x.ensures z.0 z.1 v.result _ c.requires.labelled.0 c.if-bit-eq0.true v.ensures

pub descend-requires-clause-sees : goal.descend-requires-clause-sees
descend-requires-clause-sees c =
    let a = c.args in let z = c.requires.sees in let x = c.bit-bit in
    more_seen a.family a.m a.payload.now a.w.now a.s a.c x.result x.ensures z.0 z.1

pub returns : goal.returns
returns c =
    let z = c.requires.sees in let x = c.bit-bit in let v = c.descend in
    turn_down _ _ _ _ _ _ x.result x.ensures z.0 z.1 v.result _ c.if-bit-eq0.false v.ensures
