use Rattle.std.proofs.Common.{◌≡◌, ◌+◌, ◌*◌, ◌++◌, drop, arith}
use Rattle.packing.specs.Letters.{payload_letters}
use Rattle.packing.proofs.Letters.{letters_count}
use Rattle.builder.proofs.Moves.{fits_start, moved_none}
use Rattle.letter_decoder.specs.Pairs.{letters_of}
use Rattle.letter_decoder.proofs.Digits.{letters_next}
use Rattle.letter_decoder.proofs.Runs.{goes_on_lem, stuck_on, answer_stuck, answer_end}
use Rattle.letter_decoder.proofs.run.Goals as goal
use Rattle.letter_decoder.proofs.run.Goals.{After-half}

-- the letters that are read are the next
next : (c : After-half) → let v = payload_letters c.args.m c.args.payload.now in
    drop (2 * c.loop-i.i) v ≡ letters_of 2 c.half.result ++ drop (2 * (c.loop-i.i + 1)) v
next c = rw c.half.ensures (letters_next c.args.payload.now c.args.m c.requires.le_m.2 c.loop-i.i c.loop-i-test.true)

pub loop-i-init : goal.loop-i-init
loop-i-init c = let p = c.requires.le_m in moved_none _ _ _ _ _ (fits_start _ _ p.0 p.1 c.requires.m_in_bounds.0)

pub returns-in_default : goal.returns-in_default
returns-in_default c =
    let q = next (goal.at.returns-in_default c).After-half in
    answer_stuck _ _ _ (letters_count _ _ c.requires.le_m.2) _ (stuck_on _ _ _ _ _ _ _ _ _ c.loop-i.invariant _ _ _ q c.in_default.ensures)

pub loop-i-preserved : goal.loop-i-preserved
loop-i-preserved c =
    let q = next (goal.at.loop-i-preserved c).After-half in
    goes_on_lem _ _ _ _ _ _ _ _ _ c.loop-i.invariant _ _ _ q _ _ c.in-Some.ensures

pub returns : goal.returns
returns c =
    answer_end _ _ _ (letters_count _ _ c.requires.le_m.2) c.requires.m_in_bounds.1 _ _ (2 * c.loop-i.i) _ c.loop-i.invariant (omega arith)
