use Rattle.std.proofs.Common.{sym}
use Rattle.letter_decoder.proofs.Digits.{clean_even, clean_odd}
use Rattle.letter_decoder.proofs.clean.Goals as goal

pub returns-then-m-eq0 : goal.returns-then-m-eq0
returns-then-m-eq0 c = sym (clean_even _ _ c.requires.2 c.if-m-eq0.true)

pub returns : goal.returns
returns c = clean_odd _ _ c.requires.2 c.if-m-eq0.false
