use Rattle.std.proofs.Common.{arith}
use Rattle.letter_packer.proofs.Digits.{payload_even, payload_odd}
use Rattle.letter_packer.proofs.put_payload.Goals as goal

pub returns-then-even : goal.returns-then-even
returns-then-even c = payload_even _ _ _ _ c.requires.1 (omega arith) _ c.put_full.ensures

pub returns : goal.returns
returns c = payload_odd _ _ _ _ c.requires.1 (λ even. omega arith) _ _ (let r = c.requires.4 in omega arith) c.two.ensures.0 c.put_full.ensures
