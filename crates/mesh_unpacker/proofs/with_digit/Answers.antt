use Rattle.std.proofs.Common.{ℕ, ◌+◌, sym, ap, ◌∙◌, arith}
use Rattle.mesh_unpacker.proofs.Digits.{digit_none, digit_one}
use Rattle.mesh_unpacker.proofs.with_digit.Goals as goal

pub returns-then-t-lt3 : goal.returns-then-t-lt3
returns-then-t-lt3 c = sym (digit_none _ _ (omega arith))

pub returns : goal.returns
returns c = ap (λ (d : ℕ). 3 + d) c.label_at-d.ensures ∙ sym (digit_one _ _ (omega arith))
