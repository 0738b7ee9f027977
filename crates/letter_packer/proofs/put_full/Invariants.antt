use Rattle.std.proofs.Common.{◌≡◌, ◌*◌}
use Rattle.model.specs.Record.{pack}
use Rattle.work.specs.Area.{placed}
use Rattle.letter_packer.specs.Digits.{digits_at}
use Rattle.letter_packer.proofs.put_full.Given as goal

abbrev pub invariant-loop-i : goal.invariant-loop-i
invariant-loop-i l = l.out ≡ placed l.at (pack 4 4 l.i (digits_at 0 (2 * l.m) l.w)) l.initial.out
