use Rattle.std.proofs.Common.{◌*◌, drop}
use Rattle.packing.specs.Letters.{payload_letters}
use Rattle.builder.specs.Steps.{first_state}
use Rattle.builder.specs.Moves.{Moved}
use Rattle.letter_decoder.proofs.run.Given as goal

abbrev pub invariant-loop-i : goal.invariant-loop-i
invariant-loop-i l = let v = payload_letters l.m l.payload in Moved v (drop (2 * l.i) v) l.m l.initial.w first_state 0 l.s l.e l.w
