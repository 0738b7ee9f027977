use Rattle.std.proofs.Common.{◌-◌}
use Rattle.builder.specs.Moves.{Moved}
use Rattle.letter_decoder.specs.Pairs.{letters_of}
use Rattle.letter_decoder.proofs.pair.Given as goal

abbrev pub invariant-loop : goal.invariant-loop
invariant-loop l = Moved (letters_of 2 l.x) (letters_of (2 - l.counter) l.rest) l.m l.initial.w l.initial.t l.initial.k l.t l.k l.w
