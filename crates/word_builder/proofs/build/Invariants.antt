use Rattle.std.proofs.Common.{drop}
use Rattle.work.specs.Letters.{letters_in}
use Rattle.builder.specs.Steps.{first_state}
use Rattle.builder.specs.Moves.{Moved}
use Rattle.word_builder.proofs.build.Given as goal

abbrev pub invariant-loop-i : goal.invariant-loop-i
invariant-loop-i l = let v = letters_in l.n l.initial.w in Moved v (drop l.i v) l.m l.initial.w first_state 0 l.s l.e l.w
