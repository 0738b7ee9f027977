use Rattle.std.proofs.Common.{◌+◌, ◌-◌, length}
use Rattle.packing.specs.Payload.{payload_bits}
use Rattle.decoder.proofs.Answers.{Running}
use Rattle.decoder.proofs.run.Given as goal

abbrev pub invariant-loop-turn : goal.invariant-loop-turn
invariant-loop-turn l = Running l.family l.m l.payload l.fn.w l.w l.s l.c

abbrev pub decreases-loop-turn : goal.decreases-loop-turn
decreases-loop-turn l = length (payload_bits l.m l.payload) - l.c.bits + l.s.opens
