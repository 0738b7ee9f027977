use Rattle.std.proofs.Common.{◌+◌, ◌-◌, length}
use Rattle.packing.specs.Payload.{payload_bits}
use Rattle.decoder_ends.specs.States.{stage}
use Rattle.decoder.proofs.Stretches.{Stretching}
use Rattle.decoder.proofs.stretch.Given as goal

abbrev pub invariant-loop-turn : goal.invariant-loop-turn
invariant-loop-turn l = Stretching l.family l.m l.payload l.fn.w (stage l.fn.c.labels l.fn.s) l.fn.c.bits l.end l.w l.s l.c

abbrev pub decreases-loop-turn : goal.decreases-loop-turn
decreases-loop-turn l = length (payload_bits l.m l.payload) - l.c.bits + l.s.opens
