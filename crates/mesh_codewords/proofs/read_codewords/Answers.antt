use Rattle.std.proofs.Common.{◌<◌, sym, arith}
use Rattle.model.proofs.Below.{below_drop}
use Rattle.packing.specs.Unpack.{bits}
use Rattle.packing.proofs.Packed.{length_bits, bits_below}
use Rattle.mesh_codewords.proofs.Codes.{head_below, reading_on, reading_short, reading_end}
use Rattle.mesh_codewords.proofs.read_codewords.Goals as goal
use Rattle.mesh_codewords.proofs.read_codewords.Goals.{In_ok-t}

-- the codeword that is read is small
low : (c : In_ok-t) → c.in_ok-t.t < 4
low c = head_below _ c.in_ok-t.t (below_drop 2 c.loop-i.c (bits c.args.payload.now) (bits_below c.args.payload.now)) (sym c.in_ok-t.ensures)

pub codeword-requires : goal.codeword-requires
codeword-requires c = let e = length_bits c.args.payload.now in (c.requires.0, omega arith)

pub returns-in_err-t : goal.returns-in_err-t
returns-in_err-t c = rw c.from_residual.ensures (reading_short _ _ _ _ _ _ _ _ c.loop-i.invariant c.loop-i-test.true (sym c.in_err-t.ensures))

pub overflow_sub-c : goal.overflow_sub-c
overflow_sub-c c = let t = low (goal.at.overflow_sub-c c).In_ok-t in omega arith

pub overflow_add-c : goal.overflow_add-c
overflow_add-c c = let t = low (goal.at.overflow_add-c c).In_ok-t in let e = length_bits c.args.payload.now in omega arith

pub loop-i-preserved : goal.loop-i-preserved
loop-i-preserved c = reading_on _ _ _ _ _ _ _ _ c.loop-i.invariant (bits_below _) (omega arith) c.loop-i-test.true c.in_ok-t.t (sym c.in_ok-t.ensures)

pub returns : goal.returns
returns c = reading_end _ _ _ _ _ _ _ _ c.loop-i.invariant (omega arith)
