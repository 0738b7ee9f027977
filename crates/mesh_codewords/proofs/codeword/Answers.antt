use Rattle.std.proofs.Common.{ℕ, ◌+◌, Some, sym, ap, ◌∙◌, arith}
use Rattle.model.proofs.Permutations.{below_all}
use Rattle.packing.specs.Unpack.{bits}
use Rattle.packing.proofs.Packed.{length_bits, bits_below}
use Rattle.mesh_codewords.proofs.Codes.{head_none, head_one, head_last, head_two}
use Rattle.mesh_codewords.proofs.codeword.Goals as goal

pub returns-then-c-end : goal.returns-then-c-end
returns-then-c-end c = let n = length_bits c.args.payload.now in sym (head_none (bits c.args.payload.now) c.args.c (omega arith))

pub returns-then-bit_at-ne0 : goal.returns-then-bit_at-ne0
returns-then-bit_at-ne0 c =
    let n = length_bits c.args.payload.now in
    sym (head_one (bits c.args.payload.now) c.args.c (omega arith) (λ z. c.if-bit_at-ne0.true (c.bit_at.ensures ∙ z)))

pub returns-then-c-end-2 : goal.returns-then-c-end-2
returns-then-c-end-2 c =
    let n = length_bits c.args.payload.now in
    sym (head_last (bits c.args.payload.now) c.args.c (omega arith) (sym c.bit_at.ensures ∙ c.if-bit_at-ne0.false) (omega arith))

pub overflow_add-result : goal.overflow_add-result
overflow_add-result c =
    let ps = c.args.payload.now in
    let n = length_bits ps in
    let b = below_all 2 (bits ps) (bits_below ps) (c.args.c + 1) (omega arith) in
    let e = c.bit_at-b.ensures in
    omega arith

pub returns : goal.returns
returns c =
    let n = length_bits c.args.payload.now in
    ap (λ (b : ℕ). Some (b + 1)) c.bit_at-b.ensures
    ∙ sym (head_two (bits c.args.payload.now) c.args.c (omega arith) (sym c.bit_at.ensures ∙ c.if-bit_at-ne0.false) (omega arith))
