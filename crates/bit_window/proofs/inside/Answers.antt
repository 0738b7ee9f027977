use Rattle.std.proofs.Common.{ℕ, ◌+◌, ◌<◌, get_or, ◌∙◌, arith}
use Rattle.bit_window.proofs.Window.{chunk_joined, holds_chunk}
use Rattle.bit_window.proofs.Numbers.{digits_bytes}
use Rattle.bit_window.proofs.inside.Goals as goal

pub returns : goal.returns
returns c =
    let s = c.args.bytes.now in
    let q = c.args.q in
    let low : (k : ℕ) → get_or s k 0 < 256 = λ k. omega (arith, c.type_inv.bytes k) in
    let whole = (rw c.unwrap-whole.ensures at c.try_into.ensures.1).same in
    let e = c.from_be_bytes.ensures in
    (holds_chunk s _ q whole low _ e, e ∙ chunk_joined s _ q whole low ∙ digits_bytes s q c.requires (λ k h. low (q + k)))
