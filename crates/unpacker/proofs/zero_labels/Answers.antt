use Rattle.std.proofs.Common.{ℕ, ◌≡◌, ◌+◌, ◌-◌, ◌*◌, length, get_or, drop, sym, ap, ◌∙◌, arith}
use Rattle.model.specs.Numbers.{all_below}
use Rattle.model.proofs.Below.{below_end}
use Rattle.packing.specs.Unpack.{digits_of}
use Rattle.packing.specs.Groups.{values_of}
use Rattle.packing.proofs.Groups.{values_length, values_at}
use Rattle.unpacker.proofs.Fill.{last_labels}
use Rattle.unpacker.proofs.Padding.{length_labels}
use Rattle.unpacker.proofs.zero_labels.Goals as goal

pub returns-then-end-m : goal.returns-then-end-m
returns-then-end-m c =
    let a = c.args in let vs = values_of a.inverse.now a.bytes.now in
    let n = length_labels vs a.from in let l = values_length a.inverse.now a.bytes.now in
    sym (below_end 1 _ a.m (omega arith))

pub returns : goal.returns
returns c =
    let a = c.args in
    let vs = values_of a.inverse.now a.bytes.now in
    let l = values_length a.inverse.now a.bytes.now in
    let i = length a.bytes.now - a.from - 1 in
    let e : a.from + i ≡ length a.bytes.now - 1 = omega arith in
    let v = values_at a.inverse.now a.bytes.now (length a.bytes.now - 1) (omega arith) in
    c.ends_in_zeros.ensures ∙ sym
    (ap (all_below 1)
    (last_labels a.from vs i a.m (5 - (5 * (length a.bytes.now - a.from) - a.m)) (omega arith) (omega arith)
    ∙ ap (λ (g : ℕ). drop (5 - (5 * (length a.bytes.now - a.from) - a.m)) (digits_of 3 5 g)) (ap (λ (k : ℕ). get_or vs k 0) e ∙ v)))
