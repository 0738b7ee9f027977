use Rattle.std.proofs.Common.{◌≡◌, ◌-◌, ◌<◌, ◌≤◌, refl, length, get_or, take, arith, rules}
use borrow.Author.Tests.{tests}
use lib.Seq.{length-take-le, get_or-take}
use Rattle.std.proofs.lemmas.Iterator.{cases_from_all, YieldsList-from_range}
use Rattle.packing.specs.Unpack.{bits}
use Rattle.packing.proofs.Packed.{length_bits}
use Rattle.unpacker.proofs.Padding.{places_below}
use Rattle.unpacker.proofs.zero_bits.Goals as goal

pub returns : goal.returns
returns c =
    let a = c.args in let bs = bits a.bytes.now in
    let l = length-take-le a.to bs (let n = length_bits a.bytes.now in omega arith) in
    let e : a.to - a.from ≡ length (take a.to bs) - a.from = omega arith in
    places_below 1 a.from (take a.to bs) (λ k. get_or bs k 0) (λ k h. get_or-take a.to bs k 0 (omega arith)) c.all.result
    (cases_from_all _ _ _ (λ k. get_or bs k 0 < 1) (λ k. 1 ≤ get_or bs k 0) c.all.ensures.ran (YieldsList-from_range a.from a.to _ refl e)
    (λ x q k. search (rules, tests)) (λ x q k. search (rules, tests)))
