use Rattle.std.proofs.Common.{◌≡◌, ◌-◌, ◌<◌, ◌≤◌, refl, length, get_or, arith, rules}
use borrow.Author.Tests.{tests}
use Rattle.std.proofs.lemmas.Iterator.{cases_from_all, YieldsList-from_range}
use Rattle.packing.specs.Groups.{values_of}
use Rattle.packing.proofs.Groups.{values_length, values_at}
use Rattle.unpacker.proofs.Padding.{places_below}
use Rattle.unpacker.proofs.groups_fit.Goals as goal

pub returns : goal.returns
returns c =
    let a = c.args in let i = a.inverse.now in let s = a.bytes.now in
    let l = values_length i s in
    let e : length s - a.from ≡ length (values_of i s) - a.from = omega arith in
    places_below 243 a.from (values_of i s) (λ k. get_or i (get_or s k 0) 0) (λ k h. values_at i s k (omega arith)) c.all.result
    (cases_from_all _ _ _ (λ k. get_or i (get_or s k 0) 0 < 243) (λ k. 243 ≤ get_or i (get_or s k 0) 0) c.all.ensures.ran (YieldsList-from_range a.from (length s) _ refl e)
    (λ x q k. search (rules, tests)) (λ x q k. search (rules, tests)))
