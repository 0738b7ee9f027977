use Rattle.std.proofs.Common.{◌≡◌, ◌-◌, ◌*◌, ◌/◌, ◌%◌, arith}
use Rattle.unpacker.proofs.Labels.{five}
use Rattle.unpacker.proofs.put_group.Goals as goal

pub returns : goal.returns
returns c =
    let g = c.args.group in
    let b : g / 27 - 3 * (g / 81) ≡ g / 27 % 3 = omega arith in
    let d : g / 9 - 3 * (g / 27) ≡ g / 9 % 3 = omega arith in
    let e : g / 3 - 3 * (g / 9) ≡ g / 3 % 3 = omega arith in
    let f : g - 3 * (g / 3) ≡ g % 3 = omega arith in
    rw (b, d, e, f) (five _ _ _ c.requires)
