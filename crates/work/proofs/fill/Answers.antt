use Rattle.std.proofs.Common.{◌≡◌, ◌+◌, ◌-◌, arith}
use Rattle.std.proofs.lemmas.List.{length-replicate}
use Rattle.work.specs.Area.{region}
use Rattle.work.proofs.Regions.{length_region, placed_part}
use Rattle.work.proofs.fill.Goals as goal

pub returns : goal.returns
unfolding region
returns c =
    let a = c.args.a in
    let n = c.args.n in
    let w = c.args.w.now in
    let k : a + n - a ≡ n = omega arith in
    rw (c.fill.ensures.after (λ y e. e), k, length_region a n w c.requires) (placed_part a n _ w (length-replicate n c.args.x))
