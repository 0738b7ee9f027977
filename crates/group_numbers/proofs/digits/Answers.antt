use Rattle.std.proofs.Common.{arith}
use Rattle.group_numbers.proofs.Numerals.{More, no_digits, digit_more, all_digits}
use Rattle.group_numbers.proofs.digits.Given.{Over}
use Rattle.group_numbers.proofs.digits.Goals as goal
use Rattle.group_numbers.proofs.digits.Goals.{After-digit}

pub loop-i-init : goal.loop-i-init
loop-i-init g c = no_digits _ _ c.args.ds.now

more : (g : Over) (c : After-digit g) → More g.row.BASE g.row.WIDTH c.args.ds.now c.loop-i.i c.loop-i.x c.loop-i.place c.digit.result
more g c =
    let p = c.requires in
    let l = c.loop-i in
    digit_more _ _ _ p.0 p.1 p.2 l.i l.x l.place _ c.loop-i-test.true l.auto.i l.invariant.0 l.invariant.1 c.digit.ensures

pub overflow_mul-x : goal.overflow_mul-x
overflow_mul-x g c = let m = more g (goal.at.overflow_mul-x g c).After-digit in omega (arith, m.fits)

pub overflow_add-x : goal.overflow_add-x
overflow_add-x g c = let m = more g (goal.at.overflow_add-x g c).After-digit in omega (arith, m.fits)

pub overflow_mul-place : goal.overflow_mul-place
overflow_mul-place g c = let m = more g (goal.at.overflow_mul-place g c).After-digit in omega (arith, m.low)

pub loop-i-preserved : goal.loop-i-preserved
loop-i-preserved g c = let m = more g (goal.at.loop-i-preserved g c).After-digit in (m.sum, m.power)

pub overflow_cast-result : goal.overflow_cast-result
overflow_cast-result g c =
    let p = c.requires in let a = all_digits _ _ _ p.0 p.1 p.2 c.loop-i.i c.loop-i.x (omega arith) c.loop-i.invariant.0 in omega (arith, a.1)

pub returns : goal.returns
returns g c = let p = c.requires in (all_digits _ _ _ p.0 p.1 p.2 c.loop-i.i c.loop-i.x (omega arith) c.loop-i.invariant.0).0
