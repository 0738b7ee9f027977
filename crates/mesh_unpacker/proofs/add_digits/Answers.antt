use Rattle.std.proofs.Common.{◌≡◌, ◌-◌, ◌*◌, length, drop, arith}
use Rattle.packing.specs.Unpack.{groups}
use Rattle.packing.specs.Groups.{values_of}
use Rattle.packing.proofs.Groups.{values_length}
use Rattle.unpacker.proofs.Padding.{length_labels}
use Rattle.mesh_unpacker.proofs.Digits.{adding_start, adding_end, adding_below, adding_there, adding_on}
use Rattle.mesh_unpacker.proofs.add_digits.Goals as goal
use Rattle.mesh_unpacker.proofs.add_digits.Goals.{Start}

-- how many digits there are
many : (c : Start) → let a = c.args in length (groups (drop a.from (values_of a.inverse.now a.payload.now))) ≡ 5 * (length a.payload.now - a.from)
many c =
    let a = c.args in
    let n = length_labels (values_of a.inverse.now a.payload.now) a.from in
    let l = values_length a.inverse.now a.payload.now in
    omega arith

pub loop-i-init : goal.loop-i-init
loop-i-init c =
    let n = many (goal.at.loop-i-init c).Start in let p = c.requires.n_in_bounds in
    adding_start _ _ _ _ p.0 p.1 (omega (arith, c.requires.w_len_bound))

pub with_digit-requires : goal.with_digit-requires
with_digit-requires c =
    let n = many (goal.at.with_digit-requires c).Start in
    let p = c.requires.sizes in let room = c.requires.n_in_bounds.0 in let h = c.loop-i-test.true in
    (p.1, λ e. let j = adding_there _ _ _ _ room _ _ _ c.loop-i.invariant h e in omega arith, adding_below _ _ _ _ room _ _ _ c.loop-i.invariant h)

pub overflow_add-j : goal.overflow_add-j
overflow_add-j c =
    let n = many (goal.at.overflow_add-j c).Start in
    let t = adding_below _ _ _ _ c.requires.n_in_bounds.0 _ _ _ c.loop-i.invariant c.loop-i-test.true in
    omega arith

pub loop-i-preserved : goal.loop-i-preserved
loop-i-preserved c = adding_on _ _ _ _ c.requires.n_in_bounds.0 _ _ _ c.loop-i.invariant c.loop-i-test.true _ c.with_digit.ensures

pub returns : goal.returns
returns c = adding_end _ _ _ _ c.requires.n_in_bounds.0 _ _ _ c.loop-i.invariant (omega arith)
