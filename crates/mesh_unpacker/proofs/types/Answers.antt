use Rattle.std.proofs.Common.{◌*◌, ◌-◌, ◌/◌, sym, ◌∙◌, arith}
use Rattle.work.specs.Map.{TYPES}
use Rattle.mesh_codewords.specs.Reading.{CodesRead}
use Rattle.mesh_unpacker.proofs.Codes.{Found, counted}
use Rattle.mesh_unpacker.proofs.Whole.{clean_room, typed_other, typed_short, typed_unclean, typed_clean}
use Rattle.mesh_unpacker.proofs.types.Goals as goal
use Rattle.mesh_unpacker.proofs.types.Goals.{In-Some}

-- what the codewords are
found : (c : In-Some) → let a = c.args in let r = c.in-Some.counts in
    Found a.payload.now (2 * (a.m / 3) - 1) (TYPES * (2 * a.m)) c.read_codewords.new.w r.bits r.digits
found c = counted _ _ _ _ _ c.in-Some.ensures (let k = c.read_codewords.auto.w in let room = c.requires.3 in omega arith)

pub returns-then-m-ne0 : goal.returns-then-m-ne0
returns-then-m-ne0 c = typed_other _ _ _ _ c.if-m-ne0.true

pub returns-in_default : goal.returns-in_default
unfolding CodesRead
returns-in_default c = typed_short _ _ _ _ c.if-m-ne0.false _ c.read_codewords.auto.w c.in_default.ensures

pub clean-requires : goal.clean-requires
clean-requires c = let f = found (goal.at.clean-requires c).In-Some in let p = c.requires in let few = f.few in (p.2, f.fits, omega arith)

pub returns-then-not-clean : goal.returns-then-not-clean
returns-then-not-clean c =
    let f = found (goal.at.returns-then-not-clean c).In-Some in
    typed_unclean _ _ _ _ c.if-m-ne0.false _ _ _ f.codes f.digits f.fits _ c.read_codewords.auto.w (sym c.clean.ensures ∙ c.if-not-clean.true)

pub overflow_add-counts : goal.overflow_add-counts
overflow_add-counts c = let f = (found (goal.at.overflow_add-counts c).In-Some).fits in let p = c.requires.2 in omega arith

pub add_digits-requires : goal.add_digits-requires
add_digits-requires c =
    let f = found (goal.at.add_digits-requires c).In-Some in
    let p = c.requires in let k = c.read_codewords.auto.w in let fits = f.fits in let d = f.digits in
    let long = clean_room c.args.inverse.now c.args.payload.now _ _ fits (sym c.clean.ensures ∙ c.if-not-clean.false) in
    record { sizes = (p.2, omega arith, omega arith); n_in_bounds = (omega arith, f.below); w_len_bound = omega arith }

pub returns : goal.returns
returns c =
    let f = found (goal.at.returns c).In-Some in
    typed_clean _ _ _ _ c.if-m-ne0.false _ _ _ f.codes f.digits f.fits _ (c.add_digits.auto.w ∙ c.read_codewords.auto.w) (sym c.clean.ensures ∙ c.if-not-clean.false)
    (let p = c.requires.3 in omega arith) c.add_digits.ensures
