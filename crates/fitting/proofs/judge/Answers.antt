use mir.Facts.{to_z-of_z}
use mir.Syntax.{w32}
use mir.Val.{SFits}
use native.Mathlib.Omega.{arith}
use Rattle.model.proofs.Numbered.{passed_on}
use Rattle.characteristic.proofs.Signed.{bits_is, bits_not}
use Rattle.dart_steps.specs.Plans.{rooted_plan}
use Rattle.fitting.proofs.Cases.{Looked, parted, Counted, few_counts, curved, flat_refused, flat_fits}
use Rattle.fitting.proofs.judge.Goals as goal
use Rattle.fitting.proofs.judge.Goals.{After-surveyed-s, After-name-faces, After-euler-x}

-- the plan is surveyed
looked : (c : After-surveyed-s) →
    Looked c.args.family (rooted_plan c.args.plan) c.args.w.now c.surveyed-s.result c.surveyed-s.new.w
looked c = record { fits = c.args.plan.rotation.sized; entries = c.args.plan.rotation.entries; low = c.args.plan.dart; room = c.requires; survey = c.surveyed-s.ensures }

-- every dart is met, and the faces are counted
counted : (c : After-name-faces) →
    Counted c.args.family (rooted_plan c.args.plan) c.args.w.now c.surveyed-s.result c.surveyed-s.new.w
    c.name-faces.result c.name-faces.new.w
counted c = record { looked = looked (goal.at.After-name-faces c).After-surveyed-s; all = c.if-s-n.false; named = c.name-faces.ensures }

pub returns-then-s-n : goal.returns-then-s-n
returns-then-s-n c = parted (looked (goal.at.returns-then-s-n c).After-surveyed-s) c.if-s-n.true

pub euler-x-requires : goal.euler-x-requires
euler-x-requires c = few_counts (counted (goal.at.euler-x-requires c).After-name-faces)

-- the characteristic is a small number
small : (c : After-euler-x) → SFits w32 c.euler-x.result
small c = record { sfits = c.euler-x.type_inv }

pub returns-then-x-ne2 : goal.returns-then-x-ne2
returns-then-x-ne2 c =
    let at = goal.at.returns-then-x-ne2 c in
    rw (to_z-of_z (small at.After-euler-x)) (curved (counted at.After-name-faces) c.euler-x.ensures (bits_not c.euler-x.result 2 c.if-x-ne2.true))

pub returns-in_err-local : goal.returns-in_err-local
returns-in_err-local c =
    let at = goal.at.returns-in_err-local c in
    rw (passed_on _ _ c.from_residual.ensures)
    (flat_refused (counted at.After-name-faces) c.euler-x.ensures
    (bits_is c.euler-x.result 2 (omega arith) (small at.After-euler-x) c.if-x-ne2.false) c.in_err-local.ensures)

pub returns : goal.returns
returns c =
    let at = goal.at.returns c in
    flat_fits (counted at.After-name-faces) c.euler-x.ensures
    (bits_is c.euler-x.result 2 (omega arith) (small at.After-euler-x) c.if-x-ne2.false) c.in_ok-local.ensures
