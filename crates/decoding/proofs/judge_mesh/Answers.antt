use mathlib.Core.Path.{subst}
use native.Mathlib.Omega.{arith}
use Rattle.model.proofs.Heads.{passes_long}
use Rattle.words.specs.Word.{Found}
use Rattle.coding.specs.Payloads.{decode_mesh_record}
use Rattle.mesh_reading.specs.Stages.{Spelt}
use Rattle.decoding.proofs.Payloads.{all_bytes, mesh_asked, mesh_decoded}
use Rattle.decoding.proofs.Outcomes.{checked_under, spelt_under, mesh_had, mesh_not_had}
use Rattle.decoding.proofs.judge_mesh.Goals as goal
use Rattle.decoding.proofs.judge_mesh.Goals.{After-spell-found}

pub slice_bounds-spell-count : goal.slice_bounds-spell-count
slice_bounds-spell-count c = let (t, same, k) = c.requires.checked in let h = passes_long _ k.passed in omega arith

pub slice_bounds-spell-start : goal.slice_bounds-spell-start
slice_bounds-spell-start c = let (t, same, k) = c.requires.checked in let h = passes_long _ k.passed in omega arith

pub spell-found-requires : goal.spell-found-requires
spell-found-requires c = let (t, same, k) = c.requires.checked in mesh_asked _ _ _ _ k (all_bytes _ c.type_inv.«record»)

-- what is spelt of the payload is spelt of the record
spelt : (c : After-spell-found) → Spelt (decode_mesh_record c.args.inverse c.args.«record».now) c.args.head.edges c.spell-found.result c.args.w.now c.spell-found.new.w
spelt c =
    let (t, same, k) = c.requires.checked in
    subst (λ (v : Found). Spelt v c.args.head.edges c.spell-found.result c.args.w.now c.spell-found.new.w) (mesh_decoded _ _ _ _ k c.args.inverse) c.spell-found.ensures

pub returns-then-not-found : goal.returns-then-not-found
returns-then-not-found c =
    let d = spelt (goal.at.returns-then-not-found c).After-spell-found in
    λ t stands same.
    mesh_not_had t _ _ _ (checked_under t stands _ _ _ _ c.requires.checked) c.requires.mesh _ _ _ (spelt_under t _ _ _ _ _ _ same d) c.if-not-found.true

pub returns : goal.returns
returns c =
    let d = spelt (goal.at.returns c).After-spell-found in
    λ t stands same.
    mesh_had t _ _ _ (checked_under t stands _ _ _ _ c.requires.checked) c.requires.mesh _ _ _ (spelt_under t _ _ _ _ _ _ same d)
    (all_bytes _ c.type_inv.«record») c.if-not-found.false
