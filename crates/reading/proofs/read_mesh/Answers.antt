use mathlib.Core.Path.{subst}
use native.Mathlib.Omega.{arith}
use Rattle.model.proofs.Heads.{passes_long}
use Rattle.words.specs.Word.{Found}
use Rattle.coding.specs.Payloads.{decode_mesh_record}
use Rattle.mesh_reading.specs.Read.{MeshRead}
use Rattle.decoding.proofs.Payloads.{all_bytes, mesh_asked, mesh_decoded}
use Rattle.decoding.proofs.Outcomes.{checked_under}
use Rattle.reading.proofs.Outcomes.{mesh_under, mesh_read, mesh_unreadable}
use Rattle.reading.proofs.read_mesh.Goals as goal
use Rattle.reading.proofs.read_mesh.Goals.{After-read-found}

pub slice_bounds-read-count : goal.slice_bounds-read-count
slice_bounds-read-count c = let (t, same, k) = c.requires.checked in let h = passes_long _ k.passed in omega arith

pub slice_bounds-read-start : goal.slice_bounds-read-start
slice_bounds-read-start c = let (t, same, k) = c.requires.checked in let h = passes_long _ k.passed in omega arith

pub read-found-requires : goal.read-found-requires
read-found-requires c =
    let (t, same, k) = c.requires.checked in
    let (some, few, short, room) = mesh_asked _ _ _ _ k (all_bytes _ c.type_inv.«record») in
    let m = k.edges in
    (some, few, short, room, omega arith)

-- what is read of the payload is read of the record
decoded : (c : After-read-found) → MeshRead (decode_mesh_record c.args.inverse c.args.«record».now) c.read-found.result c.args.out.now c.read-found.new.out
decoded c =
    let (t, same, k) = c.requires.checked in
    subst (λ (w : Found). MeshRead w c.read-found.result c.args.out.now c.read-found.new.out) (mesh_decoded _ _ _ _ k c.args.inverse) c.read-found.ensures

pub returns-then-not-found : goal.returns-then-not-found
returns-then-not-found c =
    let d = decoded (goal.at.returns-then-not-found c).After-read-found in
    λ t stands same.
    mesh_unreadable t _ _ _ (checked_under t stands _ _ _ _ c.requires.checked) c.requires.mesh _ _ _ (mesh_under t _ _ _ _ _ same d) c.if-not-found.true

pub returns : goal.returns
returns c =
    let d = decoded (goal.at.returns c).After-read-found in
    λ t stands same.
    mesh_read t _ _ _ (checked_under t stands _ _ _ _ c.requires.checked) c.requires.mesh _ _ _ (mesh_under t _ _ _ _ _ same d)
    (all_bytes _ c.type_inv.«record») c.if-not-found.false
