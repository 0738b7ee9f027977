use Prim.Native.Nat.{◌*◌}
use native.Mathlib.Omega.{arith}
use Rattle.model.specs.Shelf.{edges_of}
use Rattle.model.proofs.Heads.{passes_long}
use Rattle.coding.specs.Payloads.{decode_record}
use Rattle.builder.specs.Decoded.{Answered}
use Rattle.decoding.proofs.Payloads.{all_bytes, head_in, payload_asked, record_decoded}
use Rattle.decoding.proofs.Outcomes.{checked_core, under, core_unreadable, face_asked, core_read, core_unsound}
use Rattle.decoding.proofs.read_core.Goals as goal
use Rattle.decoding.proofs.read_core.Goals.{After-decode}

pub field-kind-requires : goal.field-kind-requires
field-kind-requires c = let h = passes_long _ c.requires.1 in omega arith

pub field-edges-requires : goal.field-edges-requires
field-edges-requires c = let h = passes_long _ c.requires.1 in omega arith

pub slice_bounds-decode-count : goal.slice_bounds-decode-count
slice_bounds-decode-count c =
    let (t, stands, same) = c.requires.0 in
    let k = checked_core t stands _ _ c.requires.1 c.requires.2 _ _ c.field-kind.ensures c.field-edges.ensures in
    omega (arith, head_in _ _ _ _ k _ c.head_length-at.ensures, passes_long _ c.requires.1)

pub slice_bounds-decode-start : goal.slice_bounds-decode-start
slice_bounds-decode-start c =
    let (t, stands, same) = c.requires.0 in
    let k = checked_core t stands _ _ c.requires.1 c.requires.2 _ _ c.field-kind.ensures c.field-edges.ensures in
    omega (arith, head_in _ _ _ _ k _ c.head_length-at.ensures, passes_long _ c.requires.1)

pub decode-requires-clause-sized : goal.decode-requires-clause-sized
decode-requires-clause-sized c =
    let (t, stands, same) = c.requires.0 in
    let k = checked_core t stands _ _ c.requires.1 c.requires.2 _ _ c.field-kind.ensures c.field-edges.ensures in
    payload_asked _ _ _ _ k _ c.head_length-at.ensures _ c.family.ensures c.requires.3

pub decode-requires-clause-m_in_bounds : goal.decode-requires-clause-m_in_bounds
decode-requires-clause-m_in_bounds c = let m = c.field-edges.ensures in omega (arith, c.requires.2)

decoded : (c : After-decode) → let r = c.args.«record».now in Answered (decode_record c.args.inverse r) (2 * edges_of r) c.decode.result c.decode.new.w
decoded c =
    let (t, stands, same) = c.requires.0 in
    let k = checked_core t stands _ _ c.requires.1 c.requires.2 _ _ c.field-kind.ensures c.field-edges.ensures in
    record_decoded _ _ _ _ k _ c.head_length-at.ensures _ c.family.ensures _ _ _ c.decode.ensures

pub returns-then-not-decode : goal.returns-then-not-decode
returns-then-not-decode c =
    let d = decoded (goal.at.returns-then-not-decode c).After-decode in
    λ t stands same.
    let k = checked_core t stands _ _ c.requires.1 c.requires.2 _ _ c.field-kind.ensures c.field-edges.ensures in
    core_unreadable t _ _ _ k (all_bytes _ c.type_inv.«record») c.requires.3 _ _ (under t _ _ _ _ same d) c.if-not-decode.true

pub outside_of-outside-requires : goal.outside_of-outside-requires
outside_of-outside-requires c = (c.requires.1, c.field-kind.ensures)

pub is_face-requires : goal.is_face-requires
is_face-requires c =
    let d = decoded (goal.at.is_face-requires c).After-decode in
    let (t, stands, same) = c.requires.0 in
    let k = checked_core t stands _ _ c.requires.1 c.requires.2 _ _ c.field-kind.ensures c.field-edges.ensures in
    let (count, entries) = face_asked t _ _ _ k (all_bytes _ c.type_inv.«record») c.requires.3 _ _ (under t _ _ _ _ same d) c.if-not-decode.false in
    let kept = c.decode.auto.w in
    (count, omega (arith, c.requires.2, k.edges, kept), entries)

pub returns-then-not-is_face : goal.returns-then-not-is_face
returns-then-not-is_face c =
    let d = decoded (goal.at.returns-then-not-is_face c).After-decode in
    λ t stands same.
    let k = checked_core t stands _ _ c.requires.1 c.requires.2 _ _ c.field-kind.ensures c.field-edges.ensures in
    core_unsound t _ _ _ k (all_bytes _ c.type_inv.«record») c.requires.3 _ _ (under t _ _ _ _ same d) c.if-not-decode.false _ c.outside_of-outside.ensures _
    c.is_face.ensures c.if-not-is_face.true

pub returns : goal.returns
returns c =
    let d = decoded (goal.at.returns c).After-decode in
    λ t stands same.
    let k = checked_core t stands _ _ c.requires.1 c.requires.2 _ _ c.field-kind.ensures c.field-edges.ensures in
    core_read t _ _ _ k (all_bytes _ c.type_inv.«record») c.requires.3 _ _ (under t _ _ _ _ same d) c.if-not-decode.false _ c.outside_of-outside.ensures _
    c.is_face.ensures c.if-not-is_face.false
