-- Which bytes of kind 3 are the record of a mesh, and of which, under a table that loading gives: the laws of `lists/Records` at the coder of meshes.
--
--   mesh_record_range     a mesh's record has 8 bytes or more, and there is room for it by the number of edges
--   mesh_sized            the payload of a record of kind 3 that passes
--   MeshCoder k, mesh_at   a coder of kind k that is the one of meshes
--   mesh_none_has         bytes that do not decode are the record of no mesh
--   mesh_decodes_word     bytes that decode hold the word of a good tree, of as many darts as the head says
--   mesh_decodes_has      they are the record of the mesh that it builds
--   mesh_decodes_standard, mesh_decodes_outside   which is in standard numbers, and the outside that reading returns is dart 0
use Prim.Native.Nat.{ℕ, ◌+◌, ◌*◌, ◌≤◌}
use native.Mathlib.Omega.{arith}
use mathlib.Core.Path.{◌≡◌, refl, sym, ap, subst, ◌∙◌}
use mathlib.Core.Bool.{true, false}
use mathlib.Core.List.{List}
use lib.ListN.{length, drop}
use Rattle.model.specs.declared.Table.{Table}
use Rattle.model.specs.Numbers.{elem, all_below}
use Rattle.model.specs.Map.{Plan, edges, stores_outside, family, fit}
use Rattle.model.specs.Traversal.{Letter, word, standard_rotation}
use Rattle.model.specs.Mesh.{dual_plan}
use Rattle.model.specs.Record.{head_length, payload_of, outside_bytes, record_of}
use Rattle.model.specs.Shelf.{kind_of, edges_of, passes}
use Rattle.model.specs.Calls.{table_refused, HasRecord, outside_read}
use Rattle.model.proofs.Below.{below_drop}
use Rattle.model.proofs.Fitness.{count_positive}
use Rattle.orbits.proofs.Maps.{face_zero}
use Rattle.words.specs.Word.{Found, found, none, rooted}
use Rattle.packing.specs.Payload.{Sized}
use Rattle.packing.specs.Groups.{undone}
use Rattle.packing.proofs.Groups.{relabelled_length, undone_sized, undone_bytes}
use Rattle.packing.proofs.Headed.{headed_length, passes_sized}
use Rattle.lists.specs.Coder.{outside_of, Coder}
use Rattle.lists.proofs.Records as generic
use Rattle.coding.specs.Payloads.{encode_mesh, mesh_room, decode_mesh, decode_mesh_record, mesh_rotation}
use Rattle.coding.proofs.Meshes.{MeshWord, mesh_letters, mesh_proper, encode_mesh_range, mesh_written, decode_mesh_encodes, mesh_coder}

pub mesh_record_range : (t : Table) (p : Plan) → fit 3 p ≡ true
    → (8 ≤ length (record_of t 3 p)) × (length (record_of t 3 p) ≤ 6 + mesh_room (edges p.rotation))
unfolding record_of outside_bytes stores_outside family elem edges
mesh_record_range t p e =
    let w = word (dual_plan p) in
    let m = edges p.rotation in
    let l : length (record_of t 3 p) ≡ 6 + length (encode_mesh w) =
    headed_length 3 m (payload_of t 3 p) ∙ ap (λ (ps : List ℕ). 6 + length ps) (mesh_written t p e) ∙ ap (λ (n : ℕ). 6 + n) (relabelled_length 3 m (encode_mesh w) t.bytes) in
    let (some, short) = encode_mesh_range w (mesh_proper p e) in
    let same = mesh_letters p e in
    (omega arith, omega (arith, rw same at short))

pub record MeshCoder (k : ℕ) : Type 1 where
  pub coder : Coder k
  pub builds_are : (w : List Letter) → coder.builds w ≡ mesh_rotation w
  pub decodes_are : (m : ℕ) (ps : List ℕ) → coder.decode m ps ≡ decode_mesh m ps

mesh_at : (k : ℕ) → k ≡ 3 → MeshCoder k
unfolding mesh_coder
mesh_at k e = subst MeshCoder (sym e) (record { coder = mesh_coder; builds_are = λ w. refl; decodes_are = λ m ps. refl })

pub mesh_sized : (r : List ℕ) → kind_of r ≡ 3 → passes r ≡ true → Sized 3 (edges_of r) (drop 6 r)
unfolding family stores_outside elem head_length
mesh_sized r three pass = let s = passes_sized r pass in rw three at s

module _ (t : Table) (stands : table_refused t ≡ false) (r : List ℕ) (three : kind_of r ≡ 3) where
  c : MeshCoder (kind_of r)
  c = mesh_at (kind_of r) three

  -- the generic laws speak of the kind in the bytes
  decoded : {v : Found} → decode_mesh_record t.inverse r ≡ v
      → c.coder.decode (edges_of r) (undone t.inverse (family (kind_of r)) (edges_of r) (drop (head_length (kind_of r)) r)) ≡ v
  unfolding decode_mesh_record family stores_outside elem head_length
  decoded e = c.decodes_are _ _ ∙ rw three e

  pub mesh_none_has : decode_mesh_record t.inverse r ≡ none → (p : Plan) → HasRecord t r p → ⊥
  mesh_none_has e p h = generic.none_has t stands r c.coder (decoded e) p h

  module _ (v : List Letter) (pass : passes r ≡ true) (bytes : all_below 256 r ≡ true) (e : decode_mesh_record t.inverse r ≡ found v) where
    pub mesh_decodes_word : MeshWord v × (length v ≡ 2 * edges_of r)
    unfolding decode_mesh_record
    mesh_decodes_word =
        let s = mesh_sized r three pass in
        let (w, same, long) = decode_mesh_encodes (edges_of r) _ v (undone_sized 3 (edges_of r) (drop 6 r) t.inverse s)
        (undone_bytes 3 (edges_of r) (drop 6 r) t stands s (below_drop 256 6 r bytes)) e in
        (w, long)

    no_outside : outside_of r ≡ 0
    unfolding outside_of stores_outside elem
    no_outside = rw three

    sound : generic.Sound t stands r c.coder v
    sound = let l = count_positive (length v) mesh_decodes_word.0.fits in
        (rw no_outside l, rw no_outside (face_zero _))

    given_is : generic.given t stands r c.coder v pass bytes (decoded e) sound ≡ rooted (mesh_rotation v)
    given_is = rw (no_outside, c.builds_are v)

    pub mesh_decodes_has : HasRecord t r (rooted (mesh_rotation v))
    mesh_decodes_has = subst (HasRecord t r) given_is (generic.decodes_has t stands r c.coder v pass bytes (decoded e) sound)

    pub mesh_decodes_standard : standard_rotation (rooted (mesh_rotation v)) ≡ mesh_rotation v
    mesh_decodes_standard =
        ap standard_rotation (sym given_is) ∙ generic.decodes_standard t stands r c.coder v pass bytes (decoded e) sound ∙ c.builds_are v

    pub mesh_decodes_outside : outside_read (kind_of r) (rooted (mesh_rotation v)) ≡ 0
    mesh_decodes_outside = sym (generic.has_outside t stands r c.coder (rooted (mesh_rotation v)) mesh_decodes_has) ∙ no_outside
