-- The coder of kind 3: meshes by the words of their duals, and these by payloads of node types.
--
--   MeshWord w            w is the word of a good tree with two open edges, of a length that fits
--   mesh_proper           the word of a mesh's dual is one
--   mesh_types            the types of a mesh are those of that word
--   read_word             a word that types are read as is one, with these types
--   encode_mesh_range, encode_mesh_short, ..   its payload: the length, groups and bytes
--   mesh_dual_built, mesh_rebuilt   the dual of what the word builds is a mesh, and so it is in standard numbers
--   mesh_coder            the coder
use Prim.Native.Nat.{ℕ, ◌+◌, ◌*◌, ◌-◌, ◌/◌, ◌%◌, ◌≤◌, ◌<◌}
use native.Mathlib.Omega.{arith}
use mathlib.Core.Path.{◌≡◌, refl, sym, ap, subst, ◌∙◌}
use mathlib.Core.Bool.{true, true≢false}
use mathlib.Core.List.{List, []}
use lib.ListN.{length}
use Rattle.model.specs.declared.Table.{Table}
use Rattle.model.specs.Numbers.{elem, all_below}
use Rattle.model.specs.Map.{Plan, darts, edges, is_family, stores_outside, family, dart_count_fits, fit}
use Rattle.model.specs.Traversal.{Letter, word}
use Rattle.model.specs.Mesh.{dual_plan, types}
use Rattle.model.specs.Groups.{byte_for}
use Rattle.model.specs.Record.{mesh_payload, payload_of}
use Rattle.model.proofs.Fitness.{fit_parts, count_parts, parts_count}
use Rattle.words.specs.Word.{found, rooted, plan_of}
use Rattle.words.proofs.Positions.{word_length}
use Rattle.packing.specs.Payload.{Sized}
use Rattle.packing.specs.Types.{all_types, types_payload, Types, typed, untyped, types_in}
use Rattle.packing.specs.Groups.{relabelled, Values}
use Rattle.packing.proofs.TypesPayload.{payload_read, read_payload, types_payload_bytes}
use Rattle.packing.proofs.Codewords.{types_values, mesh_payload_lem}
use Rattle.packing.proofs.Groups.{groups_three, relabelled_at}
use Rattle.lists.specs.Coder.{Coder}
use Rattle.node_types.specs.Tree.{Tree, whole, type_list, net, good}
use Rattle.node_types.specs.Machine.{word_of_types}
use Rattle.node_types.specs.Reduced.{word_types}
use Rattle.node_types.proofs.Trees.{length_whole, whole_even}
use Rattle.node_types.proofs.Reading.{whole_read, read_whole}
use Rattle.node_types.proofs.Reduced.{word_types_lem, whole_proper}
use Rattle.fit_plans.proofs.FitPlans.{fit_toured, fit_standard}
use Rattle.duals.proofs.Duals.{dual_darts}
use Rattle.meshes.proofs.Triangles.{mesh_dual}
use Rattle.meshes.proofs.Meshes.{mesh_shape, mesh_standard, mesh_dual_outside, mesh_word_carried, same_words, read_mesh, mesh_built}
use Rattle.coding.specs.Payloads.{encode_mesh, mesh_room, spelled, decode_mesh, mesh_rotation}
use Rattle.coding.proofs.MeshSizes.{tree_range, room_most}

pub record MeshWord (w : List Letter) : Type 0 where
  pub tree : Tree
  pub well : good tree ≡ true
  pub two_open : net tree ≡ 2
  pub spells : w ≡ whole tree
  pub fits : dart_count_fits (length w) ≡ true

-- ---- from meshes to words

pub mesh_letters : (p : Plan) → fit 3 p ≡ true → length (word (dual_plan p)) ≡ darts p
mesh_letters p e = word_length (dual_plan p) (fit_toured 2 (dual_plan p) (mesh_dual p e).fits) ∙ dual_darts p

pub mesh_proper : (p : Plan) → fit 3 p ≡ true → MeshWord (word (dual_plan p))
mesh_proper p e =
    let (t, g, n, s, l) = mesh_shape p e in
    record { tree = t; well = g; two_open = n; spells = s; fits = rw (mesh_letters p e) (fit_parts 3 p e).count }

pub mesh_types : (p : Plan) → fit 3 p ≡ true → types p ≡ word_types (word (dual_plan p))
mesh_types p e = let (t, g, n, s, l) = mesh_shape p e in l ∙ sym (word_types_lem t) ∙ ap word_types (sym s)

-- ---- from words to payloads

-- twice as many nodes as a third of the edges, less the start node
thirds : (n k : ℕ) → n ≡ 3 * (k + 1) → n % 2 ≡ 0 → (n / 2 % 3 ≡ 0) × (k ≡ 2 * (n / 2 / 3) - 1)
thirds n k e even = let d = third (n / 2) (n / 2 - (k + 1)) (omega arith) in (d, omega arith)
  where
    third : (m j : ℕ) → m ≡ 3 * j → m % 3 ≡ 0
    third m j e = omega arith

module _ (w : List Letter) (v : MeshWord w) where
  abbrev m : ℕ
  m = length w / 2

  abbrev ts : List ℕ
  ts = word_types w

  pub types_of : word_types w ≡ type_list v.tree []
  types_of = ap word_types v.spells ∙ word_types_lem v.tree

  long : length w ≡ 3 * (length ts + 1)
  long = ap length v.spells ∙ length_whole v.tree ∙ ap (λ (us : List ℕ). 3 * (length us + 1)) (sym types_of)

  size : (0 < length w) × (length w % 2 ≡ 0) × (length w ≤ 8192)
  size = count_parts (length w) v.fits

  pub count : (length w / 2 % 3 ≡ 0) × (length (word_types w) ≡ 2 * (length w / 2 / 3) - 1)
  count = thirds (length w) (length ts) long size.1

  pub all_types_lem : all_types (word_types w) ≡ true
  all_types_lem = whole_proper w (v.tree, v.spells)

  pub encode_mesh_sized : Sized 3 (length w / 2) (encode_mesh w)
  unfolding is_family elem
  encode_mesh_sized =
      let c = size in record { is_family = refl; some_edge = omega arith; few_edges = omega arith; long = λ e. absurd (true≢false e) }

  pub encode_mesh_range : (2 ≤ length (encode_mesh w)) × (length (encode_mesh w) ≤ mesh_room (length w / 2))
  unfolding encode_mesh
  encode_mesh_range = let c = size.1 in
      subst (λ (us : List ℕ). (2 ≤ length (types_payload us)) × (length (types_payload us) ≤ mesh_room m)) (sym types_of)
      (tree_range v.tree v.well v.two_open m (let l = long in let z = ap length types_of in omega arith))

  pub encode_mesh_short : length (encode_mesh w) ≤ 786
  encode_mesh_short = let l = encode_mesh_range.1 in let c = size.2 in let k = room_most m (omega arith) in omega arith

  pub encode_mesh_values : Values 3 (length w / 2) (encode_mesh w)
  unfolding encode_mesh
  encode_mesh_values = rw (groups_three 3 m (types_payload ts) refl) (types_values m ts all_types_lem count.1)

  pub encode_mesh_bytes : all_below 256 (encode_mesh w) ≡ true
  unfolding encode_mesh
  encode_mesh_bytes = types_payload_bytes ts all_types_lem

  pub encode_mesh_decodes : decode_mesh (length w / 2) (encode_mesh w) ≡ found w
  unfolding encode_mesh decode_mesh
  encode_mesh_decodes =
      ap spelled (payload_read ts all_types_lem m count.0 count.1) ∙ ap word_of_types types_of ∙ whole_read v.tree v.well v.two_open ∙ ap found (sym v.spells)

-- ---- from payloads to words

pub read_word : (ts : List ℕ) (w : List Letter) → word_of_types ts ≡ found w → 3 * (length ts + 1) ≤ 8192 → MeshWord w × (word_types w ≡ ts) × (length w ≡ 3 * (length ts + 1))
read_word ts w e few =
    let (t, g, n, s, v) = read_whole ts w e in
    let long : length w ≡ 3 * (length ts + 1) = ap length v ∙ length_whole t ∙ ap (λ (us : List ℕ). 3 * (length us + 1)) (sym s) in
    let even = subst (λ (u : List Letter). length u % 2 ≡ 0) (sym v) (whole_even t g n) in (
      record { tree = t; well = g; two_open = n; spells = v; fits = parts_count (length w) (omega arith) even (omega arith) },
      ap word_types v ∙ word_types_lem t ∙ sym s,
      long,
    )

pub decode_mesh_encodes : (m : ℕ) (ps : List ℕ) (w : List Letter) → Sized 3 m ps → all_below 256 ps ≡ true → decode_mesh m ps ≡ found w
    → MeshWord w × (encode_mesh w ≡ ps) × (length w ≡ 2 * m)
unfolding decode_mesh encode_mesh
decode_mesh_encodes m ps w s bytes e = go (types_in m ps) refl e
  where
    go : (x : Types) → types_in m ps ≡ x → spelled x ≡ found w → MeshWord w × (types_payload (word_types w) ≡ ps) × (length w ≡ 2 * m)
    go untyped t q = let z : ◌≡◌ {A = ℕ} 0 1 = cc in absurd (omega arith)
    go (typed ts) t q =
        let r = read_payload m ps ts bytes t in
        let some = s.some_edge in
        let few = s.few_edges in
        let d = r.thirds in
        let l = r.many in
        let (v, same, long) = read_word ts w q (omega arith) in
        (v, ap types_payload same ∙ r.payload, omega arith)

-- ---- the coder

pub mesh_written : (t : Table) (p : Plan) → fit 3 p ≡ true → payload_of t 3 p ≡ relabelled t.bytes 3 (edges p.rotation) (encode_mesh (word (dual_plan p)))
unfolding payload_of encode_mesh byte_for edges
mesh_written t p e =
    let w = word (dual_plan p) in
    let v = mesh_proper p e in
    let half : length w / 2 ≡ darts p / 2 = ap (λ (n : ℕ). n / 2) (mesh_letters p e) in
    let many : length (word_types w) ≡ 2 * (darts p / 2 / 3) - 1 = (count w v).1 ∙ ap (λ (n : ℕ). 2 * (n / 3) - 1) half in
    ap (mesh_payload t) (mesh_types p e)
    ∙ mesh_payload_lem (darts p / 2) (word_types w) (all_types_lem w v) many t
    ∙ sym (relabelled_at 3 (darts p / 2) (types_payload (word_types w)) t.bytes _ (groups_three 3 (darts p / 2) (types_payload (word_types w)) refl))

reads : (w : List Letter) (v : MeshWord w) → word_of_types (word_types w) ≡ found w
reads w v = ap word_of_types (types_of w v) ∙ whole_read v.tree v.well v.two_open ∙ ap found (sym v.spells)

few : (w : List Letter) (v : MeshWord w) → 3 * (length (word_types w) + 1) ≤ 8192
few w v = let l = long w v in let c = (size w v).2 in omega arith

-- the dual of what the word builds is a mesh
pub mesh_dual_built : (w : List Letter) → MeshWord w → fit 3 (dual_plan (plan_of w)) ≡ true
mesh_dual_built w v = (read_mesh (word_types w) w (reads w v) (few w v)).0

pub mesh_rebuilt : (w : List Letter) → MeshWord w
    → (fit 3 (rooted (mesh_rotation w)) ≡ true) × (word (dual_plan (rooted (mesh_rotation w))) ≡ w)
unfolding mesh_rotation
mesh_rebuilt w v =
    let (fits, same, back) = mesh_built (word_types w) w (reads w v) (few w v) in
    (fits, back)

unfoldable pub mesh_coder : Coder 3
unfolding family stores_outside elem mesh_rotation
mesh_coder = record {
  codes = λ p. word (dual_plan p);
  builds = mesh_rotation;
  Proper = MeshWord;
  proper = mesh_proper;
  letters = mesh_letters;
  standard = mesh_standard;
  numbered = fit_standard 3;
  built = mesh_rebuilt;
  anywhere = mesh_dual_outside;
  carried = λ p q f e r. mesh_word_carried p q f e r;
  alike = same_words;
  encode = encode_mesh;
  decode = decode_mesh;
  written = mesh_written;
  sized = encode_mesh_sized;
  short = λ w v. let l = encode_mesh_short w v in omega arith;
  values = encode_mesh_values;
  bytes = encode_mesh_bytes;
  reads = encode_mesh_decodes;
  made = decode_mesh_encodes;
}
