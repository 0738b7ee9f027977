-- From a payload to the word of a dual, and from there to the mesh, by the ways on which reading ends.
--
--   spell_asked           where types are read, what spelling them asks
--   untyped_spelt, typed_spelt   no types, or what spelling them says
--   word_there            the word that is found is nested
--   mesh_there            the dual of its rotation in the output is the mesh's
--   mesh_found            what reading then gives
use Prim.Native.Nat.{ℕ, ◌-◌, ◌*◌, ◌/◌, ◌%◌, ◌≤◌}
use native.Mathlib.Omega.{arith}
use mathlib.Core.Path.{◌≡◌, refl, sym, ap, ap₂, ◌∙◌}
use mathlib.Core.Bool.{Bool, true, false, false≢true, true≢false}
use mathlib.Core.List.{List, [], ◌++◌, map}
use lib.ListN.{length, take, drop, length-append, length-drop}
use lib.Seq.{take_at, drop_at}
use Rattle.model.specs.Traversal.{Letter, code, standard_rotation}
use Rattle.model.specs.Mesh.{dual_of, dual_plan}
use Rattle.model.specs.Calls.{front}
use Rattle.words.specs.Word.{Found, nested, rotation_of, rooted, plan_of}
use Rattle.words.proofs.Plans.{rotation_length}
use Rattle.packing.specs.Types.{Types, typed, untyped}
use Rattle.node_types.specs.Machine.{word_of_types}
use Rattle.duals.proofs.Duals.{length_dual}
use Rattle.coding.specs.Payloads.{spelled, mesh_rotation}
use Rattle.coding.proofs.Meshes.{MeshWord, read_word}
use Rattle.work.specs.Map.{LETTERS, TYPES}
use Rattle.work.specs.Area.{region}
use Rattle.work.specs.Letters.{letters_in}
use Rattle.work.proofs.Letters.{letters_code}
use Rattle.mesh_unpacker.specs.Reading.{TypesRead, Typed}
use Rattle.mesh_decoder.specs.Spelled.{Spelled}
use Rattle.mesh_reading.specs.Read.{MeshRead}
use Rattle.mesh_reading.specs.Stages.{Spelt, WordThere, PutFrom, MeshThere, mesh_of}
use Rattle.mesh_reading.proofs.Turning.{dual_nested, mesh_size}

-- ---- types

of_typed : (ts : List ℕ) (m : ℕ) (b : Bool) (w w₁ : List ℕ) → Typed (typed ts) m b w w₁ → TypesRead ts m b w w₁
unfolding Typed
of_typed ts m b w w₁ t = t

of_untyped : (m : ℕ) (b : Bool) (w w₁ : List ℕ) → Typed untyped m b w w₁ → (b ≡ false) × (length w₁ ≡ length w)
unfolding Typed
of_untyped m b w w₁ t = t

module _ (x : Types) (m : ℕ) (w w₁ : List ℕ) (b : Bool) (t : Typed x m b w w₁) where
  pub untyped_spelt : b ≡ false → Spelt (spelled x) m false w w₁
  untyped_spelt e = go x t
    where
      go : (x : Types) → Typed x m b w w₁ → Spelt (spelled x) m false w w₁
      go (typed ts) t = absurd (true≢false (sym (of_typed ts m b w w₁ t).read ∙ e))
      go untyped t = record { word_found = λ f. absurd (false≢true f); none_found = λ f. refl; kept = (of_untyped m b w w₁ t).1 }

  module _ (e : b ≡ true) where
    -- the types that are read
    types : (ts : List ℕ) × (x ≡ typed ts) × TypesRead ts m b w w₁
    types = go x t
      where
        go : (x : Types) → Typed x m b w w₁ → (ts : List ℕ) × (x ≡ typed ts) × TypesRead ts m b w w₁
        go (typed ts) t = (ts, refl, of_typed ts m b w w₁ t)
        go untyped t = absurd (true≢false (sym e ∙ (of_untyped m b w w₁ t).0))

    pub spell_asked : 1 ≤ m → m ≤ 4096 → 32 * m ≤ length w → (3 ≤ m) × (m ≤ 4096) × (m % 3 ≡ 0) × (32 * m ≤ length w₁)
    spell_asked some few room =
        let r = types.2 in
        let z = r.thirds in
        let k = r.kept in
        (omega arith, few, z, omega arith)

    pub typed_spelt : m ≤ 4096 → 1 ≤ m → (c : Bool) (w₂ : List ℕ) → Spelled (word_of_types (region (TYPES * (2 * m)) (2 * (m / 3) - 1) w₁)) (2 * m) c w₁ w₂
        → Spelt (spelled x) m c w w₂
    typed_spelt few some c w₂ s =
        let (ts, is, r) = types in
        let word : spelled x ≡ word_of_types (region (TYPES * (2 * m)) (2 * (m / 3) - 1) w₁) = ap spelled is ∙ ap word_of_types (sym r.stand) in
        let z = r.thirds in
        let n = r.many in
        record {
          word_found = λ f.
              let (v, found-is, long, letters) = s.word_found f in
              let (mesh, same, size) = read_word ts v (ap word_of_types (sym r.stand) ∙ found-is) (omega arith) in
              (v, word ∙ found-is, mesh, long, letters);
          none_found = λ f. word ∙ s.none_found f;
          kept = s.kept ∙ r.kept;
        }

-- ---- the word that is found

module _ (f : Found) (m : ℕ) (w w₁ : List ℕ) (b : Bool) (s : Spelt f m b w w₁) (out : List ℕ) where
  module _ (e : b ≡ true) (some : 1 ≤ m) (few : m ≤ 4096) (room : 32 * m ≤ length w) where
    abbrev v : List Letter
    v = (s.word_found e).0

    mesh : MeshWord v
    mesh = (s.word_found e).2

    there : region (LETTERS * (2 * m)) (2 * m) w₁ ≡ map code v
    there = (s.word_found e).4

    letters : letters_in (2 * m) w₁ ≡ v
    letters = letters_code (2 * m) w₁ v there

    pub word_there : WordThere m w₁
    word_there = record {
      some_edge = some;
      few_edges = few;
      room = let k = s.kept in omega arith;
      coded = there ∙ ap (map code) (sym letters);
      nests = ap (nested true 1 0 [] []) letters ∙ dual_nested v mesh;
    }

    module _ (w₂ out₁ : List ℕ) (p : PutFrom m w₁ out w₂ out₁) where
      abbrev rot : List ℕ
      rot = dual_of (rotation_of v)

      put_is : out₁ ≡ front rot out
      put_is = p.filled ∙ ap (λ (u : List Letter). front (dual_of (rotation_of u)) out) letters

      long : length rot ≡ 2 * m
      long = length_dual (rotation_of v) ∙ rotation_length v ∙ (s.word_found e).3

      order_is : take (2 * m) out₁ ≡ rot
      unfolding front
      order_is = ap (take (2 * m)) put_is ∙ take_at rot (drop (length rot) out) (2 * m) long

      pub mesh_there : 2 * m ≤ length out → (m ≤ 4096) × (32 * m ≤ length w₂) × (2 * m ≤ length out₁) × MeshThere m out₁
      unfolding front
      mesh_there space =
          let a = length-append rot (drop (length rot) out) in
          let d = length-drop (length rot) out in
          let z = ap length put_is in
          let l = long in
          let k = s.kept in
          let j = p.kept in
          (few, omega arith, omega arith, (v, mesh, (s.word_found e).3, order_is))

      pub mesh_found : (out₂ : List ℕ) → out₂ ≡ front (mesh_of m out₁) out₁ → MeshRead f true out out₂
      unfolding mesh_of mesh_rotation dual_plan plan_of front
      mesh_found out₂ q = record {
        word_found = λ g. (v, (s.word_found e).1, q ∙ ap (λ (xs : List ℕ). front (standard_rotation (rooted xs)) out₁) order_is ∙ over (mesh_rotation v) size);
        none_found = λ g. absurd (true≢false g);
      }
        where
          size : length (mesh_rotation v) ≡ length rot
          size = mesh_size v ∙ sym (length_dual (rotation_of v))

          -- the one rotation stands where the other stood
          over : (xs : List ℕ) → length xs ≡ length rot → front xs out₁ ≡ front xs out
          over xs same = ap (λ (ys : List ℕ). xs ++ ys) (ap₂ drop same put_is ∙ drop_at rot _ (length rot) refl ∙ ap (λ (n : ℕ). drop n out) (sym same))
