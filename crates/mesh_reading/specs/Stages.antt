-- From a payload to a mesh, stage by stage.
--
--   Spelt f m b w w'      b says whether the word of a dual is found; if so, it stands at LETTERS, and is that of a mesh of m edges
--   WordThere m w         a nested word of 2m letters stands at LETTERS
--   PutFrom m w out w' out'   the dual of its rotation stands at the front of the output
--   MeshThere m out       the rotation of a mesh of m edges stands there, in the numbers of its dual
--   mesh_of m out          that mesh in standard numbers
use Rattle.std.specs.Prelude.{ℕ, ◌*◌, ◌≤◌, ◌≡◌, Bool, true, false, List, [], map, length, take}
use Rattle.model.specs.Traversal.{Letter, code, standard_rotation}
use Rattle.model.specs.Mesh.{dual_of}
use Rattle.model.specs.Calls.{front}
use Rattle.words.specs.Word.{Found, found, none, nested, rotation_of, rooted}
use Rattle.coding.proofs.Meshes.{MeshWord}
use Rattle.work.specs.Map.{LETTERS}
use Rattle.work.specs.Area.{region}
use Rattle.work.specs.Letters.{letters_in, Coded}

pub record Spelt (f : Found) (m : ℕ) (b : Bool) (w w' : List ℕ) : Type 0 where
  pub word_found : b ≡ true → (v : List Letter) × (f ≡ found v) × MeshWord v × (length v ≡ 2 * m) × (region (LETTERS * (2 * m)) (2 * m) w' ≡ map code v)
  pub none_found : b ≡ false → f ≡ none
  pub kept : length w' ≡ length w

pub record WordThere (m : ℕ) (w : List ℕ) : Type 0 where
  pub some_edge : 1 ≤ m
  pub few_edges : m ≤ 4096
  pub room : 32 * m ≤ length w
  pub coded : Coded (2 * m) w
  pub nests : nested true 1 0 [] [] (letters_in (2 * m) w) ≡ true

pub record PutFrom (m : ℕ) (w out w' out' : List ℕ) : Type 0 where
  pub filled : out' ≡ front (dual_of (rotation_of (letters_in (2 * m) w))) out
  pub kept : length w' ≡ length w

abbrev pub MeshThere : ℕ → List ℕ → Type 0
MeshThere m out = (v : List Letter) × MeshWord v × (length v ≡ 2 * m) × (take (2 * m) out ≡ dual_of (rotation_of v))

unfoldable pub mesh_of : ℕ → List ℕ → List ℕ
mesh_of m out = standard_rotation (rooted (take (2 * m) out))
