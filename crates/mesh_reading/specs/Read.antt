-- What reading the payload of a mesh gives.
--
--   MeshRead found b out out'   b says whether the word of a dual is found; if so, the standard rotation of its mesh stands at the front of the output
use Rattle.std.specs.Prelude.{ℕ, ◌≡◌, Bool, true, false, List}
use Rattle.model.specs.Traversal.{Letter}
use Rattle.model.specs.Calls.{front}
use Rattle.words.specs.Word.{Found, found, none}
use Rattle.coding.specs.Payloads.{mesh_rotation}

pub record MeshRead (f : Found) (b : Bool) (out out' : List ℕ) : Type 0 where
  pub word_found : b ≡ true → (v : List Letter) × (f ≡ found v) × (out' ≡ front (mesh_rotation v) out)
  pub none_found : b ≡ false → (f ≡ none) × (out' ≡ out)
