-- What the letters of the dual's walk tell of the types as they come: at a node's second place its type, by the letter there and the one before.
--
--   told_after l y         the type told by the letter y after the letter l; 0 where none is
--   told ℓ k              the type told at position k
--   tell t n ts           ts with the type t of node n, if there is a type and n is not the start
--   written ℓ ts k        ts with all that is told before position k
use Rattle.std.specs.Prelude.{ℕ, zero, suc, ◌-◌, ◌&&◌, cond, List, ltb, set}
use Rattle.model.specs.Traversal.{Letter, down, up, first, second}
use Rattle.model.specs.Mesh.{node_type}
use Rattle.words.specs.Position.{vertex_no}

-- after an up the first place had a subtree, and after a first it had that; where a node ends there, no type is told
unfoldable pub told_after : Letter → Letter → ℕ
told_after down y = 0
told_after up y = node_type down y
told_after first y = node_type first y
told_after second y = 0

unfoldable pub told : (ℕ → Letter) → ℕ → ℕ
told ℓ zero = 0
told ℓ (suc j) = told_after (ℓ j) (ℓ (suc j))

unfoldable pub tell : ℕ → ℕ → List ℕ → List ℕ
tell t n ts = cond (ltb 0 t && ltb 0 n) (set ts (n - 1) t) ts

unfoldable pub written : (ℕ → Letter) → List ℕ → ℕ → List ℕ
written ℓ ts zero = ts
written ℓ ts (suc k) = tell (told ℓ k) (vertex_no ℓ k) (written ℓ ts k)
