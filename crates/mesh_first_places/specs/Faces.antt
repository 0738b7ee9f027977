-- Down to a face and at its first place, in walking the dual of a rotation of n darts in the work area w.
--
--   face_area, half_area       a face is marked; a second place is still to come
--   Faced order o w r w'     whether the face of o is a triangle of three edges; then it is marked
--   AtFirst                  the dart that comes next is at the first place of a face
use Rattle.std.specs.Prelude.{ℕ, suc, ◌+◌, ◌*◌, ◌≡◌, Bool, true, false, List, set}
use Rattle.model.specs.Map.{face_next, is_triangle}
use Rattle.model.specs.Mesh.{dual_of}
use Rattle.traversal.specs.Steps.{dart}
use Rattle.mesh_trails.specs.Strolls.{place, Entered}
use Rattle.mesh_second_places.specs.declared.Stroll.{Stroll}
use Rattle.mesh_second_places.specs.Areas.{HALVES, OWNERS, ENTRIES}
use Rattle.mesh_second_places.specs.Walks.{Good, Held}

unfoldable pub face_area : List ℕ → ℕ → List ℕ → List ℕ
face_area order o w =
    let x = face_next order o in
    set (set (set w o 32768) x 32768) (face_next order x) 32768

unfoldable pub half_area : ℕ → ℕ → ℕ → ℕ → ℕ → List ℕ → List ℕ
half_area n y f e halves w = set (set (set w (HALVES * n + halves) y) (OWNERS * n + halves) f) (ENTRIES * n + halves) e

unfoldable pub Faced : List ℕ → ℕ → List ℕ → Bool → List ℕ → Type 0
Faced order o w true w' = (is_triangle order o ≡ true) × (w' ≡ face_area order o w)
Faced order o w false w' = (is_triangle order o ≡ false) × (w' ≡ w)

-- y is the second place
pub record AtFirst (order w : List ℕ) (y : ℕ) (s : Stroll) : Type 0 where
  pub k : ℕ
  pub us : List ℕ
  pub b : List ℕ
  pub waits : List ℕ
  pub ts : List ℕ
  pub held : Held order w s (suc k) us b waits ts
  pub stands : Entered (Good order) (dual_of order) s.root k us b waits ts
  pub here : s.dart ≡ dart (dual_of order) s.root (suc k)
  pub second : y ≡ place (dual_of order) s.root k
