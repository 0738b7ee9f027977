-- Where the walk of a mesh's dual stands, in the work area w.
--
--   Good order x             the face of x is a triangle of three edges
--   Held                     how what the work area holds, and the numbers of s, agree with the walk after k steps
--   AtDown, AtSecond, AtUp   the dart that comes next goes down; is at the second place of a face; the walk goes up
--   Ending w d               the edge of d has begun at its opposite, by the mark there
--   Telling order w f a b s  at a second place where, in a mesh, no edge ends: the types that may be told there
--   Onward, Stepped          what a step comes to, after some letters
use Rattle.std.specs.Prelude.{ℕ, ◌≤◌, ◌<◌, ◌≡◌, true, Option, None, Some, List, map, length, get_or}
use Rattle.model.specs.Numbers.{is_permutation}
use Rattle.model.specs.Map.{opposite, dart_count_fits, is_triangle, fit}
use Rattle.model.specs.Traversal.{Letter, down, first}
use Rattle.model.specs.Mesh.{dual_of}
use Rattle.words.specs.Position.{opened, vertex_count}
use Rattle.traversal.specs.Steps.{dart, letter_after}
use Rattle.tracing.specs.Tracing.{from}
use Rattle.mesh_walks.specs.Told.{told_after}
use Rattle.mesh_trails.specs.Strolls.{place, Entering, Halfway, Climbing}
use Rattle.mesh_second_places.specs.declared.Stroll.{Stroll}
use Rattle.mesh_second_places.specs.declared.Turn.{Turn}
use Rattle.mesh_second_places.specs.declared.Turn.TheVariants.{Down, Up}
use Rattle.mesh_second_places.specs.Areas.{View}

abbrev pub Good : List ℕ → ℕ → Type 0
Good order x = is_triangle order x ≡ true

pub record Held (order w : List ℕ) (s : Stroll) (k : ℕ) (us b waits ts : List ℕ) : Type 0 where
  pub count : dart_count_fits (length order) ≡ true
  pub perm : is_permutation order ≡ true
  pub root_in : s.root < length order
  pub edges : s.edges ≡ opened (letter_after (dual_of order) s.root) k
  pub faces : s.faces ≡ vertex_count (letter_after (dual_of order) s.root) k
  pub view : View (length order) s.waiting s.halves w b waits (map (place (dual_of order) s.root) us)
      (map (vertex_count (letter_after (dual_of order) s.root)) us) (map (opened (letter_after (dual_of order) s.root)) us) ts

pub record AtDown (order w : List ℕ) (s : Stroll) : Type 0 where
  pub k : ℕ
  pub us : List ℕ
  pub b : List ℕ
  pub waits : List ℕ
  pub ts : List ℕ
  pub held : Held order w s k us b waits ts
  pub stands : Entering (Good order) (dual_of order) s.root k us b waits ts
  pub here : s.dart ≡ dart (dual_of order) s.root k

-- of face f, which edge e entered, after the letter l
pub record AtSecond (order w : List ℕ) (l : Letter) (f e : ℕ) (s : Stroll) : Type 0 where
  pub k : ℕ
  pub node : ℕ
  pub us : List ℕ
  pub b : List ℕ
  pub waits : List ℕ
  pub ts : List ℕ
  pub held : Held order w s k us b waits ts
  pub stands : Halfway (Good order) (dual_of order) s.root k node l us b waits ts
  pub here : s.dart ≡ dart (dual_of order) s.root k
  pub number : f ≡ vertex_count (letter_after (dual_of order) s.root) node
  pub entry : e ≡ opened (letter_after (dual_of order) s.root) node

abbrev pub Ending : List ℕ → ℕ → Type 0
Ending w d = (0 < get_or w (opposite d) 0) × (get_or w (opposite d) 0 < 32768)

-- the types of face f that are told at its second place by a down and by a first
pub record Telling (order w : List ℕ) (f a b : ℕ) (s : Stroll) : Type 0 where
  pub letter : Letter
  pub edge : ℕ
  pub at : AtSecond order w letter f edge s
  pub by_down : a ≡ told_after letter down
  pub by_first : b ≡ told_after letter first
  pub some_down : 1 ≤ a
  pub some_first : 1 ≤ b
  pub no_end : fit 3 (from order s.root) ≡ true → Ending w s.dart → ⊥

pub record AtUp (order w : List ℕ) (s : Stroll) : Type 0 where
  pub k : ℕ
  pub us : List ℕ
  pub b : List ℕ
  pub waits : List ℕ
  pub ts : List ℕ
  pub held : Held order w s k us b waits ts
  pub stands : Climbing (Good order) (dual_of order) s.root k us b waits ts

-- ---- what a step comes to, from the root r when e edges had begun

pub record Onward (r e : ℕ) (w : List ℕ) (t : Stroll) (w' : List ℕ) : Type 0 where
  pub rooted : t.root ≡ r
  pub grown : e ≤ t.edges
  pub kept : length w' ≡ length w

-- on the way up no more than h second places are still to come; no mesh is declined
unfoldable pub Stepped : List ℕ → ℕ → ℕ → ℕ → List ℕ → Option Turn → List ℕ → Type 0
Stepped order r e h w (Some (Down t)) w' = AtDown order w' t × Onward r e w t w'
Stepped order r e h w (Some (Up t)) w' = AtUp order w' t × Onward r e w t w' × (t.halves ≤ h)
Stepped order r e h w None w' = (length w' ≡ length w) × (fit 3 (from order r) ≡ true → ⊥)
