-- The walk of a dual with its marks, as a mesh's is walked: at every up just after a second the edge opened last began after the down that ends there.
--
--   CrossedAt rot r i     so it is at the up at position i + 1
--   Strolled P rot r k b waits ts   what k steps leave: the marks b, the open edges outside the tree by number, and the types told; all darts marked pass the test P
--   place rot r j         the second place of the vertex that is entered at j
--   Entering, Entered, Halfway, Climbing, Homing   where it stands: about to go down, just gone down, at a second place, about to go up, back at the root's vertex
--   Hung rot r T us       T are the positions of open tree edges, the last first, and us those of them whose vertex has its first place open
use Rattle.std.specs.Prelude.{ℕ, suc, ◌+◌, ◌*◌, ◌≤◌, ◌<◌, ◌≡◌, ◌⊎◌, ◌≢◌, List, [], ◌∷◌, length, get_or}
use Rattle.model.specs.Map.{opposite, next}
use Rattle.model.specs.Traversal.{Letter, down, up, second}
use Rattle.words.specs.Brackets.{tree_stack, chord_stack}
use Rattle.words.specs.Position.{opened, vertex_no}
use Rattle.traversal.specs.Steps.{dart, letter_after}
use Rattle.marks.specs.Marks.{Trailed}
use Rattle.mesh_walks.specs.Told.{told, tell, written}

abbrev pub CrossedAt : List ℕ → ℕ → ℕ → Type 0
CrossedAt rot r i = letter_after rot r i ≡ second → letter_after rot r (suc i) ≡ up
    → (x : ℕ) × (s : List ℕ) × (j : ℕ) × (chord_stack (letter_after rot r) (suc i) ≡ x ∷ s) × (dart rot r j ≡ opposite (dart rot r (suc i))) × (j ≤ x)

pub record Strolled (P : ℕ → Type 0) (rot : List ℕ) (r k : ℕ) (b waits ts : List ℕ) : Type 0 where
  pub trail : Trailed rot r k b waits
  pub even : k + (length (tree_stack (letter_after rot r) k) + length (chord_stack (letter_after rot r) k)) ≡ 2 * opened (letter_after rot r) k
  pub faces : (x : ℕ) → x < length rot → get_or b x 0 ≢ 0 → P x
  pub crossed : (i : ℕ) → suc i < k → CrossedAt rot r i
  pub before : List ℕ
  pub types : ts ≡ written (letter_after rot r) before k

abbrev pub place : List ℕ → ℕ → ℕ → ℕ
place rot r j = next rot (next rot (opposite (dart rot r j)))

unfoldable pub Hung : List ℕ → ℕ → List ℕ → List ℕ → Type 0
Hung rot r [] us = ⊥
Hung rot r (j ∷ []) us = (j ≡ 0) × (us ≡ [])
Hung rot r (j ∷ (i ∷ T)) us =
    ((vs : List ℕ) × (us ≡ i ∷ vs) × (dart rot r j ≡ next rot (opposite (dart rot r i))) × Hung rot r (i ∷ T) vs)
    ⊎ ((dart rot r j ≡ place rot r i) × Hung rot r (i ∷ T) us)

-- ---- where the walk of a mesh's dual stands, by the faces that it is in

-- about to go down at k; the list has the type that this tells
pub record Entering (P : ℕ → Type 0) (rot : List ℕ) (r k : ℕ) (us b waits ts : List ℕ) : Type 0 where
  pub earlier : List ℕ
  pub strolled : Strolled P rot r k b waits earlier
  pub away : 0 < k → dart rot r k ≢ r
  pub blank : get_or b (opposite (dart rot r k)) 0 ≡ 0
  pub hung : Hung rot r (k ∷ tree_stack (letter_after rot r) k) us
  pub tells : ts ≡ tell (told (letter_after rot r) k) (vertex_no (letter_after rot r) k) earlier

-- just gone down at k, at the first place of the vertex there
pub record Entered (P : ℕ → Type 0) (rot : List ℕ) (r k : ℕ) (us b waits ts : List ℕ) : Type 0 where
  pub strolled : Strolled P rot r (suc k) b waits ts
  pub is_down : letter_after rot r k ≡ down
  pub here : dart rot r (suc k) ≡ next rot (opposite (dart rot r k))
  pub away : dart rot r (suc k) ≢ r
  pub stacked : tree_stack (letter_after rot r) (suc k) ≡ k ∷ tree_stack (letter_after rot r) k
  pub hung : Hung rot r (k ∷ tree_stack (letter_after rot r) k) us

-- at k, after the letter l, at the second place of the vertex that was entered at node
pub record Halfway (P : ℕ → Type 0) (rot : List ℕ) (r k node : ℕ) (l : Letter) (us b waits ts : List ℕ) : Type 0 where
  pub strolled : Strolled P rot r k b waits ts
  pub below : List ℕ
  pub stacked : tree_stack (letter_after rot r) k ≡ node ∷ below
  pub hung : Hung rot r (node ∷ below) us
  pub here : dart rot r k ≡ place rot r node
  pub last : ℕ
  pub before : suc last ≡ k
  pub after : letter_after rot r last ≡ l

-- at k, about to leave the vertex that was entered at node
pub record Climbing (P : ℕ → Type 0) (rot : List ℕ) (r k : ℕ) (us b waits ts : List ℕ) : Type 0 where
  pub strolled : Strolled P rot r k b waits ts
  pub node : ℕ
  pub below : List ℕ
  pub stacked : tree_stack (letter_after rot r) k ≡ node ∷ below
  pub hung : Hung rot r (node ∷ below) us
  pub third : dart rot r k ≡ opposite (dart rot r node)
  pub over : (i : ℕ) → suc i ≡ k → CrossedAt rot r i

-- at k, back at the root's vertex
pub record Homing (P : ℕ → Type 0) (rot : List ℕ) (r k : ℕ) (b waits ts : List ℕ) : Type 0 where
  pub strolled : Strolled P rot r k b waits ts
  pub stacked : tree_stack (letter_after rot r) k ≡ []
  pub here : dart rot r k ≡ next rot r
  pub root : P r
  pub later : 0 < k
