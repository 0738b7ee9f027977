-- A map on the darts below N: σ turns about a vertex, α crosses an edge. A set of edges, `tree`, and a tour that crosses just these edges and
-- goes through all the darts: `pos d` is when dart d comes, `dart` its inverse. Assumes nothing.
--
--   face σ α         the face permutation of the map
--   tour_next         one step of the tour
--   chord α tree d   the other dart of an edge outside the tree; d itself where its edge is in the tree
--   Tour             the tour crosses just the tree's edges and goes through all the darts
--   diagram          the chord diagram that it makes of the edges outside the tree
--   rest tree        the edges outside the tree
use Rattle.std.specs.Prelude.{ℕ, ◌<◌, ◌≡◌, Bool, not, cond}
use Rattle.orbits.specs.Permutation.{Perm}
use Rattle.orbits.specs.Chord.{Involution, next}

-- the face permutation of the map
abbrev pub face : (ℕ → ℕ) → (ℕ → ℕ) → ℕ → ℕ
face σ α d = σ (α d)

-- one step of the tour: across a tree edge and about the vertex there, or about this vertex
abbrev pub tour_next : (ℕ → ℕ) → (ℕ → ℕ) → (ℕ → Bool) → ℕ → ℕ
tour_next σ α tree d = cond (tree d) (σ (α d)) (σ d)

-- the other dart of an edge that is not in the tree; a dart of the tree itself
abbrev pub chord : (ℕ → ℕ) → (ℕ → Bool) → ℕ → ℕ
chord α tree d = cond (tree d) d (α d)

pub record Tour (N : ℕ) (σ α : ℕ → ℕ) (tree : ℕ → Bool) (pos dart : ℕ → ℕ) : Type 0 where
  pub turn : Perm N σ
  pub cross : Involution N α
  pub whole : (d : ℕ) → d < N → tree (α d) ≡ tree d
  pub pos_bound : (d : ℕ) → d < N → pos d < N
  pub dart_bound : (i : ℕ) → i < N → dart i < N
  pub dart_pos : (d : ℕ) → d < N → dart (pos d) ≡ d
  pub pos_dart : (i : ℕ) → i < N → pos (dart i) ≡ i
  pub step : (d : ℕ) → d < N → pos (tour_next σ α tree d) ≡ next N (pos d)

-- the chord diagram that the tour makes of the edges outside the tree
abbrev pub diagram : (α : ℕ → ℕ) (tree : ℕ → Bool) (pos dart : ℕ → ℕ) → ℕ → ℕ
diagram α tree pos dart i = pos (chord α tree (dart i))

-- the edges outside the tree and those of the tree change places
abbrev pub rest : (ℕ → Bool) → ℕ → Bool
rest tree d = not (tree d)
