-- What is known of the traversal of a connected plan, position by position.
--
--   darts_met p       the darts in the order in which they are met
--   dart_at p i       the dart at position i
--   letter_of p i     its letter
--   pos_of p d        the position of dart d
--   mate_of p i       the position of the opposite of the dart at position i
--   fellow l         the letter of the opposite dart
--   is_tree l, is_chord l   the letter of a dart of a tree edge, of another edge
--   Toured p         the traversal meets every dart once, step by step, and its letters say what is seen
--   Brackets part p  the darts of the edges of a part, tree or chord, match like brackets along the traversal
--   Bracketed p      both do
--   matching part p  the mate of a position of the part; any other position stays
use Rattle.std.specs.Prelude.{ℕ, suc, ◌≤◌, ◌<◌, ◌≡◌, ◌≢◌, Bool, true, false, not, cond, List, map, length, get_or}
use Rattle.model.specs.Numbers.{position}
use Rattle.model.specs.Map.{Plan, darts, opposite, vertex_of}
use Rattle.model.specs.Traversal.{Letter, down, up, first, second, opens, onward, visits, word}

unfoldable pub darts_met : Plan → List ℕ
darts_met p = map (λ v. v.dart) (visits p)

unfoldable pub dart_at : Plan → ℕ → ℕ
dart_at p i = get_or (darts_met p) i 0

unfoldable pub letter_of : Plan → ℕ → Letter
letter_of p i = get_or (word p) i second

unfoldable pub pos_of : Plan → ℕ → ℕ
pos_of p d = position d (darts_met p)

unfoldable pub mate_of : Plan → ℕ → ℕ
mate_of p i = pos_of p (opposite (dart_at p i))

abbrev pub fellow : Letter → Letter
fellow down = up
fellow up = down
fellow first = second
fellow second = first

pub record Toured (p : Plan) : Type 0 where
  pub all_met : length (visits p) ≡ darts p
  pub dart_bound : (i : ℕ) → i < darts p → dart_at p i < darts p
  pub pos_bound : (d : ℕ) → d < darts p → pos_of p d < darts p
  pub dart_pos : (d : ℕ) → d < darts p → dart_at p (pos_of p d) ≡ d
  pub pos_dart : (i : ℕ) → i < darts p → pos_of p (dart_at p i) ≡ i
  pub starts : dart_at p 0 ≡ p.root
  -- the walk goes on from each dart as its letter says, and comes back to the root
  pub step : (i : ℕ) → suc i < darts p → dart_at p (suc i) ≡ onward p.rotation (letter_of p i) (dart_at p i)
  pub closes : (i : ℕ) → suc i ≡ darts p → onward p.rotation (letter_of p i) (dart_at p i) ≡ p.root
  -- down and up, first and second are the letters of opposite darts, the opening one met earlier
  pub fellows : (i : ℕ) → i < darts p → letter_of p (mate_of p i) ≡ fellow (letter_of p i)
  pub opens_first : (i : ℕ) → i < darts p → opens (letter_of p i) ≡ true → i < mate_of p i
  -- down leads to a vertex of which no dart is met yet; first to one that is seen
  pub new : (i : ℕ) → i < darts p → letter_of p i ≡ down → (j : ℕ) → j ≤ i
      → vertex_of p.rotation (dart_at p j) ≢ vertex_of p.rotation (opposite (dart_at p i))
  pub old : (i : ℕ) → i < darts p → letter_of p i ≡ first
      → (j : ℕ) × (j ≤ i) × (vertex_of p.rotation (dart_at p j) ≡ vertex_of p.rotation (opposite (dart_at p i)))

abbrev pub is_tree : Letter → Bool
is_tree down = true
is_tree up = true
is_tree first = false
is_tree second = false

abbrev pub is_chord : Letter → Bool
is_chord l = not (is_tree l)

-- what lies between the two darts of an edge is matched there
abbrev pub Brackets : (Letter → Bool) → Plan → Type 0
Brackets part p = (i x : ℕ) → i < darts p → part (letter_of p i) ≡ true → i < x → x < mate_of p i → part (letter_of p x) ≡ true
    → (i < mate_of p x) × (mate_of p x < mate_of p i)

pub record Bracketed (p : Plan) : Type 0 where
  pub trees : Brackets is_tree p
  pub chords : Brackets is_chord p

unfoldable pub matching : (Letter → Bool) → Plan → ℕ → ℕ
matching part p i = cond (part (letter_of p i)) (mate_of p i) i
