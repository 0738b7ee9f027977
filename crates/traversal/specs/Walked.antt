-- What is known of the traversal of any plan, connected or not, position by position.
--
--   Ruled rot root n x ℓ   n steps, with the dart x i and the letter ℓ i at step i, that keep the traversal's rules: each dart is met once, the walk
--                    goes on as its letters say until it is back at the root, and the letters say what is seen
--   Carries rot rot' f   f carries the darts of rot to those of rot', with opposites, entries and vertices
--   Among p x        dart x is met
--   Walked p         the traversal keeps the rules, and meets the darts of the root's component
use Rattle.std.specs.Prelude.{ℕ, suc, ◌≤◌, ◌<◌, ◌≡◌, ◌≢◌, ◌⊎◌, ◌↔◌, List, length}
use Rattle.model.specs.Map.{Plan, darts, opposite, next, vertex_of}
use Rattle.model.specs.Traversal.{Letter, down, up, first, second, onward, visits}
use Rattle.words.specs.Toured.{dart_at, letter_of}

pub record Ruled (rot : List ℕ) (root n : ℕ) (x : ℕ → ℕ) (ℓ : ℕ → Letter) : Type 0 where
  pub some_met : 0 < n
  pub different : (i j : ℕ) → i < n → j < n → x i ≡ x j → i ≡ j
  -- the walk goes on from each dart as its letter says, and comes back to the root
  pub starts : x 0 ≡ root
  pub step : (i : ℕ) → suc i < n → x (suc i) ≡ onward rot (ℓ i) (x i)
  pub closes : (i : ℕ) → suc i ≡ n → onward rot (ℓ i) (x i) ≡ root
  -- with a dart its opposite is met, and their letters match
  pub across : (i : ℕ) → i < n → (j : ℕ) × (j < n) × (x j ≡ opposite (x i))
  pub pair : (i j : ℕ) → i < j → j < n → x j ≡ opposite (x i) → ((ℓ i ≡ down) × (ℓ j ≡ up)) ⊎ ((ℓ i ≡ first) × (ℓ j ≡ second))
  -- down leads to a vertex of which no dart is met yet; first to one that is seen
  pub new : (i : ℕ) → i < n → ℓ i ≡ down → (j : ℕ) → j ≤ i → vertex_of rot (x j) ≢ vertex_of rot (opposite (x i))
  pub old : (i : ℕ) → i < n → ℓ i ≡ first → (j : ℕ) × (j ≤ i) × (vertex_of rot (x j) ≡ vertex_of rot (opposite (x i)))

pub record Carries (rot rot' : List ℕ) (f : ℕ → ℕ) : Type 0 where
  pub across : (d : ℕ) → d < length rot → opposite d < length rot
  pub one_to_one : (d e : ℕ) → d < length rot → e < length rot → f d ≡ f e → d ≡ e
  pub opposites : (d : ℕ) → d < length rot → f (opposite d) ≡ opposite (f d)
  pub rotations : (d : ℕ) → d < length rot → f (next rot d) ≡ next rot' (f d)
  pub vertices : (d e : ℕ) → d < length rot → e < length rot → (vertex_of rot d ≡ vertex_of rot e) ↔ (vertex_of rot' (f d) ≡ vertex_of rot' (f e))

abbrev pub Among : Plan → ℕ → Type 0
Among p x = (i : ℕ) × (i < length (visits p)) × (dart_at p i ≡ x)

pub record Walked (p : Plan) : Type 0 where
  pub ruled : Ruled p.rotation p.root (length (visits p)) (dart_at p) (letter_of p)
  pub few_met : length (visits p) ≤ darts p
  pub dart_bound : (i : ℕ) → i < length (visits p) → dart_at p i < darts p
  pub turn : (x : ℕ) → Among p x → Among p (next p.rotation x)
