-- Marks by dart, in the place of letters by dart and of vertices seen: 0 at a dart whose vertex is not seen; from 32,768 on at a dart of a vertex seen; from
-- 16,384 on at one met as down, from 8,192 on at one met as first, with the number of its edge.
--
--   Stands rot met seen b   the marks b stand for the letters' codes `met` and the vertices `seen`
--   Alike rot b             darts of one vertex that are marked as seen have one mark
--   Distinct rot b top      darts with one mark as seen are of one vertex, and no mark is above top
--   Rounded rot o c b b'    every dart of o's vertex gets the mark c, and no other dart one
--   mark_of l                the mark of a dart met as down or first, but for the number of its edge
--   Top rot r j             the edge that ends at step j is on top of the open edges outside the tree
--   Trailed rot r k b waiting   what k steps of the walk from r leave: the marks b, and the numbers of the open edges outside the tree, the last opened first
use Rattle.std.specs.Prelude.{◌≡◌, ◌≢◌, true, List, ◌∷◌, map, ℕ, ◌+◌, ◌≤◌, ◌<◌, length, get_or}
use Rattle.model.specs.Map.{opposite, vertex_of}
use Rattle.model.specs.Traversal.{Letter, down, up, first, second, opens}
use Rattle.words.specs.Brackets.{chord_stack}
use Rattle.words.specs.Position.{opened}
use Rattle.traversal.specs.Steps.{at, dart, letter_after}

pub record Stands (rot met seen b : List ℕ) : Type 0 where
  pub size : length b ≡ length rot
  pub dark : (x : ℕ) → x < length rot → get_or seen (vertex_of rot x) 0 ≡ 0 → get_or b x 0 ≡ 0
  pub light : (x : ℕ) → x < length rot → get_or seen (vertex_of rot x) 0 ≢ 0 → get_or met x 0 ≢ 1 → get_or met x 0 ≢ 3 → 32768 ≤ get_or b x 0
  pub downs : (x : ℕ) → x < length rot → get_or met x 0 ≡ 1 → (16384 ≤ get_or b x 0) × (get_or b x 0 < 32768)
  pub firsts : (x : ℕ) → x < length rot → get_or met x 0 ≡ 3 → (8192 ≤ get_or b x 0) × (get_or b x 0 < 16384)

abbrev pub Alike : List ℕ → List ℕ → Type 0
Alike rot b = (x y : ℕ) → x < length rot → y < length rot → vertex_of rot x ≡ vertex_of rot y → 32768 ≤ get_or b x 0 → 32768 ≤ get_or b y 0
    → get_or b x 0 ≡ get_or b y 0

pub record Distinct (rot b : List ℕ) (top : ℕ) : Type 0 where
  pub few : (x : ℕ) → x < length rot → get_or b x 0 ≤ top
  pub one_vertex : (x y : ℕ) → x < length rot → y < length rot → 32768 ≤ get_or b x 0 → get_or b x 0 ≡ get_or b y 0 → vertex_of rot x ≡ vertex_of rot y

pub record Rounded (rot : List ℕ) (o c : ℕ) (b b' : List ℕ) : Type 0 where
  pub size : length b' ≡ length b
  pub own : (z : ℕ) → z < length rot → vertex_of rot z ≡ vertex_of rot o → get_or b' z 0 ≡ c
  pub others : (z : ℕ) → z < length rot → vertex_of rot z ≢ vertex_of rot o → get_or b' z 0 ≡ get_or b z 0

abbrev pub mark_of : Letter → ℕ
mark_of down = 16384
mark_of up = 0
mark_of first = 8192
mark_of second = 0

pub record Top (rot : List ℕ) (r j : ℕ) : Type 0 where
  pub begun : ℕ
  pub below : List ℕ
  pub on_top : chord_stack (letter_after rot r) j ≡ begun ∷ below
  pub across : dart rot r begun ≡ opposite (dart rot r j)

pub record Trailed (rot : List ℕ) (r k : ℕ) (b waiting : List ℕ) : Type 0 where
  pub away : (j : ℕ) → 0 < j → j < k → dart rot r j ≢ r
  pub stands : Stands rot (at rot r k).met (at rot r k).seen b
  pub alike : Alike rot b
  pub numbers : (j : ℕ) → j < k → opens (letter_after rot r j) ≡ true → get_or b (dart rot r j) 0 ≡ mark_of (letter_after rot r j) + opened (letter_after rot r) j
  pub stacked : waiting ≡ map (opened (letter_after rot r)) (chord_stack (letter_after rot r) k)
  pub tops : (j : ℕ) → j < k → letter_after rot r j ≡ second → Top rot r j
