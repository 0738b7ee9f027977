-- Node types read as a word: the state in the work area, and what each step comes to. m is the number of edges.
--
--   type_count m              how many types there are
--   place_for x               what is to come at a node's second place, by its number
--   frames bs ps             the nodes with these heights and numbers
--   View                     the letters that are put, the nodes that are not complete, the types that are left
--   view_of m w i k d         those of the work area w, where i types are read, k letters put and d nodes not complete
--   view_at m w s             those in the state s
--   with_letter, with_node     one more letter is put; one more node is not complete, entered at the height b, with the number x to come
--   reading, climbing        the word that is found if the next type is to be read at the height h, and if a tree is complete there
--   ending v b h             the same at the end of a node that was entered at the height b, all its letters but up put
--   left m w r               the word that is found after the outcome r; none where there is no outcome
--   owes, owed s             how many letters a node, and all of s, are owed, a child that is to come counted as one
--   letters_to, Coded         the first k letters in the work area; the entries that hold them are codes of letters
--   Standing m c w s         numbers are in range: each type read brings three letters, and the tree below the start node one more; besides those of the
--                            nodes that are not complete, c of them are still to be put
--   popped s k h             the state after s with the node on top taken off, k letters put and the height h
--   Stands m i d w r         `Standing` of an outcome, where i types are read; while it climbs, fewer than d nodes are not complete
--   Turned                   what a step hands back that finds the word `result`: w and w' are the work area before and after
use Rattle.std.specs.Prelude.{ℕ, ◌+◌, ◌-◌, ◌*◌, ◌/◌, ◌%◌, ◌≤◌, ◌<◌, ◌≡◌, cond, List, [], ◌∷◌, ◌++◌, map, eqb, length, Option, Some, None}
use Rattle.model.specs.Traversal.{Letter, code}
use Rattle.words.specs.Word.{Found, found, none, after}
use Rattle.node_types.specs.Machine.{Place, child, gap, leaf, nothing, Frame, frame, is_nil, complete, climb, read_types}
use Rattle.work.specs.Map.{LETTERS, BASES, PLACES, TYPES}
use Rattle.work.specs.Area.{region, stack}
use Rattle.work.specs.Letters.{to_letter}
use Rattle.node_ends.specs.declared.State.{State}
use Rattle.node_ends.specs.declared.Outcome.{Outcome}
use Rattle.node_ends.specs.declared.Outcome.TheVariants.{Reads, Climbs, Whole}

-- ---- the work area

abbrev pub type_count : ℕ → ℕ
type_count m = 2 * (m / 3) - 1

unfoldable pub place_for : ℕ → Place
place_for x = cond (eqb x 1) child (cond (eqb x 2) gap (cond (eqb x 3) leaf nothing))

unfoldable pub frames : List ℕ → List ℕ → List Frame
frames [] ps = []
frames (b ∷ bs) [] = []
frames (b ∷ bs) (p ∷ ps) = frame b (place_for p) ∷ frames bs ps

unfoldable pub letters_to : ℕ → ℕ → List ℕ → List Letter
letters_to m k w = map to_letter (region (LETTERS * (2 * m)) k w)

pub record View : Type 0 where
  pub letters : List Letter
  pub nodes : List Frame
  pub types : List ℕ

unfoldable pub view_of : ℕ → List ℕ → ℕ → ℕ → ℕ → View
view_of m w i k d = record {
  letters = letters_to m k w;
  nodes = frames (stack (BASES * (2 * m)) d w) (stack (PLACES * (2 * m)) d w);
  types = region (TYPES * (2 * m) + i) (type_count m - i) w;
}

abbrev pub view_at : ℕ → List ℕ → State → View
view_at m w s = view_of m w s.read s.put s.depth

unfoldable pub with_letter : Letter → View → View
with_letter l v = record { letters = v.letters ++ (l ∷ []); nodes = v.nodes; types = v.types }

unfoldable pub with_node : ℕ → ℕ → View → View
with_node b x v = record { letters = v.letters; nodes = frame b (place_for x) ∷ v.nodes; types = v.types }

-- ---- the word that is found

unfoldable pub reading : View → ℕ → Found
reading v h = after v.letters (read_types v.types h v.nodes)

unfoldable pub climbing : View → ℕ → Found
climbing v h = after v.letters (climb (read_types v.types) (is_nil v.types) h v.nodes)

unfoldable pub ending : View → ℕ → ℕ → Found
ending v b h = after v.letters (complete b h (climb (read_types v.types) (is_nil v.types) h v.nodes))

unfoldable pub left : ℕ → List ℕ → Option Outcome → Found
left m w (Some (Reads s)) = reading (view_at m w s) s.height
left m w (Some (Climbs s)) = climbing (view_at m w s) s.height
left m w (Some Whole) = found (letters_to m (2 * m) w)
left m w None = none

-- ---- ranges

abbrev pub owes : Place → ℕ
owes child = 2
owes gap = 2
owes leaf = 2
owes nothing = 1

unfoldable pub owed : List Frame → ℕ
owed [] = 0
owed (frame b p ∷ s) = owes p + owed s

abbrev pub Coded : ℕ → ℕ → List ℕ → Type 0
Coded m k w = region (LETTERS * (2 * m)) k w ≡ map code (letters_to m k w)

pub record Standing (m c : ℕ) (w : List ℕ) (s : State) : Type 0 where
  pub some_edges : 3 ≤ m
  pub few_edges : m ≤ 4096
  pub thirds : m % 3 ≡ 0
  pub room : 32 * m ≤ length w
  pub types_in : s.read ≤ type_count m
  pub balance : s.put + owed (view_at m w s).nodes + c ≡ 3 * s.read + 1
  pub within : s.put + s.depth + c + 2 ≤ 2 * m
  pub low : s.height ≤ s.put
  pub high : 1 ≤ s.height + c
  pub coded : Coded m s.put w

abbrev pub popped : State → ℕ → ℕ → State
popped s k h = record { read = s.read; put = k; height = h; depth = s.depth - 1 }

unfoldable pub Stands : ℕ → ℕ → ℕ → List ℕ → Option Outcome → Type 0
Stands m i d w (Some (Reads s)) = Standing m 1 w s × (s.read ≡ i)
Stands m i d w (Some (Climbs s)) = Standing m 0 w s × (s.read ≡ i) × (s.depth < d)
Stands m i d w (Some Whole) = Coded m (2 * m) w
Stands m i d w None = Unit {0}

pub record Turned (m i d : ℕ) (result : Found) (r : Option Outcome) (w w' : List ℕ) : Type 0 where
  pub finds : left m w' r ≡ result
  pub stands : Stands m i d w' r
  pub kept : length w' ≡ length w
