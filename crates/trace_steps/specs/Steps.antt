-- What each kind of step does, in the work area w of a rotation of n darts. Position i comes next; i and the number of edges that wait are together the number of tree
-- bits before it.
--
--   Ground rot w             the entries are a permutation, and the work area has room
--   Placed rot i s           position, dart and numbers are in range
--   Circled rot o c w w'     the darts of o's vertex are marked with c, and all else stays
--   WentDown                 a step down to the vertex of o: its round in `circled`, then the dart's own mark
--   first_on, first_area       a step that begins an edge outside the tree: where the walk stands after it, and the work area
--   up_on, up_area             one up, which ends tree edge f; o is the opposite
--   second_on, second_area     one that ends edge f outside the tree
--   last_is s f               f is on top of the stack s
use Rattle.std.specs.Prelude.{ℕ, ◌+◌, ◌-◌, ◌*◌, ◌≤◌, ◌<◌, ◌≡◌, Bool, true, false, List, [], ◌∷◌, eqb, length, set, drop}
use Rattle.model.specs.Numbers.{is_permutation}
use Rattle.model.specs.Map.{next, dart_count_fits}
use Rattle.work.specs.Map.{WAITING}
use Rattle.work.specs.Area.{region}
use Rattle.marks.specs.Marks.{Rounded}
use Rattle.trace_puts.specs.Putting.{follows, down_put, first_put, up_put, second_put}
use Rattle.trace_steps.specs.declared.Trace.{Trace}

pub record Ground (rot w : List ℕ) : Type 0 where
  pub count : dart_count_fits (length rot) ≡ true
  pub perm : is_permutation rot ≡ true
  pub room : 16 * length rot ≤ length w

pub record Placed (rot : List ℕ) (i : ℕ) (s : Trace) : Type 0 where
  pub position : i < length rot
  pub dart : s.dart < length rot
  pub edges : s.edges < length rot
  pub waiting : s.waiting ≤ i

pub record Circled (rot : List ℕ) (o c : ℕ) (w w' : List ℕ) : Type 0 where
  pub marks : Rounded rot o c (region 0 (length rot) w) (region 0 (length rot) w')
  pub rest : drop (length rot) w' ≡ drop (length rot) w
  pub kept : length w' ≡ length w

-- ---- down

abbrev pub down_on : List ℕ → ℕ → Trace → Trace
down_on rot o s = record { root = s.root; dart = next rot o; edges = s.edges + 1; waiting = s.waiting }

pub record WentDown (rot : List ℕ) (family i o : ℕ) (s : Trace) (w : List ℕ) (t : Trace) (w' : List ℕ) : Type 0 where
  pub stands : t ≡ down_on rot o s
  pub circled : List ℕ
  pub round : Circled rot o (32769 + s.edges) w circled
  pub area : w' ≡ down_put (length rot) family i (i + s.waiting) (set circled s.dart (16384 + s.edges))

-- ---- first

abbrev pub first_on : List ℕ → Trace → Trace
first_on rot s = record { root = s.root; dart = next rot s.dart; edges = s.edges + 1; waiting = s.waiting + 1 }

unfoldable pub first_area : ℕ → ℕ → ℕ → Trace → List ℕ → List ℕ
first_area n family i s w = first_put n family i (i + s.waiting) (set (set w s.dart (8192 + s.edges)) (WAITING * n + s.waiting) s.edges)

-- ---- up

abbrev pub up_on : List ℕ → ℕ → Trace → Trace
up_on rot o s = record { root = s.root; dart = next rot o; edges = s.edges; waiting = s.waiting }

unfoldable pub up_area : List ℕ → ℕ → ℕ → ℕ → ℕ → Trace → List ℕ → List ℕ
up_area rot family i o f s w = up_put (length rot) family i (i + s.waiting) f (eqb (next rot s.dart) s.dart) (follows w (next rot o)) w

-- ---- second

abbrev pub second_on : List ℕ → Trace → Trace
second_on rot s = record { root = s.root; dart = next rot s.dart; edges = s.edges; waiting = s.waiting - 1 }

unfoldable pub second_area : List ℕ → ℕ → ℕ → ℕ → Trace → List ℕ → List ℕ
second_area rot family i f s w = second_put (length rot) family i f (follows w (next rot s.dart)) w

abbrev pub last_is : List ℕ → ℕ → Bool
last_is [] f = false
last_is (e ∷ es) f = eqb e f
