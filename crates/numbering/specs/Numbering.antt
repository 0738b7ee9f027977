-- The walk by marks of a rotation of n darts, whose standard rotation is put from place n on. A dart gets its entry when the dart after it is met.
--
--   source l d           the dart whose entry is the dart after d, which is met with the letter l
--   link_of rot r j       the standard number of the one at step j
--   Marked rot r k b     the marks b after k steps: they stand for what is met and seen, and tell the numbers of edges
--   Placed rot s         dart and numbers are in range
--   WentDown             a step down to the vertex of o: the entry, the round of the vertex in `circled`, then the dart's own mark
--   first_on, first_area   a step that begins an edge outside the tree: where the walk stands after it, and the work area
--   up_on, second_on, end_area   one that ends tree edge f, o being the opposite, or another edge f
--   Numbering rot r k w s   k darts are met
--   Numbered p w w'      the whole walk
use Rattle.std.specs.Prelude.{ℕ, suc, ◌+◌, ◌*◌, ◌<◌, ◌≡◌, true, List, length, get_or, set}
use Rattle.model.specs.Map.{Plan, darts, opposite, next}
use Rattle.model.specs.Traversal.{Letter, down, up, first, second, opens, standard_numbers, standard_rotation}
use Rattle.words.specs.Position.{opened}
use Rattle.words.specs.Toured.{Toured}
use Rattle.traversal.specs.Steps.{at, dart, letter_after}
use Rattle.work.specs.Area.{region}
use Rattle.marks.specs.Marks.{Stands, mark_of}
use Rattle.trace_steps.specs.Steps.{Ground, Circled}
use Rattle.tracing.specs.Tracing.{from}
use Rattle.numbering.specs.declared.Stand.{Stand}

abbrev pub source : Letter → ℕ → ℕ
source down d = opposite d
source up d = opposite d
source first d = d
source second d = d

unfoldable pub link_of : List ℕ → ℕ → ℕ → ℕ
link_of rot r j = get_or (standard_numbers (from rot r)) (source (letter_after rot r j) (dart rot r j)) 0

pub record Marked (rot : List ℕ) (r k : ℕ) (b : List ℕ) : Type 0 where
  pub stands : Stands rot (at rot r k).met (at rot r k).seen b
  pub numbers : (j : ℕ) → j < k → opens (letter_after rot r j) ≡ true → get_or b (dart rot r j) 0 ≡ mark_of (letter_after rot r j) + opened (letter_after rot r) j

pub record Placed (rot : List ℕ) (s : Stand) : Type 0 where
  pub dart : s.dart < length rot
  pub edges : s.edges < 8192
  pub place : s.place < length rot

abbrev pub down_on : List ℕ → ℕ → Stand → Stand
down_on rot o s = record { dart = next rot o; edges = s.edges + 1; place = 2 * s.edges + 1 }

pub record WentDown (rot : List ℕ) (o : ℕ) (s : Stand) (w : List ℕ) (t : Stand) (w' : List ℕ) : Type 0 where
  pub stands : t ≡ down_on rot o s
  pub circled : List ℕ
  pub round : Circled rot o 32768 (set w (length rot + s.place) (2 * s.edges)) circled
  pub area : w' ≡ set circled s.dart (16384 + s.edges)

abbrev pub first_on : List ℕ → Stand → Stand
first_on rot s = record { dart = next rot s.dart; edges = s.edges + 1; place = 2 * s.edges }

abbrev pub first_area : ℕ → Stand → List ℕ → List ℕ
first_area n s w = set (set w (n + s.place) (2 * s.edges)) s.dart (8192 + s.edges)

abbrev pub up_on : List ℕ → ℕ → ℕ → Stand → Stand
up_on rot o f s = record { dart = next rot o; edges = s.edges; place = 2 * f }

abbrev pub second_on : List ℕ → ℕ → Stand → Stand
second_on rot f s = record { dart = next rot s.dart; edges = s.edges; place = 2 * f + 1 }

abbrev pub end_area : ℕ → ℕ → Stand → List ℕ → List ℕ
end_area n f s w = set w (n + s.place) (2 * f + 1)

pub record Numbering (rot : List ℕ) (r k : ℕ) (w : List ℕ) (s : Stand) : Type 0 where
  pub ground : Ground rot w
  pub root_in : r < length rot
  pub toured : Toured (from rot r)
  pub here : s.dart ≡ dart rot r k
  pub edges : s.edges ≡ opened (letter_after rot r) k
  pub marks : Marked rot r k (region 0 (length rot) w)
  pub place_in : s.place < length rot
  pub place : (j : ℕ) → suc j ≡ k → s.place ≡ link_of rot r j
  pub entries : (j : ℕ) → suc j < k → get_or w (length rot + link_of rot r j) 0 ≡ get_or (standard_rotation (from rot r)) (link_of rot r j) 0

pub record Numbered (p : Plan) (w w' : List ℕ) : Type 0 where
  pub rotation : region (darts p) (darts p) w' ≡ standard_rotation p
  pub kept : length w' ≡ length w
