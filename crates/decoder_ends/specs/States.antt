-- The machine in the code: the stage s, the label l of the edge that has just ended, how many bits are read, and the work area w. m is the number of edges.
-- A tree edge e of label l is stacked as 2e + l + 2, and names the vertex below it; the root is 0. Another edge is stacked as 2e + l, with the name of the
-- vertex where it began.
--
--   Stage                    a state of the code, and how many edges have begun, which is how many labels are read
--   stage e s                the state s where e edges have begun
--   Area                     the rotation and the stacks: names of the vertices that the present one hangs from, those where other edges began, and those
--   area_of m w d o           those of the work area w, where d tree edges and o others are open
--   area_at m w s             those at the stage s
--   trees_of v vs, ups_of v vs   the open tree edges, and their labels, where v is the present vertex and vs are those that it hangs from
--   edges_of xs, labels_of xs  the edges that are stacked as xs, and their labels
--   machine_of bs ls a s l k  the machine with bits bs and labels ls, where the area is a and k bits are read
--   machine_at m bs ls w s l k   the same, in the work area
--   outcome_of a s v          the rotation that comes out if the word v is still to be read
--   outcome_at m w s v        the same in the work area
--   at e v d o q             the stage where these are its parts
--   first_stage               the stage at the start
--   leaf_stage, leaf_area, back_stage, back_area, enter_stage, enter_area   the stage and the work area after an edge of label l has begun: to a leaf, from
--                            which it is gone up again; outside the tree; in the tree
--   Hangs v vs               v, where it hangs from vs, is the name of no root
--   Stacked a s              what is stacked in the area a is in range
--   Fits m w s               the numbers and stacks are in range
--   Standing m w s           they are so in the state s, where some edges have begun
use Rattle.std.specs.Prelude.{ℕ, ◌+◌, ◌-◌, ◌*◌, ◌/◌, ◌%◌, ◌≤◌, ◌<◌, ◌≡◌, true, List, [], ◌∷◌, length, set, drop}
use Rattle.model.specs.Numbers.{all_below}
use Rattle.model.specs.Traversal.{Letter}
use Rattle.words.specs.Word.{Machine, word_darts}
use Rattle.work.specs.Map.{BELOW, BEGUN, OPENS}
use Rattle.work.specs.Area.{region, stack}
use Rattle.builder.specs.Steps.{linked}
use Rattle.decoder_ends.specs.declared.State.{State}

-- "The tree bits and the labels are read in step": the cursor tells how many labels are read, so the code's state does not
pub record Stage : Type 0 where
  pub edges : ℕ
  pub here : ℕ
  pub depth : ℕ
  pub opens : ℕ
  pub place : ℕ

abbrev pub stage : ℕ → State → Stage
stage e s = record { edges = e; here = s.here; depth = s.depth; opens = s.opens; place = s.place }

pub record Area : Type 0 where
  pub rotation : List ℕ
  pub below : List ℕ
  pub begun : List ℕ
  pub opens : List ℕ

unfoldable pub area_of : ℕ → List ℕ → ℕ → ℕ → Area
area_of m w d o = record {
  rotation = region 0 (2 * m) w;
  below = stack (BELOW * (2 * m)) d w;
  begun = stack (BEGUN * (2 * m)) o w;
  opens = stack (OPENS * (2 * m)) o w;
}

abbrev pub area_at : ℕ → List ℕ → Stage → Area
area_at m w s = area_of m w s.depth s.opens

-- ---- what is stacked

unfoldable pub trees_of : ℕ → List ℕ → List ℕ
trees_of v [] = []
trees_of v (u ∷ us) = (v / 2 - 1) ∷ trees_of u us

unfoldable pub ups_of : ℕ → List ℕ → List ℕ
ups_of v [] = []
ups_of v (u ∷ us) = v % 2 ∷ ups_of u us

unfoldable pub edges_of : List ℕ → List ℕ
edges_of [] = []
edges_of (x ∷ xs) = x / 2 ∷ edges_of xs

unfoldable pub labels_of : List ℕ → List ℕ
labels_of [] = []
labels_of (x ∷ xs) = x % 2 ∷ labels_of xs

-- ---- the machine

unfoldable pub machine_of : List ℕ → List ℕ → Area → Stage → ℕ → ℕ → Machine
machine_of bs ls a s l k = record {
  n = 2 * s.edges + 2;
  here = s.here;
  below = a.below;
  ups = ups_of s.here a.below;
  opens = a.begun;
  seconds = labels_of a.opens;
  label = l;
  bits = drop k bs;
  labels = drop s.edges ls;
}

abbrev pub machine_at : ℕ → List ℕ → List ℕ → List ℕ → Stage → ℕ → ℕ → Machine
machine_at m bs ls w s l k = machine_of bs ls (area_at m w s) s l k

unfoldable pub outcome_of : Area → Stage → List Letter → List ℕ
outcome_of a s v = linked s.place v (word_darts s.edges (trees_of s.here a.below) (edges_of a.opens) v) a.rotation

abbrev pub outcome_at : ℕ → List ℕ → Stage → List Letter → List ℕ
outcome_at m w s v = outcome_of (area_at m w s) s v

abbrev pub at : ℕ → ℕ → ℕ → ℕ → ℕ → Stage
at e v d o q = record { edges = e; here = v; depth = d; opens = o; place = q }

abbrev pub first_stage : Stage
first_stage = at 0 0 0 0 0

-- ---- an edge begins

abbrev pub leaf_stage : Stage → Stage
leaf_stage s = at (s.edges + 1) s.here s.depth s.opens (2 * s.edges)

abbrev pub leaf_area : List ℕ → Stage → List ℕ
leaf_area w s = set (set w s.place (2 * s.edges)) (2 * s.edges + 1) (2 * s.edges + 1)

abbrev pub back_stage : Stage → Stage
back_stage s = at (s.edges + 1) s.here s.depth (s.opens + 1) (2 * s.edges)

abbrev pub back_area : ℕ → List ℕ → Stage → ℕ → List ℕ
back_area m w s l =
    set (set (set w s.place (2 * s.edges)) (BEGUN * (2 * m) + s.opens) s.here) (OPENS * (2 * m) + s.opens) (2 * s.edges + l)

abbrev pub enter_stage : Stage → ℕ → Stage
enter_stage s l = at (s.edges + 1) (2 * s.edges + l + 2) (s.depth + 1) s.opens (2 * s.edges + 1)

abbrev pub enter_area : ℕ → List ℕ → Stage → List ℕ
enter_area m w s = set (set w s.place (2 * s.edges)) (BELOW * (2 * m) + s.depth) s.here

-- ---- ranges

unfoldable pub Hangs : ℕ → List ℕ → Type 0
Hangs v [] = Unit
Hangs v (u ∷ us) = (2 ≤ v) × Hangs u us

pub record Stacked (a : Area) (s : Stage) : Type 0 where
  pub hangs : Hangs s.here a.below
  pub here_in : s.here < 2 * s.edges + 2
  pub below_in : all_below (2 * s.edges + 2) a.below ≡ true
  pub begun_in : all_below (2 * s.edges + 2) a.begun ≡ true
  pub opens_in : all_below (2 * s.edges) a.opens ≡ true

pub record Fits (m : ℕ) (w : List ℕ) (s : Stage) : Type 0 where
  pub few_edges : m ≤ 4096
  pub room : 32 * m ≤ length w
  pub edges_in : s.edges ≤ m
  pub few_open : s.depth + s.opens ≤ s.edges
  pub place_in : s.place < 2 * m
  pub stacked : Stacked (area_at m w s) s

pub record Standing (m : ℕ) (w : List ℕ) (s : State) : Type 0 where
  pub edges : ℕ
  pub fits : Fits m w (stage edges s)
