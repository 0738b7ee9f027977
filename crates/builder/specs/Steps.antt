-- The rotation while it is built: a few numbers, and the parts of the work area that hold the darts entered and the edges that are open. m is the number
-- of edges, e the edge of a letter.
--
--   Parts                    the rotation and the stacks: vertices that the present one hangs from, tree edges, vertices where other edges began, those
--   parts_of m w d o          those of the work area w, where d tree edges and o others are open
--   parts_at m w s            those in the state s
--   first_state               the state at the start
--   state_after l p s e       the state after the letter l of edge e, from the parts p and the state s
--   parts_after l p s e       the parts after it
--   edge_of l p k             the edge of the letter l, where k edges have begun
--   begun_after l k           how many edges have begun after the letter l, where k had before
--   linked q v xs out        the rotation that the word v with its darts xs makes of out, where the place q waits for the next dart
--   outcome p q k v          the rotation that comes out if the word v is still to be read, where k edges have begun
--   outcome_at m w s k v      the same in the state s
--   Standing m w s           the numbers and stacks are in range
--   Room m s e               there is room for edge e
--   Stepped                  the letter l of edge e is read, and nothing beside the rotation and the stacks is touched
use Rattle.std.specs.Prelude.{ℕ, suc, ◌+◌, ◌-◌, ◌*◌, ◌≤◌, ◌<◌, ◌≡◌, true, List, ◌∷◌, length, set}
use Rattle.model.specs.Numbers.{all_below}
use Rattle.model.specs.Traversal.{Letter, down, up, first, second}
use Rattle.words.specs.Word.{head, tail, word_darts, link}
use Rattle.work.specs.Map.{LABELS, BELOW, TREES, BEGUN, OPENS}
use Rattle.work.specs.Area.{region, stack}
use Rattle.builder.specs.declared.State.{State}

pub record Parts : Type 0 where
  pub rotation : List ℕ
  pub below : List ℕ
  pub trees : List ℕ
  pub begun : List ℕ
  pub opens : List ℕ

unfoldable pub parts_of : ℕ → List ℕ → ℕ → ℕ → Parts
parts_of m w d o = record {
  rotation = region 0 (2 * m) w;
  below = stack (BELOW * (2 * m)) d w;
  trees = stack (TREES * (2 * m)) d w;
  begun = stack (BEGUN * (2 * m)) o w;
  opens = stack (OPENS * (2 * m)) o w;
}

abbrev pub parts_at : ℕ → List ℕ → State → Parts
parts_at m w s = parts_of m w s.depth s.opens

abbrev pub first_state : State
first_state = record { n = 1; here = 0; depth = 0; opens = 0; place = 0 }

-- ---- one letter

abbrev pub state_after : Letter → Parts → State → ℕ → State
state_after down p s e = record { n = s.n + 1; here = s.n; depth = s.depth + 1; opens = s.opens; place = 2 * e + 1 }
state_after up p s e = record { n = s.n; here = head p.below; depth = s.depth - 1; opens = s.opens; place = 2 * e }
state_after first p s e = record { n = s.n; here = s.here; depth = s.depth; opens = s.opens + 1; place = 2 * e }
state_after second p s e = record { n = s.n; here = s.here; depth = s.depth; opens = s.opens - 1; place = 2 * e + 1 }

abbrev pub parts_after : Letter → Parts → State → ℕ → Parts
parts_after down p s e = record {
  rotation = set p.rotation s.place (2 * e);
  below = s.here ∷ p.below;
  trees = e ∷ p.trees;
  begun = p.begun;
  opens = p.opens;
}
parts_after up p s e = record {
  rotation = set p.rotation s.place (2 * e + 1);
  below = tail p.below;
  trees = tail p.trees;
  begun = p.begun;
  opens = p.opens;
}
parts_after first p s e = record {
  rotation = set p.rotation s.place (2 * e);
  below = p.below;
  trees = p.trees;
  begun = s.here ∷ p.begun;
  opens = e ∷ p.opens;
}
parts_after second p s e = record {
  rotation = set p.rotation s.place (2 * e + 1);
  below = p.below;
  trees = p.trees;
  begun = tail p.begun;
  opens = tail p.opens;
}

abbrev pub edge_of : Letter → Parts → ℕ → ℕ
edge_of down p k = k
edge_of up p k = head p.trees
edge_of first p k = k
edge_of second p k = head p.opens

abbrev pub begun_after : Letter → ℕ → ℕ
begun_after down k = suc k
begun_after up k = k
begun_after first k = suc k
begun_after second k = k

-- ---- what comes out

unfoldable pub linked : ℕ → List Letter → List ℕ → List ℕ → List ℕ
linked q v xs out = link v xs (set out q (head xs))

unfoldable pub outcome : Parts → ℕ → ℕ → List Letter → List ℕ
outcome p q k v = linked q v (word_darts k p.trees p.opens v) p.rotation

abbrev pub outcome_at : ℕ → List ℕ → State → ℕ → List Letter → List ℕ
outcome_at m w s k v = outcome (parts_at m w s) s.place k v

-- ---- ranges

pub record Standing (m : ℕ) (w : List ℕ) (s : State) : Type 0 where
  pub few_edges : m ≤ 4096
  pub room : 32 * m ≤ length w
  pub few_open : s.depth + s.opens ≤ m
  pub place_in : s.place < 2 * m
  pub trees_in : all_below m (parts_at m w s).trees ≡ true
  pub opens_in : all_below m (parts_at m w s).opens ≡ true

pub record Room (m : ℕ) (s : State) (e : ℕ) : Type 0 where
  pub one_more : s.depth + s.opens < m
  pub edge_in : e < m
  pub vertices : s.n ≤ m

pub record Stepped (l : Letter) (m : ℕ) (w : List ℕ) (s : State) (e : ℕ) (t : State) (w' : List ℕ) : Type 0 where
  pub state_is : t ≡ state_after l (parts_at m w s) s e
  pub parts_are : parts_at m w' t ≡ parts_after l (parts_at m w s) s e
  pub kept : length w' ≡ length w
  pub beside : (a k : ℕ) → 2 * m ≤ a → (BELOW * (2 * m) < a + k → LABELS * (2 * m) ≤ a) → region a k w' ≡ region a k w
