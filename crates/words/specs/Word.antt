-- The contour word: the letters of a plan's traversal. The record, the standard plan and fitness can all be read off it.
--
--   closes loops here o   an edge outside the tree that began at vertex o may end at `here`; `loops` says whether loops are taken
--   nested loops n here below opens w   the word w goes on well from this state: n vertices entered, `here` the present one, `below` those that it
--                         hangs from, `opens` the vertices where edges outside the tree are open, the last opened first
--   starts_up w            w begins with up
--   bare_leaf w            some vertex but the root has degree one: a down stands right before an up
--   valid f w             w is the word of a plan that is fit for the kinds of family f
--   starts_second w        1 if w begins with second, else 0
--   head, tail            the first entry of a list, 0 if there is none; the others
--   Ends, ends w          the labels of the edges that w opens, and those of the edges that it ends without opening them, tree and others
--   ends_one l w rest      the same for the letter l before w, from those of w
--   word_labels w          the labels; a star is 2
--   word_bits b w          the tree bits, where b says that the letter before w is down
--   word_darts             the standard dart at each place, from stacks of open tree edges and of other open edges
--   place_of l x           the dart whose entry comes after x, which has the letter l
--   link, rotation_of w    the entries, dart by dart; the rotation
--   rooted rot            the plan with this rotation and root 0, where its outside is too
--   plan_of w              the standard plan
--   Found                 a word or none
--   after ls r            the letters ls before what is found
--   Machine, Turn         the state of the reading machine, and what one turn of it does
--   closed, risen, leafed, backed, entered   the state after an edge outside the tree ended, after going up, after a leaf, after an edge outside the
--                         tree began, after going down
--   close_edge, finish, go_up, go_down, read_bit   the turns: an edge outside the tree ends; no bit is left; 0 is read; 1 is read; one of these three
--   turn s                one turn: tree bits and labels are read in step
--   follow go t           the letters of the turn t before the word that `go` reads from there on
--   decode f s            the word that the machine reads in at most f turns
--   start bits labels     the state at the beginning
--   decode_word            the word for these tree bits and labels
--   nested_word w          the word w itself, if it is nested with loops taken
use Rattle.std.specs.Prelude.{ℕ, zero, suc, ◌+◌, ◌*◌, Bool, true, false, not, ◌&&◌, ◌||◌, cond, List, [], ◌∷◌, ◌++◌, eqb, ltb, leb, length, set, replicate}
use Rattle.model.specs.Map.{Plan, dart_count_fits, is_family, takes_loops, opposite}
use Rattle.model.specs.Traversal.{Letter, down, up, first, second}
use Rattle.model.specs.LabelledTree.{star}

-- ---- which words are words of fit plans

-- at an earlier vertex, or, where loops are taken, at o itself
abbrev pub closes : Bool → ℕ → ℕ → Bool
closes true here o = leb here o
closes false here o = ltb here o

-- An edge outside the tree ends at an ancestor of the vertex where it began: one that was entered earlier and is not left yet.
unfoldable pub nested : Bool → ℕ → ℕ → List ℕ → List ℕ → List Letter → Bool
nested loops n here [] [] [] = true
nested loops n here [] (o ∷ os) [] = false
nested loops n here (b ∷ bs) opens [] = false
nested loops n here below opens (down ∷ w) = nested loops (suc n) n (here ∷ below) opens w
nested loops n here [] opens (up ∷ w) = false
nested loops n here (b ∷ bs) opens (up ∷ w) = nested loops n b bs opens w
nested loops n here below opens (first ∷ w) = nested loops n here below (here ∷ opens) w
nested loops n here below [] (second ∷ w) = false
nested loops n here below (o ∷ os) (second ∷ w) = closes loops here o && nested loops n here below os w

unfoldable pub starts_up : List Letter → Bool
starts_up [] = false
starts_up (down ∷ w) = false
starts_up (up ∷ w) = true
starts_up (first ∷ w) = false
starts_up (second ∷ w) = false

unfoldable pub bare_leaf : List Letter → Bool
bare_leaf [] = false
bare_leaf (down ∷ w) = starts_up w || bare_leaf w
bare_leaf (up ∷ w) = bare_leaf w
bare_leaf (first ∷ w) = bare_leaf w
bare_leaf (second ∷ w) = bare_leaf w

unfoldable pub valid : ℕ → List Letter → Bool
valid f w = is_family f && (dart_count_fits (length w) && (nested (takes_loops f) 1 0 [] [] w && not (eqb f 1 && bare_leaf w)))

-- ---- labels and bits

unfoldable pub starts_second : List Letter → ℕ
starts_second [] = 0
starts_second (down ∷ w) = 0
starts_second (up ∷ w) = 0
starts_second (first ∷ w) = 0
starts_second (second ∷ w) = 1

pub record Ends : Type 0 where
  pub labels : List ℕ
  pub ups : List ℕ
  pub seconds : List ℕ

abbrev pub head : List ℕ → ℕ
head [] = 0
head (x ∷ xs) = x

abbrev pub tail : List ℕ → List ℕ
tail [] = []
tail (x ∷ xs) = xs

-- An edge's label is 1 exactly where the letter right after its end is second. `rest` is `ends` of what follows, w.
unfoldable pub ends_one : Letter → List Letter → Ends → Ends
ends_one down w rest = record { labels = cond (starts_up w) star (head rest.ups) ∷ rest.labels; ups = tail rest.ups; seconds = rest.seconds }
ends_one up w rest = record { labels = rest.labels; ups = starts_second w ∷ rest.ups; seconds = rest.seconds }
ends_one first w rest = record { labels = head rest.seconds ∷ rest.labels; ups = rest.ups; seconds = tail rest.seconds }
ends_one second w rest = record { labels = rest.labels; ups = rest.ups; seconds = starts_second w ∷ rest.seconds }

unfoldable pub ends : List Letter → Ends
ends [] = record { labels = []; ups = []; seconds = [] }
ends (l ∷ w) = ends_one l w (ends w)

unfoldable pub word_labels : List Letter → List ℕ
word_labels w = (ends w).labels

unfoldable pub word_bits : Bool → List Letter → List ℕ
word_bits b [] = []
word_bits b (down ∷ w) = 1 ∷ word_bits true w
word_bits b (up ∷ w) = cond b (starts_second w) 0 ∷ word_bits false w
word_bits b (first ∷ w) = 1 ∷ 0 ∷ word_bits false w
word_bits b (second ∷ w) = word_bits false w

-- ---- the standard plan

-- e edges have their numbers; `trees` and `opens` are the edges that are open, the last opened first
unfoldable pub word_darts : ℕ → List ℕ → List ℕ → List Letter → List ℕ
word_darts e trees opens [] = []
word_darts e trees opens (down ∷ w) = 2 * e ∷ word_darts (suc e) (e ∷ trees) opens w
word_darts e trees opens (up ∷ w) = (2 * head trees + 1) ∷ word_darts e (tail trees) opens w
word_darts e trees opens (first ∷ w) = 2 * e ∷ word_darts (suc e) trees (e ∷ opens) w
word_darts e trees opens (second ∷ w) = (2 * head opens + 1) ∷ word_darts e trees (tail opens) w

-- the dart whose entry is the dart that comes after x in the traversal
unfoldable pub place_of : Letter → ℕ → ℕ
place_of down x = opposite x
place_of up x = opposite x
place_of first x = x
place_of second x = x

-- each dart's successor is entered; after the last comes dart 0
unfoldable pub link : List Letter → List ℕ → List ℕ → List ℕ
link [] xs out = out
link (l ∷ w) [] out = out
link (l ∷ w) (x ∷ xs) out = link w xs (set out (place_of l x) (head xs))

unfoldable pub rotation_of : List Letter → List ℕ
rotation_of w = link w (word_darts 0 [] [] w) (replicate (length w) 0)

abbrev pub rooted : List ℕ → Plan
rooted rot = record { rotation = rot; root = 0; outside = 0 }

unfoldable pub plan_of : List Letter → Plan
plan_of w = rooted (rotation_of w)

-- ---- reading

pub data Found : Type 0 where
  found : List Letter → Found
  none : Found

abbrev pub after : List Letter → Found → Found
after [] r = r
after (l ∷ ls) none = none
after (l ∷ ls) (found w) = found (l ∷ ls ++ w)

-- n, here, below and opens as in `nested`; `ups` and `seconds` are the labels of the open edges; `label` is the label of the edge that has just ended, 0
-- elsewhere; `bits` and `labels` are what is still to be read.
pub record Machine : Type 0 where
  pub n : ℕ
  pub here : ℕ
  pub below : List ℕ
  pub ups : List ℕ
  pub opens : List ℕ
  pub seconds : List ℕ
  pub label : ℕ
  pub bits : List ℕ
  pub labels : List ℕ

pub data Turn : Type 0 where
  done stuck : Turn
  goes : List Letter → Machine → Turn

-- the state after each turn; `bits` and `labels` are what is still to be read then

abbrev pub closed : Machine → List ℕ → Machine
closed s opens = record {
  n = s.n;
  here = s.here;
  below = s.below;
  ups = s.ups;
  opens = opens;
  seconds = tail s.seconds;
  label = head s.seconds;
  bits = s.bits;
  labels = s.labels;
}

abbrev pub risen : Machine → ℕ → List ℕ → List ℕ → Machine
risen s here below bits = record {
  n = s.n;
  here = here;
  below = below;
  ups = tail s.ups;
  opens = s.opens;
  seconds = s.seconds;
  label = head s.ups;
  bits = bits;
  labels = s.labels;
}

-- b is the leaf's saved label
abbrev pub leafed : Machine → ℕ → List ℕ → List ℕ → Machine
leafed s b bits labels = record {
  n = suc s.n;
  here = s.here;
  below = s.below;
  ups = s.ups;
  opens = s.opens;
  seconds = s.seconds;
  label = b;
  bits = bits;
  labels = labels;
}

-- l is the edge's label, here and in `entered`
abbrev pub backed : Machine → ℕ → List ℕ → List ℕ → Machine
backed s l bits labels = record {
  n = s.n;
  here = s.here;
  below = s.below;
  ups = s.ups;
  opens = s.here ∷ s.opens;
  seconds = l ∷ s.seconds;
  label = 0;
  bits = bits;
  labels = labels;
}

abbrev pub entered : Machine → ℕ → List ℕ → List ℕ → Machine
entered s l bits labels = record {
  n = suc s.n;
  here = s.n;
  below = s.here ∷ s.below;
  ups = l ∷ s.ups;
  opens = s.opens;
  seconds = s.seconds;
  label = 0;
  bits = bits;
  labels = labels;
}

-- an edge of label 1 has ended: the last open edge outside the tree ends too, at a proper ancestor of where it began
unfoldable pub close_edge : Machine → List ℕ → Turn
close_edge s [] = stuck
close_edge s (o ∷ os) = cond (ltb s.here o)
    (goes (second ∷ []) (closed s os))
    stuck

-- nothing is open and nothing is left
unfoldable pub finish : List ℕ → List ℕ → List ℕ → Turn
finish [] [] [] = done
finish [] [] (l ∷ ls) = stuck
finish [] (o ∷ os) labels = stuck
finish (v ∷ vs) opens labels = stuck

unfoldable pub go_up : Machine → List ℕ → List ℕ → Turn
go_up s bits [] = stuck
go_up s bits (v ∷ vs) = goes (up ∷ []) (risen s v vs bits)

-- a star is a leaf, and the bit b after it its saved label; else b is 0 where the edge is no tree edge
unfoldable pub go_down : Machine → List ℕ → List ℕ → Turn
go_down s [] labels = stuck
go_down s (b ∷ bs) [] = stuck
go_down s (b ∷ bs) (l ∷ ls) = cond (eqb l star)
    (goes (down ∷ up ∷ []) (leafed s b bs ls))
    (cond (eqb b 0)
    (goes (first ∷ []) (backed s l bs ls))
    (goes (down ∷ []) (entered s l (b ∷ bs) ls)))

-- 0: up; 1: down, with the next label
unfoldable pub read_bit : Machine → List ℕ → Turn
read_bit s [] = finish s.below s.opens s.labels
read_bit s (b ∷ bs) = cond (eqb b 0) (go_up s bs s.below) (go_down s bs s.labels)

unfoldable pub turn : Machine → Turn
turn s = cond (eqb s.label 1) (close_edge s s.opens) (read_bit s s.bits)

abbrev pub follow : (Machine → Found) → Turn → Found
follow go done = found []
follow go stuck = none
follow go (goes ls s) = after ls (go s)

-- at most f turns
unfoldable pub decode : ℕ → Machine → Found
decode zero s = none
decode (suc f) s = follow (decode f) (turn s)

unfoldable pub start : List ℕ → List ℕ → Machine
start bits labels = record {
  n = 1;
  here = 0;
  below = [];
  ups = [];
  opens = [];
  seconds = [];
  label = 0;
  bits = bits;
  labels = labels;
}

unfoldable pub decode_word : List ℕ → List ℕ → Found
decode_word bits labels = decode (suc (length bits)) (start bits labels)

-- ---- reading letters

unfoldable pub nested_word : List Letter → Found
nested_word w = cond (nested true 1 0 [] [] w) (found w) none
