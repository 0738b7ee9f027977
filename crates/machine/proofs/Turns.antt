-- One turn of the reading machine, case by case, over a state of which the case's facts are known.
--
--   turn_close         the edge that has just ended has label 1, and the last open edge outside the tree, which began at a later vertex, ends here
--   turn_up            the next bit is 0, and the present vertex is not the root
--   turn_star          the next bit is not 0, and the next label is a star
--   turn_back          the next bit is not 0, the label is no star, and the bit after it is 0: an edge outside the tree begins
--   turn_tree          the same, and the bit after it is not 0: a tree edge
--   turn_done          nothing is left
--   stuck_none, stuck_early   the machine is stuck: no edge is open that could end; the one that could began here or earlier
--   stuck_left, stuck_root, stuck_bit, stuck_label   the bits are at an end and something is left; up from the root; no second bit; no label
--   Step, step         one of these cases holds of every state
use Prim.Native.Nat.{ℕ, zero, suc, ◌+◌, ◌≤◌, ◌<◌}
use native.Mathlib.Nat.{lt_of_not-le, suc-ne-zero}
use native.Mathlib.Decide.{dec_le, ℕ_discrete}
use native.Mathlib.Omega.{arith}
use mathlib.Core.Path.{◌≡◌, refl}
use mathlib.Core.Logic.{◌≢◌}
use mathlib.Core.List.{List, [], ◌∷◌}
use lib.ListN.{length}
use borrow.Author.Tests.{lt-ltb, le-ltb, ne_eqb}
use Rattle.model.specs.Traversal.{down, up, first, second}
use Rattle.model.specs.LabelledTree.{star}
use Rattle.words.specs.Word.{Machine, done, stuck, goes, close_edge, finish, go_up, go_down, read_bit, turn, closed, risen, leafed, backed, entered}

finish_stuck : (below opens labels : List ℕ) → 0 < length below + (length opens + length labels) → finish below opens labels ≡ stuck
unfolding finish
finish_stuck [] [] [] h = absurd (omega arith)
finish_stuck [] [] (l ∷ ls) h = refl
finish_stuck [] (o ∷ os) labels h = refl
finish_stuck (v ∷ vs) opens labels h = refl

module _ (s : Machine) where
  -- ---- an edge of label 1 has ended

  pub turn_close : (o : ℕ) (os : List ℕ) → s.label ≡ 1 → s.opens ≡ o ∷ os → s.here < o → turn s ≡ goes (second ∷ []) (closed s os)
  unfolding turn close_edge
  turn_close o os t e h = rw (t, e, lt-ltb s.here o h)

  pub stuck_none : s.label ≡ 1 → s.opens ≡ [] → turn s ≡ stuck
  unfolding turn close_edge
  stuck_none t e = rw (t, e)

  pub stuck_early : (o : ℕ) (os : List ℕ) → s.label ≡ 1 → s.opens ≡ o ∷ os → o ≤ s.here → turn s ≡ stuck
  unfolding turn close_edge
  stuck_early o os t e h = rw (t, e, le-ltb s.here o h)

  -- ---- else a bit is read

  pub turn_up : (v : ℕ) (vs bs : List ℕ) → s.label ≢ 1 → s.bits ≡ 0 ∷ bs → s.below ≡ v ∷ vs → turn s ≡ goes (up ∷ []) (risen s v vs bs)
  unfolding turn read_bit go_up
  turn_up v vs bs t e q = rw (ne_eqb s.label 1 t, e, q)

  pub stuck_root : (bs : List ℕ) → s.label ≢ 1 → s.bits ≡ 0 ∷ bs → s.below ≡ [] → turn s ≡ stuck
  unfolding turn read_bit go_up
  stuck_root bs t e q = rw (ne_eqb s.label 1 t, e, q)

  pub turn_done : s.label ≢ 1 → s.bits ≡ [] → s.below ≡ [] → s.opens ≡ [] → s.labels ≡ [] → turn s ≡ done
  unfolding turn read_bit finish
  turn_done t e p q r = rw (ne_eqb s.label 1 t, e, p, q, r)

  pub stuck_left : s.label ≢ 1 → s.bits ≡ [] → 0 < length s.below + (length s.opens + length s.labels) → turn s ≡ stuck
  unfolding turn read_bit
  stuck_left t e h = rw (ne_eqb s.label 1 t, e, finish_stuck s.below s.opens s.labels h)

  -- ---- a bit that is not 0 and a label

  module _ (b l c : ℕ) (bs ls : List ℕ) (t : s.label ≢ 1) (e : s.bits ≡ b ∷ c ∷ bs) (z : b ≢ 0) (q : s.labels ≡ l ∷ ls) where
    pub turn_star : l ≡ star → turn s ≡ goes (down ∷ up ∷ []) (leafed s c bs ls)
    unfolding turn read_bit go_down
    turn_star h = rw (ne_eqb s.label 1 t, e, q, ne_eqb b 0 z, h)

    pub turn_back : l ≢ star → c ≡ 0 → turn s ≡ goes (first ∷ []) (backed s l bs ls)
    unfolding turn read_bit go_down
    turn_back h k = rw (ne_eqb s.label 1 t, e, q, ne_eqb b 0 z, ne_eqb l star h, k)

    pub turn_tree : l ≢ star → c ≢ 0 → turn s ≡ goes (down ∷ []) (entered s l (c ∷ bs) ls)
    unfolding turn read_bit go_down
    turn_tree h k = rw (ne_eqb s.label 1 t, e, q, ne_eqb b 0 z, ne_eqb l star h, ne_eqb c 0 k)

  pub stuck_bit : (b : ℕ) → s.label ≢ 1 → s.bits ≡ b ∷ [] → b ≢ 0 → turn s ≡ stuck
  unfolding turn read_bit go_down
  stuck_bit b t e z = rw (ne_eqb s.label 1 t, e, ne_eqb b 0 z)

  pub stuck_label : (b c : ℕ) (bs : List ℕ) → s.label ≢ 1 → s.bits ≡ b ∷ c ∷ bs → b ≢ 0 → s.labels ≡ [] → turn s ≡ stuck
  unfolding turn read_bit go_down
  stuck_label b c bs t e z q = rw (ne_eqb s.label 1 t, e, q, ne_eqb b 0 z)

-- ---- every state has its case

pub data Step (s : Machine) : Type 0 where
  closes : (o : ℕ) (os : List ℕ) → s.label ≡ 1 → s.opens ≡ o ∷ os → s.here < o → Step s
  rises : (v : ℕ) (vs bs : List ℕ) → s.label ≢ 1 → s.bits ≡ 0 ∷ bs → s.below ≡ v ∷ vs → Step s
  leafs : (b l c : ℕ) (bs ls : List ℕ) → s.label ≢ 1 → s.bits ≡ b ∷ c ∷ bs → b ≢ 0 → s.labels ≡ l ∷ ls → l ≡ star → Step s
  backs : (b l c : ℕ) (bs ls : List ℕ) → s.label ≢ 1 → s.bits ≡ b ∷ c ∷ bs → b ≢ 0 → s.labels ≡ l ∷ ls → l ≢ star → c ≡ 0 → Step s
  enters : (b l c : ℕ) (bs ls : List ℕ) → s.label ≢ 1 → s.bits ≡ b ∷ c ∷ bs → b ≢ 0 → s.labels ≡ l ∷ ls → l ≢ star → c ≢ 0 → Step s
  finishes : s.label ≢ 1 → s.bits ≡ [] → s.below ≡ [] → s.opens ≡ [] → s.labels ≡ [] → Step s
  halts : turn s ≡ stuck → Step s

module _ (s : Machine) where
  step_close : s.label ≡ 1 → (opens : List ℕ) → s.opens ≡ opens → Step s
  step_close t [] e = halts (stuck_none s t e)
  step_close t (o ∷ os) e = elim (dec_le o s.here) [ yes h ↦ halts (stuck_early s o os t e h) | no h ↦ closes o os t e (lt_of_not-le h) ]

  step_up : s.label ≢ 1 → (bs : List ℕ) → s.bits ≡ 0 ∷ bs → (below : List ℕ) → s.below ≡ below → Step s
  step_up t bs e [] q = halts (stuck_root s bs t e q)
  step_up t bs e (v ∷ vs) q = rises v vs bs t e q

  step_down : s.label ≢ 1 → (b : ℕ) → b ≢ 0 → (bs : List ℕ) → s.bits ≡ b ∷ bs → (labels : List ℕ) → s.labels ≡ labels → Step s
  step_down t b z [] e ls q = halts (stuck_bit s b t e z)
  step_down t b z (c ∷ bs) e [] q = halts (stuck_label s b c bs t e z q)
  step_down t b z (c ∷ bs) e (l ∷ ls) q =
      elim (ℕ_discrete l star) [
        | yes h ↦ leafs b l c bs ls t e z q h
        | no h ↦ elim (ℕ_discrete c 0) [ yes k ↦ backs b l c bs ls t e z q h k | no k ↦ enters b l c bs ls t e z q h k ]
      ]

  step_end : s.label ≢ 1 → s.bits ≡ [] → (below opens labels : List ℕ) → s.below ≡ below → s.opens ≡ opens → s.labels ≡ labels → Step s
  step_end t e [] [] [] p q r = finishes t e p q r
  step_end t e [] [] (l ∷ ls) p q r = halts (stuck_left s t e (rw (p, q, r) (omega arith)))
  step_end t e [] (o ∷ os) labels p q r = halts (stuck_left s t e (rw (p, q, r) (omega arith)))
  step_end t e (v ∷ vs) opens labels p q r = halts (stuck_left s t e (rw (p, q, r) (omega arith)))

  step_bit : s.label ≢ 1 → (bits : List ℕ) → s.bits ≡ bits → Step s
  step_bit t [] e = step_end t e s.below s.opens s.labels refl refl refl
  step_bit t (zero ∷ bs) e = step_up t bs e s.below refl
  step_bit t (suc b ∷ bs) e = step_down t (suc b) (suc-ne-zero b) bs e s.labels refl

  pub step : Step s
  step = elim (ℕ_discrete s.label 1) [ yes t ↦ step_close t s.opens refl | no t ↦ step_bit t s.bits refl ]
