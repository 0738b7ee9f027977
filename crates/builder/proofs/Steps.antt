-- One letter: what its function writes, and what it makes of the rotation that comes out. Assumes nothing.
--
--   top_small             the last entry of a stack is as small as all are
--   entering, rising, backing, closing   the four letters: what is written is the step
--   stepped_stands        after a letter numbers and stacks are in range
--   stepped_built         what comes out then is what came out with the letter before
use Prim.Native.Nat.{ℕ, zero, suc, ◌+◌, ◌-◌, ◌*◌, ◌≤◌, ◌<◌}
use native.Mathlib.Nat.{lt_of_not-le}
use native.Mathlib.Decide.{dec_le}
use native.Mathlib.Numerals.{add-one}
use native.Mathlib.Omega.{arith}
use mathlib.Core.Path.{◌≡◌, refl, sym, ap, ◌∙◌}
use mathlib.Core.Bool.{true}
use mathlib.Core.List.{List, [], ◌∷◌}
use lib.ListN.{set, length-set}
use Rattle.model.specs.Numbers.{all_below}
use Rattle.model.specs.Traversal.{Letter, down, up, first, second}
use Rattle.model.proofs.Below.{below_cons, below_head, below_tail}
use Rattle.model.proofs.Opposite.{opposite_even, opposite_odd}
use Rattle.words.specs.Word.{head, tail, word_darts, place_of}
use Rattle.work.specs.Map.{LABELS, BELOW, TREES, BEGUN, OPENS}
use Rattle.work.specs.Area.{region, stack}
use Rattle.work.proofs.Regions.{region_set_other}
use Rattle.builder.specs.declared.State.{State}
use Rattle.builder.specs.Steps.{Parts, parts_of, parts_at, state_after, parts_after, edge_of, begun_after, outcome, outcome_at, Standing, Room, Stepped}
use Rattle.builder.proofs.Linking.{linked_step}
use Rattle.builder.proofs.Parts.{entered, pushed_tree, pushed_open, region_beside, dart_entered, tree_pushed, open_pushed, tree_popped, open_popped}

-- ---- the edges opened last

pub top_small : (m a k : ℕ) (w : List ℕ) → 0 < k → all_below m (stack a k w) ≡ true → head (stack a k w) < m
unfolding stack
top_small m a zero w h e = absurd (omega arith)
top_small m a (suc k) w h e = below_head m _ _ e

-- ---- what is written

module _ (m : ℕ) (w : List ℕ) (s : State) (e : ℕ) (g : Standing m w s) where
  abbrev here : Parts
  here = parts_at m w s

  -- the work area with dart x entered
  abbrev with : ℕ → List ℕ
  with x = set w s.place x

  abbrev OnStacks : ℕ → Type 0
  OnStacks i = (BELOW * (2 * m) ≤ i) × (i < LABELS * (2 * m))

  -- a region that is not before the stacks is behind them
  abbrev Apart : ℕ → ℕ → Type 0
  Apart a k = BELOW * (2 * m) < a + k → LABELS * (2 * m) ≤ a

  apart : (a k i : ℕ) → Apart a k → OnStacks i → a ≤ i → a + k ≤ i
  apart a k i f (p, q) l = elim (dec_le (a + k) (BELOW * (2 * m))) [ yes h ↦ omega arith | no h ↦ (let o = f (lt_of_not-le h) in absurd (omega arith)) ]

  with_parts : (x d o : ℕ) → parts_of m (with x) d o ≡ entered s.place x (parts_of m w d o)
  with_parts x d o = dart_entered m w d o s.place x g.place_in

  with_beside : (x a k : ℕ) → 2 * m ≤ a → region a k (with x) ≡ region a k w
  with_beside x a k h = let q = g.place_in in region_set_other a k w s.place x (λ l. absurd (omega arith))

  -- an entry pushed on two stacks
  pushed_beside : (x i v j y a k : ℕ) → OnStacks i → OnStacks j → 2 * m ≤ a → Apart a k → region a k (set (set (with x) i v) j y) ≡ region a k w
  pushed_beside x i v j y a k p q h f = region_beside (with x) i v j y a k (apart a k i f p) (apart a k j f q) ∙ with_beside x a k h

  module _ (r : Room m s e) where
    pub entering : Stepped down m w s e (state_after down here s e)
        (set (set (with (2 * e)) (BELOW * (2 * m) + s.depth) s.here) (TREES * (2 * m) + s.depth) e)
    entering =
        let room = g.room in let more = r.one_more in
        let same = length-set w s.place (2 * e) in
        record {
          state_is = refl;
          parts_are = rw (add-one s.depth) (tree_pushed m (with (2 * e)) s.depth s.opens (omega arith) more s.here e)
              ∙ ap (pushed_tree s.here e) (with_parts (2 * e) s.depth s.opens);
          kept = simp length-set refl;
          beside = λ a k. pushed_beside (2 * e) _ _ _ _ a k (omega arith, omega arith) (omega arith, omega arith);
        }

    pub backing : Stepped first m w s e (state_after first here s e)
        (set (set (with (2 * e)) (BEGUN * (2 * m) + s.opens) s.here) (OPENS * (2 * m) + s.opens) e)
    backing =
        let room = g.room in let more = r.one_more in
        let same = length-set w s.place (2 * e) in
        record {
          state_is = refl;
          parts_are = rw (add-one s.opens) (open_pushed m (with (2 * e)) s.depth s.opens (omega arith) more s.here e)
              ∙ ap (pushed_open s.here e) (with_parts (2 * e) s.depth s.opens);
          kept = simp length-set refl;
          beside = λ a k. pushed_beside (2 * e) _ _ _ _ a k (omega arith, omega arith) (omega arith, omega arith);
        }

  pub rising : 0 < s.depth → (t : State) → t ≡ state_after up here s e → Stepped up m w s e t (with (2 * e + 1))
  rising h t q = record {
    state_is = q;
    parts_are =
        ap (λ (u : State). parts_at m (with (2 * e + 1)) u) q ∙ with_parts (2 * e + 1) (s.depth - 1) s.opens
        ∙ ap (λ (p : Parts). parts_after up p s e) (sym (tree_popped m w s.depth s.opens h));
    kept = length-set w s.place (2 * e + 1);
    beside = λ a k h f. with_beside (2 * e + 1) a k h;
  }

  pub closing : 0 < s.opens → Stepped second m w s e (state_after second here s e) (with (2 * e + 1))
  closing h = record {
    state_is = refl;
    parts_are =
        with_parts (2 * e + 1) s.depth (s.opens - 1)
        ∙ ap (λ (p : Parts). parts_after second p s e) (sym (open_popped m w s.depth s.opens h));
    kept = length-set w s.place (2 * e + 1);
    beside = λ a k h f. with_beside (2 * e + 1) a k h;
  }

-- ---- what follows from a step

place_small : (l : Letter) (p : Parts) (s : State) (m e : ℕ) → e < m → (state_after l p s e).place < 2 * m
place_small down p s m e h = omega arith
place_small up p s m e h = omega arith
place_small first p s m e h = omega arith
place_small second p s m e h = omega arith

below_rest : (m : ℕ) (xs : List ℕ) → all_below m xs ≡ true → all_below m (tail xs) ≡ true
below_rest m [] h = h
below_rest m (x ∷ xs) h = below_tail m x xs h

trees_small : (l : Letter) (p : Parts) (s : State) (m e : ℕ) → e < m → all_below m p.trees ≡ true → all_below m (parts_after l p s e).trees ≡ true
trees_small down p s m e h t = below_cons m e p.trees h t
trees_small up p s m e h t = below_rest m p.trees t
trees_small first p s m e h t = t
trees_small second p s m e h t = t

opens_small : (l : Letter) (p : Parts) (s : State) (m e : ℕ) → e < m → all_below m p.opens ≡ true → all_below m (parts_after l p s e).opens ≡ true
opens_small down p s m e h t = t
opens_small up p s m e h t = t
opens_small first p s m e h t = below_cons m e p.opens h t
opens_small second p s m e h t = below_rest m p.opens t

after_built : (l : Letter) (p : Parts) (s : State) (e k : ℕ) → e ≡ edge_of l p k → (v : List Letter)
    → outcome (parts_after l p s e) (state_after l p s e).place (begun_after l k) v ≡ outcome p s.place k (l ∷ v)
unfolding outcome word_darts place_of
after_built down p s e k h v = rw h (linked_step s.place _ down v (2 * k) _ p.rotation (sym (opposite_even k)))
after_built up p s e k h v = rw h (linked_step s.place _ up v _ _ p.rotation (sym (opposite_odd (head p.trees))))
after_built first p s e k h v = rw h (linked_step s.place _ first v (2 * k) _ p.rotation refl)
after_built second p s e k h v = rw h (linked_step s.place _ second v _ _ p.rotation refl)

module _ (l : Letter) (m : ℕ) (w : List ℕ) (s : State) (e : ℕ) (t : State) (w' : List ℕ) (x : Stepped l m w s e t w') where
  pub stepped_stands : Standing m w s → e < m → t.depth + t.opens ≤ m → Standing m w' t
  stepped_stands g h few = record {
    few_edges = g.few_edges;
    room = rw x.kept g.room;
    few_open = few;
    place_in = rw x.state_is (place_small l (parts_at m w s) s m e h);
    trees_in = rw x.parts_are (trees_small l (parts_at m w s) s m e h g.trees_in);
    opens_in = rw x.parts_are (opens_small l (parts_at m w s) s m e h g.opens_in);
  }

  pub stepped_built : (k : ℕ) → e ≡ edge_of l (parts_at m w s) k → (v : List Letter) → outcome_at m w' t (begun_after l k) v ≡ outcome_at m w s k (l ∷ v)
  stepped_built k h v = rw (x.parts_are, x.state_is) (after_built l (parts_at m w s) s e k h v)
