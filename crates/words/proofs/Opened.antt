-- Edges that open before a position: how many, and those that wait on the stacks. ℓ i is the letter at position i.
--
--   opened_more, opened_stays   past a position that opens an edge, and past another
--   opened_few         no more than positions
--   opened_rises       more, past a position that opens an edge
--   opened_inj         two positions that open edges, with as many opened before them, are one
--   chord_opener       what is on top of the stack of edges outside the tree is a first, met before
--   tree_opener        and what is on top of that of tree edges, a down
use Prim.Native.Nat.{ℕ, zero, suc, ◌+◌, ◌≤◌, ◌<◌}
use native.Mathlib.Nat.{le_step, lt-suc_self}
use native.Mathlib.Omega.{arith}
use mathlib.Core.Path.{◌≡◌, refl, sym, subst, ◌∙◌}
use mathlib.Core.Bool.{Bool, true, false}
use mathlib.Core.List.{List, [], ◌∷◌}
use lib.Dec.{T}
use Rattle.model.specs.Traversal.{Letter, down, first, opens}
use Rattle.orbits.specs.Stack.{Kind, flat, open', close, push, stack}
use Rattle.orbits.proofs.Order.{tri}
use Rattle.orbits.proofs.Tally.{count_in, count_out, count_le, count_below}
use Rattle.orbits.proofs.Decode.{Each}
use Rattle.words.specs.Brackets.{tree_word, chord_word, tree_stack, chord_stack}
use Rattle.words.specs.Position.{opened}
use Rattle.words.proofs.Bracketing.{is_down_lem, is_first_lem}

-- ---- how many

module _ (ℓ : ℕ → Letter) where
  pub opened_more : (k : ℕ) → opens (ℓ k) ≡ true → opened ℓ (suc k) ≡ opened ℓ k + 1
  unfolding opened
  opened_more k e = count_in (λ j. opens (ℓ j)) k (subst (λ (b : Bool). T b) (sym e) tt) ∙ omega arith

  pub opened_stays : (k : ℕ) → opens (ℓ k) ≡ false → opened ℓ (suc k) ≡ opened ℓ k
  unfolding opened
  opened_stays k e = count_out (λ j. opens (ℓ j)) k (λ t. subst (λ (b : Bool). T b) e t)

  pub opened_few : (k : ℕ) → opened ℓ k ≤ k
  unfolding opened
  opened_few k = count_le (λ j. opens (ℓ j)) k

  pub opened_rises : (i j : ℕ) → i < j → opens (ℓ i) ≡ true → opened ℓ i < opened ℓ j
  unfolding opened
  opened_rises i j = count_below (λ k. opens (ℓ k)) i j

  pub opened_inj : (i j : ℕ) → opens (ℓ i) ≡ true → opens (ℓ j) ≡ true → opened ℓ i ≡ opened ℓ j → i ≡ j
  opened_inj i j u v e = tri i j (λ l. absurd (omega (arith, opened_rises i j l u))) (λ q. q) (λ g. absurd (omega (arith, opened_rises j i g v)))

-- ---- on a stack

-- a is an opening bracket before i
Opener : (ℕ → Kind) → ℕ → ℕ → Type 0
Opener K i a = (a < i) × (K a ≡ open')

wider : (K : ℕ → Kind) (i : ℕ) (s : List ℕ) → Each (Opener K i) s → Each (Opener K (suc i)) s
unfolding Opener
wider K i [] e = tt
wider K i (a ∷ s) e = ((le_step e.0.0, e.0.1), wider K i s e.1)

openers : (K : ℕ → Kind) (i : ℕ) → Each (Opener K i) (stack K i)
unfolding stack Opener
openers K zero = tt
openers K (suc i) = go (K i) (stack K i) refl (openers K i)
  where
    go : (k : Kind) (s : List ℕ) → K i ≡ k → Each (Opener K i) s → Each (Opener K (suc i)) (push k i s)
    go flat s e h = wider K i s h
    go open' s e h = ((lt-suc_self i, e), wider K i s h)
    go close [] e h = tt
    go close (a ∷ s) e h = wider K i s h.1

pub chord_opener : (ℓ : ℕ → Letter) (i a : ℕ) (s : List ℕ) → chord_stack ℓ i ≡ a ∷ s → (a < i) × (ℓ a ≡ first)
unfolding Opener
chord_opener ℓ i a s e = let (l, k) = (subst (Each (Opener (chord_word ℓ) i)) e (openers (chord_word ℓ) i)).0 in (l, is_first_lem (ℓ a) k)

pub tree_opener : (ℓ : ℕ → Letter) (i a : ℕ) (s : List ℕ) → tree_stack ℓ i ≡ a ∷ s → (a < i) × (ℓ a ≡ down)
unfolding Opener
tree_opener ℓ i a s e = let (l, k) = (subst (Each (Opener (tree_word ℓ) i)) e (openers (tree_word ℓ) i)).0 in (l, is_down_lem (ℓ a) k)
