-- How much room the stacks of a walk take; what is on top of them, `words/Opened` says.
--
--   stacks_size        both stacks have no more entries than edges are opened
--   open_room          as many positions are left as edges outside the tree are open
use Prim.Native.Nat.{ℕ, zero, suc, ◌+◌, ◌≤◌}
use native.Mathlib.Nat.{le_step, lt-suc_self}
use native.Mathlib.Omega.{arith}
use mathlib.Core.Path.{◌≡◌, refl, ap}
use mathlib.Core.Bool.{Bool, true, false}
use mathlib.Core.List.{List, [], ◌∷◌}
use lib.Dec.{T}
use lib.ListN.{length}
use Rattle.model.specs.Numbers.{tick, count}
use Rattle.model.specs.Map.{Plan, darts, dart_count_fits}
use Rattle.model.specs.Traversal.{Letter, down, up, first, second, opens}
use Rattle.orbits.specs.Stack.{push, stack, Served}
use Rattle.model.proofs.Booleans.{true_T}
use Rattle.orbits.proofs.Order.{le_split}
use Rattle.orbits.proofs.Tally.{count_grows, count_inj}
use Rattle.orbits.proofs.Chord.{μ-inj}
use Rattle.words.specs.Toured.{Toured, letter_of, mate_of}
use Rattle.words.specs.Brackets.{tree_kind, chord_kind, chord_word, tree_stack, chord_stack}
use Rattle.words.specs.Position.{opened}
pub use Rattle.words.proofs.Opened.{chord_opener, tree_opener}
use Rattle.words.proofs.Positions.{mate_bound, mate_inv, mate_letter}
use Rattle.forward.proofs.Stacked.{OnTopTo, on_top_served}

pub stacks_size : (ℓ : ℕ → Letter) (i : ℕ) → length (tree_stack ℓ i) + length (chord_stack ℓ i) ≤ opened ℓ i
unfolding stack opened count
stacks_size ℓ zero = omega arith
stacks_size ℓ (suc i) = go (ℓ i) (tree_stack ℓ i) (chord_stack ℓ i) (stacks_size ℓ i)
  where
    n : ℕ
    n = count (λ j. opens (ℓ j)) i

    go : (l : Letter) (s u : List ℕ) → length s + length u ≤ n → length (push (tree_kind l) i s) + length (push (chord_kind l) i u) ≤ tick (opens l) n
    go down s u h = omega arith
    go up [] u h = h
    go up (a ∷ s) u h = omega arith
    go first s u h = omega arith
    go second s [] h = h
    go second s (a ∷ u) h = omega arith

abbrev is_first : Letter → Bool
is_first down = false
is_first up = false
is_first first = true
is_first second = false

abbrev is_second : Letter → Bool
is_second down = false
is_second up = false
is_second first = false
is_second second = true

firsts : (ℓ : ℕ → Letter) → ℕ → ℕ
firsts ℓ i = count (λ j. is_first (ℓ j)) i

seconds : (ℓ : ℕ → Letter) → ℕ → ℕ
seconds ℓ i = count (λ j. is_second (ℓ j)) i

-- the firsts that have no second yet are on the stack
open_count : (ℓ : ℕ → Letter) (i : ℕ) → Served (chord_word ℓ) i → length (chord_stack ℓ i) + seconds ℓ i ≡ firsts ℓ i
unfolding stack firsts seconds count
open_count ℓ zero served = refl
open_count ℓ (suc i) served = go (ℓ i) (chord_stack ℓ i) refl refl (open_count ℓ i (λ j h. served j (le_step h)))
  where
    go : (l : Letter) (s : List ℕ) → ℓ i ≡ l → chord_stack ℓ i ≡ s → length s + seconds ℓ i ≡ firsts ℓ i
        → length (push (chord_kind l) i s) + tick (is_second l) (seconds ℓ i) ≡ tick (is_first l) (firsts ℓ i)
    go down s e f h = h
    go up s e f h = h
    go first s e f h = omega arith
    go second [] e f h = absurd (served i (lt-suc_self i) (ap chord_kind e) f)
    go second (a ∷ s) e f h = omega arith

-- no more seconds than positions
seconds_room : (ℓ : ℕ → Letter) (i j : ℕ) → i ≤ j → seconds ℓ j + i ≤ seconds ℓ i + j
unfolding seconds count
seconds_room ℓ i zero h = let e : i ≡ 0 = omega arith in rw e (omega arith)
seconds_room ℓ i (suc j) h = le_split h (λ e. rw e (omega arith)) (λ l. go (is_second (ℓ j)) (seconds_room ℓ i j (omega arith)))
  where
    go : (b : Bool) → seconds ℓ j + i ≤ seconds ℓ i + j → tick b (seconds ℓ j) + i ≤ seconds ℓ i + suc j
    go true h = omega arith
    go false h = omega arith

module _ (p : Plan) (t : Toured p) (fits : dart_count_fits (darts p) ≡ true) where
  -- each first has its second
  firsts_seconds : firsts (letter_of p) (darts p) ≤ seconds (letter_of p) (darts p)
  unfolding firsts seconds
  firsts_seconds = count_inj (λ j. is_first (letter_of p j)) (λ j. is_second (letter_of p j)) (darts p) (darts p) (record {
    to = λ i h u. mate_of p i;
    bound = λ i h u. mate_bound p t fits i h;
    passes = λ i h u. true_T _ (ap is_second (mate_letter p t i h first (first_of (letter_of p i) u)));
    inj = λ i j h g u v. μ-inj (darts p) (mate_of p) (mate_inv p t fits) i j h g;
  })
    where
      first_of : (l : Letter) → T (is_first l) → l ≡ first
      first_of down u = absurd u
      first_of up u = absurd u
      first_of first u = refl
      first_of second u = absurd u

  pub open_room : (j : ℕ) → j ≤ darts p → OnTopTo p j → j + length (chord_stack (letter_of p) j) ≤ darts p
  unfolding firsts
  open_room j h tops =
      let a = open_count (letter_of p) j (on_top_served p j tops) in
      let b = firsts_seconds in
      let c = seconds_room (letter_of p) j (darts p) h in
      let d = count_grows (λ i. is_first (letter_of p i)) j (darts p) h in
      omega arith
