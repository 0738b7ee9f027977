-- The machine's run, turn by turn and without fuel.
--
--   Spends s t         each letter that the turn t from s gives takes one of what is left, and it gives at least one
--   turn_spends        every turn does so
--   turn_left, turn_none   the same for a turn that goes on, and for one that is done
--   decode_fuel        fuel above what is left makes no difference
--   run_is             so `decode` is `run` with such fuel
--   run_turn           the run is a turn and the run from there
--   run_goes, run_done, run_stuck   the same by the kind of turn
--   after_after        letters read before letters that were read before
--   decode_word_run     `decode_word` by the run
use Prim.Native.Nat.{ℕ, zero, suc, ◌+◌, ◌<◌}
use native.Mathlib.Omega.{arith}
use mathlib.Core.Path.{◌≡◌, refl, sym, ap, ◌∙◌, subst}
use mathlib.Core.List.{List, [], ◌∷◌, ◌++◌, append-nil, append_assoc}
use lib.ListN.{length}
use Rattle.model.specs.Traversal.{Letter}
use Rattle.words.specs.Word.{Found, found, none, after, Machine, Turn, done, stuck, goes, turn, follow, decode, start, decode_word}
use Rattle.machine.specs.Reading.{left, run}
use Rattle.machine.proofs.Turns.{Step, closes, rises, leafs, backs, enters, finishes, halts, step, turn_close, turn_up, turn_star, turn_back, turn_tree, turn_done}

abbrev pub Spends : Machine → Turn → Type 0
Spends s done = left s ≡ 0
Spends s stuck = Unit
Spends s (goes ls t) = (length ls + left t ≡ left s) × (0 < length ls)

as_turn : (s : Machine) (t : Turn) → turn s ≡ t → Spends s t → Spends s (turn s)
as_turn s t e h = subst (Spends s) (sym e) h

pub turn_spends : (s : Machine) → Spends s (turn s)
turn_spends s = go (step s)
  where
    go : Step s → Spends s (turn s)
    go (closes o os t e h) = as_turn s _ (turn_close s o os t e h) (rw e (omega arith), omega arith)
    go (rises v vs bs t e q) = as_turn s _ (turn_up s v vs bs t e q) (rw e (omega arith), omega arith)
    go (leafs b l c bs ls t e z q h) = as_turn s _ (turn_star s b l c bs ls t e z q h) (rw e (omega arith), omega arith)
    go (backs b l c bs ls t e z q h k) = as_turn s _ (turn_back s b l c bs ls t e z q h k) (rw e (omega arith), omega arith)
    go (enters b l c bs ls t e z q h k) = as_turn s _ (turn_tree s b l c bs ls t e z q h k) (rw e (omega arith), omega arith)
    go (finishes t e p q r) = as_turn s done (turn_done s t e p q r) (rw (e, q))
    go (halts e) = as_turn s stuck e tt

pub turn_left : (s t : Machine) (ls : List Letter) → turn s ≡ goes ls t → (length ls + left t ≡ left s) × (0 < length ls)
turn_left s t ls e = subst (Spends s) e (turn_spends s)

pub turn_none : (s : Machine) → turn s ≡ done → left s ≡ 0
turn_none s e = subst (Spends s) e (turn_spends s)

-- ---- fuel

follow_same : (f g : Machine → Found) (s : Machine) (t : Turn) → Spends s t → ((r : Machine) → left r < left s → f r ≡ g r) → follow f t ≡ follow g t
follow_same f g s done h e = refl
follow_same f g s stuck h e = refl
follow_same f g s (goes ls r) h e = ap (after ls) (e r (omega arith))

pub decode_fuel : (f g : ℕ) (s : Machine) → left s < f → left s < g → decode f s ≡ decode g s
unfolding decode
decode_fuel zero g s h k = absurd (omega arith)
decode_fuel (suc f) zero s h k = absurd (omega arith)
decode_fuel (suc f) (suc g) s h k =
    follow_same (decode f) (decode g) s (turn s) (turn_spends s) (λ r l. decode_fuel f g r (omega arith) (omega arith))

pub run_is : (f : ℕ) (s : Machine) → left s < f → decode f s ≡ run s
unfolding run
run_is f s h = decode_fuel f (suc (left s)) s h (omega arith)

-- ---- the run

pub run_turn : (s : Machine) → run s ≡ follow run (turn s)
unfolding run decode
run_turn s = follow_same (decode (left s)) run s (turn s) (turn_spends s) (λ r l. run_is (left s) r l)

pub run_goes : (s t : Machine) (ls : List Letter) → turn s ≡ goes ls t → run s ≡ after ls (run t)
run_goes s t ls e = run_turn s ∙ ap (follow run) e

pub run_done : (s : Machine) → turn s ≡ done → run s ≡ found []
run_done s e = run_turn s ∙ ap (follow run) e

pub run_stuck : (s : Machine) → turn s ≡ stuck → run s ≡ none
run_stuck s e = run_turn s ∙ ap (follow run) e

pub after_after : (ls ms : List Letter) (r : Found) → after ls (after ms r) ≡ after (ls ++ ms) r
after_after [] ms r = refl
after_after (l ∷ ls) [] none = refl
after_after (l ∷ ls) (m ∷ ms) none = refl
after_after (l ∷ ls) [] (found w) = ap (λ (xs : List Letter). found (l ∷ xs ++ w)) (sym (append-nil ls))
after_after (l ∷ ls) (m ∷ ms) (found w) = ap (λ (xs : List Letter). found (l ∷ xs)) (sym (append_assoc ls (m ∷ ms) w))

pub decode_word_run : (bits labels : List ℕ) → decode_word bits labels ≡ run (start bits labels)
unfolding decode_word start
decode_word_run bits labels = run_is (suc (length bits)) (start bits labels) (omega arith)
