-- The first dart of a word that the machine reads. Assumes nothing.
--
--   first_dart_lem            from where nothing is open it is dart 0
use native.Mathlib.Omega.{arith}
use Prim.Native.Nat.{ℕ}
use mathlib.Core.Path.{◌≡◌, refl, sym, ap, ◌∙◌}
use mathlib.Core.Logic.{◌≢◌}
use mathlib.Core.List.{List, [], ◌∷◌}
use lib.ListN.{length}
use Rattle.model.specs.Traversal.{Letter, down, up, first}
use Rattle.words.specs.Word.{head, word_darts, Found, found, none, after, Machine}
use Rattle.words.proofs.Found.{word_in}
use Rattle.machine.specs.Reading.{run}
use Rattle.machine.proofs.Runs.{run_goes, run_done, run_stuck}
use Rattle.machine.proofs.Turns.{Step, closes, rises, leafs, backs, enters, finishes, halts, step, turn_star, turn_back, turn_tree, turn_done}

abbrev first_dart : Found → ℕ
first_dart r = head (word_darts 0 [] [] (word_in r))

-- a word that begins with down or first
opening_down : (ls : List Letter) (r : Found) → first_dart (after (down ∷ ls) r) ≡ 0
unfolding word_darts
opening_down ls none = refl
opening_down ls (found w) = refl

opening_first : (ls : List Letter) (r : Found) → first_dart (after (first ∷ ls) r) ≡ 0
unfolding word_darts
opening_first ls none = refl
opening_first ls (found w) = refl

pub first_dart_lem : (s : Machine) → s.label ≢ 1 → s.below ≡ [] → first_dart (run s) ≡ 0
unfolding word_darts
first_dart_lem s n p = go (step s)
  where
    go : Step s → first_dart (run s) ≡ 0
    go (closes o os t e h) = absurd (n t)
    go (rises v vs bs t e q) = let z = ap length (sym p ∙ q) in absurd (omega arith)
    go (leafs b l c bs ls t e z q h) = ap first_dart (run_goes s _ _ (turn_star s b l c bs ls t e z q h)) ∙ opening_down (up ∷ []) (run _)
    go (backs b l c bs ls t e z q h k) = ap first_dart (run_goes s _ _ (turn_back s b l c bs ls t e z q h k)) ∙ opening_first [] (run _)
    go (enters b l c bs ls t e z q h k) = ap first_dart (run_goes s _ _ (turn_tree s b l c bs ls t e z q h k)) ∙ opening_down [] (run _)
    go (finishes t e a b c) = ap first_dart (run_done s (turn_done s t e a b c))
    go (halts e) = ap first_dart (run_stuck s e)
