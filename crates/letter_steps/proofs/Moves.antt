-- One letter read: the builder's step moves on, or no word goes on well. Assumes nothing.
--
--   goes                  letters that are read move on
--   stuck                 a letter that may not come: no word goes on well with it
--   full_begin            m edges have begun: no edge may begin
--   root_up, none_second, low_second   no edge is open that could end here
use Prim.Native.Nat.{ℕ, zero, suc, ◌*◌, ◌≤◌, ◌<◌}
use native.Mathlib.Omega.{arith}
use mathlib.Core.Path.{◌≡◌}
use mathlib.Core.List.{List, [], ◌∷◌}
use Rattle.model.specs.Traversal.{Letter, up, second}
use Rattle.model.proofs.Booleans.{not_intro}
use Rattle.words.specs.Word.{head}
use Rattle.packing.specs.Letters.{digit_letter}
use Rattle.builder.specs.declared.State.{State}
use Rattle.builder.specs.Steps.{parts_at}
use Rattle.builder.specs.Moves.{goes_on, Able, Moved}
use Rattle.builder.proofs.Moves.{able}
use Rattle.std.specs.Prelude.{Some, None}
use Rattle.letter_steps.specs.Reading.{Read}

pub goes : (ls : List Letter) (m : ℕ) (w : List ℕ) (s : State) (e : ℕ) (t : State) (k : ℕ) (w' : List ℕ) → Moved ls [] m w s e t k w'
    → Read ls m w s e (Some (t, k)) w'
unfolding Read
goes ls m w s e t k w' y = y

module _ (m : ℕ) (w : List ℕ) (s : State) (e : ℕ) (w' : List ℕ) where
  stuck : (l : Letter) → (Able l m (parts_at m w s) s e → ⊥) → Read (l ∷ []) m w s e None w'
  unfolding Read
  stuck l not-able v n = not_intro (goes_on m w s (l ∷ v)) (λ t. not-able (able m w s e l v n t))

  pub full_begin : m ≤ e → (x : ℕ) → x < 2 → Read (digit_letter (2 * x) ∷ []) m w s e None w'
  unfolding digit_letter
  full_begin h zero l = stuck (digit_letter 0) (λ a. omega arith)
  full_begin h (suc zero) l = stuck (digit_letter 2) (λ a. omega arith)
  full_begin h (suc (suc x)) l = let z : ⊥ = omega arith in absurd z

  pub root_up : s.depth ≡ 0 → Read (up ∷ []) m w s e None w'
  root_up h = stuck up (λ a. omega arith)

  pub none_second : s.opens ≡ 0 → Read (second ∷ []) m w s e None w'
  none_second h = stuck second (λ a. let o = a.0 in omega arith)

  pub low_second : head (parts_at m w s).begun < s.here → Read (second ∷ []) m w s e None w'
  low_second h = stuck second (λ a. let o = a.1 in omega arith)
