-- The loops over letters: what is left of the word gives the answer, and the darts entered so far with those to come its rotation. Assumes nothing.
--
--   goes_on_lem, stuck_on     some more are read, or no word goes on well with them
--   answer_stuck, answer_end   the answer where no word goes on well, and after the last letter
--   answer_unclean, answer_clean   the answer for the payload
use Prim.Native.Nat.{ℕ, ◌+◌, ◌*◌, ◌≤◌}
use native.Mathlib.Omega.{arith}
use mathlib.Core.Path.{◌≡◌, sym, ap, ◌∙◌, subst}
use mathlib.Core.Bool.{Bool, true, false, true≢false, false≢true}
use mathlib.Core.List.{List, [], ◌++◌, append-nil}
use lib.ListN.{length, set, drop, replicate, drop_of_length-le}
use Rattle.model.specs.Traversal.{Letter}
use Rattle.words.specs.Word.{nested, nested_word}
use Rattle.packing.specs.Letters.{payload_letters, letters_clean}
use Rattle.coding.specs.Payloads.{decode_letters}
use Rattle.work.specs.Area.{region, stack}
use Rattle.builder.specs.declared.State.{State}
use Rattle.builder.specs.Decoded.{Answered}
use Rattle.builder.specs.Steps.{parts_of, first_state}
use Rattle.builder.specs.Moves.{goes_on, Left, Moved}
use Rattle.builder.proofs.Moves.{now_first, moved_on, moved_end, left_start, whole_moved}
use Rattle.std.specs.Prelude.{Some, None}
use Rattle.letter_steps.specs.Reading.{Read}

-- ---- letters one after the other

module _ (ls : List Letter) (m : ℕ) (w : List ℕ) (s : State) (e : ℕ) where
  -- `all` is left, and `now` is read next
  module _ (all : List Letter) (t : State) (k : ℕ) (w' : List ℕ) (x : Moved ls all m w s e t k w') (now : List Letter) (w'' : List ℕ)
      (rest : List Letter) (q : all ≡ now ++ rest) where
    pub goes_on_lem : (u : State) (j : ℕ) → Read now m w' t k (Some (u, j)) w'' → Moved ls rest m w s e u j w''
    unfolding Read
    goes_on_lem u j y = moved_on ls m w s e all t k w' x now rest q u j w'' y

    pub stuck_on : Read now m w' t k None w'' → Read ls m w s e None w''
    unfolding Read
    stuck_on y v n =
        let q' = now_first ls m w s e all t k w' x now rest q v in
        sym (x.nests v) ∙ ap (goes_on m w' t) q' ∙ y (rest ++ v) (subst (Left m t k) q' (x.left v n))

-- ---- the whole word

module _ (m : ℕ) (v : List Letter) (w : List ℕ) (size : length v ≡ 2 * m) where
  pub answer_stuck : (w' : List ℕ) → Read v m w first_state 0 None w' → Answered (nested_word v) (2 * m) false w'
  unfolding nested_word parts_of stack Read
  answer_stuck w' f =
      let e : nested true 1 0 [] [] v ≡ false = ap (nested true 1 0 [] []) (sym (append-nil v)) ∙ f [] (left_start m v size) in
      record { word_found = λ h. absurd (false≢true h); none_found = λ h. rw e }

  -- all letters are read
  module _ (clear : region 0 (2 * m) w ≡ replicate (2 * m) 0) (t : State) (k i : ℕ) (w' : List ℕ) (y : Moved v (drop i v) m w first_state 0 t k w')
      (end : 2 * m ≤ i) where
    all_read : Moved v [] m w first_state 0 t k w'
    all_read = moved_end v m w first_state 0 (drop i v) t k w' (drop_of_length-le v {i = i} (omega arith)) y

    -- no more than m edges have begun, and each letter began or ended one
    nothing_open : (t.depth ≡ 0) × (t.opens ≡ 0)
    nothing_open =
        let n : 2 * k + 0 ≡ 2 * m + (t.depth + t.opens) = all_read.left [] (left_start m v size) in
        let f = all_read.fits.edges in
        (omega arith, omega arith)

    whole : nested true 1 0 [] [] v ≡ true
    unfolding nested parts_of stack
    whole = ap (nested true 1 0 [] []) (sym (append-nil v)) ∙ sym (all_read.nests []) ∙ rw (nothing_open.0, nothing_open.1)

    pub answer_end : Answered (nested_word v) (2 * m) true (set w' t.place 0)
    unfolding nested_word
    answer_end = record {
      word_found = λ h. (v, rw whole, whole_moved m v w size clear t k w' all_read whole);
      none_found = λ h. absurd (true≢false h);
    }

-- ---- the payload

module _ (m : ℕ) (ps : List ℕ) where
  pub answer_unclean : (n : ℕ) (w : List ℕ) → letters_clean m ps ≡ false → Answered (decode_letters m ps) n false w
  unfolding decode_letters
  answer_unclean n w e = record { word_found = λ f. absurd (false≢true f); none_found = λ f. rw e }

  pub answer_clean : (n : ℕ) (b : Bool) (w : List ℕ) → letters_clean m ps ≡ true → Answered (nested_word (payload_letters m ps)) n b w
      → Answered (decode_letters m ps) n b w
  unfolding decode_letters
  answer_clean n b w e a = rw e a
