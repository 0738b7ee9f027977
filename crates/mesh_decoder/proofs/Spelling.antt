-- What spelling answers. Assumes nothing.
--
--   Spelling              after types are read, in the state s and the work area w, the word of all types in the work area w₀ at first is found
--   spelling_first, spelling_on   at first; after a type is read
--   whole_spelled, climbs_spelled, stuck_spelled, short_spelled   the answers: the whole word is put; climbing does not stop; there is no word; types run out
use Prim.Native.Nat.{ℕ, ◌+◌, ◌*◌, ◌%◌, ◌≤◌}
use native.Mathlib.Nat.{add-zero, sub-zero, not-suc-le-zero}
use native.Mathlib.Omega.{arith}
use mathlib.Core.Path.{◌≡◌, refl, sym, ◌∙◌}
use mathlib.Core.Bool.{true, false, true≢false, false≢true}
use mathlib.Core.List.{List}
use lib.ListN.{length, length-map}
use Rattle.words.specs.Word.{Found, none}
use Rattle.node_types.specs.Machine.{word_of_types}
use Rattle.work.specs.Map.{LETTERS, TYPES}
use Rattle.work.specs.Area.{region, stack}
use Rattle.work.specs.Letters.{to_letter}
use Rattle.work.proofs.Regions.{length_region}
use Rattle.std.specs.Prelude.{Some, None}
use Rattle.node_ends.specs.declared.State.{State}
use Rattle.node_ends.specs.declared.Outcome.TheVariants.{Reads, Climbs, Whole}
use Rattle.node_ends.specs.Steps.{type_count, frames, letters_to, view_of, view_at, reading, left, Standing, Stands, Turned}
use Rattle.mesh_decoder.specs.Spelled.{Spelled}
use Rattle.node_ends.proofs.Views.{types_out}
use Rattle.node_ends.proofs.Standings.{counted}
use Rattle.mesh_decoder.proofs.Founds.{reads_none}
use Rattle.mesh_decoder.proofs.Standings.{first_stands}

-- the word of all types
abbrev pub word_at : ℕ → List ℕ → Found
word_at m w = word_of_types (region (TYPES * (2 * m)) (type_count m) w)

pub record Spelling (m : ℕ) (w₀ w : List ℕ) (s : State) : Type 0 where
  pub standing : Standing m 1 w s
  pub same_word : left m w (Some (Reads s)) ≡ word_at m w₀
  pub same_length : length w ≡ length w₀

first_word : (m : ℕ) (w : List ℕ) → left m w (Some (Reads (counted 0 0 0 0))) ≡ word_at m w
unfolding left reading view_of letters_to region stack frames word_of_types
first_word m w = rw (add-zero, sub-zero)

pub spelling_first : (m : ℕ) (w : List ℕ) → 3 ≤ m → m ≤ 4096 → m % 3 ≡ 0 → 32 * m ≤ length w → Spelling m w w (counted 0 0 0 0)
spelling_first m w a b c r = record { standing = first_stands m w a b c r; same_word = first_word m w; same_length = refl }

-- ---- the answers

not_spelled : (f : Found) (n : ℕ) (w w' : List ℕ) → f ≡ none → length w' ≡ length w → Spelled f n false w w'
not_spelled f n w w' e l = record { word_found = λ t. absurd (false≢true t); none_found = λ t. e; kept = l }

letters_long : (m : ℕ) (w : List ℕ) → 32 * m ≤ length w → length (letters_to m (2 * m) w) ≡ 2 * m
unfolding letters_to
letters_long m w r = length-map (region (LETTERS * (2 * m)) (2 * m) w) to_letter ∙ length_region (LETTERS * (2 * m)) (2 * m) w (omega arith)

module _ (m : ℕ) (w₀ w : List ℕ) (s : State) (i : Spelling m w₀ w s) where
  pub short_spelled : type_count m ≤ s.read → Spelled (word_at m w₀) (2 * m) false w₀ w
  unfolding left
  short_spelled h =
      let t = types_out m w s.read s.put s.depth i.standing.room h in
      not_spelled _ _ _ _ (sym i.same_word ∙ reads_none (view_at m w s) s.height t) i.same_length

  module _ (w' : List ℕ) where
    pub spelling_on : (t : State) → Turned m (s.read + 1) 0 (left m w (Some (Reads s))) (Some (Reads t)) w w' → Spelling m w₀ w' t × (t.read ≡ s.read + 1)
    unfolding Stands
    spelling_on t a =
        let g = a.stands in
        (record { standing = g.0; same_word = a.finds ∙ i.same_word; same_length = a.kept ∙ i.same_length }, g.1)

    pub whole_spelled : Turned m (s.read + 1) 0 (left m w (Some (Reads s))) (Some Whole) w w' → Spelled (word_at m w₀) (2 * m) true w₀ w'
    unfolding left Stands
    whole_spelled a =
        let k = a.kept in let r = i.standing.room in
        record {
          word_found = λ t. (letters_to m (2 * m) w', sym (a.finds ∙ i.same_word), letters_long m w' (omega arith), a.stands);
          none_found = λ t. absurd (true≢false t);
          kept = a.kept ∙ i.same_length;
        }

    pub climbs_spelled : (t : State) → Turned m (s.read + 1) 0 (left m w (Some (Reads s))) (Some (Climbs t)) w w' → Spelled (word_at m w₀) (2 * m) false w₀ w'
    unfolding Stands
    climbs_spelled t a = absurd (not-suc-le-zero a.stands.2)

    pub stuck_spelled : Turned m (s.read + 1) 0 (left m w (Some (Reads s))) None w w' → Spelled (word_at m w₀) (2 * m) false w₀ w'
    unfolding left
    stuck_spelled a = not_spelled _ _ _ _ (sym (a.finds ∙ i.same_word)) (a.kept ∙ i.same_length)
