-- The word determines the standard plan: the rotation that is built from it enters, at the standard numbers, what the standard plan has.
--
--   standard_rotation_lem   the rotation that the word builds is the standard plan's
use Prim.Native.Nat.{ℕ, ◌+◌, ◌*◌, ◌<◌}
use native.Mathlib.Omega.{arith}
use mathlib.Core.Path.{◌≡◌, refl, sym, ap, subst, ◌∙◌}
use mathlib.Core.Bool.{true}
use mathlib.Core.List.{List, map}
use lib.ListN.{length, get_or}
use lib.Seq.{ext_get_or}
use Rattle.model.specs.Map.{Plan, darts, next, dart_count_fits}
use Rattle.model.specs.Traversal.{Letter, down, up, first, second, opens, word, standard_numbers, standard_plan}
use Rattle.orbits.specs.Chord as chord
use Rattle.orbits.specs.Stack.{matched}
use Rattle.orbits.proofs.Chord.{next_bound}
use Rattle.words.specs.Word.{head, rotation_of}
use Rattle.words.specs.Toured.{dart_at, letter_of, pos_of, is_tree, is_chord, matching, Toured, Bracketed}
use Rattle.words.specs.Brackets.{letter, tree_word}
use Rattle.words.specs.Position.{dart_by, dart_no, Balance}
use Rattle.words.proofs.Letters.{tree_fellow}
use Rattle.words.proofs.Positions.{dart_next, word_length}
use Rattle.words.proofs.OpenEdges.{chord_whole, matching_inv, part_top, part_matched, tour_balance, onward_matching}
use Rattle.words.proofs.Plans.{rotation_length}
use Rattle.words.proofs.Rotation.{turn}
use Rattle.standard.proofs.Numbering.{rank, opened_number, ended_number, numbers_onto}
use Rattle.standard.proofs.Entries.{standard_darts, standard_entry_lem}

module _ (p : Plan) (t : Toured p) (b : Bracketed p) (fits : dart_count_fits (darts p) ≡ true) where
  abbrev number_of : ℕ → ℕ
  number_of d = get_or (standard_numbers p) d 0

  -- the dart that the word gives a position is the standard number of the plan's
  dart_number : (i : ℕ) → i < darts p → dart_no (letter_of p) i ≡ number_of (dart_at p i)
  unfolding dart_no
  dart_number i h = go (letter_of p i) refl
    where
      -- an edge that ends is on top of its stack
      ended : List ℕ → ℕ
      ended s = 2 * head (map (rank p) s) + 1

      go : (l : Letter) → letter_of p i ≡ l → dart_by (letter_of p) i l ≡ number_of (dart_at p i)
      go down e = sym (opened_number p t fits i h (ap opens e))
      go first e = sym (opened_number p t fits i h (ap opens e))
      go up e =
          ap ended (part_top is_tree tree_fellow p t fits b.trees i h (ap is_tree e) (ap opens e)) ∙ sym (ended_number p t fits i h (ap opens e))
      go second e =
          ap ended (part_top is_chord chord_whole p t fits b.chords i h (ap is_chord e) (ap opens e)) ∙ sym (ended_number p t fits i h (ap opens e))

  turned : (k : ℕ) → k < darts p
      → next (rotation_of (word p)) (dart_no (letter_of p) (matched (tree_word (letter_of p)) (darts p) k)) ≡ dart_no (letter_of p) (chord.next (darts p) k)
  unfolding letter_of
  turned k h =
      let size = word_length p t in
      let balance : Balance (letter (word p)) (length (word p)) = subst (Balance (letter (word p))) (sym size) (tour_balance p t fits b) in
      rw size at (turn (word p) balance k (omega arith))

  -- each dart is where the walk goes on from some position
  entry : (d : ℕ) → d < darts p → next (rotation_of (word p)) (number_of d) ≡ number_of (next p.rotation d)
  entry d h =
      let inv = matching_inv is_tree tree_fellow p t fits in
      let i : ℕ = pos_of p d in
      let hi = t.pos_bound d h in
      let k : ℕ = matching is_tree p i in
      let hk = inv.bound i hi in
      let here : dart_at p (matching is_tree p k) ≡ d = ap (dart_at p) (inv.back i hi) ∙ t.dart_pos d h in
      let at : matched (tree_word (letter_of p)) (darts p) k ≡ i = part_matched is_tree tree_fellow p t fits b.trees k hk ∙ inv.back i hi in
      ap (next (rotation_of (word p))) (sym (ap (dart_no (letter_of p)) at ∙ dart_number i hi ∙ ap number_of (t.dart_pos d h)))
      ∙ turned k hk ∙ dart_number (chord.next (darts p) k) (next_bound (darts p) k hk)
      ∙ ap number_of (dart_next p t k hk ∙ onward_matching p t fits k hk ∙ ap (next p.rotation) here)

  pub standard_rotation_lem : (standard_plan p).rotation ≡ rotation_of (word p)
  unfolding next
  standard_rotation_lem =
      let same = standard_darts p ∙ sym (rotation_length (word p) ∙ word_length p t) in
      ext_get_or 0 (standard_plan p).rotation (rotation_of (word p)) same (λ y h.
      let (d, hd, e) = numbers_onto p t fits y (omega (arith, standard_darts p)) in
      subst (λ (x : ℕ). get_or (standard_plan p).rotation x 0 ≡ get_or (rotation_of (word p)) x 0) e (standard_entry_lem p t fits d hd ∙ sym (entry d hd)))
