-- The traversal position by position, and the two positions of an edge.
--
--   length_word, length_darts   as many letters and darts as visits
--   no_visit, visit_dart, visit_letter   dart and letter of the visit at a position
-- of a plan whose traversal is a tour:
--   word_length        the word has a letter for each dart
--   word_left, word_end   what is left of it at a position, and at the end
--   dart_inj           each dart is met once
--   dart_next          one position on, round the traversal
--   pos_mate           the position of the opposite of a dart
--   mate_letter, mate_opens, mate_tree   the letter of the mate
-- and with an even number of darts:
--   opposite_at        the opposite of the dart at a position is a dart
--   mate_bound, mate_dart   the mate is a position; the opposite dart stands there
--   mate_back, mate_inv   mates are an involution
--   mate_before        what does not open an edge ends it after its mate
--   edge_mate, edge_inj   mates have one edge, and positions of one edge are equal or mates
--   edge_bound         the edge of a position is below the number of edges
use Prim.Native.Nat.{ℕ, suc, ◌/◌, ◌<◌}
use native.Mathlib.Omega.{arith}
use mathlib.Core.Path.{◌≡◌, sym, ap, subst, ◌∙◌}
use mathlib.Core.Logic.{◌⊎◌, inl, inr, ⊎_elim}
use mathlib.Core.Bool.{true, false, not}
use mathlib.Core.List.{[], ◌∷◌}
use lib.ListN.{length, get_or, drop, length-map, drop_of_length-le, get_or-map}
use lib.Seq.{drop-cons}
use Rattle.model.specs.Map.{Plan, darts, edges, opposite, dart_count_fits}
use Rattle.model.specs.Traversal.{Letter, second, Visit, opens, onward, visits, word}
use Rattle.model.proofs.Opposite.{opposite_opposite, opposite_bound, opposite_edge, same_edge, edge_below}
use Rattle.model.proofs.Fitness.{count_even}
use Rattle.orbits.specs.Chord.{Involution}
use Rattle.orbits.specs.Chord as chord
use Rattle.orbits.proofs.Chord.{next_cases}
use Rattle.words.specs.Toured.{darts_met, dart_at, letter_of, pos_of, mate_of, fellow, is_tree, Toured}
use Rattle.words.proofs.Letters.{opens_fellow, tree_fellow, fellow_opens}

-- ---- visits

pub length_word : (p : Plan) → length (word p) ≡ length (visits p)
unfolding word
length_word p = length-map (visits p) (λ v. v.letter)

pub length_darts : (p : Plan) → length (darts_met p) ≡ length (visits p)
unfolding darts_met
length_darts p = length-map (visits p) (λ v. v.dart)

abbrev pub no_visit : Visit
no_visit = record { dart = 0; letter = second }

pub visit_dart : (p : Plan) (i : ℕ) → (get_or (visits p) i no_visit).dart ≡ dart_at p i
unfolding dart_at darts_met
visit_dart p i = sym (get_or-map (λ (v : Visit). v.dart) (visits p) i no_visit)

pub visit_letter : (p : Plan) (i : ℕ) → (get_or (visits p) i no_visit).letter ≡ letter_of p i
unfolding letter_of word
visit_letter p i = sym (get_or-map (λ (v : Visit). v.letter) (visits p) i no_visit)

-- ---- positions of a tour

module _ (p : Plan) (t : Toured p) where
  pub word_length : length (word p) ≡ darts p
  word_length = length_word p ∙ t.all_met

  pub word_left : (i : ℕ) → i < darts p → drop i (word p) ≡ letter_of p i ∷ drop (suc i) (word p)
  unfolding letter_of
  word_left i h = drop-cons (word p) i second (omega (arith, word_length))

  pub word_end : drop (darts p) (word p) ≡ []
  word_end = drop_of_length-le (word p) {i = darts p} (omega (arith, word_length))

  pub dart_inj : (i j : ℕ) → i < darts p → j < darts p → dart_at p i ≡ dart_at p j → i ≡ j
  dart_inj i j hi hj e = sym (t.pos_dart i hi) ∙ ap (pos_of p) e ∙ t.pos_dart j hj

  pub dart_next : (i : ℕ) → i < darts p → dart_at p (chord.next (darts p) i) ≡ onward p.rotation (letter_of p i) (dart_at p i)
  dart_next i h = ⊎_elim
      (λ c. ap (dart_at p) c.1 ∙ t.step i c.0)
      (λ c. ap (dart_at p) c.1 ∙ t.starts ∙ sym (t.closes i c.0))
      (next_cases (darts p) i h)

  pub pos_mate : (d : ℕ) → d < darts p → pos_of p (opposite d) ≡ mate_of p (pos_of p d)
  unfolding mate_of
  pos_mate d h = ap (λ (e : ℕ). pos_of p (opposite e)) (sym (t.dart_pos d h))

  pub mate_letter : (i : ℕ) → i < darts p → (l : Letter) → letter_of p i ≡ l → letter_of p (mate_of p i) ≡ fellow l
  mate_letter i h l e = t.fellows i h ∙ ap fellow e

  pub mate_opens : (i : ℕ) → i < darts p → opens (letter_of p (mate_of p i)) ≡ not (opens (letter_of p i))
  mate_opens i h = ap opens (t.fellows i h) ∙ opens_fellow (letter_of p i)

  pub mate_tree : (i : ℕ) → i < darts p → is_tree (letter_of p (mate_of p i)) ≡ is_tree (letter_of p i)
  mate_tree i h = ap is_tree (t.fellows i h) ∙ tree_fellow (letter_of p i)

-- ---- mates

module _ (p : Plan) (t : Toured p) (fits : dart_count_fits (darts p) ≡ true) where
  pub opposite_at : (i : ℕ) → i < darts p → opposite (dart_at p i) < darts p
  opposite_at i h = opposite_bound (darts p) (dart_at p i) (count_even (darts p) fits) (t.dart_bound i h)

  pub mate_bound : (i : ℕ) → i < darts p → mate_of p i < darts p
  unfolding mate_of
  mate_bound i h = t.pos_bound (opposite (dart_at p i)) (opposite_at i h)

  pub mate_dart : (i : ℕ) → i < darts p → dart_at p (mate_of p i) ≡ opposite (dart_at p i)
  unfolding mate_of
  mate_dart i h = t.dart_pos (opposite (dart_at p i)) (opposite_at i h)

  pub mate_back : (i : ℕ) → i < darts p → mate_of p (mate_of p i) ≡ i
  unfolding mate_of
  mate_back i h =
      ap (λ (d : ℕ). pos_of p (opposite d)) (mate_dart i h) ∙ ap (pos_of p) (opposite_opposite (dart_at p i)) ∙ t.pos_dart i h

  pub mate_inv : Involution (darts p) (mate_of p)
  mate_inv = record { bound = mate_bound; back = mate_back }

  pub mate_before : (i : ℕ) → i < darts p → opens (letter_of p i) ≡ false → mate_of p i < i
  mate_before i h e =
      subst (λ (k : ℕ). mate_of p i < k) (mate_back i h)
      (t.opens_first (mate_of p i) (mate_bound i h) (ap opens (t.fellows i h) ∙ fellow_opens (letter_of p i) e))

  -- ---- edges

  pub edge_mate : (i : ℕ) → i < darts p → dart_at p (mate_of p i) / 2 ≡ dart_at p i / 2
  edge_mate i h = ap (λ (d : ℕ). d / 2) (mate_dart i h) ∙ opposite_edge (dart_at p i)

  pub edge_inj : (i j : ℕ) → i < darts p → j < darts p → dart_at p i / 2 ≡ dart_at p j / 2 → (i ≡ j) ⊎ (i ≡ mate_of p j)
  edge_inj i j hi hj e =
      ⊎_elim (λ q. inl (dart_inj p t i j hi hj q))
      (λ q. inr (dart_inj p t i (mate_of p j) hi (mate_bound j hj) (q ∙ sym (mate_dart j hj))))
      (same_edge (dart_at p i) (dart_at p j) e)

  pub edge_bound : (i : ℕ) → i < darts p → dart_at p i / 2 < edges p.rotation
  unfolding edges
  edge_bound i h = edge_below (darts p) (dart_at p i) (count_even (darts p) fits) (t.dart_bound i h)
