-- The labels of a word, written forward: each is known where its edge ends, and stands at the number of edges opened before that edge.
--
--   opened_half        half of the positions open an edge
--   opened_bound       how many edges are opened before a position that opens one: below the number of edges
--   place_bound, place_inj   the places of the labels are below the number of edges, one for each edge
--   Placed p L         in L the label of each edge stands at its place, as it is read where the edge ends
--   labels_by_place    then L has the word's labels
--   Written p n L      in L stand the labels of the edges that end before n
--   written_none, written_opens, written_ends   none; past a position that opens an edge, past one that ends an edge
--   written_placed     in the end all stand there
use Prim.Native.Nat.{ℕ, suc, ◌/◌, ◌<◌}
use native.Mathlib.Nat.{not-suc-le-zero}
use native.Mathlib.Omega.{arith}
use mathlib.Core.Path.{◌≡◌, refl, sym, ap, ap₂, subst, ◌∙◌}
use mathlib.Core.Bool.{Bool, true, false, not, cond, true≢false, false≢true}
use mathlib.Core.List.{List, ◌∷◌}
use lib.ListN.{length, get_or, set, drop, length-set, drop_of_length-le}
use lib.Seq.{drop-cons, get_or-set_same, get_or-set_other}
use Rattle.model.specs.Numbers.{count}
use Rattle.model.specs.Map.{Plan, darts, degree_one, dart_count_fits}
use Rattle.model.specs.Traversal.{Letter, down, up, first, second, opens, word}
use Rattle.model.specs.LabelledTree.{star}
use Rattle.orbits.proofs.Order.{lt_suc_split, from_end}
use Rattle.words.specs.Word.{Ends, ends, ends_one, starts_second, word_labels}
use Rattle.words.specs.Toured.{Toured, Bracketed, dart_at, letter_of, mate_of, is_tree, is_chord}
use Rattle.words.specs.Position.{opened}
use Rattle.words.proofs.Positions.{mate_bound, mate_dart, mate_back, mate_letter, mate_opens, word_end}
use Rattle.words.proofs.Opened.{opened_rises, opened_inj}
use Rattle.words.proofs.Numbered.{numbered_half}
use Rattle.labelling.proofs.Lit.{starts_at}
use Rattle.labelling.proofs.Flags.{ends_from, ends_at, waits_head}
use Rattle.labelling.proofs.Bare.{bare_down}
use Rattle.standard.proofs.Numbering.{rank_opens, rank_stays, numbered}
use Rattle.forward.specs.Labels.{Written, label_by, label_at}

-- ---- one letter

-- a letter that ends an edge gives no label
no_label : (l : Letter) (w : List Letter) (r : Ends) → opens l ≡ false → (ends_one l w r).labels ≡ r.labels
unfolding ends_one
no_label down w r o = absurd (true≢false o)
no_label up w r o = refl
no_label first w r o = absurd (true≢false o)
no_label second w r o = refl

-- ---- the places

module _ (p : Plan) (t : Toured p) (fits : dart_count_fits (darts p) ≡ true) where
  abbrev ℓ : ℕ → Letter
  ℓ = letter_of p

  pub opened_half : opened ℓ (darts p) ≡ darts p / 2
  opened_half = let h = numbered_half ℓ (darts p) (mate_of p) _ (numbered p t fits) in omega arith

  pub opened_bound : (i : ℕ) → i < darts p → opens (ℓ i) ≡ true → opened ℓ i < darts p / 2
  opened_bound i h o = subst (λ (n : ℕ). opened ℓ i < n) opened_half (opened_rises ℓ i (darts p) h o)

  begins : (j : ℕ) → j < darts p → opens (ℓ j) ≡ false → opens (ℓ (mate_of p j)) ≡ true
  begins j h o = mate_opens p t j h ∙ ap not o

  pub place_bound : (j : ℕ) → j < darts p → opens (ℓ j) ≡ false → opened ℓ (mate_of p j) < darts p / 2
  place_bound j h o = opened_bound (mate_of p j) (mate_bound p t fits j h) (begins j h o)

  pub place_inj : (i j : ℕ) → i < darts p → j < darts p → opens (ℓ i) ≡ false → opens (ℓ j) ≡ false
      → opened ℓ (mate_of p i) ≡ opened ℓ (mate_of p j) → i ≡ j
  place_inj i j hi hj u v e =
      sym (mate_back p t fits i hi) ∙ ap (mate_of p) (opened_inj ℓ (mate_of p i) (mate_of p j) (begins i hi u) (begins j hj v) e)
      ∙ mate_back p t fits j hj

-- ---- the labels

pub record Placed (p : Plan) (L : List ℕ) : Type 0 where
  pub size : length L ≡ darts p / 2
  pub ups : (j : ℕ) → j < darts p → letter_of p j ≡ up → get_or L (opened (letter_of p) (mate_of p j)) 0
      ≡ cond (degree_one p.rotation (dart_at p j)) star (starts_second (drop (suc j) (word p)))
  pub seconds : (j : ℕ) → j < darts p → letter_of p j ≡ second → get_or L (opened (letter_of p) (mate_of p j)) 0
      ≡ starts_second (drop (suc j) (word p))

module _ (p : Plan) (t : Toured p) (b : Bracketed p) (fits : dart_count_fits (darts p) ≡ true) where
  abbrev rest : ℕ → List Letter
  rest i = drop (suc i) (word p)

  -- the label of the edge that i opens, read where it ends
  label_at_lem : (i : ℕ) → i < darts p → (l : Letter) → letter_of p i ≡ l → opens l ≡ true → (L : List ℕ) → Placed p L
      → (ends_one l (rest i) (ends_from p (suc i))).labels ≡ get_or L (opened (letter_of p) i) 0 ∷ (ends_from p (suc i)).labels
  unfolding ends_one starts_at
  label_at_lem i h down e o L placed =
      let m = mate_of p i in
      let hm = mate_bound p t fits i h in
      let back = ap (λ (k : ℕ). get_or L (opened (letter_of p) k) 0) (mate_back p t fits i h) in
      ap₂ (λ (c : Bool) (x : ℕ). cond c star x ∷ (ends_from p (suc i)).labels)
      (sym (bare_down p t b fits i h e) ∙ ap (degree_one p.rotation) (sym (mate_dart p t fits i h)))
      (waits_head p t b fits true i h (ap is_tree e) (ap opens e))
      ∙ ap (λ (x : ℕ). x ∷ (ends_from p (suc i)).labels) (sym (placed.ups m hm (mate_letter p t i h down e)) ∙ back)
  label_at_lem i h up e o L placed = absurd (false≢true o)
  label_at_lem i h first e o L placed =
      let m = mate_of p i in
      let hm = mate_bound p t fits i h in
      let back = ap (λ (k : ℕ). get_or L (opened (letter_of p) k) 0) (mate_back p t fits i h) in
      ap (λ (x : ℕ). x ∷ (ends_from p (suc i)).labels)
      (waits_head p t b fits false i h (ap is_chord e) (ap opens e) ∙ sym (placed.seconds m hm (mate_letter p t i h first e)) ∙ back)
  label_at_lem i h second e o L placed = absurd (false≢true o)

  module _ (L : List ℕ) (placed : Placed p L) where
    Left : ℕ → Type 0
    Left i = (ends_from p i).labels ≡ drop (opened (letter_of p) i) L

    left_step : (i : ℕ) → i < darts p → Left (suc i) → Left i
    unfolding Left
    left_step i h ih = ap (λ (r : Ends). r.labels) (ends_at p t i h) ∙ go (opens (letter_of p i)) refl
      where
        go : (c : Bool) → opens (letter_of p i) ≡ c
            → (ends_one (letter_of p i) (rest i) (ends_from p (suc i))).labels ≡ drop (opened (letter_of p) i) L
        go true o =
            label_at_lem i h (letter_of p i) refl o L placed
            ∙ ap (λ (xs : List ℕ). get_or L (opened (letter_of p) i) 0 ∷ xs) (ih ∙ ap (λ (k : ℕ). drop k L) (rank_opens p i o))
            ∙ sym (drop-cons L (opened (letter_of p) i) 0 (omega (arith, opened_bound p t fits i h o, placed.size)))
        go false o = no_label (letter_of p i) (rest i) (ends_from p (suc i)) o ∙ ih ∙ ap (λ (k : ℕ). drop k L) (rank_stays p i o)

    pub labels_by_place : L ≡ word_labels (word p)
    unfolding Left word_labels ends opened count
    labels_by_place = sym (from_end Left (darts p)
        (ap (λ (w : List Letter). (ends w).labels) (word_end p t)
        ∙ sym (drop_of_length-le L {i = opened (letter_of p) (darts p)} (omega (arith, opened_half p t fits, placed.size)))) left_step 0 (omega arith))

-- ---- written one after another

pub written_none : (p : Plan) (L : List ℕ) → length L ≡ darts p / 2 → Written p 0 L
written_none p L e = record { size = e; ended = λ j h. absurd (not-suc-le-zero h) }

pub written_opens : (p : Plan) (n : ℕ) (L : List ℕ) → opens (letter_of p n) ≡ true → Written p n L → Written p (suc n) L
written_opens p n L o w = record {
  size = w.size;
  ended = λ j h. lt_suc_split h (λ q u. absurd (true≢false (sym o ∙ ap (λ (i : ℕ). opens (letter_of p i)) (sym q) ∙ u))) (w.ended j);
}

pub written_placed : (p : Plan) (L : List ℕ) → Written p (darts p) L → Placed p L
unfolding label_at label_by
written_placed p L w = record {
  size = w.size;
  ups = λ j h e. w.ended j h (ap opens e) ∙ ap (label_by p j) e;
  seconds = λ j h e. w.ended j h (ap opens e) ∙ ap (label_by p j) e;
}

module _ (p : Plan) (t : Toured p) (fits : dart_count_fits (darts p) ≡ true) where
  pub written_ends : (n : ℕ) (L : List ℕ) → n < darts p → opens (letter_of p n) ≡ false → Written p n L
      → Written p (suc n) (set L (opened (letter_of p) (mate_of p n)) (label_at p n))
  written_ends n L hn o w = record {
    size = length-set L place (label_at p n) ∙ w.size;
    ended = λ j h. lt_suc_split h
        (λ q u. ap (λ (i : ℕ). get_or (set L place (label_at p n)) (opened (letter_of p) (mate_of p i)) 0) q
        ∙ get_or-set_same L place (label_at p n) 0 (omega (arith, w.size, place_bound p t fits n hn o)) ∙ ap (label_at p) (sym q))
        (λ l u.
        get_or-set_other L place (opened (letter_of p) (mate_of p j)) (label_at p n) 0
        (λ q. let same = place_inj p t fits j n (omega arith) hn u o q in omega arith) ∙ w.ended j l u);
  }
    where
      place : ℕ
      place = opened (letter_of p) (mate_of p n)
