-- The labelled tree gives the labels and the tree bits that are read off the contour word. Of the plan p: its traversal is as in `Toured`, its edges
-- match as in `Bracketed`, its dart count fits and its rotation is a permutation.
--
--   labels_read, bits_read     if the letter right before a second is always up or second
--   tree_labels_lem, tree_bits_lem     if the plan has no loop
use Prim.Native.Nat.{ℕ, suc, ◌<◌}
use native.Mathlib.Omega.{arith}
use mathlib.Core.Path.{◌≡◌, refl, sym, ap, ap₂, ◌∙◌}
use mathlib.Core.Logic.{◌⊎◌}
use mathlib.Core.Bool.{Bool, true, false, cond}
use mathlib.Core.List.{List, [], ◌∷◌, ◌++◌}
use lib.ListN.{length, drop}
use lib.Seq.{drop-cons, drop-length}
use Rattle.model.specs.Numbers.{is_permutation}
use Rattle.model.specs.Map.{Plan, darts, has_loop, dart_count_fits}
use Rattle.model.specs.Traversal.{Letter, down, up, first, second, opens, visits, word}
use Rattle.model.specs.LabelledTree.{star, tree_labels, label_of, bits_of, along, labels, tree_bits}
use Rattle.orbits.proofs.Order.{from_end}
use Rattle.words.specs.Word.{Ends, ends, ends_one, word_labels, word_bits}
use Rattle.words.specs.Toured.{Toured, Bracketed, dart_at, letter_of, is_tree}
use Rattle.words.specs.Entered.{is_down}
use Rattle.words.proofs.Positions.{no_visit, visit_dart, visit_letter, word_left, word_end}
use Rattle.labelling.proofs.Lit.{starts_at}
use Rattle.labelling.proofs.Taking.{label_ends, label_opens}
use Rattle.labelling.proofs.Flags.{of_sort, ends_from, ends_at, waits_head}
use Rattle.labelling.proofs.Bare.{after_down, bare_down, bare_up}
use Rattle.labelling.proofs.Seconds.{after_up_only}

module _ (p : Plan) (toured : Toured p) (bracketed : Bracketed p) (fits : dart_count_fits (darts p) ≡ true)
    (perm : is_permutation p.rotation ≡ true) where
  -- ---- position by position

  along_at : (f : Letter → ℕ → List ℕ) (i : ℕ) → i < darts p
      → along f (drop i (visits p)) ≡ f (letter_of p i) (dart_at p i) ++ along f (drop (suc i) (visits p))
  unfolding along
  along_at f i h =
      let len = toured.all_met in
      ap (along f) (drop-cons (visits p) i no_visit (omega arith))
      ∙ ap₂ (λ (l : Letter) (d : ℕ). f l d ++ along f (drop (suc i) (visits p))) (visit_letter p i) (visit_dart p i)

  along_end : (f : Letter → ℕ → List ℕ) (i : ℕ) → i ≡ darts p → along f (drop i (visits p)) ≡ []
  unfolding along
  along_end f i e = let len = toured.all_met in let q : i ≡ length (visits p) = omega arith in rw (q, drop-length)

  -- what f gives along the traversal, read from the end
  along_read : (f : Letter → ℕ → List ℕ) (g : ℕ → List ℕ) → g (darts p) ≡ []
      → ((i : ℕ) → i < darts p → f (letter_of p i) (dart_at p i) ++ g (suc i) ≡ g i) → along f (visits p) ≡ g 0
  along_read f g end step =
      from_end (λ i. along f (drop i (visits p)) ≡ g i) (darts p) (along_end f (darts p) refl ∙ sym end)
      (λ i h r. along_at f i h ∙ ap (λ (xs : List ℕ). f (letter_of p i) (dart_at p i) ++ xs) r ∙ step i h) 0 (omega arith)

  module _ (after : (j : ℕ) → suc j < darts p → letter_of p (suc j) ≡ second → (letter_of p j ≡ up) ⊎ (letter_of p j ≡ second)) where
    -- ---- the labels

    label_one_lem : (i : ℕ) → i < darts p → (l : Letter) → letter_of p i ≡ l
        → label_of p.rotation (tree_labels p) l (dart_at p i) ++ (ends_from p (suc i)).labels
        ≡ (ends_one l (drop (suc i) (word p)) (ends_from p (suc i))).labels
    unfolding label_of ends_one
    label_one_lem i h down e =
        ap₂ (λ (b : Bool) (x : ℕ). cond b star x ∷ (ends_from p (suc i)).labels) (bare_down p toured bracketed fits i h e)
        (label_opens p toured fits perm bracketed after i h (ap opens e)
        ∙ sym (waits_head p toured bracketed fits true i h (ap is_tree e) (ap opens e)))
    label_one_lem i h up e = refl
    label_one_lem i h first e =
        ap (λ (x : ℕ). x ∷ (ends_from p (suc i)).labels)
        (label_opens p toured fits perm bracketed after i h (ap opens e)
        ∙ sym (waits_head p toured bracketed fits false i h (ap (of_sort false) e) (ap opens e)))
    label_one_lem i h second e = refl

    pub labels_read : labels p ≡ word_labels (word p)
    unfolding labels word_labels ends
    labels_read = along_read (label_of p.rotation (tree_labels p)) (λ i. (ends_from p i).labels)
        (ap (λ (w : List Letter). (ends w).labels) (word_end p toured))
        (λ i h. label_one_lem i h (letter_of p i) refl ∙ sym (ap (λ (r : Ends). r.labels) (ends_at p toured i h)))

    -- ---- the tree bits

    bits_one : (i : ℕ) → i < darts p → (l : Letter) → letter_of p i ≡ l
        → bits_of p.rotation (tree_labels p) l (dart_at p i) ++ word_bits (is_down l) (drop (suc i) (word p))
        ≡ word_bits (after_down p i) (l ∷ drop (suc i) (word p))
    unfolding bits_of word_bits starts_at
    bits_one i h down e = refl
    bits_one i h up e =
        ap₂ (λ (b : Bool) (x : ℕ). cond b x 0 ∷ word_bits false (drop (suc i) (word p))) (bare_up p toured bracketed fits i h e)
        (label_ends p toured fits perm bracketed after i h (ap opens e))
    bits_one i h first e = refl
    bits_one i h second e = refl

    pub bits_read : tree_bits p ≡ word_bits false (word p)
    unfolding tree_bits word_bits after_down
    bits_read = along_read (bits_of p.rotation (tree_labels p)) (λ i. word_bits (after_down p i) (drop i (word p)))
        (ap (word_bits (after_down p (darts p))) (word_end p toured))
        (λ i h. bits_one i h (letter_of p i) refl ∙ sym (ap (word_bits (after_down p i)) (word_left p toured i h)))

  -- ---- plans without loops

  module _ (no_loop : has_loop p.rotation ≡ false) where
    pub tree_labels_lem : labels p ≡ word_labels (word p)
    tree_labels_lem = labels_read (after_up_only p toured bracketed fits perm no_loop)

    pub tree_bits_lem : tree_bits p ≡ word_bits false (word p)
    tree_bits_lem = bits_read (after_up_only p toured bracketed fits perm no_loop)
