-- The word of a bracketed plan is nested: a second stands at a vertex that was entered before that of its first.
--
--   number_rises, number_grows   vertices that are entered later have higher numbers
--   word_nested           the word is nested, if no edge is a loop
--   word_nested_loops     it is where loops are taken
use Prim.Native.Nat.{ℕ, ◌≤◌, ◌<◌}
use native.Mathlib.Nat.{le_of_lt}
use native.Mathlib.Omega.{arith}
use mathlib.Core.Path.{◌≡◌, refl, sym, ap, subst}
use mathlib.Core.Bool.{Bool, true, false}
use mathlib.Core.List.{List, [], ◌∷◌}
use borrow.Author.Tests.{lt-ltb, le-leb}
use Rattle.model.specs.Map.{Plan, darts, dart_count_fits}
use Rattle.model.specs.Traversal.{Letter, second, opens, word}
use Rattle.orbits.specs.Stack.{top}
use Rattle.orbits.proofs.Tally.{count_grows, count_below}
use Rattle.words.specs.Word.{closes, nested}
use Rattle.words.specs.Toured.{letter_of, mate_of, is_chord, Toured, Bracketed}
use Rattle.words.specs.Brackets.{letter, tree_stack}
use Rattle.words.specs.Entered.{is_down, entered_at}
use Rattle.words.specs.Position.{vertex_count, vertex_top, vertex_no, Balance, Closes}
use Rattle.words.proofs.Positions.{word_length}
use Rattle.words.proofs.OpenEdges.{chord_whole, part_top, tour_balance}
use Rattle.words.proofs.Mates.{stack_down}
use Rattle.words.proofs.Nesting.{nests}

module _ (p : Plan) (t : Toured p) (b : Bracketed p) (fits : dart_count_fits (darts p) ≡ true) where
  -- ---- the numbers of the vertices

  abbrev ℓ : ℕ → Letter
  ℓ = letter_of p

  module _ (i j : ℕ) (hi : i ≤ darts p) where
    number_rises : entered_at p i < entered_at p j → vertex_no ℓ i < vertex_no ℓ j
    unfolding entered_at vertex_no vertex_count
    number_rises = go (tree_stack ℓ i) (tree_stack ℓ j) refl
      where
        go : (s u : List ℕ) → tree_stack ℓ i ≡ s → top s < top u → vertex_top ℓ s < vertex_top ℓ u
        go s [] e l = absurd (omega arith)
        go [] (c ∷ u) e l = omega arith
        go (a ∷ s) (c ∷ u) e l =
            omega (arith, count_below (λ k. is_down (ℓ k)) a c (omega arith) (ap is_down (stack_down ℓ (darts p) (tour_balance p t fits b) i hi a s e).1))

    number_grows : entered_at p i ≤ entered_at p j → vertex_no ℓ i ≤ vertex_no ℓ j
    unfolding entered_at vertex_no vertex_count
    number_grows = go (tree_stack ℓ i) (tree_stack ℓ j)
      where
        go : (s u : List ℕ) → top s ≤ top u → vertex_top ℓ s ≤ vertex_top ℓ u
        go [] u l = omega arith
        go (a ∷ s) [] l = absurd (omega arith)
        go (a ∷ s) (c ∷ u) l = omega (arith, count_grows (λ k. is_down (ℓ k)) a c (omega arith))

  -- ---- where edges outside the tree end

  module _ (loops : Bool) (low : (i : ℕ) → i < darts p → letter_of p i ≡ second → closes loops (vertex_no ℓ i) (vertex_no ℓ (mate_of p i)) ≡ true) where
    word_ends : Closes loops (letter_of p) (darts p)
    word_ends i h e a s f =
        let mate = part_top is_chord chord_whole p t fits b.chords i h (ap is_chord e) (ap opens e) in
        let same : mate_of p i ≡ a = cc in
        subst (λ (k : ℕ). closes loops (vertex_no ℓ i) (vertex_no ℓ k) ≡ true) same (low i h e)

    word_nests : nested loops 1 0 [] [] (word p) ≡ true
    unfolding letter_of
    word_nests = nests loops (word p)
        (subst (Balance (letter (word p))) (sym (word_length p t)) (tour_balance p t fits b)) (subst (Closes loops (letter (word p))) (sym (word_length p t)) word_ends)

  pub word_nested : ((j : ℕ) → j < darts p → letter_of p j ≡ second → entered_at p j < entered_at p (mate_of p j)) → nested false 1 0 [] [] (word p) ≡ true
  word_nested descends = word_nests false (λ i h e. lt-ltb _ _ (number_rises i (mate_of p i) (le_of_lt h) (descends i h e)))

  pub word_nested_loops : ((j : ℕ) → j < darts p → letter_of p j ≡ second → entered_at p j ≤ entered_at p (mate_of p j))
      → nested true 1 0 [] [] (word p) ≡ true
  word_nested_loops descends = word_nests true (λ i h e. le-leb _ _ (number_grows i (mate_of p i) (le_of_lt h) (descends i h e)))
