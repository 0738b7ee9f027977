-- The two ends of each edge along a balanced word ℓ of N letters.
--
--   τ, χ            position i's fellow in the brackets of the tree edges, and in those of the others; elsewhere i itself
--   mate            position i's fellow
--   τ-inv, χ-inv, mate_inv   they are involutions
--   χ-nested        what lies between the two ends of an edge outside the tree is matched there
--   fellows, whole  the fellow's letter, and that both are of one sort
--   later, earlier  the fellow of an opening letter comes later, that of a closing one earlier
--   τ-tree, τ-chord, χ-chord   which of τ and χ moves a position
--   vertex_turn     the traversal stands after i where it stands at τ i
--   stack_down      the position on top of the stack of tree edges
--   vertex_new      down enters a new vertex
--   vertex_closes   an edge outside the tree ends where it may
--   vertex_entered  the present vertex has been entered
use Prim.Native.Nat.{ℕ, suc, ◌≤◌, ◌<◌}
use native.Mathlib.Omega.{arith}
use mathlib.Core.Path.{◌≡◌, refl, sym, ap, subst, ◌∙◌}
use mathlib.Core.Bool.{Bool, true, false, cond, true≢false, false≢true}
use mathlib.Core.List.{List, [], ◌∷◌}
use Rattle.model.specs.Traversal.{Letter, down, up, first, second, opens}
use Rattle.orbits.specs.Chord.{Involution, Nested}
use Rattle.orbits.specs.Stack.{push, stack, matched}
use Rattle.orbits.proofs.Decode.{decoded_inv, decoded_nested}
use Rattle.orbits.proofs.Tally.{count_below}
use Rattle.orbits.proofs.Match.{match_open, match_close, match_flat, mate_close, mate_open, close_top, stack_turn, stack_below, stack_kind}
use Rattle.words.specs.Word.{closes}
use Rattle.words.specs.Toured.{fellow, is_tree}
use Rattle.words.specs.Entered.{is_down}
use Rattle.words.specs.Brackets.{tree_kind, chord_kind, tree_word, chord_word, tree_stack}
use Rattle.words.specs.Position.{vertex_count, vertex_top, vertex_no, Balance, Closes}
use Rattle.words.proofs.Letters.{tree_fellow}
use Rattle.words.proofs.Bracketing.{is_down_lem, is_up, is_first_lem, is_second_lem, flat_chord}

-- ---- the fellow of a position

module _ (ℓ : ℕ → Letter) (N : ℕ) (b : Balance ℓ N) where
  abbrev pub τ : ℕ → ℕ
  τ = matched (tree_word ℓ) N

  abbrev pub χ : ℕ → ℕ
  χ = matched (chord_word ℓ) N

  unfoldable pub mate : ℕ → ℕ
  mate i = cond (is_tree (ℓ i)) (τ i) (χ i)

  pub τ-inv : Involution N τ
  τ-inv = decoded_inv (tree_word ℓ) N b.trees

  pub χ-inv : Involution N χ
  χ-inv = decoded_inv (chord_word ℓ) N b.chords

  pub χ-nested : Nested χ N
  χ-nested = decoded_nested (chord_word ℓ) N b.chords

  pub τ-tree : (i : ℕ) → is_tree (ℓ i) ≡ true → τ i ≡ mate i
  unfolding mate
  τ-tree i e = sym (ap (λ (c : Bool). cond c (τ i) (χ i)) e)

  pub χ-chord : (i : ℕ) → is_tree (ℓ i) ≡ false → χ i ≡ mate i
  unfolding mate
  χ-chord i e = sym (ap (λ (c : Bool). cond c (τ i) (χ i)) e)

  pub τ-chord : (i : ℕ) → i < N → is_tree (ℓ i) ≡ false → τ i ≡ i
  τ-chord i h e = match_flat (tree_word ℓ) N b.trees i h (flat_chord (ℓ i) e)

  pub fellows : (i : ℕ) → i < N → ℓ (mate i) ≡ fellow (ℓ i)
  unfolding mate
  fellows i h = go (ℓ i) refl
    where
      go : (l : Letter) → ℓ i ≡ l → ℓ (cond (is_tree l) (τ i) (χ i)) ≡ fellow l
      go down e = is_up (ℓ (τ i)) (mate_close (tree_word ℓ) N b.trees i h (ap tree_kind e))
      go up e = is_down_lem (ℓ (τ i)) (mate_open (tree_word ℓ) N b.trees i h (ap tree_kind e))
      go first e = is_second_lem (ℓ (χ i)) (mate_close (chord_word ℓ) N b.chords i h (ap chord_kind e))
      go second e = is_first_lem (ℓ (χ i)) (mate_open (chord_word ℓ) N b.chords i h (ap chord_kind e))

  pub whole : (i : ℕ) → i < N → is_tree (ℓ (mate i)) ≡ is_tree (ℓ i)
  whole i h = ap is_tree (fellows i h) ∙ tree_fellow (ℓ i)

  pub later : (i : ℕ) → i < N → opens (ℓ i) ≡ true → i < mate i
  unfolding mate
  later i h = go (ℓ i) refl
    where
      go : (l : Letter) → ℓ i ≡ l → opens l ≡ true → i < cond (is_tree l) (τ i) (χ i)
      go down e o = match_open (tree_word ℓ) N b.trees i h (ap tree_kind e)
      go up e o = absurd (false≢true o)
      go first e o = match_open (chord_word ℓ) N b.chords i h (ap chord_kind e)
      go second e o = absurd (false≢true o)

  pub earlier : (i : ℕ) → i < N → opens (ℓ i) ≡ false → mate i < i
  unfolding mate
  earlier i h = go (ℓ i) refl
    where
      go : (l : Letter) → ℓ i ≡ l → opens l ≡ false → cond (is_tree l) (τ i) (χ i) < i
      go down e o = absurd (true≢false o)
      go up e o = match_close (tree_word ℓ) N b.trees i h (ap tree_kind e)
      go first e o = absurd (true≢false o)
      go second e o = match_close (chord_word ℓ) N b.chords i h (ap chord_kind e)

  pub mate_inv : Involution N mate
  unfolding mate
  mate_inv = record { bound = λ i h. bound i h (is_tree (ℓ i)); back = λ i h. back i h (is_tree (ℓ i)) refl }
    where
      bound : (i : ℕ) → i < N → (c : Bool) → cond c (τ i) (χ i) < N
      bound i h true = τ-inv.bound i h
      bound i h false = χ-inv.bound i h

      back : (i : ℕ) → i < N → (c : Bool) → is_tree (ℓ i) ≡ c → mate (mate i) ≡ i
      back i h true e =
          sym (τ-tree (mate i) (whole i h ∙ e)) ∙ ap τ (sym (τ-tree i e)) ∙ τ-inv.back i h
      back i h false e =
          sym (χ-chord (mate i) (whole i h ∙ e)) ∙ ap χ (sym (χ-chord i e)) ∙ χ-inv.back i h

  -- ---- where the traversal stands

  pub vertex_turn : (i : ℕ) → i < N → vertex_no ℓ (suc i) ≡ vertex_no ℓ (τ i)
  unfolding vertex_no
  vertex_turn i h = ap (vertex_top ℓ) (stack_turn (tree_word ℓ) N b.trees i h)

  pub vertex_new : (i : ℕ) → i < N → ℓ i ≡ down → vertex_no ℓ (mate i) ≡ vertex_count ℓ i
  unfolding vertex_no stack
  vertex_new i h e =
      ap (vertex_no ℓ) (sym (τ-tree i (ap is_tree e))) ∙ sym (vertex_turn i h)
      ∙ ap (λ (l : Letter). vertex_top ℓ (push (tree_kind l) i (tree_stack ℓ i))) e

  pub vertex_closes : (loops : Bool) → Closes loops ℓ N → (i : ℕ) → i < N → ℓ i ≡ second → closes loops (vertex_no ℓ i) (vertex_no ℓ (mate i)) ≡ true
  vertex_closes loops low i h e =
      subst (λ (k : ℕ). closes loops (vertex_no ℓ i) (vertex_no ℓ k) ≡ true) (χ-chord i (ap is_tree e))
      (low i h e (χ i) _ (close_top (chord_word ℓ) N b.chords i h (ap chord_kind e)))

  pub stack_down : (i : ℕ) → i ≤ N → (a : ℕ) (s : List ℕ) → tree_stack ℓ i ≡ a ∷ s → (a < i) × (ℓ a ≡ down)
  stack_down i h a s e = (stack_below (tree_word ℓ) N b.trees i h a s e, is_down_lem (ℓ a) (stack_kind (tree_word ℓ) N b.trees i h a s e))

  pub vertex_entered : (i : ℕ) → i ≤ N → vertex_no ℓ i < vertex_count ℓ i
  unfolding vertex_no vertex_count
  vertex_entered i h = go (tree_stack ℓ i) refl
    where
      go : (s : List ℕ) → tree_stack ℓ i ≡ s → vertex_top ℓ s < vertex_count ℓ i
      go [] e = omega arith
      go (a ∷ s) e =
          let (l, d) = stack_down i h a s e in
          let c = count_below (λ j. is_down (ℓ j)) a i l (ap is_down d) in
          omega arith
