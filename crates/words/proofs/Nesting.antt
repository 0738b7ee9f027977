-- The machine `nested` accepts a word exactly where its brackets match and each edge outside the tree ends where it may.
--
--   balance, nested_closes   the brackets of an accepted word match, and each edge outside the tree ends where it may
--   closes_low      then it ends where it may if loops are taken, too
--   nests           a word is accepted if both hold
--   entered_by      one vertex more is entered by down
use Prim.Native.Nat.{ℕ, zero, suc, ◌≤◌, ◌<◌}
use native.Mathlib.Nat.{le_refl, le_of_lt}
use native.Mathlib.Omega.{arith}
use mathlib.Core.Path.{◌≡◌, refl, sym, ap, subst, ◌∙◌}
use mathlib.Core.Bool.{Bool, true, false, false≢true}
use mathlib.Core.List.{List, [], ◌∷◌, map}
use lib.ListN.{length, drop}
use lib.Seq.{drop-cons, drop-length}
use borrow.Author.Tests.{ltb-true, le-leb}
use Rattle.model.specs.Numbers.{count, tick}
use Rattle.model.specs.Traversal.{Letter, down, up, first, second}
use Rattle.model.proofs.Booleans.{and_left, and_right, both}
use Rattle.orbits.specs.Stack.{push, stack}
use Rattle.orbits.proofs.Order.{from_end}
use Rattle.orbits.proofs.Tally.{tick_suc}
use Rattle.words.specs.Word.{closes, nested}
use Rattle.words.specs.Brackets.{letter, tree_kind, chord_kind, tree_stack, chord_stack}
use Rattle.words.specs.Entered.{is_down}
use Rattle.words.specs.Position.{vertex_count, vertex_top, vertex_no, below_of, Balance, Closes}
use Rattle.words.proofs.Bracketing.{is_up, is_second_lem}

-- the machine accepts `rest` where the stacks are s and t
abbrev Accepts : Bool → (ℕ → Letter) → ℕ → List ℕ → List ℕ → List Letter → Type 0
Accepts loops ℓ n s t rest = nested loops n (vertex_top ℓ s) (below_of ℓ s) (map (vertex_no ℓ) t) rest ≡ true

cons≢nil : {a : ℕ} {s : List ℕ} → a ∷ s ≡ [] → ⊥
cons≢nil e = let z : ◌≡◌ {A = ℕ} 0 1 = cc in omega arith

vertex_top_lem : (ℓ : ℕ → Letter) (i : ℕ) → vertex_no ℓ i ≡ vertex_top ℓ (tree_stack ℓ i)
unfolding vertex_no
vertex_top_lem ℓ i = refl

pub closes_low : (loops : Bool) (ℓ : ℕ → Letter) (N : ℕ) → Closes loops ℓ N → Closes true ℓ N
closes_low true ℓ N low = low
closes_low false ℓ N low = λ i h e a s t. le-leb (vertex_no ℓ i) (vertex_no ℓ a) (le_of_lt (ltb-true (vertex_no ℓ i) (vertex_no ℓ a) (low i h e a s t)))

-- ---- one letter

pub entered_by : (ℓ : ℕ → Letter) (i : ℕ) (l : Letter) → ℓ i ≡ l → vertex_count ℓ (suc i) ≡ tick (is_down l) (vertex_count ℓ i)
unfolding vertex_count count
entered_by ℓ i l e =
    ap (λ (c : Letter). suc (tick (is_down c) (count (λ j. is_down (ℓ j)) i))) e ∙ sym (tick_suc (is_down l) (count (λ j. is_down (ℓ j)) i))

module _ (loops : Bool) (ℓ : ℕ → Letter) where
  accepts_on : (i : ℕ) (l : Letter) (s t : List ℕ) (rest : List Letter) → vertex_no ℓ i ≡ vertex_top ℓ s → Accepts loops ℓ (vertex_count ℓ i) s t (l ∷ rest)
      → Accepts loops ℓ (tick (is_down l) (vertex_count ℓ i)) (push (tree_kind l) i s) (push (chord_kind l) i t) rest
  unfolding nested
  accepts_on i down s t rest e h = h
  accepts_on i up [] t rest e h = absurd (false≢true h)
  accepts_on i up (a ∷ s) t rest e h = h
  accepts_on i first s t rest e h = rw e h
  accepts_on i second s [] rest e h = absurd (false≢true h)
  accepts_on i second s (a ∷ t) rest e h = and_right (closes loops (vertex_top ℓ s) (vertex_no ℓ a)) _ h

  accepts_up : (n : ℕ) (s t : List ℕ) (rest : List Letter) → Accepts loops ℓ n s t (up ∷ rest) → s ≡ [] → ⊥
  unfolding nested
  accepts_up n [] t rest h e = false≢true h
  accepts_up n (a ∷ s) t rest h e = cons≢nil e

  accepts_second : (n : ℕ) (s t : List ℕ) (rest : List Letter) → Accepts loops ℓ n s t (second ∷ rest) → t ≡ [] → ⊥
  unfolding nested
  accepts_second n s [] rest h e = false≢true h
  accepts_second n s (a ∷ t) rest h e = cons≢nil e

  accepts_lower : (n a : ℕ) (s t : List ℕ) (rest : List Letter) → Accepts loops ℓ n s (a ∷ t) (second ∷ rest)
      → closes loops (vertex_top ℓ s) (vertex_no ℓ a) ≡ true
  unfolding nested
  accepts_lower n a s t rest h = and_left (closes loops (vertex_top ℓ s) (vertex_no ℓ a)) _ h

  -- and back
  accepts_from : (i : ℕ) (l : Letter) (s t : List ℕ) (rest : List Letter) → vertex_no ℓ i ≡ vertex_top ℓ s → (l ≡ up → s ≡ [] → ⊥)
      → (l ≡ second → t ≡ [] → ⊥) → ((a : ℕ) (t' : List ℕ) → l ≡ second → t ≡ a ∷ t' → closes loops (vertex_top ℓ s) (vertex_no ℓ a) ≡ true)
      → Accepts loops ℓ (tick (is_down l) (vertex_count ℓ i)) (push (tree_kind l) i s) (push (chord_kind l) i t) rest
      → Accepts loops ℓ (vertex_count ℓ i) s t (l ∷ rest)
  unfolding nested
  accepts_from i down s t rest e u v c h = h
  accepts_from i up [] t rest e u v c h = absurd (u refl refl)
  accepts_from i up (a ∷ s) t rest e u v c h = h
  accepts_from i first s t rest e u v c h = rw e at h
  accepts_from i second s [] rest e u v c h = absurd (v refl refl)
  accepts_from i second s (a ∷ t) rest e u v c h = both (c a t refl refl) h

  accepts_end : (n : ℕ) (s t : List ℕ) → Accepts loops ℓ n s t [] → (s ≡ []) × (t ≡ [])
  unfolding nested
  accepts_end n [] [] h = (refl, refl)
  accepts_end n [] (a ∷ t) h = absurd (false≢true h)
  accepts_end n (a ∷ s) t h = absurd (false≢true h)

-- ---- the whole word

module _ (loops : Bool) (w : List Letter) (good : nested loops 1 0 [] [] w ≡ true) where
  abbrev ℓ : ℕ → Letter
  ℓ = letter w

  accepts : (i : ℕ) → i ≤ length w → Accepts loops ℓ (vertex_count ℓ i) (tree_stack ℓ i) (chord_stack ℓ i) (drop i w)
  unfolding stack vertex_count count
  accepts zero h = good
  accepts (suc i) h =
      subst (λ (n : ℕ). Accepts loops ℓ n (tree_stack ℓ (suc i)) (chord_stack ℓ (suc i)) (drop (suc i) w)) (sym (entered_by ℓ i (ℓ i) refl))
      (accepts_on loops ℓ i (ℓ i) (tree_stack ℓ i) (chord_stack ℓ i) (drop (suc i) w) (vertex_top_lem ℓ i)
      (rw (drop-cons w i second h) at (accepts i (le_of_lt h))))

  at_letter : (i : ℕ) → i < length w → Accepts loops ℓ (vertex_count ℓ i) (tree_stack ℓ i) (chord_stack ℓ i) (ℓ i ∷ drop (suc i) w)
  at_letter i h = rw (drop-cons w i second h) at (accepts i (le_of_lt h))

  at_end : (tree_stack ℓ (length w) ≡ []) × (chord_stack ℓ (length w) ≡ [])
  at_end = accepts_end loops ℓ (vertex_count ℓ (length w)) _ _ (rw drop-length at (accepts (length w) (le_refl (length w))))

  pub nested_closes : Closes loops ℓ (length w)
  unfolding vertex_no
  nested_closes i h e a s t = accepts_lower loops ℓ (vertex_count ℓ i) a (tree_stack ℓ i) s (drop (suc i) w) (rw (t, e) at (at_letter i h))

  pub balance : Balance ℓ (length w)
  unfolding vertex_no
  balance = record {
    trees = record {
      served = λ i h c.
          accepts_up loops ℓ (vertex_count ℓ i) (tree_stack ℓ i) (chord_stack ℓ i) (drop (suc i) w) (rw (is_up (ℓ i) c) at (at_letter i h));
      ended = at_end.0;
    };
    chords = record {
      served = λ i h c.
          accepts_second loops ℓ (vertex_count ℓ i) (tree_stack ℓ i) (chord_stack ℓ i) (drop (suc i) w) (rw (is_second_lem (ℓ i) c) at (at_letter i h));
      ended = at_end.1;
    };
  }

module _ (loops : Bool) (w : List Letter) (b : Balance (letter w) (length w)) (low : Closes loops (letter w) (length w)) where
  abbrev ℓ' : ℕ → Letter
  ℓ' = letter w

  abbrev Nests : ℕ → Type 0
  Nests i = Accepts loops ℓ' (vertex_count ℓ' i) (tree_stack ℓ' i) (chord_stack ℓ' i) (drop i w)

  nests_at : (i : ℕ) → i < length w → Nests (suc i) → Nests i
  unfolding stack vertex_no
  nests_at i h n =
      rw (drop-cons w i second h) (accepts_from loops ℓ' i (ℓ' i) (tree_stack ℓ' i) (chord_stack ℓ' i) (drop (suc i) w) refl
      (λ e. b.trees.served i h (ap tree_kind e)) (λ e. b.chords.served i h (ap chord_kind e)) (λ a t e. low i h e a t)
      (rw (entered_by ℓ' i (ℓ' i) refl) at n))

  pub nests : nested loops 1 0 [] [] w ≡ true
  unfolding stack vertex_count count nested
  nests = from_end Nests (length w) (rw (b.trees.ended, b.chords.ended, drop-length)) nests_at 0 (omega arith)
