-- The vertices of a map along a walk that crosses its tree edges: two positions lie at one vertex exactly where the same tree edge is the innermost
-- open one.
--
--   Turning rot N ℓ x pos   the walk meets the darts x 0, x 1, .. with the letters ℓ 0, ℓ 1, ..; its tree edges match like brackets, and the entry at
--                      the fellow's dart is the dart at the next position
--   vertex_entry       positions at one vertex have one entry, the place after the innermost open tree edge
--   entry_vertex       and positions with one entry lie at one vertex
use Prim.Native.Nat.{ℕ, zero, suc, ◌≤◌, ◌<◌}
use native.Mathlib.Nat.{le_of_lt, le_of_eq}
use native.Mathlib.Omega.{arith}
use mathlib.Core.Path.{◌≡◌, refl, sym, ap, ◌∙◌}
use mathlib.Core.Logic.{⊎_elim}
use mathlib.Core.List.{List}
use lib.ListN.{length}
use Rattle.model.specs.Numbers.{least}
use Rattle.model.specs.Map.{next, vertex_of}
use Rattle.model.specs.Traversal.{Letter}
use Rattle.orbits.specs.Permutation.{Perm}
use Rattle.orbits.specs.Chord.{Involution}
use Rattle.orbits.specs.Chord as Chord
use Rattle.orbits.specs.Stack.{Kind, flat, open', close, top, push, stack, matched, Balanced}
use Rattle.orbits.proofs.Chord.{next_cases, next_bound}
use Rattle.orbits.proofs.Cycle.{least_keeps, least_step}
use Rattle.orbits.proofs.Decode.{decoded_inv}
use Rattle.orbits.proofs.Match.{match_close, match_flat, stack_turn}
use Rattle.words.specs.Brackets.{tree_word, tree_stack}

pub record Turning (rot : List ℕ) (N : ℕ) (ℓ : ℕ → Letter) (x pos : ℕ → ℕ) : Type 0 where
  pub size : length rot ≡ N
  pub perm : Perm N (next rot)
  pub trees : Balanced (tree_word ℓ) N
  pub dart_bound : (i : ℕ) → i < N → x i < N
  pub pos_bound : (d : ℕ) → d < N → pos d < N
  pub dart_pos : (d : ℕ) → d < N → x (pos d) ≡ d
  pub pos_dart : (i : ℕ) → i < N → pos (x i) ≡ i
  pub turn : (i : ℕ) → i < N → next rot (x (matched (tree_word ℓ) N i)) ≡ x (Chord.next N i)

module _ (rot : List ℕ) (N : ℕ) (ℓ : ℕ → Letter) (x pos : ℕ → ℕ) (t : Turning rot N ℓ x pos) where
  abbrev τ : ℕ → ℕ
  τ = matched (tree_word ℓ) N

  abbrev entry : ℕ → ℕ
  entry i = top (tree_stack ℓ i)

  inv : Involution N τ
  inv = decoded_inv (tree_word ℓ) N t.trees

  vertex_least : (d : ℕ) → vertex_of rot d ≡ least (next rot) N d
  unfolding vertex_of
  vertex_least d = ap (λ (n : ℕ). least (next rot) n d) t.size

  -- ---- one vertex, one entry

  entry_next : (i : ℕ) → i < N → entry (Chord.next N i) ≡ entry (τ i)
  unfolding stack
  entry_next i h =
      let turned = ap top (stack_turn (tree_word ℓ) N t.trees i h) in
      ⊎_elim
      (λ c. ap entry c.1 ∙ turned)
      (λ c. ap entry c.1 ∙ sym (ap top t.trees.ended) ∙ ap entry (sym c.0) ∙ turned)
      (next_cases N i h)

  kept : (d : ℕ) → d < N → entry (pos (next rot d)) ≡ entry (pos d)
  kept d h =
      let i = pos d in
      let hi = t.pos_bound d h in
      let j = τ i in
      let hj = inv.bound i hi in
      let on : next rot d ≡ x (Chord.next N j) = ap (next rot) (sym (t.dart_pos d h) ∙ ap x (sym (inv.back i hi))) ∙ t.turn j hj in
      ap entry (ap pos on ∙ t.pos_dart (Chord.next N j) (next_bound N j hj)) ∙ entry_next j hj ∙ ap entry (inv.back i hi)

  entry_of : (i : ℕ) → i < N → entry (pos (vertex_of rot (x i))) ≡ entry i
  entry_of i h =
      ap (λ (d : ℕ). entry (pos d)) (vertex_least (x i))
      ∙ least_keeps N (next rot) t.perm (λ d. entry (pos d)) kept (x i) (t.dart_bound i h) ∙ ap entry (t.pos_dart i h)

  pub vertex_entry : (i j : ℕ) → i < N → j < N → vertex_of rot (x i) ≡ vertex_of rot (x j) → top (tree_stack ℓ i) ≡ top (tree_stack ℓ j)
  vertex_entry i j hi hj e = sym (entry_of i hi) ∙ ap (λ (d : ℕ). entry (pos d)) e ∙ entry_of j hj

  -- ---- one entry, one vertex

  -- the walk is at position suc i where it was at τ i
  vertex_back : (i : ℕ) → suc i < N → vertex_of rot (x (suc i)) ≡ vertex_of rot (x (τ i))
  vertex_back i h =
      let on : Chord.next N i ≡ suc i = ⊎_elim (λ c. c.1) (λ c. absurd (omega arith)) (next_cases N i (le_of_lt h)) in
      let d = x (τ i) in
      ap (vertex_of rot) (ap x (sym on) ∙ sym (t.turn i (le_of_lt h))) ∙ vertex_least (next rot d)
      ∙ least_step N (next rot) t.perm d (t.dart_bound (τ i) (inv.bound i (le_of_lt h))) ∙ sym (vertex_least d)

  Entered : ℕ → Type 0
  Entered i = vertex_of rot (x i) ≡ vertex_of rot (x (entry i))

  entered_step : (i : ℕ) → suc i < N → ((j : ℕ) → j ≤ i → Entered j) → Entered (suc i)
  unfolding Entered stack
  entered_step i h ih = go (tree_word ℓ i) refl
    where
      further : τ i ≤ i → Entered (suc i)
      further l =
          vertex_back i h ∙ ih (τ i) l
          ∙ ap (λ (s : List ℕ). vertex_of rot (x (top s))) (sym (stack_turn (tree_word ℓ) N t.trees i (le_of_lt h)))

      go : (k : Kind) → tree_word ℓ i ≡ k → Entered (suc i)
      go open' e = ap (λ (k : Kind). vertex_of rot (x (top (push k i (tree_stack ℓ i))))) (sym e)
      go close e = further (le_of_lt (match_close (tree_word ℓ) N t.trees i (le_of_lt h) e))
      go flat e = further (le_of_eq (match_flat (tree_word ℓ) N t.trees i (le_of_lt h) e))

  entered : (n i : ℕ) → i < n → i < N → Entered i
  unfolding Entered stack
  entered zero i l h = absurd (omega arith)
  entered (suc n) zero l h = refl
  entered (suc n) (suc i) l h = entered_step i h (λ j m. entered n j (omega arith) (omega arith))

  pub entry_vertex : (i j : ℕ) → i < N → j < N → top (tree_stack ℓ i) ≡ top (tree_stack ℓ j) → vertex_of rot (x i) ≡ vertex_of rot (x j)
  unfolding Entered
  entry_vertex i j hi hj e = entered (suc i) i (omega arith) hi ∙ ap (λ (k : ℕ). vertex_of rot (x k)) e ∙ sym (entered (suc j) j (omega arith) hj)
