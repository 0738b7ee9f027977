-- A balanced word of brackets K, below N, and the involution that joins its brackets.
--
--   match_open, match_close, match_flat   where a bracket is joined: later, earlier, to itself
--   mate_close, mate_open   an opening bracket is joined to a closing one, and the other way round
--   close_top       at a closing bracket its fellow is on top of the stack, and below it what was there then
--   stack_turn      the stack after i is the one at i's fellow
--   stack-below, stack-kind the position on top of the stack lies before, and is an opening one
--   matched_is      a nested involution with these brackets is the one that joins them
use Prim.Native.Nat.{ℕ, suc, ◌≤◌, ◌<◌}
use native.Mathlib.Omega.{arith}
use mathlib.Core.Path.{◌≡◌, refl, sym, ap, ◌∙◌}
use mathlib.Core.List.{List, ◌∷◌}
use Rattle.orbits.specs.Chord.{Involution, Nested}
use Rattle.orbits.specs.Stack.{Kind, flat, open', close, kind_of, kind, push, stack, matched, Balanced}
use Rattle.orbits.proofs.Order.{tri}
use Rattle.orbits.proofs.Stack.{kind_open, kind_close, kind_flat, close_lt, flat_eq, stack_top, stack_after, stack_head}
use Rattle.orbits.proofs.Decode.{decoded_inv, decoded_nested, decoded_kind, close≢open, flat≢open}

open_lt : (i m : ℕ) → kind_of i m ≡ open' → i < m
open_lt i m e =
    tri i m
    (λ l. l)
    (λ q. absurd (flat≢open (sym (kind_flat i m (sym q)) ∙ e)))
    (λ g. absurd (close≢open (sym (kind_close i m g) ∙ e)))

module _ (K : ℕ → Kind) (N : ℕ) (b : Balanced K N) where
  abbrev m : ℕ → ℕ
  m = matched K N

  inv : Involution N m
  inv = decoded_inv K N b

  pub match_open : (i : ℕ) → i < N → K i ≡ open' → i < m i
  match_open i h e = open_lt i (m i) (decoded_kind K N b i h ∙ e)

  pub match_close : (i : ℕ) → i < N → K i ≡ close → m i < i
  match_close i h e = close_lt i (m i) (decoded_kind K N b i h ∙ e)

  pub match_flat : (i : ℕ) → i < N → K i ≡ flat → m i ≡ i
  match_flat i h e = flat_eq i (m i) (decoded_kind K N b i h ∙ e)

  pub mate_close : (i : ℕ) → i < N → K i ≡ open' → K (m i) ≡ close
  mate_close i h e =
      let back : m (m i) ≡ i = inv.back i h in
      let l : i < m i = match_open i h e in
      sym (decoded_kind K N b (m i) (inv.bound i h)) ∙ kind_close (m i) (m (m i)) (omega arith)

  pub mate_open : (i : ℕ) → i < N → K i ≡ close → K (m i) ≡ open'
  mate_open i h e =
      let back : m (m i) ≡ i = inv.back i h in
      let l : m i < i = match_close i h e in
      sym (decoded_kind K N b (m i) (inv.bound i h)) ∙ kind_open (m i) (m (m i)) (omega arith)

  same : (i : ℕ) → i < N → K i ≡ kind m i
  same i h = sym (decoded_kind K N b i h)

  close_after : (i : ℕ) → i < N → K i ≡ close → stack K (suc i) ≡ stack K (m i)
  close_after i h e = stack_after N m inv (decoded_nested K N b) K same i h (match_close i h e)

  pub close_top : (i : ℕ) → i < N → K i ≡ close → stack K i ≡ m i ∷ stack K (m i)
  close_top i h e = stack_top N m inv (decoded_nested K N b) K same i h (match_close i h e) ∙ ap (λ (s : List ℕ). m i ∷ s) (close_after i h e)

  pub stack_turn : (i : ℕ) → i < N → stack K (suc i) ≡ stack K (m i)
  unfolding stack
  stack_turn i h = go (K i) refl
    where
      go : (k : Kind) → K i ≡ k → push k i (stack K i) ≡ stack K (m i)
      go flat e = ap (stack K) (sym (match_flat i h e))
      go open' e =
          let top = close_top (m i) (inv.bound i h) (mate_close i h e) in
          sym (top ∙ ap (λ (a : ℕ). a ∷ stack K a) (inv.back i h))
      go close e = ap (λ (k : Kind). push k i (stack K i)) (sym e) ∙ close_after i h e

  pub stack_below : (i : ℕ) → i ≤ N → (a : ℕ) (s : List ℕ) → stack K i ≡ a ∷ s → a < i
  stack_below i h a s e = (stack_head N m inv (decoded_nested K N b) K same i h a s e).0

  pub stack_kind : (i : ℕ) → i ≤ N → (a : ℕ) (s : List ℕ) → stack K i ≡ a ∷ s → K a ≡ open'
  stack_kind i h a s e =
      let (l, u) = stack_head N m inv (decoded_nested K N b) K same i h a s e in same a (omega arith) ∙ kind_open a (m a) (omega arith)

  pub matched_is : (μ : ℕ → ℕ) → Involution N μ → Nested μ N → ((i : ℕ) → i < N → K i ≡ kind μ i) → (i : ℕ) → i < N → m i ≡ μ i
  matched_is μ other nested kinds i h = go (K i) refl
    where
      closed : (j : ℕ) → j < N → K j ≡ close → m j ≡ μ j
      closed j g e =
          let s = close_top j g e in
          let t = stack_top N μ other nested K kinds j g (close_lt j (μ j) (sym (kinds j g) ∙ e)) in
          cc

      go : (k : Kind) → K i ≡ k → m i ≡ μ i
      go flat e = match_flat i h e ∙ sym (flat_eq i (μ i) (sym (kinds i h) ∙ e))
      go open' e =
          let there = inv.bound i h in
          let same : i ≡ μ (m i) = sym (inv.back i h) ∙ closed (m i) there (mate_close i h e) in
          sym (ap μ same ∙ other.back (m i) there)
      go close e = closed i h e
