-- What the stack machine holds on the word of a nested involution μ. Assumes nothing.
--
--   kind_open, kind_close, kind_flat   the kind of a position by where it is joined
--   close_lt, flat_eq  and back
-- of a word K that has the kinds of μ's positions:
--   stack_pending      before i: the openers whose chords end at i or later
--   stack_top          so a closer finds its opener on top
--   stack_after        and leaves what was there before its opener
--   stack_end          the stack is empty at the end
--   stack_balanced     so K is balanced
--   stack_head         what is on top lies before, and ends at i or later
--   stack_holds        what lies before and ends at i or later is no higher than the top
use Prim.Native.Nat.{ℕ, zero, suc, ◌≤◌, ◌<◌, zero-le}
use native.Mathlib.Nat.{le_refl, le_of_lt, le_step, lt-suc_self}
use native.Mathlib.Omega.{arith}
use mathlib.Core.Path.{◌≡◌, refl, sym, ap, ap₂, subst, ◌∙◌}
use mathlib.Core.Bool.{Bool, cond}
use mathlib.Core.List.{List, [], ◌∷◌}
use lib.Dec.{ltb}
use borrow.Author.Tests.{lt-ltb, le-ltb, le-leb, lt-leb}
use Rattle.orbits.specs.Chord.{Involution, Nested}
use Rattle.orbits.specs.Stack.{Kind, flat, open', close, kind_of, kind, pop, top, push, stack, keep, pending, Balanced}
use Rattle.orbits.proofs.Order.{lt_or_le, tri, le_split, lt_suc_split}

-- ---- the kind of a position

pub kind_open : (i m : ℕ) → i < m → kind_of i m ≡ open'
kind_open i m h = ap (λ (b : Bool). cond b open' (cond (ltb m i) close flat)) (lt-ltb i m h)

pub kind_close : (i m : ℕ) → m < i → kind_of i m ≡ close
kind_close i m h = ap₂ (λ (b c : Bool). cond b open' (cond c close flat)) (le-ltb i m (le_of_lt h)) (lt-ltb m i h)

pub kind_flat : (i m : ℕ) → m ≡ i → kind_of i m ≡ flat
kind_flat i m e = ap₂ (λ (b c : Bool). cond b open' (cond c close flat)) (le-ltb i m (omega arith)) (le-ltb m i (omega arith))

pub close_lt : (i m : ℕ) → kind_of i m ≡ close → m < i
close_lt i m e =
    tri i m
    (λ l. let k = kind_open i m l in let z : ◌≡◌ {A = ℕ} 0 1 = cc in absurd (omega arith))
    (λ q. let k = kind_flat i m (sym q) in let z : ◌≡◌ {A = ℕ} 0 1 = cc in absurd (omega arith))
    (λ g. g)

pub flat_eq : (i m : ℕ) → kind_of i m ≡ flat → m ≡ i
flat_eq i m e =
    tri i m
    (λ l. let k = kind_open i m l in let z : ◌≡◌ {A = ℕ} 0 1 = cc in absurd (omega arith))
    (λ q. sym q)
    (λ g. let k = kind_close i m g in let z : ◌≡◌ {A = ℕ} 0 1 = cc in absurd (omega arith))

push_same : (i : ℕ) (s : List ℕ) {k l : Kind} → k ≡ l → push k i s ≡ push l i s
push_same i s e = ap (λ (k : Kind). push k i s) e

-- ---- pending positions

module _ (μ : ℕ → ℕ) where
  pending_in : (i a : ℕ) → i ≤ μ a → pending μ i (suc a) ≡ a ∷ pending μ i a
  unfolding pending
  pending_in i a h = ap (λ (b : Bool). keep b a (pending μ i a)) (le-leb i (μ a) h)

  pending_out : (i a : ℕ) → μ a < i → pending μ i (suc a) ≡ pending μ i a
  unfolding pending
  pending_out i a h = ap (λ (b : Bool). keep b a (pending μ i a)) (lt-leb i (μ a) h)

  -- none of the positions from a to j is pending
  pending_skip : (i a j : ℕ) → a ≤ j → ((x : ℕ) → a ≤ x → x < j → μ x < i) → pending μ i j ≡ pending μ i a
  pending_skip i a zero l h = ap (pending μ i) (omega arith)
  pending_skip i a (suc j) l h =
      le_split l
      (λ e. ap (pending μ i) (sym e))
      (λ k. pending_out i j (h j (omega arith) (lt-suc_self j)) ∙ pending_skip i a j (omega arith) (λ x u v. h x u (le_step v)))

  -- what no position before j ends at makes no difference
  pending_next : (i j : ℕ) → ((x : ℕ) → x < j → μ x ≡ i → ⊥) → pending μ i j ≡ pending μ (suc i) j
  unfolding pending
  pending_next i zero h = refl
  pending_next i (suc j) h =
      lt_or_le (μ j) i
      (λ l. pending_out i j l ∙ pending_next i j (λ x u. h x (le_step u)) ∙ sym (pending_out (suc i) j (omega arith)))
      (λ l. le_split l
      (λ e. absurd (h j (lt-suc_self j) (sym e)))
      (λ k. pending_in i j l ∙ ap (λ (s : List ℕ). j ∷ s) (pending_next i j (λ x u. h x (le_step u))) ∙ sym (pending_in (suc i) j k)))

  pending_head : (i j a : ℕ) (s : List ℕ) → pending μ i j ≡ a ∷ s → (a < j) × (i ≤ μ a)
  unfolding pending
  pending_head i zero a s e = let z : ◌≡◌ {A = ℕ} 0 1 = cc in absurd (omega arith)
  pending_head i (suc b) a s e =
      lt_or_le (μ b) i
      (λ l. let (u, v) = pending_head i b a s (sym (pending_out i b l) ∙ e) in (le_step u, v))
      (λ l. let q = sym (pending_in i b l) ∙ e in let same : b ≡ a = cc in (omega arith, subst (λ (x : ℕ). i ≤ μ x) same l))

  pending_top : (i j a : ℕ) → a < j → i ≤ μ a → a < top (pending μ i j)
  pending_top i zero a l u = absurd (omega arith)
  pending_top i (suc b) a l u =
      lt_or_le (μ b) i
      (λ k. subst (λ (s : List ℕ). a < top s) (sym (pending_out i b k))
      (lt_suc_split l (λ q. absurd (omega (arith, ap μ q))) (λ r. pending_top i b a r u)))
      (λ k. subst (λ (s : List ℕ). a < top s) (sym (pending_in i b k)) l)

module _ (N : ℕ) (μ : ℕ → ℕ) (inv : Involution N μ) (nested : Nested μ N) where
  -- at a closer i the last pending position is its opener
  pending_close : (i : ℕ) → i < N → μ i < i → pending μ i i ≡ μ i ∷ pending μ (suc i) i
  pending_close i h c =
      let back : μ (μ i) ≡ i = inv.back i h in
      let ha : μ i < N = inv.bound i h in
      let under : (x : ℕ) → suc (μ i) ≤ x → x < i → μ x < i = λ x u v. let k = nested (μ i) ha (omega arith) x u (omega arith) in omega arith in
      let other : (x : ℕ) → x < μ i → μ x ≡ i → ⊥ = λ x u e. let k = inv.back x (omega arith) in omega (arith, ap μ e) in
      pending_skip μ i (suc (μ i)) i c under
      ∙ pending_in μ i (μ i) (omega arith)
      ∙ ap (λ (s : List ℕ). μ i ∷ s)
      (pending_next μ i (μ i) other ∙ sym (pending_out μ (suc i) (μ i) (omega arith))
      ∙ sym (pending_skip μ (suc i) (suc (μ i)) i c (λ x u v. le_step (under x u v))))

  -- elsewhere none is lost
  pending_same : (i : ℕ) → i < N → i ≤ μ i → pending μ i i ≡ pending μ (suc i) i
  pending_same i h k = pending_next μ i i (λ x u e. let b = inv.back x (omega arith) in omega (arith, ap μ e))

  -- one position more
  pushed : (i : ℕ) → i < N → push (kind μ i) i (pending μ i i) ≡ pending μ (suc i) (suc i)
  pushed i h =
      tri i (μ i)
      (λ l. push_same i (pending μ i i) (kind_open i (μ i) l) ∙ ap (λ (s : List ℕ). i ∷ s) (pending_same i h (le_of_lt l)) ∙ sym (pending_in μ (suc i) i l))
      (λ e. push_same i (pending μ i i) (kind_flat i (μ i) (sym e)) ∙ pending_same i h (omega arith) ∙ sym (pending_out μ (suc i) i (omega arith)))
      (λ g. push_same i (pending μ i i) (kind_close i (μ i) g) ∙ ap pop (pending_close i h g) ∙ sym (pending_out μ (suc i) i (le_step g)))

-- ---- the stack

-- each position of a stack stands on the stack that it was put on
abbrev Linked : (ℕ → Kind) → List ℕ → Type 0
Linked K [] = Unit {0}
Linked K (a ∷ s) = (s ≡ stack K a) × Linked K s

linked_push : (K : ℕ → Kind) (i : ℕ) (k : Kind) (s : List ℕ) → s ≡ stack K i → Linked K s → Linked K (push k i s)
linked_push K i flat s e h = h
linked_push K i open' s e h = (e, h)
linked_push K i close [] e h = tt
linked_push K i close (a ∷ s) e h = h.1

linked : (K : ℕ → Kind) (i : ℕ) → Linked K (stack K i)
unfolding stack
linked K zero = tt
linked K (suc i) = linked_push K i (K i) (stack K i) refl (linked K i)

module _ (N : ℕ) (μ : ℕ → ℕ) (inv : Involution N μ) (nested : Nested μ N) (K : ℕ → Kind) (same : (i : ℕ) → i < N → K i ≡ kind μ i) where
  pub stack_pending : (i : ℕ) → i ≤ N → stack K i ≡ pending μ i i
  unfolding stack pending
  stack_pending zero h = refl
  stack_pending (suc i) h =
      ap₂ (λ (k : Kind) (s : List ℕ). push k i s) (same i h) (stack_pending i (le_of_lt h)) ∙ pushed N μ inv nested i h

  pub stack_top : (i : ℕ) → i < N → μ i < i → stack K i ≡ μ i ∷ stack K (suc i)
  stack_top i h c =
      stack_pending i (le_of_lt h) ∙ pending_close N μ inv nested i h c
      ∙ ap (λ (s : List ℕ). μ i ∷ s) (sym (pending_out μ (suc i) i (le_step c)) ∙ sym (stack_pending (suc i) h))

  pub stack_after : (i : ℕ) → i < N → μ i < i → stack K (suc i) ≡ stack K (μ i)
  stack_after i h c = (subst (Linked K) (stack_top i h c) (linked K i)).0

  pub stack_end : stack K N ≡ []
  unfolding pending
  stack_end = stack_pending N (le_refl N) ∙ pending_skip μ N zero N zero-le (λ x u v. inv.bound x v)

  pub stack_balanced : Balanced K N
  stack_balanced = record {
    served = λ i h c e.
        let t = stack_top i h (close_lt i (μ i) (sym (same i h) ∙ c)) in
        let z : ◌≡◌ {A = ℕ} 0 1 = cc in
        omega arith;
    ended = stack_end;
  }

  pub stack_head : (i : ℕ) → i ≤ N → (a : ℕ) (s : List ℕ) → stack K i ≡ a ∷ s → (a < i) × (i ≤ μ a)
  stack_head i h a s e = pending_head μ i i a s (sym (stack_pending i h) ∙ e)

  pub stack_holds : (i : ℕ) → i ≤ N → (a : ℕ) → a < i → i ≤ μ a → a < top (stack K i)
  stack_holds i h a l u = subst (λ (s : List ℕ). a < top s) (sym (stack_pending i h)) (pending_top μ i i a l u)
