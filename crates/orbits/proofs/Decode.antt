-- Every balanced word is the word of a nested involution, of the one that the stack machine joins. Assumes nothing.
--
--   Each, Falls, In    a list of positions: P holds of each; they fall, from below i; x is one of them
--   Waits, Kept, Held  what holds before position i: of those that wait, of each position, of all
--   flat≢open, close≢open, flat≢close   the kinds differ
--   put_same, put_other   a function changed at one place
--   held               it holds
--   decoded_inv, decoded_nested, decoded_kind   at the end: an involution, nested, with the word
use Prim.Native.Nat.{ℕ, zero, suc, ◌≤◌, ◌<◌}
use native.Mathlib.Nat.{le_step, lt-suc_self}
use native.Mathlib.Omega.{arith}
use mathlib.Core.Path.{◌≡◌, refl, sym, ap, subst, ◌∙◌}
use mathlib.Core.Logic.{◌⊎◌, inl, inr, ⊎_elim}
use mathlib.Core.Bool.{Bool, cond}
use mathlib.Core.List.{List, [], ◌∷◌}
use borrow.Author.Tests.{eq-eqb, ne_eqb}
use Rattle.orbits.specs.Chord.{Involution, Nested}
use Rattle.orbits.specs.Stack.{Kind, flat, open', close, kind, push, stack, put, join, matched, Served, Balanced}
use Rattle.orbits.proofs.Stack.{kind_flat, kind_open, kind_close}
use Rattle.orbits.proofs.Order.{lt_suc_split, lt_or_le, eq_split}

-- ---- lists of positions

-- P holds of each
abbrev pub Each : (ℕ → Type 0) → List ℕ → Type 0
Each P [] = Unit {0}
Each P (a ∷ s) = P a × Each P s

-- they fall, from below i
abbrev pub Falls : ℕ → List ℕ → Type 0
Falls i [] = Unit {0}
Falls i (a ∷ s) = (a < i) × Falls a s

abbrev pub In : ℕ → List ℕ → Type 0
In x [] = ⊥
In x (a ∷ s) = (x ≡ a) ⊎ In x s

each_map : {P Q : ℕ → Type 0} (i : ℕ) (s : List ℕ) → Falls i s → ((a : ℕ) → a < i → P a → Q a) → Each P s → Each Q s
each_map i [] f h e = tt
each_map i (a ∷ s) f h e = (h a f.0 e.0, each_map a s f.1 (λ b l. h b (omega arith)) e.1)

falls_le : (i j : ℕ) (s : List ℕ) → i ≤ j → Falls i s → Falls j s
falls_le i j [] l f = tt
falls_le i j (a ∷ s) l f = (omega arith, f.1)

-- ---- what is known before position i: m joins some positions below i, and the positions of s wait

-- a waits: it is an opener, it is not joined, and no chord passes over it
pub record Waits (w : ℕ → Kind) (i : ℕ) (m : ℕ → ℕ) (a : ℕ) : Type 0 where
  pub opens : w a ≡ open'
  pub idle : m a ≡ a
  pub clear : (x : ℕ) → x < i → x < a → a < m x → ⊥

-- what x is joined to is as its kind says; an opener may still wait
pub record Kept (w : ℕ → Kind) (s : List ℕ) (m : ℕ → ℕ) (x : ℕ) : Type 0 where
  pub is_flat : w x ≡ flat → m x ≡ x
  pub is_close : w x ≡ close → m x < x
  pub is_open : w x ≡ open' → (x < m x) ⊎ In x s

pub record Held (w : ℕ → Kind) (i : ℕ) (s : List ℕ) (m : ℕ → ℕ) : Type 0 where
  pub bound : (x : ℕ) → x < i → m x < i
  pub back : (x : ℕ) → x < i → m (m x) ≡ x
  pub beyond : (x : ℕ) → i ≤ x → m x ≡ x
  pub nested : Nested m i
  pub falls : Falls i s
  pub wait : Each (Waits w i m) s
  pub kept : (x : ℕ) → x < i → Kept w s m x

-- ---- two kinds are not one

pub flat≢open : flat ≡ open' → ⊥
flat≢open e = let z : ◌≡◌ {A = ℕ} 0 1 = cc in omega arith

pub close≢open : close ≡ open' → ⊥
close≢open e = let z : ◌≡◌ {A = ℕ} 0 1 = cc in omega arith

pub flat≢close : flat ≡ close → ⊥
flat≢close e = let z : ◌≡◌ {A = ℕ} 0 1 = cc in omega arith

-- ---- the three steps

module _ (w : ℕ → Kind) (i : ℕ) (s : List ℕ) (m : ℕ → ℕ) (h : Held w i s m) where
  -- position i is joined to itself: all but the kinds and the stack
  own : m i ≡ i
  own = h.beyond i (omega arith)

  self_bound : (x : ℕ) → x < suc i → m x < suc i
  self_bound x l = lt_suc_split l (λ e. omega (arith, own, ap m e)) (λ k. le_step (h.bound x k))

  self_back : (x : ℕ) → x < suc i → m (m x) ≡ x
  self_back x l = lt_suc_split l (λ e. let q : m x ≡ x = ap m e ∙ own ∙ sym e in ap m q ∙ q) (h.back x)

  self_nested : Nested m (suc i)
  self_nested a l o = lt_suc_split l (λ e. absurd (omega (arith, own, ap m e))) (λ k. h.nested a k o)

  self_waits : (a : ℕ) → a < i → Waits w i m a → Waits w (suc i) m a
  self_waits a l k = record {
    opens = k.opens;
    idle = k.idle;
    clear = λ x u. lt_suc_split u (λ e v. absurd (omega arith)) (k.clear x);
  }

  held_flat : w i ≡ flat → Held w (suc i) s m
  held_flat f = record {
    bound = self_bound;
    back = self_back;
    beyond = λ x l. h.beyond x (omega arith);
    nested = self_nested;
    falls = falls_le i (suc i) s (omega arith) h.falls;
    wait = each_map i s h.falls self_waits h.wait;
    kept = λ x l. lt_suc_split l (λ e. subst (Kept w s m) (sym e) kept_here) (h.kept x);
  }
    where
      kept_here : Kept w s m i
      kept_here = record {
        is_flat = λ k. own;
        is_close = λ k. absurd (flat≢close (sym f ∙ k));
        is_open = λ k. absurd (flat≢open (sym f ∙ k));
      }

  held_open : w i ≡ open' → Held w (suc i) (i ∷ s) m
  held_open f = record {
    bound = self_bound;
    back = self_back;
    beyond = λ x l. h.beyond x (omega arith);
    nested = self_nested;
    falls = (lt-suc_self i, h.falls);
    wait = (waits_here, each_map i s h.falls self_waits h.wait);
    kept = λ x l. lt_suc_split l (λ e. subst (Kept w (i ∷ s) m) (sym e) kept_here) (kept_more x);
  }
    where
      waits_here : Waits w (suc i) m i
      waits_here = record { opens = f; idle = own; clear = λ x l u v. omega (arith, h.bound x u) }

      kept_here : Kept w (i ∷ s) m i
      kept_here = record {
        is_flat = λ k. absurd (flat≢open (sym k ∙ f));
        is_close = λ k. absurd (close≢open (sym k ∙ f));
        is_open = λ k. inr (inl refl);
      }

      kept_more : (x : ℕ) → x < i → Kept w (i ∷ s) m x
      kept_more x l =
          let k = h.kept x l in
          record { is_flat = k.is_flat; is_close = k.is_close; is_open = λ o. ⊎_elim inl (λ y. inr (inr y)) (k.is_open o) }

pub put_same : (m : ℕ → ℕ) (a v : ℕ) → put m a v a ≡ v
put_same m a v = ap (λ (b : Bool). cond b v (m a)) (eq-eqb a a refl)

pub put_other : (m : ℕ → ℕ) (a v x : ℕ) → (x ≡ a → ⊥) → put m a v x ≡ m x
put_other m a v x n = ap (λ (b : Bool). cond b v (m x)) (ne_eqb x a n)

-- the closer i is joined to a, which was the last to wait
module _ (w : ℕ → Kind) (i : ℕ) (a : ℕ) (s : List ℕ) (m : ℕ → ℕ) (h : Held w i (a ∷ s) m) (f : w i ≡ close) where
  abbrev m' : ℕ → ℕ
  m' = put (put m a i) i a

  a<i : a < i
  a<i = h.falls.0

  at_i : m' i ≡ a
  at_i = put_same (put m a i) i a

  at_a : m' a ≡ i
  at_a = put_other (put m a i) i a a (λ e. omega (arith, a<i)) ∙ put_same m a i

  elsewhere : (x : ℕ) → (x ≡ i → ⊥) → (x ≡ a → ⊥) → m' x ≡ m x
  elsewhere x n k = put_other (put m a i) i a x n ∙ put_other m a i x k

  -- the three places where x can stand
  where_is : {C : Type 0} (x : ℕ) → x < suc i → (x ≡ i → C) → (x ≡ a → C) → (x < i → (x ≡ a → ⊥) → m' x ≡ m x → C) → C
  where_is x l u v k = lt_suc_split l u (λ q. eq_split x a v (λ n. k q n (elsewhere x (λ e. omega arith) n)))

  -- nothing else is joined to a
  not_a : (x : ℕ) → x < i → (x ≡ a → ⊥) → m x ≡ a → ⊥
  not_a x l n e = n (sym (h.back x l) ∙ ap m e ∙ h.wait.0.idle)

  join_bound : (x : ℕ) → x < suc i → m' x < suc i
  join_bound x l = where_is x l (λ e. omega (arith, at_i, a<i, ap m' e)) (λ e. omega (arith, at_a, ap m' e)) (λ q n e. omega (arith, h.bound x q))

  join_back : (x : ℕ) → x < suc i → m' (m' x) ≡ x
  join_back x l =
      where_is x l
      (λ e. ap (λ (y : ℕ). m' (m' y)) e ∙ ap m' at_i ∙ at_a ∙ sym e)
      (λ e. ap (λ (y : ℕ). m' (m' y)) e ∙ ap m' at_a ∙ at_i ∙ sym e)
      (λ q n e. ap m' e ∙ elsewhere (m x) (λ k. omega (arith, h.bound x q)) (not_a x q n) ∙ h.back x q)

  join_nested : Nested m' (suc i)
  join_nested c l o x u v =
      let z = a<i in
      where_is c l
      (λ e. absurd (omega (arith, at_i, ap m' e)))
      (λ e.
      let c_end : m' c ≡ i = ap m' e ∙ at_a in
      let q : x < i = omega arith in
      let n : x ≡ a → ⊥ = λ k. omega arith in
      let same : m' x ≡ m x = elsewhere x (λ k. omega arith) n in
      let b : m x < i = h.bound x q in
      let d : a ≤ m x = lt_or_le (m x) a (λ y. absurd (h.wait.0.clear (m x) b y (omega (arith, h.back x q)))) (λ y. y) in
      let r : m x ≡ a → ⊥ = not_a x q n in
      omega arith)
      (λ q n e.
      let b : m c < i = h.bound c q in
      let k : x ≡ a → ⊥ = λ y. h.wait.0.clear c q (omega arith) (omega arith) in
      let same : m' x ≡ m x = elsewhere x (λ y. omega arith) k in
      let r = h.nested c q (omega arith) x u (omega arith) in
      omega arith)

  join_waits : (b : ℕ) → b < a → Waits w i m b → Waits w (suc i) m' b
  join_waits b l k = record {
    opens = k.opens;
    idle = elsewhere b (λ e. omega (arith, a<i)) (λ e. omega arith) ∙ k.idle;
    clear = λ x p u v.
        let z = a<i in
        let same : m' x ≡ m x = elsewhere x (λ e. omega arith) (λ e. omega arith) in
        k.clear x (omega arith) u (omega arith);
  }

  join_kept : (x : ℕ) → x < suc i → Kept w s m' x
  join_kept x l =
      where_is x l
      (λ e. subst (Kept w s m') (sym e) (record {
        is_flat = λ k. absurd (flat≢close (sym k ∙ f));
        is_close = λ k. omega (arith, at_i, a<i);
        is_open = λ k. absurd (close≢open (sym f ∙ k));
      }))
      (λ e. subst (Kept w s m') (sym e) (record {
        is_flat = λ k. absurd (flat≢open (sym k ∙ h.wait.0.opens));
        is_close = λ k. absurd (close≢open (sym k ∙ h.wait.0.opens));
        is_open = λ k. inl (omega (arith, at_a, a<i));
      }))
      (λ q n e.
      let k = h.kept x q in
      record {
        is_flat = λ y. e ∙ k.is_flat y;
        is_close = λ y. omega (arith, k.is_close y);
        is_open = λ y. ⊎_elim (λ r. inl (omega arith)) (λ r. ⊎_elim (λ g. absurd (n g)) inr r) (k.is_open y);
      })

  held_close : Held w (suc i) s m'
  held_close = record {
    bound = join_bound;
    back = join_back;
    beyond = λ x l. let z = a<i in elsewhere x (λ e. omega arith) (λ e. omega arith) ∙ h.beyond x (omega arith);
    nested = join_nested;
    falls = falls_le a (suc i) s (omega (arith, a<i)) h.falls.1;
    wait = each_map a s h.falls.1 join_waits h.wait.1;
    kept = join_kept;
  }

-- ---- the whole word

held_step : (w : ℕ → Kind) (i : ℕ) (m : ℕ → ℕ) (k : Kind) (s : List ℕ) → w i ≡ k → (k ≡ close → s ≡ [] → ⊥) → Held w i s m
    → Held w (suc i) (push k i s) (join k i s m)
held_step w i m flat s e served h = held_flat w i s m h e
held_step w i m open' s e served h = held_open w i s m h e
held_step w i m close [] e served h = absurd (served refl refl)
held_step w i m close (a ∷ s) e served h = held_close w i a s m h e

held_none : (w : ℕ → Kind) → Held w zero [] (λ x. x)
held_none w = record {
  bound = λ x l. l;
  back = λ x l. refl;
  beyond = λ x l. refl;
  nested = λ a l. absurd (omega arith);
  falls = tt;
  wait = tt;
  kept = λ x l. absurd (omega arith);
}

pub held : (w : ℕ → Kind) (i : ℕ) → Served w i → Held w i (stack w i) (matched w i)
unfolding stack matched
held w zero served = held_none w
held w (suc i) served = held_step w i (matched w i) (w i) (stack w i) refl (served i (lt-suc_self i)) (held w i (λ j l. served j (le_step l)))

module _ (w : ℕ → Kind) (N : ℕ) (balanced : Balanced w N) where
  held_end : Held w N [] (matched w N)
  held_end = subst (λ (s : List ℕ). Held w N s (matched w N)) balanced.ended (held w N balanced.served)

  pub decoded_inv : Involution N (matched w N)
  decoded_inv = record { bound = held_end.bound; back = held_end.back }

  pub decoded_nested : Nested (matched w N) N
  decoded_nested = held_end.nested

  pub decoded_kind : (x : ℕ) → x < N → kind (matched w N) x ≡ w x
  decoded_kind x l = go (w x) refl
    where
      k : Kept w [] (matched w N) x
      k = held_end.kept x l

      go : (c : Kind) → w x ≡ c → kind (matched w N) x ≡ w x
      go flat e = kind_flat x (matched w N x) (k.is_flat e) ∙ sym e
      go open' e = kind_open x (matched w N x) (⊎_elim (λ y. y) (λ y. absurd y) (k.is_open e)) ∙ sym e
      go close e = kind_close x (matched w N x) (k.is_close e) ∙ sym e
