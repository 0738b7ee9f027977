-- Laws of `count`. Assumes nothing.
--
--   count_in, count_out     the next number passes, or does not
--   count-mono, count-tight a stronger test counts less, strictly less unless the tests agree
--   count_grows, count_below   a count up to a later number is no less, and is more where one that passes lies between
--   count_ext               tests that agree have one count
--   count_all, count_none, count_le   there are n numbers below n; none that passes; no more that pass a test
--   count_either            two tests that never pass together
--   tick_suc                ticks commute
--   except, except_in, except_l, except_ne, count_except   a test but for one number
--   Injection, count_inj    an injection between two tested sets bounds the one count by the other
use Prim.Native.Nat.{ℕ, zero, suc, ◌+◌, ◌≤◌, ◌<◌, zero-le}
use native.Mathlib.Nat.{le_step, lt-suc_self}
use native.Mathlib.Omega.{arith}
use mathlib.Core.Path.{◌≡◌, refl, sym, ap, ap₂, subst, ◌∙◌}
use mathlib.Core.Bool.{Bool, true, false, not, ◌&&◌, ◌||◌}
use borrow.Author.Tests.{ne_eqb}
use lib.Dec.{T, T_not, not_T, eqb, eqb→eq, eqb_refl}
use Rattle.model.specs.Numbers.{tick, count}
use Rattle.model.proofs.Booleans.{true_T}
use Rattle.orbits.proofs.Order.{lt_suc_split, le_split}

-- ---- one test

tick_mono : (b c : Bool) {m n : ℕ} → (T b → T c) → m ≤ n → tick b m ≤ tick c n
tick_mono true true h e = omega arith
tick_mono true false h e = absurd (h tt)
tick_mono false true h e = omega arith
tick_mono false false h e = e

-- where the counts are equal after all, they were equal before and the tests agree
tick_tight : (b c : Bool) {m n : ℕ} → (T b → T c) → m ≤ n → tick c n ≤ tick b m → (n ≤ m) × (T c → T b)
tick_tight true true h e k = (omega arith, λ t. t)
tick_tight true false h e k = absurd (h tt)
tick_tight false true h e k = absurd (omega arith)
tick_tight false false h e k = (k, λ t. t)

-- a bound on a count, by whether the test passed
tick_le : (b : Bool) {c d : ℕ} → (T b → c < d) → c ≤ d → tick b c ≤ d
tick_le true u v = u tt
tick_le false u v = v

tick_in : (b : Bool) (c : ℕ) → T b → tick b c ≡ suc c
tick_in true c t = refl
tick_in false c t = absurd t

tick_out : (b : Bool) (c : ℕ) → (T b → ⊥) → tick b c ≡ c
tick_out true c h = absurd (h tt)
tick_out false c h = refl

-- one number more: counted where it passes
module _ (f : ℕ → Bool) (n : ℕ) where
  pub count_in : T (f n) → count f (suc n) ≡ suc (count f n)
  unfolding count
  count_in t = tick_in (f n) (count f n) t

  pub count_out : (T (f n) → ⊥) → count f (suc n) ≡ count f n
  unfolding count
  count_out h = tick_out (f n) (count f n) h

-- ---- two tests, one of which is stronger

module _ (f g : ℕ → Bool) where
  pub count_mono : (n : ℕ) → ((i : ℕ) → i < n → T (f i) → T (g i)) → count f n ≤ count g n
  unfolding count
  count_mono zero h = zero-le
  count_mono (suc n) h = tick_mono (f n) (g n) (h n (lt-suc_self n)) (count_mono n (λ i p. h i (le_step p)))

  -- with as many, the weaker test passes nothing that the stronger does not
  pub count_tight : (n : ℕ) → ((i : ℕ) → i < n → T (f i) → T (g i)) → count g n ≤ count f n → (i : ℕ) → i < n → T (g i) → T (f i)
  unfolding count
  count_tight zero h e i p = absurd (omega arith)
  count_tight (suc n) h e i p =
      let h' : (i : ℕ) → i < n → T (f i) → T (g i) = λ i p. h i (le_step p) in
      let here = tick_tight (f n) (g n) (h n (lt-suc_self n)) (count_mono n h') e in
      lt_suc_split p (λ q. subst (λ (k : ℕ). T (g k) → T (f k)) (sym q) here.1) (count_tight n h' here.0 i)

-- up to a later number the count is no less, and is more where one that passes lies between
pub count_grows : (f : ℕ → Bool) (i j : ℕ) → i ≤ j → count f i ≤ count f j
unfolding count
count_grows f i zero h = let e : i ≡ 0 = omega arith in rw e (omega arith)
count_grows f i (suc j) h = le_split h (λ e. rw e (omega arith)) (λ l. let ih = count_grows f i j (omega arith) in more (f j) ih)
  where
    more : (b : Bool) {m n : ℕ} → m ≤ n → m ≤ tick b n
    more true h = omega arith
    more false h = h

pub count_below : (f : ℕ → Bool) (i j : ℕ) → i < j → f i ≡ true → count f i < count f j
count_below f i j h e = let s = count_in f i (true_T (f i) e) in let g = count_grows f (suc i) j h in omega arith

pub count_ext : (f g : ℕ → Bool) (n : ℕ) → ((i : ℕ) → i < n → f i ≡ g i) → count f n ≡ count g n
unfolding count
count_ext f g zero h = refl
count_ext f g (suc n) h = ap₂ tick (h n (lt-suc_self n)) (count_ext f g n (λ i p. h i (le_step p)))

pub count_all : (n : ℕ) → count (λ i. true) n ≡ n
unfolding count
count_all zero = refl
count_all (suc n) = ap suc (count_all n)

pub count_none : (f : ℕ → Bool) (n : ℕ) → ((i : ℕ) → i < n → f i ≡ false) → count f n ≡ 0
unfolding count
count_none f zero h = refl
count_none f (suc n) h = ap₂ tick (h n (lt-suc_self n)) (count_none f n (λ i p. h i (le_step p)))

pub count_le : (f : ℕ → Bool) (n : ℕ) → count f n ≤ n
unfolding count
count_le f zero = zero-le
count_le f (suc n) = let ih = count_le f n in tick_le (f n) (λ t. omega arith) (omega arith)

-- ---- two tests that never pass together

tick_either : (b c : Bool) (m n k : ℕ) → (T b → T c → ⊥) → k ≡ m + n → tick (b || c) k ≡ tick b m + tick c n
tick_either true true m n k h e = absurd (h tt tt)
tick_either true false m n k h e = omega arith
tick_either false true m n k h e = omega arith
tick_either false false m n k h e = e

pub count_either : (f g : ℕ → Bool) (n : ℕ) → ((i : ℕ) → i < n → T (f i) → T (g i) → ⊥) → count (λ i. f i || g i) n ≡ count f n + count g n
unfolding count
count_either f g zero h = refl
count_either f g (suc n) h =
    tick_either (f n) (g n) (count f n) (count g n) (count (λ i. f i || g i) n) (h n (lt-suc_self n)) (count_either f g n (λ i p. h i (le_step p)))

-- ---- a test with one number taken out

-- passes what g passes, except c
abbrev pub except : (ℕ → Bool) → ℕ → ℕ → Bool
except g c i = g i && not (eqb i c)

&&-l : (a b : Bool) → T (a && b) → T a
&&-l true b t = tt
&&-l false b t = t

&&-r : (a b : Bool) → T (a && b) → T b
&&-r true b t = t
&&-r false b t = absurd t

&&-both : (a b : Bool) → T a → T b → T (a && b)
&&-both true b t s = s
&&-both false b t s = t

and_true : (b : Bool) → (b && true) ≡ b
and_true true = refl
and_true false = refl

pub tick_suc : (b : Bool) (c : ℕ) → tick b (suc c) ≡ suc (tick b c)
tick_suc true c = refl
tick_suc false c = refl

module _ (g : ℕ → Bool) (c : ℕ) where
  pub except_in : (i : ℕ) → T (g i) → (i ≡ c → ⊥) → T (except g c i)
  except_in i t h = &&-both (g i) (not (eqb i c)) t (not_T (eqb i c) (λ e. h (eqb→eq i c e)))

  pub except_l : (i : ℕ) → T (except g c i) → T (g i)
  except_l i t = &&-l (g i) (not (eqb i c)) t

  pub except_ne : (i : ℕ) → T (except g c i) → i ≡ c → ⊥
  except_ne i t e = T_not (eqb i c) (&&-r (g i) (not (eqb i c)) t) (subst (λ (k : ℕ). T (eqb i k)) e (eqb_refl i))

  except_not : T (except g c c) → ⊥
  except_not t = except_ne c t refl

  except_same : (i : ℕ) → (i ≡ c → ⊥) → except g c i ≡ g i
  except_same i n = ap (λ (b : Bool). g i && not b) (ne_eqb i c n) ∙ and_true (g i)

  except_above : (m : ℕ) → except g c m ≡ g m → suc (count (except g c) m) ≡ count g m → suc (count (except g c) (suc m)) ≡ count g (suc m)
  unfolding count
  except_above m s ih =
      ap (λ (b : Bool). suc (tick b (count (except g c) m))) s ∙ sym (tick_suc (g m) (count (except g c) m)) ∙ ap (tick (g m)) ih

  -- the number taken out is one fewer
  pub count_except : (m : ℕ) → c < m → T (g c) → suc (count (except g c) m) ≡ count g m
  count_except zero p t = absurd (omega arith)
  count_except (suc m) p t =
      lt_suc_split p
      (λ q.
      let out = count_out (except g c) m (subst (λ (k : ℕ). T (except g c k) → ⊥) q except_not) in
      let same = count_ext (except g c) g m (λ i l. except_same i (λ e. omega arith)) in
      ap suc (out ∙ same) ∙ sym (count_in g m (subst (λ (k : ℕ). T (g k)) q t)))
      (λ q. except_above m (except_same m (λ e. omega arith)) (count_except m q t))

-- ---- an injection from what f passes below n to what g passes below m

-- what an injection is: h sends i, which f passes, to a number that g passes, and different numbers to different numbers
pub record Injection (f g : ℕ → Bool) (n m : ℕ) : Type 0 where
  pub to : (i : ℕ) → i < n → T (f i) → ℕ
  pub bound : (i : ℕ) (p : i < n) (t : T (f i)) → to i p t < m
  pub passes : (i : ℕ) (p : i < n) (t : T (f i)) → T (g (to i p t))
  pub inj : (i j : ℕ) (p : i < n) (q : j < n) (t : T (f i)) (s : T (f j)) → to i p t ≡ to j q s → i ≡ j

-- the first n numbers alone; and where c is what n is sent to, none of them is sent to c
fewer : (f g : ℕ → Bool) (n m : ℕ) → Injection f g (suc n) m → Injection f g n m
fewer f g n m h = record {
  to = λ i p. h.to i (le_step p);
  bound = λ i p. h.bound i (le_step p);
  passes = λ i p. h.passes i (le_step p);
  inj = λ i j p q. h.inj i j (le_step p) (le_step q);
}

fewer_except : (f g : ℕ → Bool) (n m : ℕ) (h : Injection f g (suc n) m) (t : T (f n)) → Injection f (except g (h.to n (lt-suc_self n) t)) n m
fewer_except f g n m h t = record {
  to = λ i p. h.to i (le_step p);
  bound = λ i p. h.bound i (le_step p);
  passes = λ i p s. except_in g (h.to n (lt-suc_self n) t) (h.to i (le_step p) s) (h.passes i (le_step p) s) (λ e.
      let same = h.inj i n (le_step p) (lt-suc_self n) s t e in omega arith);
  inj = λ i j p q. h.inj i j (le_step p) (le_step q);
}

pub count_inj : (f g : ℕ → Bool) (n m : ℕ) → Injection f g n m → count f n ≤ count g m
unfolding count
count_inj f g zero m h = zero-le
count_inj f g (suc n) m h =
    tick_le (f n)
    (λ t.
    let c : ℕ = h.to n (lt-suc_self n) t in
    let rest = count_inj f (except g c) n m (fewer_except f g n m h t) in
    let one = count_except g c m (h.bound n (lt-suc_self n) t) (h.passes n (lt-suc_self n) t) in
    omega arith)
    (count_inj f g n m (fewer f g n m h))
