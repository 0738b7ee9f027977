-- Tests: what a computed test shows.
--
--   and_left, and_right, both    the two sides of a test by `&&`
--   not_intro                    a test that does not pass fails
--   or_none                      a test by `||` that fails
--   or_split, or_left, or_right  a test by `||` that passes
--   bool_ext                     two tests that pass together are equal
--   T_true, true_T               a test that passes is `true`, and the other way round
--   all, at                      a test of every number below n
--   some_at, some_in             some number below n passes a test
--   some_no, no_some             none does
--   some_same                    tests that agree below n
--   some_list                    a chain that asks them all, from 0 on
use mathlib.Core.Path.{◌≡◌, refl, sym}
use mathlib.Core.Bool.{Bool, true, false, ◌&&◌, ◌||◌, false≢true, true≢false}
use Prim.Native.Nat.{ℕ, zero, suc, ◌+◌, ◌<◌}
use native.Mathlib.Nat.{not-suc-le-zero, lt-suc_self, le_step}
use native.Mathlib.Decide.{ℕ_discrete}
use native.Mathlib.Omega.{arith}
use lib.Dec.{T}
use Rattle.std.proofs.Common.{add-zero, add-one}
use Rattle.std.specs.List.{list_any, range_with_len}
use Rattle.model.specs.Numbers.{some}

pub and_left : (a b : Bool) → (a && b) ≡ true → a ≡ true
and_left true b e = refl
and_left false b e = absurd (false≢true e)

pub and_right : (a b : Bool) → (a && b) ≡ true → b ≡ true
and_right true b e = e
and_right false b e = absurd (false≢true e)

pub both : {a b : Bool} → a ≡ true → b ≡ true → (a && b) ≡ true
both p q = rw p q

pub not_intro : (a : Bool) → (a ≡ true → ⊥) → a ≡ false
not_intro true f = absurd (f refl)
not_intro false f = refl

pub or_none : (a b : Bool) → (a || b) ≡ false → (a ≡ false) × (b ≡ false)
or_none true b e = absurd (true≢false e)
or_none false b e = (refl, e)

pub or_split : {C : Type 0} (a b : Bool) → (a || b) ≡ true → (a ≡ true → C) → (b ≡ true → C) → C
or_split true b e u v = u refl
or_split false b e u v = v e

pub or_left : (a b : Bool) → a ≡ true → (a || b) ≡ true
or_left a b e = rw e

pub or_right : (a b : Bool) → b ≡ true → (a || b) ≡ true
or_right true b e = refl
or_right false b e = e

pub bool_ext : (a b : Bool) → (a ≡ true → b ≡ true) → (b ≡ true → a ≡ true) → a ≡ b
bool_ext true b f g = sym (f refl)
bool_ext false true f g = absurd (false≢true (g refl))
bool_ext false false f g = refl

pub T_true : (b : Bool) → T b → b ≡ true
T_true true t = refl
T_true false t = absurd t

pub true_T : (b : Bool) → b ≡ true → T b
true_T true e = tt
true_T false e = absurd (false≢true e)

-- ---- every number below n

abbrev pub all : ℕ → (ℕ → Bool) → Bool
all zero p = true
all (suc n) p = p n && all n p

-- k is n or below it
last : {C : Type 0} (k n : ℕ) → k < suc n → (k ≡ n → C) → (k < n → C) → C
last {C} k n h e l = go (ℕ_discrete k n)
  where
    go : Dec (k ≡ n) → C
    go (yes q) = e q
    go (no d) = l (omega arith)

pub at : (n : ℕ) (p : ℕ → Bool) → all n p ≡ true → (k : ℕ) → k < n → p k ≡ true
at zero p t k h = absurd (not-suc-le-zero h)
at (suc n) p t k h = last k n h (λ e. rw e (and_left (p n) (all n p) t)) (at n p (and_right (p n) (all n p) t) k)

-- ---- some number below n

pub some_at : (f : ℕ → Bool) (n : ℕ) → some f n ≡ true → (i : ℕ) × (i < n) × (f i ≡ true)
unfolding some
some_at f zero e = absurd (false≢true e)
some_at f (suc n) e = or_split (f n) (some f n) e (λ u. (n, lt-suc_self n, u)) (λ s. let (i, h, v) = some_at f n s in (i, le_step h, v))

pub some_in : (f : ℕ → Bool) (n i : ℕ) → i < n → f i ≡ true → some f n ≡ true
unfolding some
some_in f zero i h e = absurd (not-suc-le-zero h)
some_in f (suc n) i h e = last i n h (λ q. or_left (f n) (some f n) (rw q at e)) (λ l. or_right (f n) (some f n) (some_in f n i l e))

pub some_no : (f : ℕ → Bool) (n : ℕ) → some f n ≡ false → (i : ℕ) → i < n → f i ≡ false
unfolding some
some_no f zero e i h = absurd (not-suc-le-zero h)
some_no f (suc n) e i h = let (here, below) = or_none (f n) (some f n) e in last i n h (λ q. rw q here) (some_no f n below i)

pub no_some : (f : ℕ → Bool) (n : ℕ) → ((i : ℕ) → i < n → f i ≡ false) → some f n ≡ false
unfolding some
no_some f zero h = refl
no_some f (suc n) h = rw (h n (lt-suc_self n)) (no_some f n (λ i k. h i (le_step k)))

pub some_same : (f g : ℕ → Bool) (n : ℕ) → ((i : ℕ) → i < n → f i ≡ g i) → some f n ≡ some g n
unfolding some
some_same f g zero e = refl
some_same f g (suc n) e = rw (e n (lt-suc_self n), some_same f g n (λ i h. e i (le_step h)))

or_none_right : (a : Bool) → a ≡ (a || false)
or_none_right true = refl
or_none_right false = refl

or_exchanged : (a b c : Bool) → ((a || b) || c) ≡ (b || (a || c))
or_exchanged true true c = refl
or_exchanged true false c = refl
or_exchanged false b c = refl

some_more : (f : ℕ → Bool) (a n : ℕ) → some f (a + n) ≡ (some f a || list_any f (range_with_len a n))
unfolding some
some_more f a zero = rw add-zero (or_none_right (some f a))
some_more f a (suc n) =
    let e : a + suc n ≡ (a + 1) + n = omega arith in
    rw (e, some_more f (a + 1) n, add-one) (or_exchanged (f a) (some f a) (list_any f (range_with_len (suc a) n)))

pub some_list : (f : ℕ → Bool) (n : ℕ) → list_any f (range_with_len 0 n) ≡ some f n
unfolding some
some_list f n = let e : 0 + n ≡ n = omega arith in rw e at (sym (some_more f 0 n))
