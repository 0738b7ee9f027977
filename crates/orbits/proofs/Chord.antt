-- Chords and faces: with k chords there are at most k + 1 faces, and there are that many exactly where the chords are nested. The faces' least
-- positions are among the k + 1 marked positions: 0, and those just after an opener. Assumes nothing.
--
--   next_cases, next_bound   one position on, by whether the circle's end is met; it is a position
--   φ-cases, φ-before  one step of a face, and the step that leads to suc a
--   μ-inj              an involution is injective
--   crossed_perm       a permutation after an involution is one
--   φ-perm             the face permutation is one
--   faces_le           at most k + 1 faces
--   nested_of_faces, faces_of_nested   that many exactly where the chords are nested
--   nested_ext         a diagram that is another one below N is nested if that one is
use Prim.Native.Nat.{ℕ, zero, suc, ◌+◌, ◌≤◌, ◌<◌, zero-le}
use native.Mathlib.Nat.{le_trans, le_antisymm, le_of_eq, lt-suc_self}
use native.Mathlib.Decide.{ℕ_discrete}
use native.Mathlib.Omega.{arith}
use mathlib.Core.Path.{◌≡◌, refl, sym, ap, subst, ◌∙◌}
use mathlib.Core.Logic.{◌⊎◌, inl, inr, ⊎_elim}
use mathlib.Core.Bool.{Bool, true, cond}
use lib.Dec.{T, eqb→eq, ltb→lt, lt→ltb}
use borrow.Author.Tests.{lt-ltb, le-ltb}
use Rattle.model.specs.Numbers.{tick, count, least, is_least, cycles}
use Rattle.orbits.specs.Permutation.{Perm}
use Rattle.orbits.specs.Chord.{Involution, opener, chords, next, φ, faces, Nested}
use Rattle.orbits.proofs.Order.{lt_or_le, le_split, tri, eq→eqb}
use Rattle.orbits.proofs.Tally.{tick_suc, count_out, count_mono, count_tight}
use Rattle.orbits.proofs.Cycle.{least_le, least_in, least_step}

-- ---- the marked positions

abbrev mark : (ℕ → ℕ) → ℕ → Bool
mark μ zero = true
mark μ (suc a) = opener μ a

-- a mark for 0, and one for each opener but the last position
count_mark : (μ : ℕ → ℕ) (n : ℕ) → count (mark μ) (suc n) ≡ suc (count (opener μ) n)
unfolding count
count_mark μ zero = refl
count_mark μ (suc n) = ap (tick (opener μ n)) (count_mark μ n) ∙ tick_suc (opener μ n) (count (opener μ) n)

-- the last position is no opener: so a mark for each chord, and one more
marks : (N : ℕ) (μ : ℕ → ℕ) → Involution N μ → zero < N → count (mark μ) N ≡ suc (chords μ N)
unfolding chords
marks zero μ inv h = absurd (omega arith)
marks (suc n) μ inv h =
    count_mark μ n ∙ ap suc (sym (count_out (opener μ) n (λ t. omega (arith, ltb→lt n (μ n) t, inv.bound n (lt-suc_self n)))))

marks_le : (N : ℕ) (μ : ℕ → ℕ) → Involution N μ → count (mark μ) N ≤ suc (chords μ N)
unfolding count
marks_le zero μ inv = zero-le
marks_le (suc n) μ inv = le_of_eq (marks (suc n) μ inv (omega arith))

-- one position on, by whether the circle's end is met
pub next_cases : (N m : ℕ) → m < N → ((suc m < N) × (next N m ≡ suc m)) ⊎ ((suc m ≡ N) × (next N m ≡ zero))
next_cases N m h =
    lt_or_le (suc m) N
    (λ l. inl (l, ap (λ (b : Bool). cond b (suc m) zero) (lt-ltb (suc m) N l)))
    (λ l. inr (omega arith, ap (λ (b : Bool). cond b (suc m) zero) (le-ltb (suc m) N l)))

pub next_bound : (N m : ℕ) → m < N → next N m < N
next_bound N m h = ⊎_elim (λ c. omega arith) (λ c. omega arith) (next_cases N m h)

module _ (N : ℕ) (μ : ℕ → ℕ) (inv : Involution N μ) where
  pub φ-cases : (i : ℕ) → i < N → ((suc (μ i) < N) × (φ μ N i ≡ suc (μ i))) ⊎ ((suc (μ i) ≡ N) × (φ μ N i ≡ zero))
  unfolding φ
  φ-cases i h = next_cases N (μ i) (inv.bound i h)

  -- the position before suc a on its face is the other end at a
  pub φ-before : (a : ℕ) → suc a < N → φ μ N (μ a) ≡ suc a
  φ-before a h =
      let e = inv.back a (omega arith) in ⊎_elim (λ c. omega arith) (λ c. omega arith) (φ-cases (μ a) (inv.bound a (omega arith)))

  pub μ-inj : (i j : ℕ) → i < N → j < N → μ i ≡ μ j → i ≡ j
  μ-inj i j hi hj e = sym (inv.back i hi) ∙ ap μ e ∙ inv.back j hj

  -- a permutation after the involution
  pub crossed_perm : (σ : ℕ → ℕ) → Perm N σ → Perm N (λ i. σ (μ i))
  crossed_perm σ turn = record {
    bound = λ i h. turn.bound (μ i) (inv.bound i h);
    inj = λ i j hi hj e. μ-inj i j hi hj (turn.inj (μ i) (μ j) (inv.bound i hi) (inv.bound j hj) e);
  }

  pub φ-perm : Perm N (φ μ N)
  φ-perm = record {
    bound = λ i h. ⊎_elim (λ c. omega arith) (λ c. omega arith) (φ-cases i h);
    inj = λ i j hi hj e. μ-inj i j hi hj (⊎_elim
        (λ c. ⊎_elim (λ d. omega arith) (λ d. omega arith) (φ-cases j hj))
        (λ c. ⊎_elim (λ d. omega arith) (λ d. omega arith) (φ-cases j hj))
        (φ-cases i hi));
  }

  -- the least position of i's face
  abbrev low : ℕ → ℕ
  low i = least (φ μ N) N i

  low_step : (i : ℕ) → i < N → low (φ μ N i) ≡ low i
  low_step = least_step N (φ μ N) φ-perm

  -- ---- the least positions are marked

  -- a step that does not rise ends at a marked position
  fall_marked : (i : ℕ) → i < N → φ μ N i ≤ i → T (mark μ (φ μ N i))
  fall_marked i h d = ⊎_elim
      (λ c. subst (λ (z : ℕ). T (mark μ z)) (sym c.1) (lt→ltb (μ i) (μ (μ i)) (omega (arith, inv.back i h))))
      (λ c. subst (λ (z : ℕ). T (mark μ z)) (sym c.1) tt)
      (φ-cases i h)

  least_marked : (y : ℕ) → y < N → T (is_least (φ μ N) N y) → T (mark μ y)
  least_marked zero h t = tt
  least_marked (suc a) h t =
      let own : low (suc a) ≡ suc a = eqb→eq (low (suc a)) (suc a) t in
      let same : low (suc a) ≡ low (μ a) = ap low (sym (φ-before a h)) ∙ low_step (μ a) (inv.bound a (omega arith)) in
      lt→ltb a (μ a) (omega (arith, least_le (φ μ N) N (μ a)))

  -- (A)
  pub faces_le : faces μ N ≤ suc (chords μ N)
  unfolding faces cycles
  faces_le = le_trans (count_mono (is_least (φ μ N) N) (mark μ) N least_marked) (marks_le N μ inv)

  -- ---- as many faces as marks: the chords are nested

  -- every marked position is the least of its face
  all_least : faces μ N ≡ suc (chords μ N) → (y : ℕ) → y < N → T (mark μ y) → low y ≡ y
  unfolding faces cycles
  all_least e y h t =
      eqb→eq (low y) y (count_tight (is_least (φ μ N) N) (mark μ) N least_marked (le_trans (marks_le N μ inv) (le_of_eq (sym e))) y h t)

  -- what lies between the ends of the chord at a is matched there
  abbrev Under : ℕ → Type 0
  Under a = (x : ℕ) → a < x → x < μ a → (a < μ x) × (μ x < μ a)

  module _ (all : (y : ℕ) → y < N → T (mark μ y) → low y ≡ y) where
    -- on the face that comes after the opener a, only the step from the other end falls
    rises : (a x : ℕ) → a < μ a → a < N → x < N → low x ≡ suc a → (x ≡ μ a → ⊥) → x < φ μ N x
    rises a x o ha hx e ne =
        lt_or_le x (φ μ N x) (λ r. r) (λ d.
        let own : low (φ μ N x) ≡ φ μ N x = all (φ μ N x) (φ-perm.bound x hx) (fall_marked x hx d) in
        let step : low (φ μ N x) ≡ low x = low_step x hx in
        let b : μ a < N = inv.bound a ha in
        let start : φ μ N (μ a) ≡ suc a = φ-before a (omega arith) in
        absurd (ne (φ-perm.inj x (μ a) hx b (omega arith))))

    -- what is matched from x on, below the end b of the chord around it
    abbrev Ahead : ℕ → ℕ → Type 0
    Ahead b x = (x ≤ b) × ((z : ℕ) → x ≤ z → z < b → (x ≤ μ z) × (μ z < b))

    -- one step back, from suc (μ x) to x: x itself is matched, what lies under its chord is, its other end is, and the rest is what was known
    walk_back : (b x : ℕ) → x < N → x ≤ μ x → (x < μ x → μ x < b → Under x) → Ahead b (suc (μ x)) → Ahead b x
    walk_back b x hx r inner (k, rest) = (
      omega arith,
      λ z l u.
          le_split l
          (λ (s : x ≡ z). omega (arith, ap μ s))
          (λ (s : x < z).
          tri z (μ x)
          (λ (v : z < μ x). let i = inner (omega arith) (omega arith) z s v in omega arith)
          (λ (v : z ≡ μ x). omega (arith, ap μ v, inv.back x hx))
          (λ (v : μ x < z). let i = rest z v u in omega arith)),
    )

    -- The face is walked up from x to the other end of a's chord, at most m steps. `inner` is what is known of shorter chords.
    walk : (a : ℕ) → a < N → a < μ a → ((c : ℕ) → a < c → c < N → c < μ c → μ c < μ a → Under c)
        → (m x : ℕ) → N ≤ x + m → a < x → x < N → low x ≡ suc a → Ahead (μ a) x
    walk a ha o inner zero x f l hx e = absurd (omega arith)
    walk a ha o inner (suc m) x f l hx e = elim (ℕ_discrete x (μ a)) [
      | yes q ↦ (omega arith, λ z u v. absurd (omega arith))
      | no q ↦
          let r = rises a x o ha hx e q in
          let s : (suc (μ x) < N) × (φ μ N x ≡ suc (μ x)) = ⊎_elim (λ c. c) (λ c. absurd (omega arith)) (φ-cases x hx) in
          walk_back (μ a) x hx (omega arith) (inner x l hx)
          (walk a ha o inner m (suc (μ x)) (omega arith) (omega arith) s.0 (ap low (sym s.1) ∙ low_step x hx ∙ e))
    ]

    nest : (n a : ℕ) → μ a ≤ a + n → a < N → a < μ a → Under a
    nest zero a f ha o = absurd (omega arith)
    nest (suc n) a f ha o =
        let h : suc a < N = omega (arith, inv.bound a ha) in
        (walk a ha o (λ c l hc oc k. nest n c (omega arith) hc oc) N (suc a) (omega arith) (omega arith) h (all (suc a) h (lt→ltb a (μ a) o))).1

  -- (B)
  pub nested_of_faces : faces μ N ≡ suc (chords μ N) → Nested μ N
  nested_of_faces e a ha o = nest (all_least e) (μ a) a (omega arith) ha o

  -- ---- nested chords: as many faces as marks

  under_closed : (a : ℕ) → a < N → a < μ a → Under a → (z : ℕ) → (a < z) × (z ≤ μ a) → (a < φ μ N z) × (φ μ N z ≤ μ a)
  under_closed a ha o u z (l, k) =
      let b : μ a < N = inv.bound a ha in
      le_split k
      (λ (e : z ≡ μ a). omega (arith, φ-before a (omega arith), ap (φ μ N) e))
      (λ (e : z < μ a). let i = u z l e in ⊎_elim (λ c. omega arith) (λ c. omega arith) (φ-cases z (omega arith)))

  marked_least : Nested μ N → (y : ℕ) → y < N → T (mark μ y) → T (is_least (φ μ N) N y)
  marked_least nest zero h t = eq→eqb (low zero) zero (omega (arith, least_le (φ μ N) N zero))
  marked_least nest (suc a) h t =
      let o : a < μ a = ltb→lt a (μ a) t in
      let ha : a < N = omega arith in
      let i = least_in (φ μ N) (λ z. (a < z) × (z ≤ μ a)) (under_closed a ha o (nest a ha o)) N (suc a) (omega arith) in
      eq→eqb (low (suc a)) (suc a) (omega (arith, least_le (φ μ N) N (suc a)))

  -- (C)
  pub faces_of_nested : zero < N → Nested μ N → faces μ N ≡ suc (chords μ N)
  unfolding faces cycles
  faces_of_nested h nest = le_antisymm faces_le
      (le_trans (le_of_eq (sym (marks N μ inv h))) (count_mono (mark μ) (is_least (φ μ N) N) N (marked_least nest)))

-- a diagram that is another one below N is nested if that one is
pub nested_ext : (N : ℕ) (μ ν : ℕ → ℕ) → ((i : ℕ) → i < N → μ i ≡ ν i) → ((i : ℕ) → i < N → μ i < N) → Nested ν N → Nested μ N
nested_ext N μ ν same bound nested a h l x u v =
    let ea = same a h in
    let ba = bound a h in
    let ex = same x (omega arith) in
    let k = nested a h (omega arith) x u (omega arith) in
    omega arith
