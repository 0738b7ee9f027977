-- Cycles are counted by any set of representatives: for a permutation p below N and a test R below N. Assumes nothing.
--
--   Meets N p R           each cycle has a number that R passes
--   Once N p R            no cycle has two
--   cycles_le_of_meets, count_le_of_once   so there are at most as many cycles, or at least as many, as R has numbers
--   cycles_of_once        both: as many
--   Onto                  t sends the numbers below M onto those below N, and what q does to what p does
--   cycles_onto           then p has at most as many cycles as q
--   cycles_conj           a renumbering keeps the number of cycles
--   cycles_ext            what p does from N on does not matter
use Prim.Native.Nat.{ℕ, ◌≤◌, ◌<◌}
use native.Mathlib.Nat.{le_antisymm}
use mathlib.Core.Path.{◌≡◌, refl, sym, ap, ◌∙◌}
use mathlib.Core.Bool.{Bool}
use lib.Dec.{T, eqb→eq}
use Rattle.model.specs.Numbers.{count, least, is_least, cycles}
use Rattle.orbits.specs.Permutation.{Perm}
use Rattle.orbits.proofs.Order.{eq→eqb}
use Rattle.orbits.proofs.Tally.{count_inj}
use Rattle.orbits.proofs.Cycle.{least_step, least_bound, least_idem, least_keeps}

-- each cycle has a number that R passes
abbrev pub Meets : (N : ℕ) → (ℕ → ℕ) → (ℕ → Bool) → Type 0
Meets N p R = (y : ℕ) → y < N → (r : ℕ) × (r < N) × T (R r) × (least p N r ≡ least p N y)

-- no cycle has two
abbrev pub Once : (N : ℕ) → (ℕ → ℕ) → (ℕ → Bool) → Type 0
Once N p R = (r s : ℕ) → r < N → s < N → T (R r) → T (R s) → least p N r ≡ least p N s → r ≡ s

module _ (N : ℕ) (p : ℕ → ℕ) (R : ℕ → Bool) where
  pub cycles_le_of_meets : Meets N p R → cycles p N ≤ count R N
  unfolding cycles
  cycles_le_of_meets meets = count_inj (is_least p N) R N N (record {
    to = λ y h t. (meets y h).0;
    bound = λ y h t. (meets y h).1;
    passes = λ y h t. (meets y h).2;
    inj = λ x y hx hy t s e.
        sym (eqb→eq (least p N x) x t) ∙ sym (meets x hx).3 ∙ ap (least p N) e ∙ (meets y hy).3 ∙ eqb→eq (least p N y) y s;
  })

  module _ (perm : Perm N p) where
    pub count_le_of_once : Once N p R → count R N ≤ cycles p N
    unfolding cycles
    count_le_of_once once = count_inj R (is_least p N) N N (record {
      to = λ r h t. least p N r;
      bound = λ r h t. least_bound N p perm r h;
      passes = λ r h t. eq→eqb (least p N (least p N r)) (least p N r) (least_idem N p perm r h);
      inj = λ r s hr hs tr ts. once r s hr hs tr ts;
    })

    pub cycles_of_once : Meets N p R → Once N p R → cycles p N ≡ count R N
    cycles_of_once meets once = le_antisymm (cycles_le_of_meets meets) (count_le_of_once once)

-- ---- renumbering

-- t sends the numbers below M onto those below N, and what q does to what p does; s picks for each number below N one that t sends to it
pub record Onto (N : ℕ) (p : ℕ → ℕ) (M : ℕ) (q : ℕ → ℕ) (t s : ℕ → ℕ) : Type 0 where
  pub t_bound : (z : ℕ) → z < M → t z < N
  pub t_step : (z : ℕ) → z < M → t (q z) ≡ p (t z)
  pub s_bound : (y : ℕ) → y < N → s y < M
  pub t_s : (y : ℕ) → y < N → t (s y) ≡ y

module _ (N : ℕ) (p : ℕ → ℕ) (perm-p : Perm N p) (M : ℕ) (q : ℕ → ℕ) (perm-q : Perm M q) where
  -- the label below N of what z is sent to depends on z's cycle alone
  label_kept : (t s : ℕ → ℕ) → Onto N p M q t s → (z : ℕ) → z < M → least p N (t (least q M z)) ≡ least p N (t z)
  label_kept t s o =
      least_keeps M q perm-q (λ z. least p N (t z)) (λ z h. ap (least p N) (o.t_step z h) ∙ least_step N p perm-p (t z) (o.t_bound z h))

  pub cycles_onto : (t s : ℕ → ℕ) → Onto N p M q t s → cycles p N ≤ cycles q M
  unfolding cycles
  cycles_onto t s o = count_inj (is_least p N) (is_least q M) N M (record {
    to = λ y h u. least q M (s y);
    bound = λ y h u. least_bound M q perm-q (s y) (o.s_bound y h);
    passes = λ y h u. eq→eqb (least q M (least q M (s y))) (least q M (s y)) (least_idem M q perm-q (s y) (o.s_bound y h));
    inj = λ x y hx hy u v e. sym (back x hx u) ∙ ap (λ (z : ℕ). least p N (t z)) e ∙ back y hy v;
  })
    where
      back : (y : ℕ) → y < N → T (is_least p N y) → least p N (t (least q M (s y))) ≡ y
      back y h u = label_kept t s o (s y) (o.s_bound y h) ∙ ap (least p N) (o.t_s y h) ∙ eqb→eq (least p N y) y u

-- a bijection t, with its inverse s, under which q does what p does: p and q have as many cycles
pub cycles_conj : (N : ℕ) (p : ℕ → ℕ) → Perm N p → (M : ℕ) (q : ℕ → ℕ) → Perm M q → (t s : ℕ → ℕ) → Onto N p M q t s
    → ((z : ℕ) → z < M → s (t z) ≡ z) → cycles p N ≡ cycles q M
cycles_conj N p perm-p M q perm-q t s o s-t = le_antisymm
    (cycles_onto N p perm-p M q perm-q t s o)
    (cycles_onto M q perm-q N p perm-p s t (record {
      t_bound = o.s_bound;
      t_step = λ y h. cc (o.t_s y h, o.t_step (s y) (o.s_bound y h), s-t (q (s y)) (perm-q.bound (s y) (o.s_bound y h)));
      s_bound = o.t_bound;
      t_s = s-t;
    }))

-- what p does from N on does not matter
pub cycles_ext : (N : ℕ) (p q : ℕ → ℕ) → Perm N p → Perm N q → ((z : ℕ) → z < N → q z ≡ p z) → cycles p N ≡ cycles q N
cycles_ext N p q perm-p perm-q h =
    cycles_conj N p perm-p N q perm-q (λ z. z) (λ z. z)
    (record { t_bound = λ z l. l; t_step = h; s_bound = λ z l. l; t_s = λ z l. refl }) (λ z l. refl)
