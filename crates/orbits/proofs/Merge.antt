-- Exchanging two numbers of different cycles before p joins the two cycles into one. Assumes nothing.
--
--   swap_a, swap_b, swap_other, swap_split   the exchange, and its three cases
--   p', swap_perm      p after the exchange is a permutation
--   L, L'              the labels before and after
--   joined, together   a and b come into one cycle, and what was together stays so
--   merge              there is one cycle fewer
use Prim.Native.Nat.{ℕ, zero, suc, ◌<◌}
use native.Mathlib.Omega.{arith}
use mathlib.Core.Path.{◌≡◌, refl, sym, ap, ap₂, ◌∙◌}
use mathlib.Core.Bool.{Bool, cond}
use lib.Dec.{T, eqb, eqb→eq}
use borrow.Author.Tests.{eq-eqb, ne_eqb}
use Rattle.model.specs.Numbers.{iter, least, is_least, cycles}
use Rattle.orbits.specs.Permutation.{Perm, swap}
use Rattle.orbits.proofs.Order.{eq_split, eq→eqb}
use Rattle.orbits.proofs.Tally.{except, except_in, except_l, except_ne, count_except}
use Rattle.orbits.proofs.Cycle.{least_step, least_bound, least_idem, least_keeps, same_reach}
use Rattle.orbits.proofs.Transversal.{Meets, Once, cycles_of_once}

-- ---- the exchange

module _ (a b : ℕ) where
  pub swap_a : swap a b a ≡ b
  swap_a = ap (λ (c : Bool). cond c b (cond (eqb a b) a a)) (eq-eqb a a refl)

  pub swap_b : swap a b b ≡ a
  swap_b = eq_split b a
      (λ e. ap (λ (c : Bool). cond c b (cond (eqb b b) a b)) (eq-eqb b a e) ∙ e)
      (λ n. ap₂ (λ (c d : Bool). cond c b (cond d a b)) (ne_eqb b a n) (eq-eqb b b refl))

  pub swap_other : (x : ℕ) → (x ≡ a → ⊥) → (x ≡ b → ⊥) → swap a b x ≡ x
  swap_other x n k = ap₂ (λ (c d : Bool). cond c b (cond d a x)) (ne_eqb x a n) (ne_eqb x b k)

  -- the three places where x can stand
  pub swap_split : {C : Type 0} (x : ℕ) → (x ≡ a → C) → (x ≡ b → C) → ((x ≡ a → ⊥) → (x ≡ b → ⊥) → swap a b x ≡ x → C) → C
  swap_split x u v k = eq_split x a u (λ n. eq_split x b v (λ l. k n l (swap_other x n l)))

  swap_back : (x : ℕ) → swap a b (swap a b x) ≡ x
  swap_back x =
      swap_split x
      (λ e. ap (λ (y : ℕ). swap a b (swap a b y)) e ∙ ap (swap a b) swap_a ∙ swap_b ∙ sym e)
      (λ e. ap (λ (y : ℕ). swap a b (swap a b y)) e ∙ ap (swap a b) swap_b ∙ swap_a ∙ sym e)
      (λ n k e. ap (swap a b) e ∙ e)

module _ (N : ℕ) (p : ℕ → ℕ) (perm : Perm N p) (a b : ℕ) (ha : a < N) (hb : b < N) where
  abbrev pub p' : ℕ → ℕ
  p' x = p (swap a b x)

  swap_bound : (x : ℕ) → x < N → swap a b x < N
  swap_bound x h =
      swap_split a b x (λ e. omega (arith, ap (swap a b) e, swap_a a b)) (λ e. omega (arith, ap (swap a b) e, swap_b a b)) (λ n k e. omega arith)

  pub swap_perm : Perm N p'
  swap_perm = record {
    bound = λ x h. perm.bound (swap a b x) (swap_bound x h);
    inj = λ x y hx hy e.
        sym (swap_back a b x) ∙ ap (swap a b) (perm.inj (swap a b x) (swap a b y) (swap_bound x hx) (swap_bound y hy) e) ∙ swap_back a b y;
  }

  module _ (apart : least p N a ≡ least p N b → ⊥) where
    abbrev pub L : ℕ → ℕ
    L x = least p N x

    abbrev pub L' : ℕ → ℕ
    L' x = least p' N x

    -- ---- what p puts into one cycle p' does too

    -- Let z be a, or b, or in neither cycle. On z's cycle p' goes as p does, up to z.
    along : (z : ℕ) → ((x : ℕ) → x < N → L x ≡ L z → (x ≡ z → ⊥) → swap a b x ≡ x)
        → (j x : ℕ) → x < N → L x ≡ L z → iter p j x ≡ z → L' x ≡ L' z
    unfolding iter
    along z safe zero x h l e = ap L' e
    along z safe (suc j) x h l e =
        eq_split x z (ap L') (λ n.
        sym (least_step N p' swap_perm x h) ∙ ap (λ (y : ℕ). L' (p y)) (safe x h l n)
        ∙ along z safe j (p x) (perm.bound x h) (least_step N p perm x h ∙ l) e)

    onto : (z : ℕ) → z < N → ((x : ℕ) → x < N → L x ≡ L z → (x ≡ z → ⊥) → swap a b x ≡ x) → (x : ℕ) → x < N → L x ≡ L z → L' x ≡ L' z
    onto z hz safe x h l = let (j, e) = same_reach N p perm x z hz l in along z safe j x h l e

    onto_a : (x : ℕ) → x < N → L x ≡ L a → L' x ≡ L' a
    onto_a = onto a ha (λ x h l n. swap_other a b x n (λ e. apart (sym l ∙ ap L e)))

    onto_b : (x : ℕ) → x < N → L x ≡ L b → L' x ≡ L' b
    onto_b = onto b hb (λ x h l n. swap_other a b x (λ e. apart (sym (ap L e) ∙ l)) n)

    -- a steps into b's cycle
    pub joined : L' a ≡ L' b
    joined =
        sym (least_step N p' swap_perm a ha) ∙ ap (λ (y : ℕ). L' (p y)) (swap_a a b)
        ∙ onto_b (p b) (perm.bound b hb) (least_step N p perm b hb)

    pub together : (x y : ℕ) → x < N → y < N → L x ≡ L y → L' x ≡ L' y
    together x y hx hy e =
        eq_split (L x) (L a) (λ q. onto_a x hx q ∙ sym (onto_a y hy (sym e ∙ q))) (λ n.
        eq_split (L x) (L b) (λ q. onto_b x hx q ∙ sym (onto_b y hy (sym e ∙ q))) (λ k.
        onto y hy (λ z hz l m. swap_other a b z (λ q. n (e ∙ sym l ∙ ap L q)) (λ q. k (e ∙ sym l ∙ ap L q))) x hx e))

    -- ---- the labels of p, with a's for b's, are kept by p'

    abbrev M : ℕ → ℕ
    M x = cond (eqb (L x) (L b)) (L a) (L x)

    M-b : (x : ℕ) → L x ≡ L b → M x ≡ L a
    M-b x e = ap (λ (c : Bool). cond c (L a) (L x)) (eq-eqb (L x) (L b) e)

    M-other : (x : ℕ) → (L x ≡ L b → ⊥) → M x ≡ L x
    M-other x n = ap (λ (c : Bool). cond c (L a) (L x)) (ne_eqb (L x) (L b) n)

    M-ext : (x y : ℕ) → L x ≡ L y → M x ≡ M y
    M-ext x y e = ap (λ (l : ℕ). cond (eqb l (L b)) (L a) l) e

    M-step : (x : ℕ) → x < N → M (p' x) ≡ M x
    M-step x h =
        swap_split a b x
        (λ e. ap (λ (y : ℕ). M (p (swap a b y))) e ∙ ap (λ (y : ℕ). M (p y)) (swap_a a b) ∙ M-b (p b) (least_step N p perm b hb)
        ∙ sym (M-other a apart) ∙ ap M (sym e))
        (λ e. ap (λ (y : ℕ). M (p (swap a b y))) e ∙ ap (λ (y : ℕ). M (p y)) (swap_b a b) ∙ M-ext (p a) a (least_step N p perm a ha)
        ∙ M-other a apart ∙ sym (M-b b refl) ∙ ap M (sym e))
        (λ n k e. ap (λ (y : ℕ). M (p y)) e ∙ M-ext (p x) x (least_step N p perm x h))

    -- ---- the least numbers of p's cycles, without that of b's, meet each cycle of p' once

    abbrev R : ℕ → Bool
    R = except (is_least p N) (L b)

    label_in : (y : ℕ) → y < N → (L y ≡ L b → ⊥) → T (R (L y))
    label_in y h n = except_in (is_least p N) (L b) (L y) (eq→eqb (L (L y)) (L y) (least_idem N p perm y h)) n

    meets : Meets N p' R
    meets y h = eq_split (L y) (L b)
        (λ e. (
          L a,
          least_bound N p perm a ha,
          label_in a ha apart,
          together (L a) a (least_bound N p perm a ha) ha (least_idem N p perm a ha) ∙ joined ∙ sym (onto_b y h e),
        ))
        (λ n. (L y, least_bound N p perm y h, label_in y h n, together (L y) y (least_bound N p perm y h) h (least_idem N p perm y h)))

    M-own : (r : ℕ) → T (R r) → M r ≡ r
    M-own r t =
        let e : L r ≡ r = eqb→eq (L r) r (except_l (is_least p N) (L b) r t) in
        M-other r (λ q. except_ne (is_least p N) (L b) r t (sym e ∙ q)) ∙ e

    once : Once N p' R
    once r s hr hs tr ts e =
        sym (M-own r tr) ∙ sym (least_keeps N p' swap_perm M M-step r hr) ∙ ap M e ∙ least_keeps N p' swap_perm M M-step s hs ∙ M-own s ts

    pub merge : suc (cycles p' N) ≡ cycles p N
    unfolding cycles
    merge =
        ap suc (cycles_of_once N p' R swap_perm meets once)
        ∙ count_except (is_least p N) (L b) N (least_bound N p perm b hb) (eq→eqb (L (L b)) (L b) (least_idem N p perm b hb))
