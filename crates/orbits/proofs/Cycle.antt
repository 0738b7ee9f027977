-- `least p N` labels the cycles of a permutation p below N. The theorem on chords needs only the first four facts of it. Assumes nothing.
--
--   least_le           the label of x is at most x
--   least_in           a set that p maps into itself and that has x has the label of x
--   least_step, least_iter   p keeps the label, and so do its iterates
--   least_idem         a label is its own label
--   least_bound        a label is below N
--   least_keeps        what p keeps has one value at x and at its label
--   least_ext, perm_ext   a function that agrees with p below N has the same labels, and is a permutation
--   iter_out, iter_bound, iter_inj   iterates: the last step, their bound, different ones before the period
--   iter_fixed         a fixed point has itself only
--   Back, On, on_iter  x is back after q + 1 steps; what it then runs through, its iterates
--   first_back, comes_back   every number comes back; when it first does
--   Reach, same_reach  two numbers with one label reach each other
use Prim.Native.Nat.{ℕ, zero, suc, min, ◌≤◌, ◌<◌, zero-le}
use native.Mathlib.Nat.{le_refl, le_trans, le_antisymm, le_of_suc-le-suc, le_of_lt, min-le_left, min-le_right}
use native.Mathlib.Decide.{ℕ_discrete}
use native.Mathlib.Omega.{arith}
use mathlib.Core.Path.{◌≡◌, refl, sym, ap, subst, ◌∙◌}
use mathlib.Core.Logic.{⊎_elim}
use mathlib.Core.Bool.{true}
use Rattle.model.specs.Numbers.{count, iter, least}
use Rattle.orbits.specs.Permutation.{Perm}
use Rattle.orbits.proofs.Tally.{count_inj}
use Rattle.orbits.proofs.Order.{le_split, min_either, find_below}

-- ---- any function: what `least` and `iter` are

module _ (p : ℕ → ℕ) where
  -- an iterate, from the other end
  pub iter_out : (j x : ℕ) → iter p (suc j) x ≡ p (iter p j x)
  unfolding iter
  iter_out zero x = refl
  iter_out (suc j) x = iter_out j (p x)

  pub iter_fixed : (j x : ℕ) → p x ≡ x → iter p j x ≡ x
  unfolding iter
  iter_fixed zero x e = refl
  iter_fixed (suc j) x e = ap (iter p j) e ∙ iter_fixed j x e

  pub least_le : (n x : ℕ) → least p n x ≤ x
  unfolding least
  least_le zero x = le_refl x
  least_le (suc n) x = min-le_left x (least p n (p x))

  least_le_iter : (n j x : ℕ) → j ≤ n → least p n x ≤ iter p j x
  unfolding least iter
  least_le_iter n zero x h = least_le n x
  least_le_iter zero (suc j) x h = absurd (omega arith)
  least_le_iter (suc n) (suc j) x h = le_trans (min-le_right x (least p n (p x))) (least_le_iter n j (p x) (le_of_suc-le-suc h))

  pub least_in : (S : ℕ → Type 0) → ((z : ℕ) → S z → S (p z)) → (n x : ℕ) → S x → S (least p n x)
  unfolding least
  least_in S closed zero x s = s
  least_in S closed (suc n) x s = min_either S x (least p n (p x)) s (least_in S closed n (p x) (closed x s))

  -- ---- a cycle of known length: x comes back after suc q steps

  abbrev pub Back : ℕ → ℕ → Type 0
  Back q x = iter p (suc q) x ≡ x

  -- z is one of the suc q numbers of the cycle of x
  abbrev pub On : ℕ → ℕ → ℕ → Type 0
  On q x z = (r : ℕ) × (r ≤ q) × (iter p r x ≡ z)

  on_self : (q x : ℕ) → On q x x
  unfolding iter
  on_self q x = (zero, zero-le, refl)

  on_step : (q x : ℕ) → Back q x → (z : ℕ) → On q x z → On q x (p z)
  unfolding iter
  on_step q x back z (r, h, e) =
      le_split h
      (λ (last : r ≡ q). (zero, zero-le, sym back ∙ iter_out q x ∙ ap (λ (k : ℕ). p (iter p k x)) (sym last) ∙ ap p e))
      (λ more. (suc r, more, iter_out r x ∙ ap p e))

  pub on_iter : (q x : ℕ) → Back q x → (j : ℕ) → On q x (iter p j x)
  unfolding iter
  on_iter q x back zero = on_self q x
  on_iter q x back (suc j) = subst (On q x) (sym (iter_out j x)) (on_step q x back (iter p j x) (on_iter q x back j))

  -- the image of x comes back too, and x is on its cycle
  back_step : (q x : ℕ) → Back q x → Back q (p x)
  unfolding iter
  back_step q x back = iter_out q (p x) ∙ ap p back

  on_image : (q x : ℕ) → Back q x → On q (p x) x
  unfolding iter
  on_image q x back = (q, le_refl q, back)

  on_least : (n q x z : ℕ) → q ≤ n → On q x z → least p n x ≤ z
  on_least n q x z h (r, k, e) = subst (λ (w : ℕ). least p n x ≤ w) e (least_le_iter n r x (le_trans k h))

  least_back : (n q x : ℕ) → q ≤ n → Back q x → least p n (p x) ≡ least p n x
  least_back n q x h back = le_antisymm
      (on_least n q (p x) (least p n x) h (least_in (On q (p x)) (on_step q (p x) (back_step q x back)) n x (on_image q x back)))
      (on_least n q x (least p n (p x)) h (least_in (On q x) (on_step q x back) n (p x) (on_step q x back x (on_self q x))))

-- ---- a permutation: each number comes back within N steps

module _ (N : ℕ) (p : ℕ → ℕ) (perm : Perm N p) where
  pub iter_bound : (j x : ℕ) → x < N → iter p j x < N
  unfolding iter
  iter_bound zero x h = h
  iter_bound (suc j) x h = iter_bound j (p x) (perm.bound x h)

  -- a number that does not come back within B steps has no two equal iterates up to there
  pub iter_inj : (B x : ℕ) → x < N → ((q : ℕ) → q < B → Back p q x → ⊥) → (i j : ℕ) → i < suc B → j < suc B → iter p i x ≡ iter p j x → i ≡ j
  unfolding iter
  iter_inj B x h never zero zero hi hj e = refl
  iter_inj B x h never zero (suc j) hi hj e = absurd (never j (le_of_suc-le-suc hj) (sym e))
  iter_inj B x h never (suc i) zero hi hj e = absurd (never i (le_of_suc-le-suc hi) e)
  iter_inj B x h never (suc i) (suc j) hi hj e =
      ap suc (iter_inj B x h never i j (omega arith) (omega arith)
      (perm.inj (iter p i x) (iter p j x) (iter_bound i x h) (iter_bound j x h) (sym (iter_out p i x) ∙ e ∙ iter_out p j x)))

  -- so it would have more than N iterates below N
  pub first_back : (x : ℕ) → x < N → (q : ℕ) × (q < N) × Back p q x × ((r : ℕ) → r < q → Back p r x → ⊥)
  unfolding count
  first_back x h = ⊎_elim (λ f. f) (λ never.
      let more = count_inj (λ i. true) (λ i. true) (suc N) N (record {
        to = λ i hi t. iter p i x;
        bound = λ i hi t. iter_bound i x h;
        passes = λ i hi t. tt;
        inj = λ i j hi hj t s. iter_inj N x h never i j hi hj;
      }) in
      absurd (omega arith))
      (find_below (λ q. Back p q x) (λ q. ℕ_discrete (iter p (suc q) x) x) N)

  pub comes_back : (x : ℕ) → x < N → (q : ℕ) × (q < N) × Back p q x
  comes_back x h = let (q, hq, back, never) = first_back x h in (q, hq, back)

  pub least_step : (x : ℕ) → x < N → least p N (p x) ≡ least p N x
  least_step x h = let (q, hq, back) = comes_back x h in least_back p N q x (le_of_lt hq) back

  pub least_iter : (j x : ℕ) → x < N → least p N (iter p j x) ≡ least p N x
  unfolding iter
  least_iter zero x h = refl
  least_iter (suc j) x h = least_iter j (p x) (perm.bound x h) ∙ least_step x h

  -- the label of x is below N and is its own label
  pub least_bound : (x : ℕ) → x < N → least p N x < N
  least_bound x h = omega (arith, least_le p N x)

  -- a function that agrees with p below N has the same labels there
  pub least_ext : (q : ℕ → ℕ) → ((z : ℕ) → z < N → q z ≡ p z) → (n x : ℕ) → x < N → least q n x ≡ least p n x
  unfolding least
  least_ext q same zero x h = refl
  least_ext q same (suc n) x h = ap (λ (y : ℕ). min x (least q n y)) (same x h) ∙ ap (min x) (least_ext q same n (p x) (perm.bound x h))

  pub perm_ext : (q : ℕ → ℕ) → ((z : ℕ) → z < N → q z ≡ p z) → Perm N q
  perm_ext q same = record {
    bound = λ i h. subst (λ (y : ℕ). y < N) (sym (same i h)) (perm.bound i h);
    inj = λ i j hi hj e. perm.inj i j hi hj (sym (same i hi) ∙ e ∙ same j hj);
  }

  -- a function that p keeps has the same value at x and at its label
  pub least_keeps : (g : ℕ → ℕ) → ((z : ℕ) → z < N → g (p z) ≡ g z) → (x : ℕ) → x < N → g (least p N x) ≡ g x
  least_keeps g keeps x h = (least_in p (λ z. (z < N) × (g z ≡ g x)) (λ z s. (perm.bound z s.0, keeps z s.0 ∙ s.1)) N x (h, refl)).1

  pub least_idem : (x : ℕ) → x < N → least p N (least p N x) ≡ least p N x
  least_idem = least_keeps (least p N) least_step

  -- ---- two numbers of one cycle reach each other

  abbrev pub Reach : ℕ → ℕ → Type 0
  Reach x z = (j : ℕ) × (iter p j x ≡ z)

  reach_self : (x : ℕ) → Reach x x
  unfolding iter
  reach_self x = (zero, refl)

  -- one step more at the front
  reach_from : (x z : ℕ) → Reach (p x) z → Reach x z
  unfolding iter
  reach_from x z (j, e) = (suc j, e)

  -- one step fewer at the front: a number that has come to its goal goes round once more
  reach_on : (x z : ℕ) → z < N → Reach x z → Reach (p x) z
  unfolding iter
  reach_on x z h (zero, e) = let (q, hq, back) = comes_back z h in (q, ap (λ (y : ℕ). iter p q (p y)) e ∙ back)
  reach_on x z h (suc j, e) = (j, e)

  reach_trans : (x y z : ℕ) → Reach x y → Reach y z → Reach x z
  unfolding iter
  reach_trans x y z (zero, e) r = subst (λ (w : ℕ). Reach w z) (sym e) r
  reach_trans x y z (suc j, e) r = reach_from x z (reach_trans (p x) y z (j, e) r)

  reach_least : (x : ℕ) → Reach x (least p N x)
  unfolding iter
  reach_least x = least_in p (Reach x) (λ z s. (suc s.0, iter_out p s.0 x ∙ ap p s.1)) N x (reach_self x)

  least_reach : (x : ℕ) → x < N → Reach (least p N x) x
  least_reach x h = least_in p (λ z. Reach z x) (λ z s. reach_on z x h s) N x (reach_self x)

  pub same_reach : (x y : ℕ) → y < N → least p N x ≡ least p N y → Reach x y
  same_reach x y h e = reach_trans x (least p N x) y (reach_least x) (subst (λ (w : ℕ). Reach w y) (sym e) (least_reach y h))
