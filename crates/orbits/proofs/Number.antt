-- A permutation with one cycle numbers what it permutes: from any r the iterates of r run through all the numbers below N, each once. Assumes nothing.
--
--   one_label          one cycle has one label
--   dart, dart_bound   the i-th iterate of r
--   pos, pos_bound, dart_pos, pos_dart   its inverse
--   pos_step           the permutation is the step to the next number
use Prim.Native.Nat.{ℕ, zero, suc, pred, ◌≤◌, ◌<◌}
use native.Mathlib.Omega.{arith}
use mathlib.Core.Path.{◌≡◌, sym, ap, subst, ◌∙◌}
use mathlib.Core.Logic.{⊎_elim}
use mathlib.Core.Bool.{true}
use lib.Dec.{T}
use Rattle.model.specs.Numbers.{iter, least, is_least, cycles}
use Rattle.orbits.specs.Permutation.{Perm}
use Rattle.orbits.specs.Chord.{next}
use Rattle.orbits.proofs.Order.{eq_split, eq→eqb}
use Rattle.orbits.proofs.Tally.{count_all, except, except_in, count_except, count_inj}
use Rattle.orbits.proofs.Cycle.{least_bound, least_idem, iter_bound, iter_inj, iter_out, comes_back, same_reach, Back, On, on_iter}
use Rattle.orbits.proofs.Inverse.{inverse, inverse_bound, back_there, there_back}
use Rattle.orbits.proofs.Chord.{next_cases}

module _ (N : ℕ) (p : ℕ → ℕ) (perm : Perm N p) (single : cycles p N ≡ 1) where
  -- one cycle has one label
  pub one_label : (x y : ℕ) → x < N → y < N → least p N x ≡ least p N y
  unfolding cycles
  one_label x y hx hy = eq_split (least p N y) (least p N x) sym (λ n. absurd (
      let g = is_least p N in
      let own : (z : ℕ) → z < N → T (g (least p N z)) = λ z h. eq→eqb (least p N (least p N z)) (least p N z) (least_idem N p perm z h) in
      let one = count_except g (least p N x) N (least_bound N p perm x hx) (own x hx) in
      let two = count_except (except g (least p N x)) (least p N y) N (least_bound N p perm y hy) (except_in g (least p N x) (least p N y) (own y hy) n) in
      omega arith))

  module _ (r : ℕ) (hr : r < N) where
    abbrev pub dart : ℕ → ℕ
    dart i = iter p i r

    -- where r comes back after suc q steps, all are within the first q
    within : (q : ℕ) → Back p q r → (d : ℕ) → d < N → On p q r d
    within q back d hd = let (j, e) = same_reach N p perm r d hd (one_label r d hr hd) in subst (On p q r) e (on_iter p q r back j)

    -- so r does not come back before all N are met
    long : (q : ℕ) → Back p q r → N ≤ suc q
    long q back =
        let more = count_inj (λ i. true) (λ i. true) N (suc q) (record {
          to = λ d h t. (within q back d h).0;
          bound = λ d h t. let k = (within q back d h).1 in omega arith;
          passes = λ d h t. tt;
          inj = λ d e hd he t u f. sym (within q back d hd).2 ∙ ap dart f ∙ (within q back e he).2;
        }) in
        omega (arith, count_all N, count_all (suc q))

    -- and comes back then
    round : iter p N r ≡ r
    round = let (q, hq, back) = comes_back N p perm r hr in let e : N ≡ suc q = omega (arith, long q back) in ap dart e ∙ back

    pub dart_bound : (i : ℕ) → i < N → dart i < N
    dart_bound i h = iter_bound N p perm i r hr

    dart_inj : (i j : ℕ) → i < N → j < N → dart i ≡ dart j → i ≡ j
    dart_inj i j hi hj = iter_inj N p perm (pred N) r hr (λ q h back. omega (arith, long q back)) i j (omega arith) (omega arith)

    met : Perm N dart
    met = record { bound = dart_bound; inj = dart_inj }

    pub pos : ℕ → ℕ
    pos d = inverse N dart met d

    pub pos_bound : (d : ℕ) → d < N → pos d < N
    unfolding pos
    pos_bound = inverse_bound N dart met

    pub dart_pos : (d : ℕ) → d < N → dart (pos d) ≡ d
    unfolding pos
    dart_pos = back_there N dart met

    pub pos_dart : (i : ℕ) → i < N → pos (dart i) ≡ i
    unfolding pos
    pos_dart = there_back N dart met

    pub pos_step : (d : ℕ) → d < N → pos (p d) ≡ next N (pos d)
    unfolding iter
    pos_step d h =
        let b = pos_bound d h in
        let on : p d ≡ dart (suc (pos d)) = ap p (sym (dart_pos d h)) ∙ sym (iter_out p (pos d) r) in
        ⊎_elim
        (λ k. ap pos on ∙ pos_dart (suc (pos d)) k.0 ∙ sym k.1)
        (λ k. ap pos (on ∙ ap dart k.0 ∙ round) ∙ pos_dart zero (omega arith) ∙ sym k.1)
        (next_cases N (pos d) b)
