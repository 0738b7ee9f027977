-- The sizes of a permutation's cycles. Assumes nothing.
--
--   size_le            a cycle has no more numbers than there are
--   sizes_in, sizes_out   the next number is a label, or is not
--   length_sizes       there are as many sizes as labels
--   size_at            the size of a cycle stands where its label is in the order of labels
--   sizes_sum          the sizes add up to the number of numbers
--   size_some, size_back, size_first   a number comes back after as many steps as its cycle has numbers, and not before
--   size_is            so the first number of steps after which it is back is that size
--   size_above         and a number of steps up to which it is not back is below it
use Prim.Native.Nat.{ℕ, zero, suc, ◌+◌, ◌≤◌, ◌<◌}
use native.Mathlib.Omega.{arith}
use mathlib.Core.Path.{◌≡◌, refl, sym, ap, subst, ◌∙◌}
use mathlib.Core.Logic.{◌≢◌}
use mathlib.Core.Bool.{Bool, true, ◌||◌}
use mathlib.Core.List.{List, [], ◌∷◌, ◌++◌}
use lib.Dec.{eqb, ltb, eqb→eq, ltb→lt}
use lib.ListN.{length, get_or, length-append, get_or-append}
use lib.Seq.{get_or-append_seam}
use borrow.Author.Tests.{lt-ltb, le-ltb, eq-eqb, ne_eqb}
use Rattle.model.specs.Numbers.{count, iter, least, is_least, cycle_size, sizes_below, cycle_sizes, sum}
use Rattle.orbits.specs.Permutation.{Perm}
use Rattle.orbits.proofs.Order.{lt_or_le, tri, eq_split, lt_suc_split, eq→eqb}
use Rattle.orbits.proofs.Tally.{count_below, count_ext, count_all, count_none, count_le, count_either, count_inj}
use Rattle.orbits.proofs.Cycle.{On, on_iter, iter_inj, iter_bound, first_back, least_iter, least_bound, least_idem, same_reach}

-- ---- the list of sizes

sum_snoc : (xs : List ℕ) (x : ℕ) → sum (xs ++ (x ∷ [])) ≡ sum xs + x
unfolding sum
sum_snoc [] x = omega arith
sum_snoc (y ∷ xs) x = let ih = sum_snoc xs x in omega arith

module _ (p : ℕ → ℕ) (n : ℕ) where
  pub size_le : (x : ℕ) → cycle_size p n x ≤ n
  unfolding cycle_size
  size_le x = count_le (λ y. eqb (least p n y) (least p n x)) n

  pub sizes_in : (x : ℕ) → least p n x ≡ x → sizes_below p n (suc x) ≡ sizes_below p n x ++ (cycle_size p n x ∷ [])
  unfolding sizes_below
  sizes_in x e = rw (eq-eqb (least p n x) x e)

  pub sizes_out : (x : ℕ) → least p n x ≢ x → sizes_below p n (suc x) ≡ sizes_below p n x
  unfolding sizes_below
  sizes_out x e = rw (ne_eqb (least p n x) x e)

  pub length_sizes : (k : ℕ) → length (sizes_below p n k) ≡ count (is_least p n) k
  unfolding sizes_below count
  length_sizes zero = refl
  length_sizes (suc x) = eq_split (least p n x) x
      (λ e. rw (eq-eqb (least p n x) x e) (length-append (sizes_below p n x) (cycle_size p n x ∷ []) ∙ let ih = length_sizes x in omega arith))
      (λ e. rw (ne_eqb (least p n x) x e) (length_sizes x))

  pub size_at : (x k : ℕ) → x < k → least p n x ≡ x → get_or (sizes_below p n k) (count (is_least p n) x) 0 ≡ cycle_size p n x
  size_at x zero h own = absurd (omega arith)
  size_at x (suc k) h own = lt_suc_split h
      (λ e. rw (e, sizes_in k (rw e at own), ← length_sizes k) (get_or-append_seam (sizes_below p n k) (cycle_size p n k) [] 0))
      (λ l. eq_split (least p n k) k
      (λ e. rw (sizes_in k e)
      (get_or-append (sizes_below p n k) (cycle_size p n k ∷ []) 0 (count (is_least p n) x)
      (rw (length_sizes k) (count_below (is_least p n) x k l (eq-eqb (least p n x) x own)))
      ∙ size_at x k l own))
      (λ e. rw (sizes_out k e) (size_at x k l own)))

-- ---- a permutation

module _ (N : ℕ) (p : ℕ → ℕ) (perm : Perm N p) where
  -- the numbers whose label is below k
  abbrev label_below : ℕ → ℕ → Bool
  label_below k y = ltb (least p N y) k

  label_next : (x y : ℕ) → label_below (suc x) y ≡ label_below x y || eqb (least p N y) x
  label_next x y =
      tri (least p N y) x
      (λ l. rw (lt-ltb (least p N y) (suc x) (omega arith), lt-ltb (least p N y) x l))
      (λ e. rw (lt-ltb (least p N y) (suc x) (omega arith), le-ltb (least p N y) x (omega arith), eq-eqb (least p N y) x e))
      (λ g. rw (le-ltb (least p N y) (suc x) g, le-ltb (least p N y) x (omega arith), ne_eqb (least p N y) x (λ e. omega arith)))

  -- the numbers whose label is x: a cycle if x is a label, none if it is not
  label_in : (x : ℕ) → least p N x ≡ x → cycle_size p N x ≡ count (λ y. eqb (least p N y) x) N
  unfolding cycle_size
  label_in x own = ap (λ (l : ℕ). count (λ y. eqb (least p N y) l) N) own

  label_out : (x : ℕ) → least p N x ≢ x → count (λ y. eqb (least p N y) x) N ≡ 0
  label_out x other = count_none (λ y. eqb (least p N y) x) N (λ y h.
      ne_eqb (least p N y) x (λ e. other (ap (least p N) (sym e) ∙ least_idem N p perm y h ∙ e)))

  sum_below : (k : ℕ) → sum (sizes_below p N k) ≡ count (label_below k) N
  unfolding sum sizes_below
  sum_below zero = sym (count_none (label_below 0) N (λ y h. le-ltb (least p N y) 0 (omega arith)))
  sum_below (suc x) =
      let more = count_ext (label_below (suc x)) (λ y. label_below x y || eqb (least p N y) x) N (λ y h. label_next x y) in
      let parts = count_either (label_below x) (λ y. eqb (least p N y) x) N (λ y h t u. omega (arith, ltb→lt (least p N y) x t, eqb→eq (least p N y) x u)) in
      eq_split (least p N x) x
      (λ e. ap sum (sizes_in p N x e) ∙ sum_snoc (sizes_below p N x) (cycle_size p N x) ∙ omega (arith, sum_below x, label_in x e, more, parts))
      (λ e. ap sum (sizes_out p N x e) ∙ omega (arith, sum_below x, label_out x e, more, parts))

  pub sizes_sum : sum (cycle_sizes p N) ≡ N
  unfolding cycle_sizes
  sizes_sum = sum_below N ∙ count_ext (label_below N) (λ y. true) N (λ y h. lt-ltb (least p N y) N (least_bound N p perm y h)) ∙ count_all N

  -- ---- the cycle of x, walked round

  module _ (x : ℕ) (h : x < N) where
    abbrev in_cycle : ℕ → Bool
    in_cycle y = eqb (least p N y) (least p N x)

    -- x is back after suc q steps for the first time: what it runs through is its cycle
    size_period : cycle_size p N x ≡ suc (first_back N p perm x h).0
    unfolding cycle_size
    size_period =
        let (q, low, back, never) = first_back N p perm x h in
        let on : (y : ℕ) → y < N → least p N y ≡ least p N x → On p q x y =
        λ y l e. let (j, e') = same_reach N p perm x y l (sym e) in subst (On p q x) e' (on_iter p q x back j) in
        let few = count_inj in_cycle (λ i. true) N (suc q) (record {
          to = λ y l t. (on y l (eqb→eq (least p N y) (least p N x) t)).0;
          bound = λ y l t. omega (arith, (on y l (eqb→eq (least p N y) (least p N x) t)).1);
          passes = λ y l t. tt;
          inj = λ y z hy hz t u e.
              sym (on y hy (eqb→eq (least p N y) (least p N x) t)).2 ∙ ap (λ (r : ℕ). iter p r x) e ∙ (on z hz (eqb→eq (least p N z) (least p N x) u)).2;
        }) in
        let many = count_inj (λ i. true) in_cycle (suc q) N (record {
          to = λ i l t. iter p i x;
          bound = λ i l t. iter_bound N p perm i x h;
          passes = λ i l t. eq→eqb (least p N (iter p i x)) (least p N x) (least_iter N p perm i x h);
          inj = λ i j hi hj t u. iter_inj N p perm q x h never i j hi hj;
        }) in
        omega (arith, count_all (suc q))

    pub size_some : zero < cycle_size p N x
    size_some = omega (arith, size_period)

    pub size_back : iter p (cycle_size p N x) x ≡ x
    size_back = ap (λ (j : ℕ). iter p j x) size_period ∙ (first_back N p perm x h).2

    pub size_first : (j : ℕ) → zero < j → j < cycle_size p N x → iter p j x ≢ x
    size_first zero z l e = absurd (omega arith)
    size_first (suc r) z l e = (first_back N p perm x h).3 r (omega (arith, size_period)) e

    pub size_is : (k : ℕ) → zero < k → iter p k x ≡ x → ((j : ℕ) → zero < j → j < k → iter p j x ≢ x) → k ≡ cycle_size p N x
    size_is k some back first =
        tri k (cycle_size p N x) (λ l. absurd (size_first k some l back)) (λ e. e) (λ g. absurd (first (cycle_size p N x) size_some g size_back))

    pub size_above : (k : ℕ) → ((j : ℕ) → zero < j → j ≤ k → iter p j x ≢ x) → k < cycle_size p N x
    size_above k first = lt_or_le k (cycle_size p N x) (λ l. l) (λ g. absurd (first (cycle_size p N x) size_some g size_back))
