-- The marks that spread from dart 0: after as many rounds as there are darts they are closed, for a round that marks nothing new finds them so, and
-- each other round marks one more dart.
--
--   reached_zero          dart 0 is marked
--   reached_closed        the darts marked are a closed set
--   reached_least         every closed set that has dart 0 has them
use Prim.Native.Nat.{ℕ, zero, suc, ◌+◌, ◌≤◌, ◌<◌}
use native.Mathlib.Nat.{le_refl, le_of_lt}
use native.Mathlib.Omega.{arith}
use mathlib.Core.Path.{◌≡◌, refl, sym, subst, ◌∙◌}
use mathlib.Core.Logic.{◌⊎◌, inl, inr, ⊎_elim}
use mathlib.Core.Bool.{Bool, true, false, cond}
use mathlib.Core.List.{List}
use lib.Dec.{eqb}
use lib.ListN.{length, get_or, set, replicate, length-set, length-replicate}
use borrow.Author.Tests.{eqb-true, eqb-false}
use Rattle.model.specs.Numbers.{count}
use Rattle.model.specs.Map.{opposite, next, spread, spreads, reached}
use Rattle.orbits.specs.Permutation.{Perm}
use Rattle.orbits.specs.Chord.{Involution}
use Rattle.orbits.proofs.Order.{lt_or_le, lt_suc_split}
use Rattle.orbits.proofs.Tally.{count_le, count_tight}
use Rattle.traversal.specs.Reach.{Closed}
use Rattle.traversal.proofs.Marks.{Marked, is_marked, marked_is, is_marked_lem, marks_some, zeros_at, set_here, set_still, set_in}

-- ---- one round: every marked dart below n marks its opposite and its entry

module _ (rot : List ℕ) where
  abbrev N : ℕ
  N = length rot

  -- the marks that dart d puts, where it is marked (b: it is not)
  abbrev put : Bool → ℕ → List ℕ → List ℕ
  put b d m = cond b m (set (set m (opposite d) 1) (next rot d) 1)

  put_length : (b : Bool) (d : ℕ) (m : List ℕ) → length (put b d m) ≡ length m
  put_length true d m = refl
  put_length false d m = simp length-set

  put_still : (b : Bool) (d : ℕ) (m : List ℕ) (x : ℕ) → Marked m x → Marked (put b d m) x
  put_still true d m x s = s
  put_still false d m x s = set_still (set m (opposite d) 1) (next rot d) x (set_still m (opposite d) x s)

  spread_length : (n : ℕ) (m : List ℕ) → length (spread rot n m) ≡ length m
  unfolding spread
  spread_length zero m = refl
  spread_length (suc d) m = put_length (eqb (get_or (spread rot d m) d 0) 0) d (spread rot d m) ∙ spread_length d m

  spread_still : (n : ℕ) (m : List ℕ) (x : ℕ) → Marked m x → Marked (spread rot n m) x
  unfolding spread
  spread_still zero m x s = s
  spread_still (suc d) m x s = put_still (eqb (get_or (spread rot d m) d 0) 0) d (spread rot d m) x (spread_still d m x s)

  -- nothing is marked outside a closed set
  put_in : (S : ℕ → Type 0) → Closed rot S → (d : ℕ) → d < N → (m : List ℕ) → ((x : ℕ) → Marked m x → S x)
      → (b : Bool) → eqb (get_or m d 0) 0 ≡ b → (x : ℕ) → Marked (put b d m) x → S x
  put_in S c d h m all true e = all
  put_in S c d h m all false e =
      let s : S d = all d (eqb-false (get_or m d 0) 0 e) in
      set_in (set m (opposite d) 1) (next rot d) S (c.turn d h s) (set_in m (opposite d) S (c.across d h s) all)

  spread_in : (S : ℕ → Type 0) → Closed rot S → (n : ℕ) → n ≤ N → (m : List ℕ) → ((x : ℕ) → Marked m x → S x)
      → (x : ℕ) → Marked (spread rot n m) x → S x
  unfolding spread
  spread_in S c zero h m all = all
  spread_in S c (suc d) h m all = put_in S c d h (spread rot d m) (spread_in S c d (le_of_lt h) m all) (eqb (get_or (spread rot d m) d 0) 0) refl

  spreads_still : (k : ℕ) (m : List ℕ) (x : ℕ) → Marked m x → Marked (spreads rot k m) x
  unfolding spreads
  spreads_still zero m x s = s
  spreads_still (suc k) m x s = spreads_still k (spread rot N m) x (spread_still N m x s)

  spreads_in : (S : ℕ → Type 0) → Closed rot S → (k : ℕ) (m : List ℕ) → ((x : ℕ) → Marked m x → S x) → (x : ℕ) → Marked (spreads rot k m) x → S x
  unfolding spreads
  spreads_in S c zero m all = all
  spreads_in S c (suc k) m all = spreads_in S c k (spread rot N m) (spread_in S c N (le_refl N) m all)

  -- a closed set of marks stays as it is
  closed_stays : (k : ℕ) (m : List ℕ) → Closed rot (Marked m) → Closed rot (Marked (spreads rot k m))
  closed_stays k m c =
      let was : (x : ℕ) → Marked (spreads rot k m) x → Marked m x = spreads_in (Marked m) c k m (λ x s. s) in
      record {
        across = λ d h s. spreads_still k m (opposite d) (c.across d h (was d s));
        turn = λ d h s. spreads_still k m (next rot d) (c.turn d h (was d s));
      }

  -- ---- a round that marks nothing new finds a closed set

  module _ (perm : Perm N (next rot)) (cross : Involution N opposite) where
    put_out : (d : ℕ) → d < N → (m : List ℕ) → length m ≡ N → (b : Bool) → eqb (get_or m d 0) 0 ≡ b → Marked m d
        → Marked (put b d m) (opposite d) × Marked (put b d m) (next rot d)
    put_out d h m e true q s = absurd (s (eqb-true (get_or m d 0) 0 q))
    put_out d h m e false q s = (
      set_still (set m (opposite d) 1) (next rot d) (opposite d)
          (set_here m (opposite d) (subst (λ (n : ℕ). opposite d < n) (sym e) (cross.bound d h))),
      set_here (set m (opposite d) 1) (next rot d) (simp length-set (subst (λ (n : ℕ). next rot d < n) (sym e) (perm.bound d h))),
    )

    spread_out : (n : ℕ) → n ≤ N → (m : List ℕ) → length m ≡ N → (d : ℕ) → d < n → Marked m d
        → Marked (spread rot n m) (opposite d) × Marked (spread rot n m) (next rot d)
    unfolding spread
    spread_out zero h m e d g s = absurd (omega arith)
    spread_out (suc n) h m e d g s =
        let b = eqb (get_or (spread rot n m) n 0) 0 in
        lt_suc_split g
        (λ q. subst (λ (x : ℕ). Marked (put b n (spread rot n m)) (opposite x) × Marked (put b n (spread rot n m)) (next rot x)) (sym q)
        (put_out n h (spread rot n m) (spread_length n m ∙ e) b refl (subst (Marked (spread rot n m)) q (spread_still n m d s))))
        (λ l. let (u, v) = spread_out n (le_of_lt h) m e d l s in
        (put_still b n (spread rot n m) (opposite d) u, put_still b n (spread rot n m) (next rot d) v))

    abbrev size : List ℕ → ℕ
    size m = count (is_marked m) N

    stable : (m : List ℕ) → length m ≡ N → size (spread rot N m) ≤ size m → Closed rot (Marked m)
    stable m e h = record {
      across = λ d g s. was (opposite d) (cross.bound d g) (spread_out N (le_refl N) m e d g s).0;
      turn = λ d g s. was (next rot d) (perm.bound d g) (spread_out N (le_refl N) m e d g s).1;
    }
      where
        was : (x : ℕ) → x < N → Marked (spread rot N m) x → Marked m x
        was x g s = is_marked_lem m x (count_tight (is_marked m) (is_marked (spread rot N m)) N
            (λ i q t. marked_is (spread rot N m) i (spread_still N m i (is_marked_lem m i t))) h x g (marked_is (spread rot N m) x s))

    settle : (k : ℕ) (m : List ℕ) → length m ≡ N → Closed rot (Marked (spreads rot k m)) ⊎ (k + size m ≤ size (spreads rot k m))
    unfolding spreads
    settle zero m e = inr (omega arith)
    settle (suc k) m e = lt_or_le (size m) (size (spread rot N m))
        (λ more. ⊎_elim inl (λ h. inr (omega arith)) (settle k (spread rot N m) (spread_length N m ∙ e)))
        (λ same. inl (closed_stays (suc k) m (stable m e same)))

    -- ---- the darts reached

    module _ (h : 0 < N) where
      abbrev from : List ℕ
      from = set (replicate N 0) 0 1

      from_zero : Marked from 0
      from_zero = set_here (replicate N 0) 0 (simp length-replicate h)

      pub reached_zero : Marked (reached rot) 0
      unfolding reached
      reached_zero = spreads_still N from 0 from_zero

      pub reached_closed : Closed rot (Marked (reached rot))
      unfolding reached
      reached_closed = ⊎_elim (λ c. c)
          (λ g. absurd (omega (arith, marks_some from N 0 h from_zero, count_le (is_marked (reached rot)) N)))
          (settle N from (simp (length-set, length-replicate)))

      pub reached_least : (S : ℕ → Type 0) → Closed rot S → S 0 → (x : ℕ) → Marked (reached rot) x → S x
      unfolding reached
      reached_least S c s =
          spreads_in S c N from (set_in (replicate N 0) 0 S s (λ x k. absurd (k (zeros_at N x))))
