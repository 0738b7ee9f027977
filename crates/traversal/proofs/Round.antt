-- The walk comes back to the root, and then has met exactly the darts of the vertices that it has seen, each once.
--
--   Round                 the walk's first return: after step `last`, which is below the dart count
--   round                 there is one
--   different             the darts met are pairwise different
--   all_seen              every dart of a vertex seen is met
--   met_across, met_turn  the opposite of a dart met is met, and so is the entry at it
--   pair                  two opposite darts: down and then up, or first and then second
use Prim.Native.Nat.{ℕ, zero, suc, ◌<◌}
use native.Mathlib.Nat.{le_of_lt, le_refl, le_step, le_of_suc-le-suc}
use native.Mathlib.Omega.{arith}
use mathlib.Core.Path.{◌≡◌, sym, ap, ◌∙◌}
use mathlib.Core.Logic.{◌≢◌, ◌⊎◌, inl, inr, ⊎_elim}
use mathlib.Core.List.{List}
use lib.ListN.{length}
use Rattle.model.specs.Map.{opposite, next}
use Rattle.model.specs.Traversal.{Letter, down, up, first, second, code}
use Rattle.model.proofs.Opposite.{opposite_opposite}
use Rattle.orbits.specs.Permutation.{Perm}
use Rattle.orbits.specs.Chord.{Involution}
use Rattle.orbits.proofs.Order.{eq_split, lt_suc_split}
use Rattle.orbits.proofs.Cycle.{comes_back, same_reach, Back, on_iter}
use Rattle.traversal.specs.Steps.{dart, letter_after, mark, seen_mark}
use Rattle.traversal.proofs.Steps.{Case, new, old, back, noted, case, dart_bound, across_bound, mark_met, seen_here, seen_across, seen_turn}
use Rattle.traversal.proofs.Follow.{tour, perm, Away, Followed, follows, dart_iter, apart}
use Rattle.traversal.proofs.Merged.{merges}

-- ---- the letters of two opposite darts, by the code m at the opposite of each

earlier : {m s : ℕ} {l : Letter} → Case m s l → m ≡ 0 → (l ≡ down) ⊎ (l ≡ first)
earlier (new m s e) z = inl e
earlier (old m s e) z = inr e
earlier (back m e) z = absurd (omega arith)
earlier (noted m n e) z = absurd (m z)

later_up : {m s : ℕ} {l : Letter} → Case m s l → m ≡ code down → l ≡ up
later_up (new m s e) z = absurd (omega arith)
later_up (old m s e) z = absurd (omega arith)
later_up (back m e) z = e
later_up (noted m n e) z = absurd (n z)

later_second : {m s : ℕ} {l : Letter} → Case m s l → m ≡ code first → l ≡ second
later_second (new m s e) z = absurd (omega arith)
later_second (old m s e) z = absurd (omega arith)
later_second (back m e) z = absurd (omega arith)
later_second (noted m n e) z = e

module _ (rot : List ℕ) (r : ℕ) (turn : Perm (length rot) (next rot)) (cross : Involution (length rot) opposite) (hr : r < length rot) where
  abbrev N : ℕ
  N = length rot

  abbrev D : ℕ → ℕ
  D = dart rot r

  abbrev l : ℕ → Letter
  l = letter_after rot r

  abbrev away_from : ℕ → Type 0
  away_from = Away rot r turn cross hr

  pub record Round : Type 0 where
    pub last : ℕ
    pub fits : last < N
    pub returns : D (suc last) ≡ r
    pub away : (j : ℕ) → 0 < j → j < suc last → D j ≢ r

  -- ---- there is a first return

  search_back : (k : ℕ) → ((q : ℕ) × (q < k) × (D (suc q) ≡ r) × away_from (suc q)) ⊎ away_from (suc k)
  search_back zero = inr (λ j h g. absurd (omega arith))
  search_back (suc k) = ⊎_elim
      (λ f. inl (f.0, le_step f.1, f.2, f.3))
      (λ a. eq_split (D (suc k)) r
      (λ e. inl (k, le_refl (suc k), e, a))
      (λ n. inr (λ j h g. lt_suc_split g (λ e z. n (ap D (sym e) ∙ z)) (a j h))))
      (search_back k)

  -- N steps away from the root would be one too many
  not_away : away_from (suc N) → ⊥
  not_away a =
      let f = follows rot r turn cross hr N (λ j h g. a j h (le_step g)) in
      let (q, h, b) = comes_back N (tour rot r turn cross hr N) (perm rot r turn cross hr N) r hr in
      a (suc q) (omega arith) (omega arith) (sym (dart_iter rot r turn cross hr N f (suc q) h) ∙ b)

  pub round : Round
  round = ⊎_elim
      (λ f. record { last = f.0; fits = f.1; returns = f.2; away = f.3 })
      (λ a. absurd (not_away a))
      (search_back N)

  -- ---- what is met in the round

  module _ (o : Round) where
    abbrev n : ℕ
    n = suc o.last

    followed : Followed rot r turn cross hr n
    followed = follows rot r turn cross hr n o.away

    pub different : (i j : ℕ) → i < n → j < n → D i ≡ D j → i ≡ j
    different i j hi hj =
        apart rot r turn cross hr n followed o.last (le_step (le_refl o.last)) o.away i j (le_of_suc-le-suc hi) (le_of_suc-le-suc hj)

    abbrev Met : ℕ → Type 0
    Met x = (j : ℕ) × (j < n) × (D j ≡ x)

    pub all_seen : (x : ℕ) → x < N → seen_mark rot r n x ≢ 0 → Met x
    all_seen x h s =
        let τ : ℕ → ℕ = tour rot r turn cross hr n in
        let (j, e) = same_reach N τ (perm rot r turn cross hr n) r x h (sym (merges rot r turn cross hr n o.away x h s)) in
        let b : Back τ o.last r = dart_iter rot r turn cross hr n followed n (le_refl n) ∙ o.returns in
        let (i, hi, f) = on_iter τ o.last r b j in
        (i, omega arith, sym (dart_iter rot r turn cross hr n followed i (omega arith)) ∙ f ∙ e)

    seen_met : (j : ℕ) → j < n → seen_mark rot r n (D j) ≢ 0
    seen_met j h = seen_here rot r turn cross hr n j (le_of_lt h)

    pub met_across : (j : ℕ) → j < n → Met (opposite (D j))
    met_across j h = all_seen (opposite (D j)) (across_bound rot r turn cross hr j) (seen_across rot r turn cross hr n j h)

    pub met_turn : (j : ℕ) → j < n → Met (next rot (D j))
    met_turn j h =
        let b = dart_bound rot r turn cross hr j in
        all_seen (next rot (D j)) (turn.bound (D j) b) (λ z. seen_met j h (sym (seen_turn rot r turn cross hr n (D j) b) ∙ z))

    -- ---- two opposite darts

    module _ (i j : ℕ) (h : i < j) (hj : j < n) (e : D j ≡ opposite (D i)) where
      unmet : mark rot r i (opposite (D i)) ≡ 0
      unmet = eq_split (mark rot r i (opposite (D i))) 0 (λ z. z) (λ m.
          let (t, ht, q) = mark_met rot r i (opposite (D i)) m in
          let same = different t j (omega arith) hj (q ∙ sym e) in
          absurd (omega arith))

      met_code : mark rot r j (opposite (D j)) ≡ code (l i)
      met_code =
          ap (mark rot r j) (ap opposite e ∙ opposite_opposite (D i))
          ∙ (follows rot r turn cross hr j (λ t u v. o.away t u (omega arith))).marked i h

      pub pair : ((l i ≡ down) × (l j ≡ up)) ⊎ ((l i ≡ first) × (l j ≡ second))
      pair = ⊎_elim
          (λ d. inl (d, later_up (case rot r j) (met_code ∙ ap code d)))
          (λ d. inr (d, later_second (case rot r j) (met_code ∙ ap code d)))
          (earlier (case rot r i) unmet)
