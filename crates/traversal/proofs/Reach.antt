-- What `connected` says, and what it follows from. The dart count is even and the entries are a permutation.
--
--   closed_turned, closed_crossed          a closed set has a dart if it has the entry at it, or its opposite
--   connected_reach, reach_connected       connected: every closed set that has dart 0 has all darts
--   connected_from                         and so has every closed set that has a dart
--   connected_reached, reached_connected   connected: every dart is reached from dart 0 by opposites and entries
--   kept_connected                         so it is if what opposites and entries keep is the same at all darts
use Prim.Native.Nat.{ℕ, zero, suc, ◌%◌, ◌<◌}
use native.Mathlib.Omega.{arith}
use mathlib.Core.Path.{◌≡◌, subst}
use mathlib.Core.Bool.{Bool, true}
use mathlib.Core.List.{List}
use lib.Dec.{T}
use lib.ListN.{length}
use Rattle.model.specs.Numbers.{iter, is_permutation}
use Rattle.model.specs.Map.{opposite, next, reached, connected}
use Rattle.model.proofs.Fitness.{connected_at, at_connected}
use Rattle.model.proofs.Opposite.{opposite_opposite}
use Rattle.orbits.specs.Permutation.{Perm}
use Rattle.orbits.specs.Chord.{Involution}
use Rattle.orbits.proofs.Cycle.{comes_back}
use Rattle.orbits.proofs.Span.{Connected}
use Rattle.orbits.proofs.Maps.{next_perm, opposite_inv}
use Rattle.traversal.specs.Reach.{Reached, start, across, turn, Closed}
use Rattle.traversal.proofs.Bits.{bit, bit_same, bit_in}
use Rattle.traversal.proofs.Marks.{is_marked, marked_is, is_marked_lem}
use Rattle.traversal.proofs.Spread.{reached_zero, reached_closed, reached_least}

-- ---- a closed set is kept both ways

module _ (rot : List ℕ) (perm : Perm (length rot) (next rot)) (S : ℕ → Type 0) (c : Closed rot S) where
  closed_iter : (j x : ℕ) → x < length rot → S x → S (iter (next rot) j x)
  unfolding iter
  closed_iter zero x h s = s
  closed_iter (suc j) x h s = closed_iter j (next rot x) (perm.bound x h) (c.turn x h s)

  pub closed_turned : (d : ℕ) → d < length rot → S (next rot d) → S d
  unfolding iter
  closed_turned d h s =
      let (q, hq, b) = comes_back (length rot) (next rot) perm d h in subst S b (closed_iter q (next rot d) (perm.bound d h) s)

  pub closed_crossed : (d : ℕ) → opposite d < length rot → S (opposite d) → S d
  closed_crossed d h s = subst S (opposite_opposite d) (c.across (opposite d) h s)

-- ---- connected

module _ (rot : List ℕ) (two : length rot % 2 ≡ 0) (good : is_permutation rot ≡ true) where
  perm : Perm (length rot) (next rot)
  perm = next_perm rot good

  cross : Involution (length rot) opposite
  cross = opposite_inv (length rot) two

  -- there is a dart 0 where there is a dart
  zero_in : (d : ℕ) → d < length rot → 0 < length rot
  zero_in d h = omega arith

  pub connected_reach : connected rot ≡ true → (S : ℕ → Type 0) → Closed rot S → S 0 → (d : ℕ) → d < length rot → S d
  connected_reach e S c s d h = reached_least rot perm cross (zero_in d h) S c s d (connected_at rot e d h)

  -- the darts from which S comes down to dart 0 are closed
  pub connected_from : connected rot ≡ true → (S : ℕ → Type 0) → Closed rot S → (a : ℕ) → a < length rot → S a → (d : ℕ) → d < length rot → S d
  connected_from e S c a h s = connected_reach e S c (connected_reach e (λ x. S x → S 0) (record {
    across = λ x hx t u. t (closed_crossed rot perm S c x (cross.bound x hx) u);
    turn = λ x hx t u. t (closed_turned rot perm S c x hx u);
  }) (λ u. u) a h s)

  -- the marks themselves are such a set
  pub reach_connected : ((b : ℕ → Bool) → Closed rot (λ d. T (b d)) → T (b 0) → (d : ℕ) → d < length rot → T (b d)) → connected rot ≡ true
  reach_connected all = at_connected rot (λ d h.
      let c = reached_closed rot perm cross (zero_in d h) in
      is_marked_lem m d (all (is_marked m) (record {
        across = λ x hx t. marked_is m (opposite x) (c.across x hx (is_marked_lem m x t));
        turn = λ x hx t. marked_is m (next rot x) (c.turn x hx (is_marked_lem m x t));
      }) (marked_is m 0 (reached_zero rot perm cross (zero_in d h))) d h))
    where
      m : List ℕ
      m = reached rot

  pub connected_reached : connected rot ≡ true → (d : ℕ) → d < length rot → Reached rot d
  connected_reached e = connected_reach e (Reached rot) (record { across = λ d h s. across s; turn = λ d h s. turn s }) start

  pub reached_connected : ((d : ℕ) → d < length rot → Reached rot d) → connected rot ≡ true
  reached_connected all = reach_connected (λ b c t d h. (go b c t (zero_in d h) (all d h)).1)
    where
      go : (b : ℕ → Bool) → Closed rot (λ d. T (b d)) → T (b 0) → 0 < length rot → {d : ℕ} → Reached rot d → (d < length rot) × T (b d)
      go b c t h0 start = (h0, t)
      go b c t h0 (across {d} s) = let (h, u) = go b c t h0 s in (cross.bound d h, c.across d h u)
      go b c t h0 (turn {d} s) = let (h, u) = go b c t h0 s in (perm.bound d h, c.turn d h u)

  pub kept_connected : Connected (length rot) (next rot) opposite → connected rot ≡ true
  kept_connected same = reach_connected (λ b c t d h.
      bit_in (b d) (b 0) (same (λ x. bit (b x))
      (λ x hx. bit_same (b (next rot x)) (b x) (closed_turned rot perm (λ x. T (b x)) c x hx) (c.turn x hx))
      (λ x hx. bit_same (b (opposite x)) (b x) (closed_crossed rot perm (λ x. T (b x)) c x (cross.bound x hx)) (c.across x hx))
      d 0 h (zero_in d h)) t)
