-- Opposite darts: 2e and 2e + 1, the two darts of edge e.
--
--   opposite_opposite, opposite_ne   opposite is an involution without fixed points
--   opposite_bound, edge_below   the opposite of a dart below an even number is below it, and its edge below the half
--   opposite_even, opposite_odd  the opposite by number
--   opposite_edge, same_edge     opposite darts have one edge, and darts of one edge are equal or opposite
use mathlib.Core.Path.{◌≡◌}
use mathlib.Core.Logic.{◌⊎◌, inl, inr, ◌≢◌}
use Prim.Native.Nat.{ℕ, ◌+◌, ◌*◌, ◌/◌, ◌%◌, ◌<◌}
use native.Mathlib.Decide.{ℕ_discrete}
use native.Mathlib.Omega.{arith}
use Rattle.model.specs.Map.{opposite}

pub opposite_opposite : (d : ℕ) → opposite (opposite d) ≡ d
unfolding opposite
opposite_opposite d = omega arith

pub opposite_ne : (d : ℕ) → opposite d ≢ d
unfolding opposite
opposite_ne d e = omega arith

pub opposite_bound : (n d : ℕ) → n % 2 ≡ 0 → d < n → opposite d < n
unfolding opposite
opposite_bound n d e h = omega arith

pub edge_below : (n d : ℕ) → n % 2 ≡ 0 → d < n → d / 2 < n / 2
edge_below n d e h = omega arith

pub opposite_even : (e : ℕ) → opposite (2 * e) ≡ 2 * e + 1
unfolding opposite
opposite_even e = omega arith

pub opposite_odd : (e : ℕ) → opposite (2 * e + 1) ≡ 2 * e
unfolding opposite
opposite_odd e = omega arith

pub opposite_edge : (d : ℕ) → opposite d / 2 ≡ d / 2
unfolding opposite
opposite_edge d = omega arith

pub same_edge : (d e : ℕ) → d / 2 ≡ e / 2 → (d ≡ e) ⊎ (d ≡ opposite e)
unfolding opposite
same_edge d e h = elim (ℕ_discrete d e) [ yes q ↦ inl q | no n ↦ inr (omega arith) ]
