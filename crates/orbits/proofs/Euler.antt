-- Euler's inequality and planarity, for E edges (N = 2 E darts), V vertices and F faces. Assumes nothing.
--
--   Free N μ           no position stays where it is
--   chords_half        half of the positions of such an involution open a chord
--   planar_nested, nested_planar   V + F = E + 2 exactly where the tour of a tree is nested
--   euler              V + F ≤ E + 2 for connected maps
use Prim.Native.Nat.{ℕ, zero, ◌+◌, ◌≤◌, ◌<◌}
use native.Mathlib.Omega.{arith}
use mathlib.Core.Path.{◌≡◌, sym, ap, ◌∙◌}
use mathlib.Core.Bool.{Bool, true, ◌||◌, or-true}
use lib.Dec.{ltb, ltb→lt, lt→ltb}
use borrow.Author.Tests.{lt-ltb}
use Rattle.model.specs.Numbers.{count, cycles}
use Rattle.orbits.specs.Permutation.{Perm}
use Rattle.orbits.specs.Chord.{Involution, opener, chords, Nested}
use Rattle.orbits.specs.Tour.{face, Tour, diagram, rest}
use Rattle.orbits.proofs.Order.{tri}
use Rattle.orbits.proofs.Tally.{count_ext, count_either, count_inj}
use Rattle.orbits.proofs.Chord.{μ-inj}
use Rattle.orbits.proofs.Tour.{ε, ε-inv, euler_le, euler_nested, nested_euler}
use Rattle.orbits.proofs.Tally.{count_all}
use Rattle.orbits.proofs.Span.{Connected, spanned, tour}

-- no position stays where it is
abbrev pub Free : ℕ → (ℕ → ℕ) → Type 0
Free N μ = (i : ℕ) → i < N → μ i ≡ i → ⊥

-- ---- half of the positions open

module _ (N : ℕ) (μ : ℕ → ℕ) (inv : Involution N μ) (free : Free N μ) where
  abbrev closer : ℕ → Bool
  closer i = ltb (μ i) i

  open_close : count (opener μ) N ≤ count closer N
  open_close = count_inj (opener μ) closer N N (record {
    to = λ i h t. μ i;
    bound = λ i h t. inv.bound i h;
    passes = λ i h t. lt→ltb (μ (μ i)) (μ i) (omega (arith, inv.back i h, ltb→lt i (μ i) t));
    inj = λ i j hi hj t u. μ-inj N μ inv i j hi hj;
  })

  close_open : count closer N ≤ count (opener μ) N
  close_open = count_inj closer (opener μ) N N (record {
    to = λ i h t. μ i;
    bound = λ i h t. inv.bound i h;
    passes = λ i h t. lt→ltb (μ i) (μ (μ i)) (omega (arith, inv.back i h, ltb→lt (μ i) i t));
    inj = λ i j hi hj t u. μ-inj N μ inv i j hi hj;
  })

  either : (i : ℕ) → i < N → (opener μ i || closer i) ≡ true
  either i h =
      tri i (μ i)
      (λ l. ap (λ (b : Bool). b || closer i) (lt-ltb i (μ i) l))
      (λ e. absurd (free i h (sym e)))
      (λ g. ap (λ (b : Bool). opener μ i || b) (lt-ltb (μ i) i g) ∙ or-true (opener μ i))

  pub chords_half : chords μ N + chords μ N ≡ N
  unfolding chords
  chords_half =
      omega (
        arith,
        open_close,
        close_open,
        count_all N,
        count_ext (λ i. opener μ i || closer i) (λ i. true) N either,
        count_either (opener μ) closer N (λ i h t u. omega (arith, ltb→lt i (μ i) t, ltb→lt (μ i) i u)),
      )

-- ---- maps

module _ (N : ℕ) (σ α : ℕ → ℕ) (turn : Perm N σ) (cross : Involution N α) (free : Free N α) where
  -- the edges in any tour's numbering
  module _ (tree : ℕ → Bool) (pos dart : ℕ → ℕ) (t : Tour N σ α tree pos dart) where
    edges_half : chords (ε N σ α tree pos dart t) N + chords (ε N σ α tree pos dart t) N ≡ N
    edges_half = chords_half N (ε N σ α tree pos dart t) (ε-inv N σ α tree pos dart t) (λ i h e.
        free (dart i) (t.dart_bound i h) (sym (t.dart_pos (α (dart i)) (cross.bound (dart i) (t.dart_bound i h))) ∙ ap dart e))

    -- a planar map's tours are nested, whatever the tree
    pub planar_nested : (E : ℕ) → E + E ≡ N → cycles σ N + cycles (face σ α) N ≡ E + 2
        → Nested (diagram α tree pos dart) N × Nested (diagram α (rest tree) pos dart) N
    planar_nested E half e = euler_nested N σ α tree pos dart t (omega (arith, edges_half))

    -- and a map with a nested tour is planar
    pub nested_planar : (E : ℕ) → E + E ≡ N → zero < N → Nested (diagram α tree pos dart) N → Nested (diagram α (rest tree) pos dart) N
        → cycles σ N + cycles (face σ α) N ≡ E + 2
    nested_planar E half h u v = omega (arith, edges_half, nested_euler N σ α tree pos dart t h u v)

  pub euler : Connected N σ α → (E : ℕ) → E + E ≡ N → zero < N → cycles σ N + cycles (face σ α) N ≤ E + 2
  euler connected E half h =
      let s = spanned N σ α turn cross connected h in
      let t = tour N σ α turn cross s.tree s.edges.whole s.edges.perm s.single zero h in
      omega (arith, edges_half s.tree _ _ t, euler_le N σ α s.tree _ _ t)
