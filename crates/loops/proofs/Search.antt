-- Loops by the vertices' names, edge by edge.
--
--   pair_at names e      the darts of edge e have one name
--   by_pairs             some edge is a loop exactly when some edge's darts have one name
use Prim.Native.Nat.{ℕ, ◌+◌, ◌*◌, ◌/◌, ◌%◌, ◌<◌}
use native.Mathlib.Decide.{ℕ_discrete}
use native.Mathlib.Omega.{arith}
use mathlib.Core.Path.{◌≡◌, sym, ap, ◌∙◌}
use mathlib.Core.Bool.{Bool, true}
use mathlib.Core.Logic.{◌⊎◌, inl, inr}
use mathlib.Core.List.{List}
use lib.Dec.{eqb}
use lib.ListN.{length, get_or}
use borrow.Author.Tests.{eq-eqb, eqb-true}
use Rattle.model.specs.Numbers.{some}
use Rattle.model.specs.Map.{opposite, vertex_of, dart_count_fits, has_loop}
use Rattle.model.proofs.Booleans.{some_at, some_in, bool_ext}
use Rattle.model.proofs.Fitness.{count_even}
use Rattle.contour.specs.Steps.{VerticesNamed}
use Rattle.contour.proofs.Steps.{name_at}

abbrev pub pair_at : List ℕ → ℕ → Bool
pair_at names e = eqb (get_or names (2 * e) 0) (get_or names (2 * e + 1) 0)

-- a dart is the first or the second of its edge
darts_of : (d : ℕ) → ((d ≡ 2 * (d / 2)) × (opposite d ≡ 2 * (d / 2) + 1)) ⊎ ((d ≡ 2 * (d / 2) + 1) × (opposite d ≡ 2 * (d / 2)))
unfolding opposite
darts_of d = elim (ℕ_discrete (d % 2) 0) [ yes h ↦ inl (omega arith, omega arith) | no h ↦ inr (omega arith, omega arith) ]

opposite_first : (e : ℕ) → opposite (2 * e) ≡ 2 * e + 1
unfolding opposite
opposite_first e = omega arith

module _ (rot names : List ℕ) (fits : dart_count_fits (length rot) ≡ true) (named : VerticesNamed rot names) where
  abbrev loop_at : ℕ → Bool
  loop_at d = eqb (vertex_of rot d) (vertex_of rot (opposite d))

  name : (d : ℕ) → d / 2 < length rot / 2 → get_or names d 0 ≡ vertex_of rot d
  name d h = let even = count_even (length rot) fits in name_at rot names named d (omega arith)

  pair_loop : (e : ℕ) → e < length rot / 2 → pair_at names e ≡ true → some loop_at (length rot) ≡ true
  pair_loop e h p =
      let q = eqb-true _ _ p in
      some_in loop_at (length rot) (2 * e) (omega arith) (rw opposite_first (eq-eqb _ _ (sym (name (2 * e) (omega arith)) ∙ q ∙ name (2 * e + 1) (omega arith))))

  loop_pair : (d : ℕ) → d < length rot → loop_at d ≡ true → pair_at names (d / 2) ≡ true
  loop_pair d h p =
      let even = count_even (length rot) fits in
      let q : vertex_of rot d ≡ vertex_of rot (opposite d) = eqb-true _ _ p in
      let first = name (2 * (d / 2)) (omega arith) in
      let second = name (2 * (d / 2) + 1) (omega arith) in
      elim (darts_of d) [
        | inl (a, b) ↦ eq-eqb _ _ (first ∙ ap (vertex_of rot) (sym a) ∙ q ∙ ap (vertex_of rot) b ∙ sym second)
        | inr (a, b) ↦ eq-eqb _ _ (first ∙ ap (vertex_of rot) (sym b) ∙ sym q ∙ ap (vertex_of rot) a ∙ sym second)
      ]

  pub by_pairs : some (pair_at names) (length rot / 2) ≡ has_loop rot
  unfolding has_loop
  by_pairs = bool_ext _ _
      (λ p. let (e, h, q) = some_at (pair_at names) (length rot / 2) p in pair_loop e h q)
      (λ p. let (d, h, q) = some_at loop_at (length rot) p in
      let even = count_even (length rot) fits in
      some_in (pair_at names) (length rot / 2) (d / 2) (omega arith) (loop_pair d h q))
