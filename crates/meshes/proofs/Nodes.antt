-- The plan whose word is that of a good tree below the start node.
--
--   whole_home        the start node's second place is the last position but one; there and at the last one edges end
--   whole_types       the types found along the walk are those of the tree
--   whole_fine        its vertices have three darts, and its tree edges are crossed
use Prim.Native.Nat.{ℕ, suc, ◌<◌}
use native.Mathlib.Omega.{arith}
use mathlib.Core.Path.{◌≡◌, sym, ap, subst, ◌∙◌}
use mathlib.Core.Bool.{true}
use mathlib.Core.List.{List, [], ◌∷◌}
use lib.ListN.{length, drop, drop_of_length-le}
use Rattle.model.specs.Map.{Plan, darts, next, fit}
use Rattle.model.specs.Traversal.{Letter, second, visits, word}
use Rattle.model.specs.LabelledTree.{along}
use Rattle.model.specs.Mesh.{type_at}
use Rattle.orbits.proofs.Order.{tri, le_split}
use Rattle.words.specs.Toured.{dart_at, letter_of, is_tree}
use Rattle.words.specs.Entered.{is_down}
use Rattle.words.proofs.Positions.{word_length, dart_inj}
use Rattle.fit_plans.proofs.FitPlans.{fit_toured}
use Rattle.node_types.specs.Tree.{Tree, whole, type_list, good}
use Rattle.node_types.proofs.Trees.{net_positive, length_letters}
use Rattle.meshes.proofs.OpenEdges.{front}
use Rattle.meshes.proofs.Blocks.{offspring, turn_down, turn_flat', turn_last, three_of, Fine, no_down, type_other, Block, crosses, block}

module _ (q : Plan) (fits : fit 2 q ≡ true) (t : Tree) (g : good t ≡ true) (whole_is : word q ≡ whole t) where
  abbrev N : ℕ
  N = darts q

  abbrev rest : List Letter
  rest = second ∷ second ∷ []

  b : Block q fits t 0 rest
  unfolding whole
  b = block q fits t (offspring t g) 0 rest whole_is

  -- the second and the third place of the start node
  abbrev i : ℕ
  i = suc b.end

  abbrev j : ℕ
  j = suc i

  at_i : (i < N) × (letter_of q i ≡ second) × (drop j (word q) ≡ second ∷ [])
  at_i = front q fits i second (second ∷ []) b.left

  at_j : (j < N) × (letter_of q j ≡ second) × (drop (suc j) (word q) ≡ [])
  at_j = front q fits j second [] at_i.2

  long : suc j ≡ N
  unfolding whole
  long =
      let n = sym (word_length q (fit_toured 2 q fits)) ∙ ap length whole_is ∙ length_letters t rest in
      let s = b.sized in
      omega arith

  -- the start node's second place comes after the tree
  home : next q.rotation (dart_at q 0) ≡ dart_at q i
  home = let inside = b.inside in turn_down q fits 0 i (omega arith) b.enters (ap suc b.ends) at_i.0

  pub whole_home : (k : ℕ) → k < darts q → next q.rotation (dart_at q 0) ≡ dart_at q k
      → (suc (suc k) ≡ darts q) × (letter_of q k ≡ second) × (letter_of q (suc k) ≡ second)
  whole_home k h e =
      subst (λ (n : ℕ). (suc (suc n) ≡ N) × (letter_of q n ≡ second) × (letter_of q (suc n) ≡ second))
      (dart_inj q (fit_toured 2 q fits) i k at_i.0 h (sym home ∙ e)) (long, at_i.1, at_j.1)

  pub whole_types : along (type_at q) (visits q) ≡ type_list t []
  unfolding along
  whole_types =
      b.listed ∙ ap (type_list t) (type_other q fits i at_i.0 (ap is_down at_i.1) ∙ type_other q fits j at_j.0 (ap is_down at_j.1)
      ∙ ap (along (type_at q)) (drop_of_length-le (visits q) {i = suc j} (omega (arith, long, (fit_toured 2 q fits).all_met))))

  pub whole_fine : (k : ℕ) → k < darts q → Fine q fits k
  whole_fine k h =
      let inside = b.inside in
      let hi = at_i.0 in
      let hj = at_j.0 in
      let r = home in
      let s = turn_flat' q fits i hj (ap is_tree at_i.1) in
      let u = turn_last q fits j long (ap is_tree at_j.1) in
      let first_place : Fine q fits 0 = (
        three_of q fits 0 i j (omega arith) hi (λ e. omega arith) r s u,
        λ e. crosses q fits t 0 rest (omega arith) b (net_positive t g),
      ) in
      let second_place_lem : Fine q fits i = (three_of q fits i j 0 hi hj (λ e. omega arith) s u r, no_down q fits i second at_i.1 (λ e. omega arith)) in
      let third_place : Fine q fits j = (three_of q fits j 0 i hj (omega arith) (λ e. omega arith) u r s, no_down q fits j second at_j.1 (λ e. omega arith)) in
      tri k i
      (λ l. le_split {a = 0} {b = k} (omega arith) (λ e. subst (Fine q fits) e first_place) (λ p. b.fine k p (omega arith)))
      (λ e. subst (Fine q fits) (sym e) second_place_lem)
      (λ l. subst (Fine q fits) (let n = long in omega arith) third_place)
