-- The nodes of the dual's tree, in the walk of a plan that is fit for kind 2, whose vertices have three darts and whose edges have two faces.
--
--   node              the node that is entered at a: its places
--   node_first, node_second   which letters stand at its first place and at its second
--   node_leaf         and which at its second, where an edge begins at its first
--   node_places       it has no other places
--   first_subtree, first_leaf   where its second place is, by the letter at its first
use Prim.Native.Nat.{ℕ, zero, suc, ◌<◌}
use native.Mathlib.Omega.{arith}
use mathlib.Core.Path.{◌≡◌, refl, sym, ap, subst, ◌∙◌}
use mathlib.Core.Logic.{◌⊎◌, inl, inr, ◌≢◌}
use mathlib.Core.Bool.{Bool, true, false, cond}
use Rattle.model.specs.Numbers.{iter}
use Rattle.model.specs.Map.{Plan, darts, next, vertex_of, fit}
use Rattle.model.specs.Traversal.{Letter, down, up, first, second}
use Rattle.model.proofs.Fitness.{Fit, fit_parts}
use Rattle.orbits.proofs.Cycle.{same_reach}
use Rattle.orbits.proofs.Maps.{next_perm}
use Rattle.words.specs.Toured.{Toured, dart_at, letter_of, mate_of, is_tree}
use Rattle.words.specs.Entered.{entered_at}
use Rattle.words.proofs.Positions.{dart_inj, mate_bound}
use Rattle.planarity.proofs.SameVertex.{same_entry}
use Rattle.fit_plans.proofs.FitPlans.{fit_toured}
use Rattle.meshes.proofs.Triangles.{Cubic}
use Rattle.meshes.proofs.Turns.{enters_start}
use Rattle.meshes.proofs.Blocks.{turn_up}
use Rattle.meshes.proofs.Growing.{Places, places, not_up, second_late, after_tree, after_flat}
use Rattle.mesh_walks.specs.Place.{second_place}

pub first_subtree : (q : Plan) (a : ℕ) → is_tree (letter_of q (suc a)) ≡ true → second_place q a ≡ suc (mate_of q (suc a))
unfolding second_place
first_subtree q a e = ap (λ (b : Bool). cond b (suc (mate_of q (suc a))) (suc (suc a))) e

pub first_leaf : (q : Plan) (a : ℕ) → is_tree (letter_of q (suc a)) ≡ false → second_place q a ≡ suc (suc a)
unfolding second_place
first_leaf q a e = ap (λ (b : Bool). cond b (suc (mate_of q (suc a))) (suc (suc a))) e

module _ (q : Plan) (cubic : Cubic q) where
  abbrev fits : fit 2 q ≡ true
  fits = cubic.fits

  abbrev N : ℕ
  N = darts q

  abbrev parts : Fit 2 q
  parts = fit_parts 2 q fits

  abbrev toured : Toured q
  toured = fit_toured 2 q fits

  abbrev ℓ : ℕ → Letter
  ℓ = letter_of q

  abbrev x : ℕ → ℕ
  x = dart_at q

  abbrev σ : ℕ → ℕ
  σ = next q.rotation

  abbrev pub Node : ℕ → Type 0
  Node a = Places q cubic.fits cubic.three cubic.alone cubic.two_faced a (second_place q a)

  abbrev PlacesOf : ℕ → ℕ → Type 0
  PlacesOf = Places q fits cubic.three cubic.alone cubic.two_faced

  module _ (a : ℕ) (h : a < darts q) (d : letter_of q a ≡ down) where
    -- no place of the node is the start's
    later : (j : ℕ) → entered_at q j ≡ suc a → {A : Type 0} {k : ℕ} → (j ≡ k) ⊎ ((j ≡ 0) × A) → j ≡ k
    later j n (inl e) = e
    later j n (inr (z, w)) = absurd (omega (arith, n, ap (entered_at q) z ∙ enters_start q fits))

    pub node : Node a
    node = let (j, p) = places q fits cubic.three cubic.alone cubic.two_faced a h d in subst (PlacesOf a) (go j p (is_tree (ℓ (suc a))) refl) p
      where
        go : (j : ℕ) → PlacesOf a j → (b : Bool) → is_tree (ℓ (suc a)) ≡ b → j ≡ second_place q a
        go j p true e = later j p.entered₂ (after_tree q fits (suc a) j p.inside.0 p.inside.1 p.turn₁ e) ∙ sym (first_subtree q a e)
        go j p false e = later j p.entered₂ (after_flat q fits (suc a) j p.inside.0 p.inside.1 p.turn₁ e) ∙ sym (first_leaf q a e)

    pub node_first : (letter_of q (suc a) ≡ down) ⊎ (letter_of q (suc a) ≡ first)
    node_first = go (ℓ (suc a)) refl
      where
        go : (l : Letter) → ℓ (suc a) ≡ l → (ℓ (suc a) ≡ down) ⊎ (ℓ (suc a) ≡ first)
        go down e = inl e
        go up e = absurd (not_up q fits cubic.three cubic.alone cubic.two_faced a (suc a) h node.inside.0 node.entered₁ node.other₁ e)
        go first e = inr e
        go second e = let (u, v) = second_late q fits (suc a) node.inside.0 e in absurd (omega (arith, node.entered₁))

    pub node_second : letter_of q (second_place q a) ≢ up
    node_second = not_up q fits cubic.three cubic.alone cubic.two_faced a (second_place q a) h node.inside.1 node.entered₂ node.other₂

    pub node_leaf : letter_of q (suc a) ≡ first → (letter_of q (suc (suc a)) ≡ down) ⊎ (letter_of q (suc (suc a)) ≡ first)
    node_leaf f = go (ℓ (suc (suc a))) refl
      where
        there : second_place q a ≡ suc (suc a)
        there = first_leaf q a (ap is_tree f)

        go : (l : Letter) → ℓ (suc (suc a)) ≡ l → (ℓ (suc (suc a)) ≡ down) ⊎ (ℓ (suc (suc a)) ≡ first)
        go down e = inl e
        go up e = absurd (node_second (ap ℓ there ∙ e))
        go first e = inr e
        go second e =
            let (u, v) = second_late q fits (suc (suc a)) (subst (λ (k : ℕ). k < N) there node.inside.1) e in
            absurd (omega (arith, ap (entered_at q) there, node.entered₂))

    pub node_places : (c : ℕ) → c < darts q → entered_at q c ≡ suc a → (c ≡ suc a) ⊎ ((c ≡ second_place q a) ⊎ (c ≡ mate_of q a))
    unfolding vertex_of iter
    node_places c hc n =
        let same = same_entry q toured parts.count parts.entries (suc a) c node.inside.0 hc (node.entered₁ ∙ sym n) in
        let (k, r) = same_reach N σ (next_perm q.rotation parts.entries) (x (suc a)) (x c) (toured.dart_bound c hc) same in
        at (subst On r (go k (x (suc a)) (inl refl)))
      where
        On : ℕ → Type 0
        On e = (e ≡ x (suc a)) ⊎ ((e ≡ x (second_place q a)) ⊎ (e ≡ x (mate_of q a)))

        step : (e : ℕ) → On e → On (σ e)
        step e (inl s) = inr (inl (ap σ s ∙ node.turn₁))
        step e (inr (inl s)) = inr (inr (ap σ s ∙ node.turn₂))
        step e (inr (inr s)) = inl (ap σ s ∙ turn_up q fits a (mate_of q a) h d refl)

        go : (k e : ℕ) → On e → On (iter σ k e)
        go zero e o = o
        go (suc k) e o = go k (σ e) (step e o)

        at : On (x c) → (c ≡ suc a) ⊎ ((c ≡ second_place q a) ⊎ (c ≡ mate_of q a))
        at (inl s) = inl (dart_inj q toured c (suc a) hc node.inside.0 s)
        at (inr (inl s)) = inr (inl (dart_inj q toured c (second_place q a) hc node.inside.1 s))
        at (inr (inr s)) = inr (inr (dart_inj q toured c (mate_of q a) hc (mate_bound q toured parts.count a h) s))
