-- While the walk is away from the root, the tour that crosses the tree edges found so far has all the darts of the vertices seen in one cycle: an edge
-- that goes down joins the cycle of a vertex not seen to it.
--
--   tree_seen             a tree edge joins vertices that are seen
--   Merged k              the darts of the vertices seen are in the root's cycle of the tour
--   merges                while the walk is away from the root, they are
use Prim.Native.Nat.{ℕ, zero, suc, ◌<◌}
use native.Mathlib.Nat.{le_of_lt, le_refl}
use native.Mathlib.Omega.{arith}
use mathlib.Core.Path.{◌≡◌, refl, sym, ap, ap₂, subst, ◌∙◌}
use mathlib.Core.Logic.{◌≢◌}
use mathlib.Core.Bool.{Bool, true, false, ◌||◌, cond}
use mathlib.Core.List.{List}
use lib.Dec.{eqb}
use lib.ListN.{length, get_or}
use borrow.Author.Tests.{eqb-true}
use Rattle.model.specs.Numbers.{least}
use Rattle.model.specs.Map.{opposite, next, vertex_of}
use Rattle.model.specs.Traversal.{down}
use Rattle.model.proofs.Booleans.{or_split}
use Rattle.model.proofs.Opposite.{opposite_opposite}
use Rattle.orbits.specs.Permutation.{Perm, swap}
use Rattle.orbits.specs.Chord.{Involution}
use Rattle.orbits.proofs.Order.{eq_split}
use Rattle.orbits.proofs.Cycle.{least_in, least_step, least_ext}
use Rattle.orbits.proofs.Merge.{swap_perm, swap_a, swap_b, swap_split, joined, together}
use Rattle.words.specs.Toured.{is_tree}
use Rattle.traversal.specs.Steps.{at, start, dart, letter_after, mark, seen_mark, tree}
use Rattle.traversal.proofs.Marks.{zeros_at}
use Rattle.traversal.proofs.Steps.{case, down_case, letter_split, dart_bound, across_bound, mark_met}
use Rattle.traversal.proofs.Steps.{seen_here, seen_across, seen_some, seen_same, seen_other, seen_turn}
use Rattle.traversal.proofs.Follow.{tour, whole, perm, Away, away_less, Followed, follows, tree_same, tree_here, unmarked, across_unmarked}

module _ (rot : List ℕ) (r : ℕ) (turn : Perm (length rot) (next rot)) (cross : Involution (length rot) opposite) (hr : r < length rot) where
  abbrev N : ℕ
  N = length rot

  abbrev D : ℕ → ℕ
  D = dart rot r

  abbrev M : ℕ → ℕ → ℕ
  M = mark rot r

  abbrev S : ℕ → ℕ → ℕ
  S = seen_mark rot r

  -- the tour after k steps, and the label of a dart's cycle
  abbrev τ : ℕ → ℕ → ℕ
  τ = tour rot r turn cross hr

  abbrev τ-perm : (k : ℕ) → Perm N (τ k)
  τ-perm = perm rot r turn cross hr

  abbrev L : ℕ → ℕ → ℕ
  L k = least (τ k) N

  pub tree_seen : (k x : ℕ) → tree rot r k x ≡ true → S k x ≢ 0
  unfolding tree
  tree_seen k x e =
      or_split (eqb (M k x) 1) (eqb (M k (opposite x)) 1) e
      (λ t. let (j, h, f) = mark_met rot r k x (λ z. omega (arith, eqb-true (M k x) 1 t)) in
      subst (λ (y : ℕ). S k y ≢ 0) f (seen_here rot r turn cross hr k j (le_of_lt h)))
      (λ t. let (j, h, f) = mark_met rot r k (opposite x) (λ z. omega (arith, eqb-true (M k (opposite x)) 1 t)) in
      subst (λ (y : ℕ). S k y ≢ 0) (ap opposite f ∙ opposite_opposite x) (seen_across rot r turn cross hr k j h))

  -- ---- the tour leads from seen to seen and from unseen to unseen

  tour_in : (k z : ℕ) → tree rot r k z ≡ true → τ k z ≡ next rot (opposite z)
  tour_in k z e = ap (λ (b : Bool). cond b (next rot (opposite z)) (next rot z)) e

  tour_out : (k z : ℕ) → tree rot r k z ≡ false → τ k z ≡ next rot z
  tour_out k z e = ap (λ (b : Bool). cond b (next rot (opposite z)) (next rot z)) e

  unseen_out : (k z : ℕ) → S k z ≡ 0 → tree rot r k z ≡ false
  unseen_out k z s = go (tree rot r k z) refl
    where
      go : (b : Bool) → tree rot r k z ≡ b → b ≡ false
      go true e = absurd (tree_seen k z e s)
      go false e = refl

  abbrev Seen : ℕ → ℕ → Type 0
  Seen k z = (z < N) × (S k z ≢ 0)

  abbrev Unseen : ℕ → ℕ → Type 0
  Unseen k z = (z < N) × (S k z ≡ 0)

  seen_tour : (k z : ℕ) → Seen k z → Seen k (τ k z)
  seen_tour k z (h, s) = ((τ-perm k).bound z h, go (tree rot r k z) refl)
    where
      go : (b : Bool) → tree rot r k z ≡ b → S k (τ k z) ≢ 0
      go true e q =
          tree_seen k (opposite z) (whole rot r turn cross hr k z h ∙ e)
          (sym (seen_turn rot r turn cross hr k (opposite z) (cross.bound z h)) ∙ ap (S k) (sym (tour_in k z e)) ∙ q)
      go false e q = s (sym (seen_turn rot r turn cross hr k z h) ∙ ap (S k) (sym (tour_out k z e)) ∙ q)

  unseen_tour : (k z : ℕ) → Unseen k z → Unseen k (τ k z)
  unseen_tour k z (h, s) = ((τ-perm k).bound z h, ap (S k) (tour_out k z (unseen_out k z s)) ∙ seen_turn rot r turn cross hr k z h ∙ s)

  -- so no cycle has darts of both sorts
  separate : (k x y : ℕ) → Seen k x → Unseen k y → L k x ≢ L k y
  separate k x y sx sy e =
      (least_in (τ k) (Seen k) (seen_tour k) N x sx).1 (ap (S k) e ∙ (least_in (τ k) (Unseen k) (unseen_tour k) N y sy).1)

  -- and the darts of a vertex not seen are one cycle
  alone : (k y : ℕ) → Unseen k y → L k (vertex_of rot y) ≡ L k y
  unfolding vertex_of
  alone k y (h, s) = (least_in (next rot) (λ z. Unseen k z × (L k z ≡ L k y)) turned N y ((h, s), refl)).1
    where
      turned : (z : ℕ) → Unseen k z × (L k z ≡ L k y) → Unseen k (next rot z) × (L k (next rot z) ≡ L k y)
      turned z ((hz, sz), e) = (
        (turn.bound z hz, seen_turn rot r turn cross hr k z hz ∙ sz),
        ap (L k) (sym (tour_out k z (unseen_out k z sz))) ∙ least_step N (τ k) (τ-perm k) z hz ∙ e,
      )

  -- ---- the root's cycle

  abbrev pub Merged : ℕ → Type 0
  Merged k = (x : ℕ) → x < N → S k x ≢ 0 → L k x ≡ L k r

  merged_start : Merged 0
  unfolding tree mark at start vertex_of dart
  merged_start x h s =
      let (j, b, e) = seen_some rot r turn cross hr 0 x s in
      let zero_j : j ≡ 0 = omega arith in
      label x h ∙ sym e ∙ ap (λ (i : ℕ). vertex_of rot (D i)) zero_j ∙ sym (label r hr)
    where
      none : (z : ℕ) → tree rot r 0 z ≡ false
      none z = ap₂ (λ (c d : ℕ). eqb c 1 || eqb d 1) (zeros_at N z) (zeros_at N (opposite z))

      label : (z : ℕ) → z < N → L 0 z ≡ vertex_of rot z
      label z b = least_ext N (next rot) turn (τ 0) (λ y _. tour_out 0 y (none y)) N z b

  module _ (k : ℕ) (away : Away rot r turn cross hr (suc k)) (m : Merged k) where
    f : Followed rot r turn cross hr k
    f = follows rot r turn cross hr k (away_less rot r turn cross hr k away)

    -- no edge goes down
    merged_same : letter_after rot r k ≢ down → Merged (suc k)
    merged_same n x h s = label x h ∙ m x h (λ z. s (seen_same rot r k x n ∙ z)) ∙ sym (label r hr)
      where
        label : (z : ℕ) → z < N → L (suc k) z ≡ L k z
        label = least_ext N (τ k) (τ-perm k) (τ (suc k)) (λ z h.
            ap (λ (b : Bool). cond b (next rot (opposite z)) (next rot z)) (tree_same rot r turn cross hr k f away z (λ d. absurd (n d)))) N

    -- the edge of a goes down to b
    module _ (d : letter_after rot r k ≡ down) where
      abbrev a : ℕ
      a = D k

      abbrev b : ℕ
      b = opposite (D k)

      abbrev ha : a < N
      ha = dart_bound rot r turn cross hr k

      abbrev hb : b < N
      hb = across_bound rot r turn cross hr k

      abbrev ρ : ℕ → ℕ
      ρ x = τ k (swap a b x)

      in_now : tree rot r (suc k) a ≡ true
      in_now = tree_here rot r turn cross hr k f away ∙ ap is_tree d

      out_before : tree rot r k a ≡ false
      unfolding tree
      out_before = ap₂ (λ (c e : ℕ). eqb c 1 || eqb e 1) (unmarked rot r turn cross hr k f away) (across_unmarked rot r turn cross hr k f away d)

      added : (x : ℕ) → x < N → τ (suc k) x ≡ ρ x
      added x h =
          swap_split a b x
          (λ e. ap (τ (suc k)) e ∙ tour_in (suc k) a in_now ∙ sym (tour_out k b (whole rot r turn cross hr k a ha ∙ out_before))
          ∙ sym (ap ρ e ∙ ap (τ k) (swap_a a b)))
          (λ e. ap (τ (suc k)) e ∙ tour_in (suc k) b (whole rot r turn cross hr (suc k) a ha ∙ in_now) ∙ ap (next rot) (opposite_opposite a)
          ∙ sym (tour_out k a out_before) ∙ sym (ap ρ e ∙ ap (τ k) (swap_b a b)))
          (λ n o e. ap (λ (c : Bool). cond c (next rot (opposite x)) (next rot x)) (tree_same rot r turn cross hr k f away x (λ _. (n, o)))
          ∙ sym (ap (τ k) e))

      label : (x : ℕ) → x < N → L (suc k) x ≡ least ρ N x
      label = least_ext N ρ (swap_perm N (τ k) (τ-perm k) a b ha hb) (τ (suc k)) added N

      seen_a : S k a ≢ 0
      seen_a = seen_here rot r turn cross hr k k (le_refl k)

      unseen_b : S k b ≡ 0
      unseen_b = (down_case (case rot r k) d).1

      cycles_apart : L k a ≢ L k b
      cycles_apart = separate k a b (ha, seen_a) (hb, unseen_b)

      -- what was in one cycle is so now, and a and b are
      stay : (x y : ℕ) → x < N → y < N → L k x ≡ L k y → L (suc k) x ≡ L (suc k) y
      stay x y hx hy e = label x hx ∙ together N (τ k) (τ-perm k) a b ha hb cycles_apart x y hx hy e ∙ sym (label y hy)

      meet : L (suc k) b ≡ L (suc k) r
      meet = label b hb ∙ sym (joined N (τ k) (τ-perm k) a b ha hb cycles_apart) ∙ sym (label a ha) ∙ stay a r ha hr (m a ha seen_a)

      -- b's vertex
      fresh : (x : ℕ) → x < N → vertex_of rot x ≡ vertex_of rot b → L k x ≡ L k b
      unfolding seen_mark
      fresh x h v =
          sym (alone k x (h, ap (λ (w : ℕ). get_or (at rot r k).seen w 0) v ∙ unseen_b)) ∙ ap (L k) v ∙ alone k b (hb, unseen_b)

      merged_down : Merged (suc k)
      merged_down x h s = eq_split (vertex_of rot x) (vertex_of rot b)
          (λ v. stay x b h hb (fresh x h v) ∙ meet)
          (λ o. stay x r h hr (m x h (λ z. s (seen_other rot r k x o ∙ z))))

    next_merged : Merged (suc k)
    next_merged = letter_split (letter_after rot r k) merged_down merged_same

  pub merges : (k : ℕ) → Away rot r turn cross hr k → Merged k
  merges zero away = merged_start
  merges (suc k) away = next_merged k away (merges k (away_less rot r turn cross hr k away))
