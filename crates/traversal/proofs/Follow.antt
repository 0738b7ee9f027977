-- Until it is back at the root the walk follows one permutation, the tour that crosses the tree edges found so far and no others; so it meets no dart
-- twice.
--
--   tour k                the tour that crosses the tree edges found within k steps; whole: these are edges; perm: it is a permutation
--   Away k                the walk is not back at the root before step k; away-less: nor before an earlier one
--   Followed k            it followed that tour, and the codes are those of its letters
--   follows               while it is away, it did
--   dart_iter             so its darts are what the tour makes of the root
--   apart                 and are pairwise different
--   unmarked              the dart to come is not met; across-unmarked: nor is its opposite, if it goes down
--   tree_same, tree_here  the tree after a step is the tree before it, but for the edge that goes down
use Prim.Native.Nat.{ℕ, zero, suc, ◌≤◌, ◌<◌}
use native.Mathlib.Nat.{le_refl, le_step, le_of_lt}
use native.Mathlib.Omega.{arith}
use mathlib.Core.Path.{◌≡◌, refl, sym, ap, ap₂, subst, ◌∙◌}
use mathlib.Core.Logic.{◌≢◌}
use mathlib.Core.Bool.{Bool, true, false, ◌||◌, cond}
use mathlib.Core.List.{List}
use lib.Dec.{eqb}
use lib.ListN.{length}
use borrow.Author.Tests.{ne_eqb}
use Rattle.model.specs.Numbers.{iter}
use Rattle.model.specs.Map.{opposite, next}
use Rattle.model.specs.Traversal.{Letter, down, up, first, second, code}
use Rattle.model.proofs.Opposite.{opposite_opposite, opposite_ne}
use Rattle.orbits.specs.Permutation.{Perm}
use Rattle.orbits.specs.Chord.{Involution}
use Rattle.orbits.specs.Tour.{tour_next}
use Rattle.orbits.proofs.Order.{eq_split, lt_suc_split}
use Rattle.orbits.proofs.Cycle.{iter_out, iter_inj}
use Rattle.orbits.proofs.Tour.{tour_perm}
use Rattle.words.specs.Toured.{is_tree}
use Rattle.words.proofs.Letters.{onward_is}
use Rattle.traversal.specs.Steps.{at, start, dart, letter_after, mark, tree}
use Rattle.traversal.proofs.Steps.{Case, new, old, back, noted, case, down_case, code_some, dart_step, mark_here, mark_other, mark_met}

or_comm : (a b : Bool) → (a || b) ≡ (b || a)
or_comm true true = refl
or_comm true false = refl
or_comm false true = refl
or_comm false false = refl

-- ---- letters and the tree

code_down : (a : Letter) → a ≢ down → eqb (code a) 1 ≡ false
code_down down n = absurd (n refl)
code_down up n = refl
code_down first n = refl
code_down second n = refl

-- a letter is that of a tree edge where it is down, or where the opposite went down
case_tree : {m s : ℕ} {l : Letter} → Case m s l → (eqb (code l) 1 || eqb m 1) ≡ is_tree l
case_tree (new m s e) = ap₂ (λ (a : Letter) (c : ℕ). eqb (code a) 1 || eqb c 1) e m ∙ sym (ap is_tree e)
case_tree (old m s e) = ap₂ (λ (a : Letter) (c : ℕ). eqb (code a) 1 || eqb c 1) e m ∙ sym (ap is_tree e)
case_tree (back m e) = ap₂ (λ (a : Letter) (c : ℕ). eqb (code a) 1 || eqb c 1) e m ∙ sym (ap is_tree e)
case_tree {m} (noted u n e) = ap₂ (λ (a : Letter) (b : Bool). eqb (code a) 1 || b) e (ne_eqb m 1 n) ∙ sym (ap is_tree e)

-- ---- the walk

module _ (rot : List ℕ) (r : ℕ) (turn : Perm (length rot) (next rot)) (cross : Involution (length rot) opposite) (hr : r < length rot) where
  abbrev N : ℕ
  N = length rot

  abbrev D : ℕ → ℕ
  D = dart rot r

  abbrev M : ℕ → ℕ → ℕ
  M = mark rot r

  abbrev l : ℕ → Letter
  l = letter_after rot r

  abbrev pub tour : ℕ → ℕ → ℕ
  tour k = tour_next (next rot) opposite (tree rot r k)

  pub whole : (k d : ℕ) → d < N → tree rot r k (opposite d) ≡ tree rot r k d
  unfolding tree
  whole k d h =
      ap (λ (x : ℕ). eqb (M k (opposite d)) 1 || eqb (M k x) 1) (opposite_opposite d) ∙ or_comm (eqb (M k (opposite d)) 1) (eqb (M k d) 1)

  pub perm : (k : ℕ) → Perm N (tour k)
  perm k = tour_perm N (next rot) opposite turn cross (tree rot r k) (whole k)

  abbrev pub Away : ℕ → Type 0
  Away k = (j : ℕ) → 0 < j → j < k → D j ≢ r

  pub record Followed (k : ℕ) : Type 0 where
    pub follow : (j : ℕ) → j < k → tour k (D j) ≡ D (suc j)
    pub marked : (j : ℕ) → j < k → M k (D j) ≡ code (l j)

  -- ---- what has been followed

  module _ (k : ℕ) (f : Followed k) where
    pub dart_iter : (j : ℕ) → j ≤ k → iter (tour k) j r ≡ D j
    unfolding iter dart at start
    dart_iter zero h = refl
    dart_iter (suc j) h = iter_out (tour k) j r ∙ ap (tour k) (dart_iter j (le_of_lt h)) ∙ f.follow j h

    pub apart : (n : ℕ) → n ≤ k → Away (suc n) → (i j : ℕ) → i ≤ n → j ≤ n → D i ≡ D j → i ≡ j
    apart n h away i j hi hj e =
        iter_inj N (tour k) (perm k) n r hr (λ q b z. away (suc q) (omega arith) (omega arith) (sym (dart_iter (suc q) (omega arith)) ∙ z))
        i j (omega arith) (omega arith) (dart_iter i (omega arith) ∙ e ∙ sym (dart_iter j (omega arith)))

    -- the dart to come is not met yet
    module _ (away : Away (suc k)) where
      ahead : (j : ℕ) → j < k → D j ≢ D k
      ahead j h e = let same = apart k (le_refl k) away j k (omega arith) (le_refl k) e in omega arith

      pub unmarked : M k (D k) ≡ 0
      unmarked = eq_split (M k (D k)) 0 (λ e. e) (λ n. let (j, h, e) = mark_met rot r k (D k) n in absurd (ahead j h e))

      -- ---- the tree after the step

      mark_same : (x : ℕ) → (l k ≡ down → x ≢ D k) → eqb (M (suc k) x) 1 ≡ eqb (M k x) 1
      mark_same x n = eq_split x (D k)
          (λ e.
          let other : eqb (code (l k)) 1 ≡ false = code_down (l k) (λ d. n d e) in
          ap (λ (y : ℕ). eqb (M (suc k) y) 1) e ∙ ap (λ (c : ℕ). eqb c 1) (mark_here rot r turn cross hr k) ∙ other
          ∙ sym (ap (λ (y : ℕ). eqb (M k y) 1) e ∙ ap (λ (c : ℕ). eqb c 1) unmarked))
          (λ o. ap (λ (c : ℕ). eqb c 1) (mark_other rot r k x o))

      pub tree_same : (x : ℕ) → (l k ≡ down → (x ≢ D k) × (x ≢ opposite (D k))) → tree rot r (suc k) x ≡ tree rot r k x
      unfolding tree
      tree_same x n = ap₂ ◌||◌ (mark_same x (λ d. (n d).0)) (mark_same (opposite x) (λ d e. (n d).1 (sym (opposite_opposite x) ∙ ap opposite e)))

      -- the letter of the dart says whether its edge is in the tree
      pub tree_here : tree rot r (suc k) (D k) ≡ is_tree (l k)
      unfolding tree
      tree_here =
          ap₂ (λ (c m : ℕ). eqb c 1 || eqb m 1) (mark_here rot r turn cross hr k) (mark_other rot r k (opposite (D k)) (opposite_ne (D k)))
          ∙ case_tree (case rot r k)

      -- down: the opposite is not met
      pub across_unmarked : l k ≡ down → M k (opposite (D k)) ≡ 0
      across_unmarked d = (down_case (case rot r k) d).0

      tree_met : (j : ℕ) → j < k → tree rot r (suc k) (D j) ≡ tree rot r k (D j)
      tree_met j h = tree_same (D j) (λ d. (
        ahead j h,
        λ e.
            code_some (l j) (sym (f.marked j h) ∙ ap (M k) e ∙ across_unmarked d),
      ))

      next_followed : Followed (suc k)
      next_followed = record {
        follow = λ j h. lt_suc_split h
            (λ e. subst (λ (i : ℕ). tour (suc k) (D i) ≡ D (suc i)) (sym e)
            (ap (λ (b : Bool). cond b (next rot (opposite (D k))) (next rot (D k))) tree_here
            ∙ sym (onward_is rot (l k) (D k)) ∙ sym (dart_step rot r k)))
            (λ g. ap (λ (b : Bool). cond b (next rot (opposite (D j))) (next rot (D j))) (tree_met j g) ∙ f.follow j g);
        marked = λ j h. lt_suc_split h
            (λ e. subst (λ (i : ℕ). M (suc k) (D i) ≡ code (l i)) (sym e) (mark_here rot r turn cross hr k))
            (λ g. mark_other rot r k (D j) (ahead j g) ∙ f.marked j g);
      }

  pub away_less : (k : ℕ) → Away (suc k) → Away k
  away_less k away j h g = away j h (le_step g)

  pub follows : (k : ℕ) → Away k → Followed k
  follows zero away = record { follow = λ j h. absurd (omega arith); marked = λ j h. absurd (omega arith) }
  follows (suc k) away = next_followed k (follows k (away_less k away)) away
