-- How climbing goes on. Assumes nothing.
--
--   Climbed               a tree is complete where one was at first, in the state t₀ and the work area w₀, and the same word is found
--   climbed_on, climbed_out   after a step; where a step does not climb on
--   stands_any            there it does not matter how many nodes there were
use Prim.Native.Nat.{ℕ, ◌<◌}
use mathlib.Core.Path.{◌≡◌, refl, subst, ◌∙◌}
use mathlib.Core.List.{List}
use lib.ListN.{length}
use Rattle.std.specs.Prelude.{Option, Some}
use Rattle.node_ends.specs.declared.State.{State}
use Rattle.node_ends.specs.declared.Outcome.{Outcome}
use Rattle.node_ends.specs.declared.Outcome.TheVariants.{Reads, Climbs, Whole}
use Rattle.node_ends.specs.Steps.{left, Standing, Stands, Turned}

pub record Climbed (m : ℕ) (w₀ : List ℕ) (t₀ : State) (w : List ℕ) (t : State) : Type 0 where
  pub standing : Standing m 0 w t
  pub same_read : t.read ≡ t₀.read
  pub same_word : left m w (Some (Climbs t)) ≡ left m w₀ (Some (Climbs t₀))
  pub same_length : length w ≡ length w₀

module _ (m : ℕ) (w₀ : List ℕ) (t₀ : State) (w : List ℕ) (t : State) (i : Climbed m w₀ t₀ w t) (w' : List ℕ) where
  pub climbed_on : (d : ℕ) (u : State) → Turned m t.read d (left m w (Some (Climbs t))) (Some (Climbs u)) w w' → Climbed m w₀ t₀ w' u × (u.depth < d)
  unfolding Stands
  climbed_on d u a =
      let s = a.stands in
      (record { standing = s.0; same_read = s.1 ∙ i.same_read; same_word = a.finds ∙ i.same_word; same_length = a.kept ∙ i.same_length }, s.2)

  pub climbed_out : (d d' : ℕ) (q : Option Outcome) → Turned m t.read d (left m w (Some (Climbs t))) q w w'
      → (Stands m t₀.read d w' q → Stands m t₀.read d' w' q) → Turned m t₀.read d' (left m w₀ (Some (Climbs t₀))) q w₀ w'
  climbed_out d d' q a k = record {
    finds = a.finds ∙ i.same_word;
    stands = k (subst (λ (x : ℕ). Stands m x d w' q) i.same_read a.stands);
    kept = a.kept ∙ i.same_length;
  }

-- where r does not climb, it does not matter how many nodes there were
pub stands_any : (m i d d' : ℕ) (w : List ℕ) (r : Outcome) → ((u : State) → r ≡ Climbs u → ⊥) → Stands m i d w (Some r) → Stands m i d' w (Some r)
unfolding Stands
stands_any m i d d' w (Reads s) n x = x
stands_any m i d d' w (Climbs s) n x = absurd (n s refl)
stands_any m i d d' w Whole n x = x
