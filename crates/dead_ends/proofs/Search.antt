-- Dead ends by the entries alone.
--
--   dead_end_at p d        dart d is alone at its vertex, which is not the root's
--   alone_at rot root d    dart d is alone at its vertex, and is not the root
--   by_entries             where it is alone the two are the same
use Prim.Native.Nat.{ℕ, ◌<◌}
use mathlib.Core.Path.{◌≡◌, sym, ap, ◌∙◌}
use mathlib.Core.Bool.{Bool, true, not, ◌&&◌}
use mathlib.Core.List.{List}
use lib.Dec.{eqb}
use lib.ListN.{length, get_or}
use borrow.Author.Tests.{eq-eqb, ne_eqb}
use Rattle.model.specs.Numbers.{some, is_permutation}
use Rattle.model.specs.Map.{next, vertex_of, degree_one, has_dead_end}
use Rattle.model.proofs.Booleans.{some_same}
use Rattle.orbits.proofs.Order.{eq_split}
use Rattle.orbits.proofs.Maps.{next_perm, vertex_alone}

abbrev pub alone_at : List ℕ → ℕ → ℕ → Bool
alone_at rot root d = eqb (get_or rot d 0) d && not (eqb d root)

module _ (rot : List ℕ) (root : ℕ) (entries : is_permutation rot ≡ true) (low : root < length rot) where
  abbrev dead_end_at : ℕ → Bool
  dead_end_at d = degree_one rot d && not (eqb (vertex_of rot d) (vertex_of rot root))

  other_vertex : (d : ℕ) → get_or rot d 0 ≡ d → eqb d root ≡ eqb (vertex_of rot d) (vertex_of rot root)
  unfolding next
  other_vertex d own = eq_split d root
      (λ e. eq-eqb d root e ∙ sym (eq-eqb _ _ (ap (vertex_of rot) e)))
      (λ ne. ne_eqb d root ne ∙ sym (ne_eqb _ _ (λ same. ne (vertex_alone rot (next_perm rot entries) d root low own same))))

  same_test : (d : ℕ) → alone_at rot root d ≡ dead_end_at d
  unfolding degree_one next
  same_test d = eq_split (get_or rot d 0) d
      (λ own. rw (eq-eqb _ _ own) (ap not (other_vertex d own)))
      (λ other. rw (ne_eqb _ _ other))

  pub by_entries : some (alone_at rot root) (length rot) ≡ has_dead_end (record { rotation = rot; root = root; outside = 0 })
  unfolding has_dead_end
  by_entries = some_same (alone_at rot root) dead_end_at (length rot) (λ d h. same_test d)
