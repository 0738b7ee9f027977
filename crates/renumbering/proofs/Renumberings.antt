-- Renumberings of plans have inverses and compositions, and carry vertices. Assumes nothing.
--
--   iso_of                a renumbering is an isomorphism of the maps
--   with_root             an isomorphism that sends root to root is a renumbering
--   inverse, compose      the inverse of a renumbering, two renumberings one after the other
--   carries_darts, carries_root, carries_permutation   what makes the second plan a plan
use Prim.Native.Nat.{ℕ, ◌%◌, ◌<◌}
use native.Mathlib.Omega.{arith}
use mathlib.Core.Path.{◌≡◌, sym, ap, subst, ◌∙◌}
use mathlib.Core.Bool.{true}
use mathlib.Core.List.{List}
use lib.ListN.{get_or}
use Rattle.model.specs.Numbers.{is_permutation}
use Rattle.model.specs.Map.{Plan, darts, dart_count_fits}
use Rattle.model.specs.Renumbering.{Renumbering}
use Rattle.model.proofs.Fitness.{count_even}
use Rattle.renumbering.specs.Isomorphism.{Isomorphism, inverse_of, composed}
use Rattle.renumbering.proofs.Permutations.{of_list}
use Rattle.renumbering.proofs.Isomorphisms.{image_bound, back_left, then}
use Rattle.renumbering.proofs.Isomorphisms.{iso_inverse, iso_composed, iso_permutation}

pub iso_of : {p q : Plan} {f : List ℕ} → Renumbering p q f → Isomorphism p.rotation q.rotation f
iso_of r = record { size = r.size; same_darts = r.same_darts; partners = r.partners; opposites = r.opposites; rotations = r.rotations }

-- an isomorphism that sends root to root
pub with_root : {p q : Plan} {f : List ℕ} → Isomorphism p.rotation q.rotation f → get_or f p.root 0 ≡ q.root → Renumbering p q f
with_root iso e = record {
  size = iso.size;
  same_darts = iso.same_darts;
  partners = iso.partners;
  root_to_root = e;
  opposites = iso.opposites;
  rotations = iso.rotations;
}

module _ (p : Plan) (fits : dart_count_fits (darts p) ≡ true) (root_in : p.root < darts p) (perm : is_permutation p.rotation ≡ true) where
  two : darts p % 2 ≡ 0
  two = count_even (darts p) fits

  module _ (q : Plan) (f : List ℕ) (r : Renumbering p q f) where
    pub inverse : Renumbering q p (inverse_of f)
    inverse = with_root (iso_inverse two perm (iso_of r))
        (ap (of_list (inverse_of f)) (sym r.root_to_root) ∙ back_left two perm (iso_of r) p.root root_in)

    pub compose : (s : Plan) (g : List ℕ) → Renumbering q s g → Renumbering p s (composed f g)
    compose s g r' = with_root (iso_composed two perm (iso_of r) (iso_of r'))
        (then two perm (iso_of r) (iso_of r') p.root root_in ∙ ap (of_list g) r.root_to_root ∙ r'.root_to_root)

    pub carries_darts : dart_count_fits (darts q) ≡ true
    carries_darts = subst (λ (n : ℕ). dart_count_fits n ≡ true) r.same_darts fits

    pub carries_root : q.root < darts q
    carries_root = let b = image_bound (iso_of r) p.root root_in in omega (arith, r.same_darts, r.root_to_root)

    pub carries_permutation : is_permutation q.rotation ≡ true
    carries_permutation = iso_permutation two perm (iso_of r)
