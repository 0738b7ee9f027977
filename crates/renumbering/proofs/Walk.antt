-- A renumbering carries the traversal letter by letter. Assumes nothing.
--
--   carries_word          both plans have one word
use Prim.Native.Nat.{ℕ, ◌<◌}
use mathlib.Core.Path.{◌≡◌}
use mathlib.Core.Bool.{true}
use mathlib.Core.List.{List}
use Rattle.model.specs.Numbers.{is_permutation}
use Rattle.model.specs.Map.{Plan, darts, dart_count_fits}
use Rattle.model.specs.Traversal.{word}
use Rattle.model.specs.Renumbering.{Renumbering}
use Rattle.model.proofs.Fitness.{count_even}
use Rattle.model.proofs.Opposite.{opposite_bound}
use Rattle.traversal.specs.Walked.{Carries}
use Rattle.traversal.proofs.Walk.{walked}
use Rattle.traversal.proofs.Ruled.{carried_word}
use Rattle.renumbering.proofs.Permutations.{of_list}
use Rattle.renumbering.proofs.Isomorphisms.{image_inj, iso_vertex}
use Rattle.renumbering.proofs.Renumberings.{iso_of, carries_darts, carries_root, carries_permutation}

module _ (p : Plan) (fits : dart_count_fits (darts p) ≡ true) (root_in : p.root < darts p) (perm : is_permutation p.rotation ≡ true)
    (q : Plan) (f : List ℕ) (r : Renumbering p q f) where
  carries : Carries p.rotation q.rotation (of_list f)
  carries =
      let two = count_even (darts p) fits in
      record {
        across = λ d h. opposite_bound (darts p) d two h;
        one_to_one = image_inj (iso_of r);
        opposites = r.opposites;
        rotations = r.rotations;
        vertices = iso_vertex two perm (iso_of r);
      }

  pub carries_word : word p ≡ word q
  carries_word = carried_word p q (walked p fits root_in perm) (of_list f) carries r.root_to_root
      (walked q (carries_darts p fits root_in perm q f r) (carries_root p fits root_in perm q f r) (carries_permutation p fits root_in perm q f r))
