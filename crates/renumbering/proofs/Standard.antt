-- The standard numbering of a plan is a renumbering to its standard plan. Assumes nothing.
--
--   standard_size, standard_darts   the sizes of the standard numbering and plan: passed on from the model
--   standard_renumbering  the renumbering, where the standard numbers are a permutation that carries root, opposites and rotation
use Prim.Native.Nat.{ℕ, ◌<◌}
use mathlib.Core.Path.{◌≡◌, sym}
use mathlib.Core.Bool.{true}
use lib.ListN.{get_or}
use Rattle.model.specs.Numbers.{is_permutation}
use Rattle.model.specs.Map.{Plan, darts, opposite, next}
use Rattle.model.specs.Traversal.{standard_numbers, standard_plan}
use Rattle.model.specs.Renumbering.{Renumbering}
pub use Rattle.model.proofs.Standard.{standard_size, standard_darts}

module _ (p : Plan)
    (numbers_permutation : is_permutation (standard_numbers p) ≡ true)
    (numbers_root : get_or (standard_numbers p) p.root 0 ≡ 0)
    (numbers_opposite : (d : ℕ) → d < darts p → get_or (standard_numbers p) (opposite d) 0 ≡ opposite (get_or (standard_numbers p) d 0))
    (standard_entry_lem : (d : ℕ) → d < darts p
    → next (standard_plan p).rotation (get_or (standard_numbers p) d 0) ≡ get_or (standard_numbers p) (next p.rotation d) 0) where
  pub standard_renumbering : Renumbering p (standard_plan p) (standard_numbers p)
  unfolding standard_plan
  standard_renumbering = record {
    size = standard_size p;
    same_darts = sym (standard_darts p);
    partners = numbers_permutation;
    root_to_root = numbers_root;
    opposites = numbers_opposite;
    rotations = λ d h. sym (standard_entry_lem d h);
  }
