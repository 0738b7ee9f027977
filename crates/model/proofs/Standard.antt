-- The sizes of the standard numbering and of the standard plan.
--
--   standard_size     there is a standard number for each dart
--   renumbered-length what is renumbered keeps its length
--   standard_darts    the standard plan has as many darts
use mathlib.Core.Path.{◌≡◌, refl, ◌∙◌}
use mathlib.Core.Bool.{Bool, true, false, cond}
use mathlib.Core.List.{List, [], ◌∷◌}
use Prim.Native.Nat.{ℕ, zero, suc, ◌+◌, ◌*◌}
use lib.ListN.{length, get_or, set, replicate, length-set, length-replicate}
use Rattle.model.specs.Map.{Plan, darts, opposite, next}
use Rattle.model.specs.Traversal.{Visit, opens, visits, number, standard_numbers, renumbered, standard_rotation, standard_plan}

number_length : (vs : List Visit) (e : ℕ) (ns : List ℕ) → length (number vs e ns) ≡ length ns
unfolding number
number_length [] e ns = refl
number_length (v ∷ vs) e ns = go (opens v.letter) _ _
    (number_length vs (suc e) (set (set ns v.dart (2 * e)) (opposite v.dart) (2 * e + 1))
    ∙ length-set (set ns v.dart (2 * e)) (opposite v.dart) (2 * e + 1) ∙ length-set ns v.dart (2 * e))
    (number_length vs e ns)
  where
    go : (b : Bool) (xs ys : List ℕ) → length xs ≡ length ns → length ys ≡ length ns → length (cond b xs ys) ≡ length ns
    go true xs ys s t = s
    go false xs ys s t = t

pub standard_size : (p : Plan) → length (standard_numbers p) ≡ darts p
unfolding standard_numbers
standard_size p = number_length (visits p) 0 (replicate (darts p) 0) ∙ length-replicate (darts p) 0

pub renumbered_length : (ns rot out : List ℕ) (n : ℕ) → length (renumbered ns rot n out) ≡ length out
unfolding renumbered
renumbered_length ns rot out zero = refl
renumbered_length ns rot out (suc n) =
    length-set (renumbered ns rot n out) (get_or ns n 0) (get_or ns (next rot n) 0) ∙ renumbered_length ns rot out n

pub standard_darts : (p : Plan) → darts (standard_plan p) ≡ darts p
unfolding standard_plan standard_rotation
standard_darts p = renumbered_length (standard_numbers p) p.rotation (replicate (darts p) 0) (darts p) ∙ length-replicate (darts p) 0
