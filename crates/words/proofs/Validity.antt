-- The parts of `valid f w`.
--
--   valid_family, valid_fits, valid_nested   f is a family, w has a dart count's length, w is nested from the start
--   valid_strict       without loops, if the family takes none
--   valid_plain        in family 1 no vertex but the root has degree one
--   valid_of           these make w valid
use Prim.Native.Nat.{ℕ}
use mathlib.Core.Path.{◌≡◌, refl}
use mathlib.Core.Bool.{Bool, true, false, not, ◌&&◌, false≢true, true≢false, and-eq-true_iff}
use mathlib.Core.List.{List, []}
use lib.Dec.{eqb}
use lib.ListN.{length}
use Rattle.model.specs.Map.{is_family, takes_loops, dart_count_fits}
use Rattle.model.specs.Traversal.{Letter}
use Rattle.words.specs.Word.{nested, bare_leaf, valid}

not_both : (a b : Bool) → not (a && b) ≡ true → a ≡ true → b ≡ false
not_both true true h e = absurd (false≢true h)
not_both true false h e = refl
not_both false b h e = absurd (false≢true e)

both_not : (a b : Bool) → (a ≡ true → b ≡ false) → not (a && b) ≡ true
both_not true true h = absurd (true≢false (h refl))
both_not true false h = refl
both_not false b h = refl

module _ (f : ℕ) (w : List Letter) where
  abbrev kept : Bool
  kept = not (eqb f 1 && bare_leaf w)

  abbrev Parts : Type 0
  Parts = (is_family f ≡ true) × (dart_count_fits (length w) ≡ true) × (nested (takes_loops f) 1 0 [] [] w ≡ true) × (kept ≡ true)

  parts : valid f w ≡ true → Parts
  unfolding valid
  parts v =
      let p = (and-eq-true_iff (is_family f) (dart_count_fits (length w) && (nested (takes_loops f) 1 0 [] [] w && kept))).0 v in
      let q = (and-eq-true_iff (dart_count_fits (length w)) (nested (takes_loops f) 1 0 [] [] w && kept)).0 p.1 in
      let r = (and-eq-true_iff (nested (takes_loops f) 1 0 [] [] w) kept).0 q.1 in
      (p.0, q.0, r.0, r.1)

  pub valid_family : valid f w ≡ true → is_family f ≡ true
  valid_family v = (parts v).0

  pub valid_fits : valid f w ≡ true → dart_count_fits (length w) ≡ true
  valid_fits v = (parts v).1

  pub valid_nested : valid f w ≡ true → nested (takes_loops f) 1 0 [] [] w ≡ true
  valid_nested v = (parts v).2

  pub valid_strict : valid f w ≡ true → takes_loops f ≡ false → nested false 1 0 [] [] w ≡ true
  valid_strict v e = rw e at (valid_nested v)

  pub valid_plain : valid f w ≡ true → eqb f 1 ≡ true → bare_leaf w ≡ false
  valid_plain v = not_both (eqb f 1) (bare_leaf w) (parts v).3

  pub valid_of : is_family f ≡ true → dart_count_fits (length w) ≡ true → nested (takes_loops f) 1 0 [] [] w ≡ true → (eqb f 1 ≡ true → bare_leaf w ≡ false)
      → valid f w ≡ true
  unfolding valid
  valid_of i c n l = rw (i, c, n) (both_not (eqb f 1) (bare_leaf w) l)
