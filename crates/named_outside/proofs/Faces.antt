-- The outside that a record names, at plain values.
--
--   outer_head           a kind that stores the outside has eight bytes before it
--   face_zero_is         0 is the lowest dart of its face
use Prim.Native.Nat.{ℕ, ◌≤◌}
use native.Mathlib.Omega.{arith}
use mathlib.Core.Path.{◌≡◌, sym, ap, ◌∙◌}
use mathlib.Core.Bool.{true, ◌&&◌}
use mathlib.Core.List.{List}
use lib.Dec.{eqb, ltb}
use lib.ListN.{length}
use borrow.Author.Tests.{lt-ltb, eq-eqb}
use Rattle.model.specs.Map.{face_of, stores_outside, dart_count_fits}
use Rattle.model.specs.Record.{head_length, record_length}
use Rattle.model.specs.Shelf.{kind_of, passes}
use Rattle.model.proofs.Fitness.{count_positive}
use Rattle.model.proofs.Heads.{stores_fixed, passes_facts}
use Rattle.orbits.proofs.Maps.{face_zero}
use Rattle.record_lengths.proofs.Head.{head_stores}

pub outer_head : (r : List ℕ) → passes r ≡ true → stores_outside (kind_of r) ≡ true → (8 ≡ head_length (kind_of r)) × (8 ≤ length r)
unfolding record_length
outer_head r passed s = let h = head_stores (kind_of r) s in let l = (passes_facts r passed).right_length (stores_fixed (kind_of r) s) in (h, omega arith)

pub face_zero_is : (rot : List ℕ) (n x : ℕ) → dart_count_fits n ≡ true → x ≡ 0 → eqb x 0 ≡ (ltb x n && eqb (face_of rot x) x)
face_zero_is rot n x count e =
    let h = count_positive n count in
    rw (eq-eqb x 0 e, lt-ltb x n (omega arith)) (sym (eq-eqb (face_of rot x) x (ap (face_of rot) e ∙ face_zero rot ∙ sym e)))
