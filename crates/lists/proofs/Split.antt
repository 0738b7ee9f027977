-- Bytes that begin with their length are told apart wherever they end. Assumes nothing.
--
--   splits                a framed list before other bytes is cut off in one way only
--   framed_some           no framed list is empty
use Prim.Native.Nat.{ℕ, ◌≤◌}
use native.Mathlib.Omega.{arith}
use mathlib.Core.Path.{◌≡◌, refl, sym, ap, ◌∙◌}
use mathlib.Core.List.{List, [], ◌∷◌, ◌++◌}
use lib.ListN.{length, take, drop, get_or-append}
use lib.Seq.{take_at, drop_at}
use Rattle.model.specs.Shelf.{word16}
use Rattle.lists.specs.Framed.{Framed}

-- more bytes do not change the field
field_append : (r rest : List ℕ) → 2 ≤ length r → word16 (r ++ rest) 0 ≡ word16 r 0
unfolding word16
field_append r rest h = rw (get_or-append r rest 0 0 (omega arith), get_or-append r rest 0 1 (omega arith))

same_length : (r s rest rest' : List ℕ) → Framed r → Framed s → r ++ rest ≡ s ++ rest' → length r ≡ length s
same_length r s rest rest' f g e =
    sym f.field ∙ sym (field_append r rest f.long) ∙ ap (λ (bs : List ℕ). word16 bs 0) e ∙ field_append s rest' g.long ∙ g.field

pub splits : (r s rest rest' : List ℕ) → Framed r → Framed s → r ++ rest ≡ s ++ rest' → (r ≡ s) × (rest ≡ rest')
splits r s rest rest' f g e =
    let n = same_length r s rest rest' f g e in (
      sym (take_at r rest (length s) n) ∙ ap (take (length s)) e ∙ take_at s rest' (length s) refl,
      sym (drop_at r rest (length s) n) ∙ ap (drop (length s)) e ∙ drop_at s rest' (length s) refl,
    )

-- no framed list is empty
pub framed_some : (r rest : List ℕ) → Framed r → r ++ rest ≡ [] → ⊥
framed_some [] rest f e = omega (arith, f.long)
framed_some (b ∷ bs) rest f e = let z : length (b ∷ (bs ++ rest)) ≡ 0 = ap length e in omega arith
