-- A store into two lists, one after the other.
--
--   set_append_right      behind the first
use Prim.Native.Nat.{ℕ, ◌+◌}
use native.Mathlib.Nat.{zero-add, suc-add}
use mathlib.Core.Path.{◌≡◌, ap}
use mathlib.Core.List.{List, [], ◌∷◌, ◌++◌}
use lib.ListN.{length, set}

pub set_append_right : (xs ys : List ℕ) (k a : ℕ) → set (xs ++ ys) (length xs + k) a ≡ xs ++ set ys k a
set_append_right [] ys k a = rw (zero-add k)
set_append_right (x ∷ xs) ys k a = rw (suc-add (length xs) k) (ap (λ (r : List ℕ). x ∷ r) (set_append_right xs ys k a))
