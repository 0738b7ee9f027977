-- The entries of a list from place k on. Assumes nothing.
--
--   one_next, two_next    they begin with these
--   last_next             there is one alone
use Prim.Native.Nat.{ℕ, ◌+◌, ◌≤◌, ◌<◌}
use native.Mathlib.Numerals.{add-one}
use native.Mathlib.Omega.{arith}
use mathlib.Core.Path.{◌≡◌, sym, ap, ◌∙◌}
use mathlib.Core.List.{List, [], ◌∷◌}
use lib.ListN.{length, get_or, drop, drop_of_length-le}
use lib.Seq.{drop-cons}

rest_cons : (xs : List ℕ) (k : ℕ) → k < length xs → drop k xs ≡ get_or xs k 0 ∷ drop (k + 1) xs
rest_cons xs k h = rw add-one (drop-cons xs k 0 h)

-- x is the entry at place k
pub one_next : (xs : List ℕ) (k x : ℕ) → k < length xs → x ≡ get_or xs k 0 → drop k xs ≡ x ∷ drop (k + 1) xs
one_next xs k x h e = rest_cons xs k h ∙ ap (λ (y : ℕ). y ∷ drop (k + 1) xs) (sym e)

pub two_next : (xs : List ℕ) (k x y : ℕ) → k + 1 < length xs → x ≡ get_or xs k 0 → y ≡ get_or xs (k + 1) 0 → drop k xs ≡ x ∷ y ∷ drop (k + 2) xs
two_next xs k x y h e f =
    let p : k + 1 + 1 ≡ k + 2 = omega arith in
    one_next xs k x (omega arith) e ∙ ap (λ (r : List ℕ). x ∷ r) (one_next xs (k + 1) y h f ∙ ap (λ (i : ℕ). y ∷ drop i xs) p)

pub last_next : (xs : List ℕ) (k : ℕ) → k < length xs → length xs ≤ k + 1 → drop k xs ≡ get_or xs k 0 ∷ []
last_next xs k h l = rest_cons xs k h ∙ ap (λ (r : List ℕ). get_or xs k 0 ∷ r) (drop_of_length-le xs l)
