-- Numbers taken apart into digits: the inverse of `pack`.
--
--   digits_of base w x     the w low digits of x, the highest of them first
--   unpack base w n xs    the digits of the first n numbers of xs, w of each, one after the other
--   bits xs               the bits of the bytes xs
--   groups xs             the labels of the bytes xs: five of each, in base 3
use Rattle.std.specs.Prelude.{ℕ, zero, suc, ◌/◌, ◌%◌, ◌^◌, ◌≡◌, refl, List, [], ◌∷◌, ◌++◌, length, get_or, drop}

unfoldable pub digits_of : ℕ → ℕ → ℕ → List ℕ
digits_of base zero x = []
digits_of base (suc w) x = x / base ^ w % base ∷ digits_of base w x

unfoldable pub unpack : ℕ → ℕ → ℕ → List ℕ → List ℕ
unpack base w zero xs = []
unpack base w (suc n) xs = digits_of base w (get_or xs 0 0) ++ unpack base w n (drop 1 xs)

-- "Bits fill a byte from its highest bit"
unfoldable pub bits : List ℕ → List ℕ
bits xs = unpack 2 8 (length xs) xs

-- "groups of five .., first label highest in base 3, one byte a group"
unfoldable pub groups : List ℕ → List ℕ
groups xs = unpack 3 5 (length xs) xs

-- ---- examples

two_bytes : bits (5 ∷ 128 ∷ []) ≡ 0 ∷ 0 ∷ 0 ∷ 0 ∷ 0 ∷ 1 ∷ 0 ∷ 1 ∷ 1 ∷ 0 ∷ 0 ∷ 0 ∷ 0 ∷ 0 ∷ 0 ∷ 0 ∷ []
unfolding bits groups unpack digits_of
two_bytes = refl

two_groups : groups (242 ∷ 81 ∷ []) ≡ 2 ∷ 2 ∷ 2 ∷ 2 ∷ 2 ∷ 1 ∷ 0 ∷ 0 ∷ 0 ∷ 0 ∷ []
unfolding bits groups unpack digits_of
two_groups = refl
