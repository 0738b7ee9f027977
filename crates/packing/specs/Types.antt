-- The payload of a mesh and how it is taken apart: codewords of code A, then digits in groups.
--
--   is_type t, all_types ts   1 to 5, of one number and of a list
--   types_payload ts       the payload of types, a group's value in place of its byte
--   Codes, read_codes n bs   the first n codewords in bits, 3 for any of types 3 to 5, and how many bits they have; more, one more
--   code_bytes m ps        how many bytes the codewords in the payload ps of a mesh of m edges take, all if they run out; codes_end, of what is read
--   with_digits ss ds      codewords and digits put together
--   clean ps c l          ps is as long as c bits and l digits want it, and nothing stands beside them
--   Types, types_from ps cs   the types in the payload ps whose codewords are cs, or none
--   types_in m ps          the types in the payload ps of a mesh of m edges, or none
use Rattle.std.specs.Prelude.{ℕ, zero, suc, ◌+◌, ◌-◌, ◌*◌, ◌/◌, ◌%◌, Bool, true, false, ◌&&◌, cond, List, [], ◌∷◌, ◌++◌, eqb, ltb, length, take, drop}
use Rattle.model.specs.Numbers.{all_below}
use Rattle.model.specs.Mesh.{type_bits, type_digits}
use Rattle.model.specs.Record.{pack, bytes_for}
use Rattle.packing.specs.Unpack.{bits, groups}
use Rattle.packing.specs.Payload.{blank_from}

unfoldable pub is_type : ℕ → Bool
is_type zero = false
is_type (suc zero) = true
is_type (suc (suc zero)) = true
is_type (suc (suc (suc n))) = ltb n 3

unfoldable pub all_types : List ℕ → Bool
all_types [] = true
all_types (t ∷ ts) = is_type t && all_types ts

unfoldable pub types_payload : List ℕ → List ℕ
types_payload ts =
    pack 2 8 (bytes_for (length (type_bits ts)) 8) (type_bits ts) ++ pack 3 5 (bytes_for (length (type_digits ts)) 5) (type_digits ts)

-- ---- reading

pub data Codes : Type 0 where
  coded : List ℕ → ℕ → Codes
  short : Codes

-- the codeword t of k bits before the others
abbrev pub more : ℕ → ℕ → Codes → Codes
more t k (coded ss c) = coded (t ∷ ss) (k + c)
more t k short = short

unfoldable pub read_codes : ℕ → List ℕ → Codes
read_codes zero bs = coded [] 0
read_codes (suc n) [] = short
read_codes (suc n) (zero ∷ []) = short
read_codes (suc n) (zero ∷ b ∷ bs) = more (suc b) 2 (read_codes n bs)
read_codes (suc n) (suc a ∷ bs) = more 3 1 (read_codes n bs)

unfoldable pub with_digits : List ℕ → List ℕ → List ℕ
with_digits [] ds = []
with_digits (zero ∷ ss) ds = 0 ∷ with_digits ss ds
with_digits (suc zero ∷ ss) ds = 1 ∷ with_digits ss ds
with_digits (suc (suc zero) ∷ ss) ds = 2 ∷ with_digits ss ds
with_digits (suc (suc (suc n)) ∷ ss) [] = 3 ∷ with_digits ss []
with_digits (suc (suc (suc n)) ∷ ss) (d ∷ ds) = suc (suc (suc d)) ∷ with_digits ss ds

-- the codewords stand in whole bytes, the groups behind them; no groups where the codewords run out
abbrev pub codes_end : Codes → ℕ → ℕ
codes_end (coded ss c) l = bytes_for c 8
codes_end short l = l

unfoldable pub code_bytes : ℕ → List ℕ → ℕ
code_bytes m ps = codes_end (read_codes (2 * (m / 3) - 1) (bits ps)) (length ps)

pub data Types : Type 0 where
  typed : List ℕ → Types
  untyped : Types

-- "a wrong length is 13"; unused bits and fill digits are 0, and no byte of a group is above 242
unfoldable pub clean : List ℕ → ℕ → ℕ → Bool
clean ps c l =
    let n = bytes_for c 8 in
    eqb (length ps) (n + bytes_for l 5)
    && (blank_from c (bits (take n ps)) && (all_below 243 (drop n ps) && blank_from l (groups (drop n ps))))

unfoldable pub types_from : List ℕ → Codes → Types
types_from ps short = untyped
types_from ps (coded ss c) =
    let l = length (type_digits ss) in
    cond (clean ps c l) (typed (with_digits ss (take l (groups (drop (bytes_for c 8) ps))))) untyped

-- a mesh of m edges has 2m/3 faces, and the start node is left out
unfoldable pub types_in : ℕ → List ℕ → Types
types_in m ps = cond (eqb (m % 3) 0) (types_from ps (read_codes (2 * (m / 3) - 1) (bits ps))) untyped
