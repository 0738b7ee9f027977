-- Node types read from a payload: what the digits and the whole come to.
--
--   digit_on t d           the codeword t with the digit d, if it has one
--   values_from n inv ps   the payload ps, bytes from place n on to values
--   TypesRead, Typed      what taking a payload of m edges apart hands back, where types ts are in it, and by cases
use Rattle.std.specs.Prelude.{ℕ, ◌+◌, ◌*◌, ◌-◌, ◌/◌, ◌%◌, ◌≡◌, Bool, true, false, cond, List, ◌++◌, ltb, length, take, drop}
use Rattle.packing.specs.Types.{Types, typed, untyped}
use Rattle.packing.specs.Groups.{values_of}
use Rattle.work.specs.Map.{TYPES}
use Rattle.work.specs.Area.{region}

-- ---- digits

unfoldable pub digit_on : ℕ → ℕ → ℕ
digit_on t d = cond (ltb t 3) t (3 + d)

unfoldable pub values_from : ℕ → List ℕ → List ℕ → List ℕ
values_from n inv ps = take n ps ++ values_of inv (drop n ps)

-- ---- the whole

pub record TypesRead (ts : List ℕ) (m : ℕ) (r : Bool) (w w' : List ℕ) : Type 0 where
  pub read : r ≡ true
  pub thirds : m % 3 ≡ 0
  pub many : length ts ≡ 2 * (m / 3) - 1
  pub stand : region (TYPES * (2 * m)) (2 * (m / 3) - 1) w' ≡ ts
  pub kept : length w' ≡ length w

unfoldable pub Typed : Types → ℕ → Bool → List ℕ → List ℕ → Type 0
Typed (typed ts) m r w w' = TypesRead ts m r w w'
Typed untyped m r w w' = (r ≡ false) × (length w' ≡ length w)
