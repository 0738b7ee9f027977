-- Values replaced by their bytes, one by one, from the first on.
--
--   low_entry            the entry that is to be replaced is still as it was, so it is a value
--   all_applied          in the end each is replaced
use Rattle.std.proofs.Common.{◌≡◌, ℕ, ◌≤◌, ◌<◌, true, List, ◌++◌, length, get_or, take, drop, arith}
use Rattle.std.proofs.lemmas.Grind.{common_steps}
use mathlib.Core.List.{map}
use Rattle.model.specs.Numbers.{all_below}
use Rattle.model.proofs.Permutations.{below_all}

pub low_entry : (g : ℕ → ℕ) (i : ℕ) (xs ys : List ℕ) → i < length xs → ys ≡ map g (take i xs) ++ drop i xs → all_below 243 xs ≡ true → get_or ys i 0 < 243
low_entry g i xs ys h so_far low =
    let b = below_all 243 xs low i h in
    let same : get_or ys i 0 ≡ get_or xs i 0 = grind (arith, common_steps) in
    omega arith

pub all_applied : (g : ℕ → ℕ) (i : ℕ) (xs ys : List ℕ) → length xs ≤ i → ys ≡ map g (take i xs) ++ drop i xs → ys ≡ map g xs
all_applied g i xs ys h so_far = grind (arith, common_steps)
