-- The groups of a payload, its value or its byte for each: how a table comes in. All else of a payload knows values only.
--
--   groups_from f m ps     where the groups of the payload ps of family f with m edges begin; at its end where it has none
--   on_groups g f m ps     the payload, and g applied to each byte that stands for a group
--   relabelled bs f m ps  values to bytes, by the bytes of a table
--   undone inv f m ps     bytes to values, by an inverse
--   values_of inv bs       the values of bytes that all stand for groups
--   Values f m ps         every byte that stands for a group is a value, below 243
use Rattle.std.specs.Prelude.{ℕ, ◌*◌, ◌≡◌, true, cond, List, ◌++◌, map, eqb, length, get_or, take, drop}
use Rattle.model.specs.Numbers.{all_below}
use Rattle.model.specs.Record.{bytes_for}
use Rattle.packing.specs.Types.{code_bytes}

-- behind the tree bits, or behind the codewords
unfoldable pub groups_from : ℕ → ℕ → List ℕ → ℕ
groups_from f m ps = cond (eqb f 2) (bytes_for (2 * m) 8) (cond (eqb f 3) (code_bytes m ps) (length ps))

unfoldable pub on_groups : (ℕ → ℕ) → ℕ → ℕ → List ℕ → List ℕ
on_groups g f m ps = let n = groups_from f m ps in take n ps ++ map g (drop n ps)

unfoldable pub relabelled : List ℕ → ℕ → ℕ → List ℕ → List ℕ
relabelled bs = on_groups (λ v. get_or bs v 0)

unfoldable pub undone : List ℕ → ℕ → ℕ → List ℕ → List ℕ
undone inv = on_groups (λ b. get_or inv b 0)

unfoldable pub values_of : List ℕ → List ℕ → List ℕ
values_of inv bs = map (λ b. get_or inv b 0) bs

abbrev pub Values : ℕ → ℕ → List ℕ → Type 0
Values f m ps = all_below 243 (drop (groups_from f m ps) ps) ≡ true
