-- What refusal 19 tells of a table, n being the number that the test of it gives.
--
--   stands               none is given: loading gives the table
--   turned_away          one is given: loading never gives it, and it is 19
use mathlib.Core.Path.{◌≡◌, refl, sym, ◌∙◌}
use mathlib.Core.Logic.{◌≢◌}
use mathlib.Core.Bool.{Bool, true, false, cond}
use Prim.Native.Nat.{ℕ}
use native.Mathlib.Nat.{suc-ne-zero}
use Rattle.model.specs.declared.Table.{Table}
use Rattle.model.specs.Calls.{table_refused}

module _ (t : Table) (n : ℕ) (is : n ≡ cond (table_refused t) 19 0) where
  pub stands : n ≡ 0 → table_refused t ≡ false
  stands none = go (table_refused t) refl is
    where
      go : (b : Bool) → table_refused t ≡ b → n ≡ cond b 19 0 → b ≡ false
      go true e f = absurd (suc-ne-zero 18 (sym f ∙ none))
      go false e f = refl

  pub turned_away : n ≢ 0 → (table_refused t ≡ true) × (n ≡ 19)
  turned_away some = go (table_refused t) is
    where
      go : (b : Bool) → n ≡ cond b 19 0 → (b ≡ true) × (n ≡ 19)
      go true f = (refl, f)
      go false f = absurd (some f)
