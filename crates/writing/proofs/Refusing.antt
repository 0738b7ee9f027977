-- Writing's refusals, the early ones before those of the plan itself.
--
--   refusal_table        writing's refusal is 19 where loading never gives the table
--   refusal_split        else it is the early one, else the late one, else that of the record
--   early_not_ten        an early refusal is not 10
use Prim.Native.Nat.{ℕ}
use mathlib.Core.Path.{◌≡◌, refl, ap, ◌∙◌}
use mathlib.Core.Bool.{true, false, cond}
use mathlib.Core.List.{◌++◌}
use lib.Dec.{eqb}
use Rattle.model.specs.declared.Table.{Table}
use Rattle.model.specs.Numbers.{first_refusal}
use Rattle.model.specs.Map.{Plan, family}
use Rattle.model.specs.Calls.{table_refused, early_refusals, late_refusals, last_refusals, write_refusal}
use Rattle.model.proofs.Refusals.{first_lacks, first_append, table_stands, table_first}
use Rattle.fitting.specs.Judged.{late_refusal}
use Rattle.write_checks.specs.Early.{early_refusal}

pub refusal_table : (t : Table) (k : ℕ) (p : Plan) (wl ol : ℕ) → table_refused t ≡ true → write_refusal t k p wl ol ≡ 19
unfolding write_refusal
refusal_table t k p wl ol e = table_first t _ e

pub refusal_split : (t : Table) (k : ℕ) (p : Plan) (wl ol : ℕ) → table_refused t ≡ false
    → write_refusal t k p wl ol ≡ cond (eqb (early_refusal k p wl ol) 0)
    (cond (eqb (late_refusal (family k) p) 0) (first_refusal (last_refusals t k p ol)) (late_refusal (family k) p)) (early_refusal k p wl ol)
unfolding write_refusal early_refusal early_refusals late_refusal late_refusals
refusal_split t k p wl ol stands =
    table_stands t _ stands ∙ first_append (early_refusals k p wl ol) (late_refusals (family k) p ++ last_refusals t k p ol) refl
    ∙ ap (λ (r : ℕ). cond (eqb (early_refusal k p wl ol) 0) r (early_refusal k p wl ol)) (first_append (late_refusals (family k) p) (last_refusals t k p ol) refl)

pub early_not_ten : (k : ℕ) (p : Plan) (wl ol : ℕ) → eqb (early_refusal k p wl ol) 10 ≡ false
unfolding early_refusal early_refusals
early_not_ten k p wl ol = first_lacks 10 (early_refusals k p wl ol) refl refl
