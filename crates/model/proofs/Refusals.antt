-- Lists of refusals, however many they are.
--
--   condition_of n rs     the condition of refusal n; lacks n rs, there is none with this number
--   none_holds           if the first is 0, every condition fails
--   first_lacks          the first has no number that none of them has
--   first_append         the first of two lists, one after the other
--   append_none          if it is 0, it is 0 in both
--   table_stands, table_first, none_stands   a refusal of the table comes before all others, or is none
--   passed_fit           where none of the early and the late refusals of writing holds, the plan is fit
--   not_refused          where no refusal of writing holds, the table is one that loading gives and the plan is fit
use Prim.Native.Nat.{ℕ}
use native.Mathlib.Nat.{suc-ne-zero}
use mathlib.Core.Path.{◌≡◌, refl, sym, ◌∙◌}
use mathlib.Core.Bool.{Bool, true, false, not, ◌&&◌, cond}
use mathlib.Core.List.{List, [], ◌∷◌, ◌++◌}
use lib.Dec.{eqb}
use borrow.Author.Tests.{eqb-true, eqb-false, ltb-true, not-true, not-false}
use Rattle.model.specs.declared.Table.{Table}
use Rattle.model.specs.Numbers.{Check, first_refusal, refuse}
use Rattle.model.specs.Map.{Plan, family, fit}
use Rattle.model.specs.Calls.{table_refused, early_refusals, late_refusals, last_refusals, write_refusal}
use Rattle.model.proofs.Booleans.{and_left, and_right}
use Rattle.model.proofs.Fitness.{parts_fit}

abbrev pub condition_of : ℕ → List Check → Bool
condition_of n [] = false
condition_of n (r ∷ rs) = cond (eqb r.number n) r.holds (condition_of n rs)

abbrev pub lacks : ℕ → List Check → Bool
lacks n [] = true
lacks n (r ∷ rs) = not (eqb r.number n) && lacks n rs

lacks_parts : (n : ℕ) (r : Check) (rs : List Check) → lacks n (r ∷ rs) ≡ true → (eqb r.number n ≡ false) × (lacks n rs ≡ true)
lacks_parts n r rs l = (not-true (eqb r.number n) (and_left _ (lacks n rs) l), and_right (not (eqb r.number n)) _ l)

pub none_holds : (rs : List Check) → lacks 0 rs ≡ true → first_refusal rs ≡ 0 → (n : ℕ) → condition_of n rs ≡ false
unfolding first_refusal
none_holds [] l e n = refl
none_holds (r ∷ rs) l e n =
    let (here, rest) = lacks_parts 0 r rs l in
    go r.holds (eqb r.number n) (eqb-false r.number 0 here) e (λ z. none_holds rs rest z n)
  where
    go : (b c : Bool) → (r.number ≡ 0 → ⊥) → cond b r.number (first_refusal rs) ≡ 0 → (first_refusal rs ≡ 0 → condition_of n rs ≡ false)
        → cond c b (condition_of n rs) ≡ false
    go true c d z more = absurd (d z)
    go false true d z more = refl
    go false false d z more = more z

pub first_lacks : (n : ℕ) (rs : List Check) → eqb 0 n ≡ false → lacks n rs ≡ true → eqb (first_refusal rs) n ≡ false
unfolding first_refusal
first_lacks n [] z l = z
first_lacks n (r ∷ rs) z l = let (here, rest) = lacks_parts n r rs l in go r.holds here (first_lacks n rs z rest)
  where
    go : (b : Bool) → eqb r.number n ≡ false → eqb (first_refusal rs) n ≡ false → eqb (cond b r.number (first_refusal rs)) n ≡ false
    go true h ih = h
    go false h ih = ih

pub first_append : (rs ss : List Check) → lacks 0 rs ≡ true
    → first_refusal (rs ++ ss) ≡ cond (eqb (first_refusal rs) 0) (first_refusal ss) (first_refusal rs)
unfolding first_refusal
first_append [] ss l = refl
first_append (r ∷ rs) ss l = let (here, rest) = lacks_parts 0 r rs l in go r.holds here (first_append rs ss rest)
  where
    go : (b : Bool) → eqb r.number 0 ≡ false → first_refusal (rs ++ ss) ≡ cond (eqb (first_refusal rs) 0) (first_refusal ss) (first_refusal rs)
        → cond b r.number (first_refusal (rs ++ ss)) ≡ cond (eqb (cond b r.number (first_refusal rs)) 0) (first_refusal ss) (cond b r.number (first_refusal rs))
    go true n ih = rw n
    go false n ih = ih

pub append_none : (rs ss : List Check) → lacks 0 rs ≡ true → first_refusal (rs ++ ss) ≡ 0 → (first_refusal rs ≡ 0) × (first_refusal ss ≡ 0)
append_none rs ss l e = go (eqb (first_refusal rs) 0) refl (sym (first_append rs ss l) ∙ e)
  where
    go : (b : Bool) → eqb (first_refusal rs) 0 ≡ b → cond b (first_refusal ss) (first_refusal rs) ≡ 0 → (first_refusal rs ≡ 0) × (first_refusal ss ≡ 0)
    go true t z = (eqb-true _ 0 t, z)
    go false t z = absurd (eqb-false _ 0 t z)

-- ---- the table comes first

module _ (t : Table) (rs : List Check) where
  pub table_stands : table_refused t ≡ false → first_refusal (refuse 19 (table_refused t) ∷ rs) ≡ first_refusal rs
  unfolding first_refusal
  table_stands e = rw e

  pub table_first : table_refused t ≡ true → first_refusal (refuse 19 (table_refused t) ∷ rs) ≡ 19
  unfolding first_refusal
  table_first e = rw e

  pub none_stands : first_refusal (refuse 19 (table_refused t) ∷ rs) ≡ 0 → table_refused t ≡ false
  unfolding first_refusal
  none_stands e = go (table_refused t) e
    where
      go : (b : Bool) → cond b 19 (first_refusal rs) ≡ 0 → b ≡ false
      go true z = absurd (suc-ne-zero 18 z)
      go false z = refl

-- ---- writing

-- where none of the plan's own holds either
pub passed_fit : (k : ℕ) (p : Plan) (w o : ℕ) → first_refusal (early_refusals k p w o) ≡ 0 → first_refusal (late_refusals (family k) p) ≡ 0 → fit k p ≡ true
unfolding early_refusals late_refusals
passed_fit k p w o e l =
    let early = none_holds (early_refusals k p w o) refl e in
    let late = none_holds (late_refusals (family k) p) refl l in
    parts_fit k p (record {
      kind = not-false _ (early 2);
      count = not-false _ (early 3);
      root = ltb-true _ _ (not-false _ (early 4));
      outside = early 17;
      entries = not-false _ (early 6);
      joined = not-false _ (late 9);
      flat = not-false _ (late 10);
      loops = late 11;
      triangles = late 18;
      degrees = late 12;
    })

pub not_refused : (t : Table) (k : ℕ) (p : Plan) (w o : ℕ) → write_refusal t k p w o ≡ 0 → (table_refused t ≡ false) × (fit k p ≡ true)
unfolding write_refusal early_refusals late_refusals
not_refused t k p w o e =
    let late = late_refusals (family k) p in
    let stands = none_stands t (early_refusals k p w o ++ (late ++ last_refusals t k p o)) e in
    let (first, rest) = append_none (early_refusals k p w o) (late ++ last_refusals t k p o) refl (sym (table_stands t _ stands) ∙ e) in
    (stands, passed_fit k p w o first (append_none late (last_refusals t k p o) refl rest).0)
