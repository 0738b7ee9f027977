-- The number of the first equal record, and the records that a search for it meets.
--
--   first_bound           it is at most how many records there are
--   first_there           if it is less, that record is the equal one
--   first_least           no record before it is equal
--   first_behind          put behind records that are all unlike, a record has the next number
--   met_there             an equal record is met, after those before it
--   met_all               where none is equal all are met
use mathlib.Core.Path.{◌≡◌, refl, sym, ap, ◌∙◌}
use mathlib.Core.Logic.{◌≢◌}
use mathlib.Core.Bool.{Bool, true, false, cond, false≢true}
use mathlib.Core.List.{List, [], ◌∷◌, ◌++◌}
use Prim.Native.Nat.{ℕ, zero, suc, ◌≤◌, ◌<◌}
use native.Mathlib.Nat.{not-suc-le-zero, le_of_suc-le-suc}
use native.Mathlib.Omega.{arith}
use lib.ListN.{length, get_or, take}
use lib.Seq.{take-suc, take_all}
use Rattle.model.specs.Shelf.{same, first_equal, met}
use Rattle.model.proofs.Same.{same_refl, same_eq}

pub first_bound : (r : List ℕ) (rs : List (List ℕ)) → first_equal r rs ≤ length rs
unfolding first_equal
first_bound r [] = omega arith
first_bound r (s ∷ rs) = go (same r s) (first_bound r rs)
  where
    go : (b : Bool) → first_equal r rs ≤ length rs → cond b 0 (suc (first_equal r rs)) ≤ suc (length rs)
    go true h = omega arith
    go false h = omega arith

pub first_there : (r : List ℕ) (rs : List (List ℕ)) → first_equal r rs < length rs → get_or rs (first_equal r rs) [] ≡ r
unfolding first_equal
first_there r [] h = absurd (not-suc-le-zero h)
first_there r (s ∷ rs) h = go (same r s) refl h (first_there r rs)
  where
    go : (b : Bool) → same r s ≡ b → cond b 0 (suc (first_equal r rs)) < suc (length rs)
        → (first_equal r rs < length rs → get_or rs (first_equal r rs) [] ≡ r)
        → get_or (s ∷ rs) (cond b 0 (suc (first_equal r rs))) [] ≡ r
    go true e h ih = sym (same_eq r s e)
    go false e h ih = ih (le_of_suc-le-suc h)

pub first_least : (r : List ℕ) (rs : List (List ℕ)) (k : ℕ) → k < first_equal r rs → get_or rs k [] ≢ r
unfolding first_equal
first_least r [] k h = absurd (not-suc-le-zero h)
first_least r (s ∷ rs) zero h = go (same r s) refl h
  where
    go : (b : Bool) → same r s ≡ b → 0 < cond b 0 (suc (first_equal r rs)) → s ≢ r
    go true e h = absurd (not-suc-le-zero h)
    go false e h = λ q. false≢true (sym e ∙ (ap (same r) q ∙ same_refl r))
first_least r (s ∷ rs) (suc k) h = go (same r s) h (first_least r rs k)
  where
    go : (b : Bool) → suc k < cond b 0 (suc (first_equal r rs)) → (k < first_equal r rs → get_or rs k [] ≢ r) → get_or rs k [] ≢ r
    go true h ih = absurd (not-suc-le-zero h)
    go false h ih = ih (le_of_suc-le-suc h)

pub first_behind : (r : List ℕ) (rs : List (List ℕ)) → first_equal r rs ≡ length rs → first_equal r (rs ++ (r ∷ [])) ≡ length rs
unfolding first_equal
first_behind r [] e = rw (same_refl r)
first_behind r (s ∷ rs) e = go (same r s) e (first_behind r rs)
  where
    go : (b : Bool) → cond b 0 (suc (first_equal r rs)) ≡ suc (length rs)
        → (first_equal r rs ≡ length rs → first_equal r (rs ++ (r ∷ [])) ≡ length rs)
        → cond b 0 (suc (first_equal r (rs ++ (r ∷ [])))) ≡ suc (length rs)
    go true e ih = absurd (omega arith)
    go false e ih = ap suc (ih (omega arith))

module _ (r : List ℕ) (rs : List (List ℕ)) where
  pub met_there : first_equal r rs < length rs → met r rs ≡ take (first_equal r rs) rs ++ (r ∷ [])
  unfolding met
  met_there h = take-suc rs (first_equal r rs) [] h ∙ ap (λ (s : List ℕ). take (first_equal r rs) rs ++ (s ∷ [])) (first_there r rs h)

  pub met_all : first_equal r rs ≡ length rs → met r rs ≡ rs
  unfolding met
  met_all e = take_all (suc (first_equal r rs)) rs (omega arith)
