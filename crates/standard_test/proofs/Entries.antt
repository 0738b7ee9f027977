-- The standard table, told by its entries.
--
--   alike_none, alike_to, alike_on   entries that differ in no bit from those of a function, one by one
--   entry_low, entry_high   the entries of the standard table's inverse
--   inverse_is, standard_is   the lists that have these entries
use Prim.Native.Nat.{ℕ, ◌+◌, ◌≤◌, ◌<◌}
use native.Mathlib.Omega.{arith}
use mathlib.Core.Path.{◌≡◌, refl, sym, ap, ◌∙◌}
use mathlib.Core.Bool.{Bool, true, false}
use mathlib.Core.List.{List}
use lib.Bits.{bit_xor}
use lib.Dec.{eqb}
use lib.ListN.{length, get_or}
use lib.Seq.{ext_get_or}
use borrow.Author.Tests.{eqb-true, eqb-false, lt-ltb, le-ltb}
use Rattle.model.specs.Numbers.{position, tabulate}
use Rattle.model.specs.Groups.{loaded, standard_table}
use Rattle.model.proofs.Booleans.{not_intro}
use Rattle.model.proofs.Permutations.{at_distinct, elem_at, position_entry, position_lacks}
use Rattle.model.proofs.Tables.{inverse_at, inverse_long}
use Rattle.model.proofs.Tabulated.{length_tabulate, tabulate_at}
use Rattle.orbits.proofs.Order.{lt_or_le}
use Rattle.standard_test.specs.Entries.{standard_entry, Alike}
use Rattle.standard_test.proofs.Bits.{xor_none}

pub alike_none : (g : ℕ → ℕ) (from : ℕ) (xs : List ℕ) → Alike g from from xs
alike_none g from xs = record { alike = λ i l h. absurd (let z : ⊥ = omega arith in z) }

pub alike_to : (g : ℕ → ℕ) (from to v : ℕ) (xs : List ℕ) → to ≤ v → Alike g from v xs → Alike g from to xs
alike_to g from to v xs h so_far = record { alike = λ i l k. so_far.alike i l (omega arith) }

pub alike_on : (g : ℕ → ℕ) (from v x : ℕ) (xs : List ℕ) → bit_xor (get_or xs v 0) x ≡ 0 → x ≡ g v → Alike g from v xs → Alike g from (v + 1) xs
alike_on g from v x xs e is so_far = record { alike = λ i l h. go i l h (eqb i v) refl }
  where
    go : (i : ℕ) → from ≤ i → i < v + 1 → (b : Bool) → eqb i v ≡ b → get_or xs i 0 ≡ g i
    go i l h true s = let same = eqb-true i v s in ap (λ (j : ℕ). get_or xs j 0) same ∙ xor_none (get_or xs v 0) x e ∙ is ∙ ap g (sym same)
    go i l h false s = let other = eqb-false i v s in so_far.alike i l (omega arith)

pub entry_low : (b : ℕ) → b < 243 → b ≡ standard_entry b
unfolding standard_entry
entry_low b h = rw (lt-ltb b 243 h)

pub entry_high : (b : ℕ) → 243 ≤ b → 243 ≡ standard_entry b
unfolding standard_entry
entry_high b h = rw (le-ltb b 243 h)

pub inverse_is : (inv : List ℕ) → length inv ≡ 256 → ((b : ℕ) → b < 256 → get_or inv b 0 ≡ standard_entry b) → inv ≡ standard_table.inverse
unfolding standard_table loaded
inverse_is inv wide entries = ext_get_or 0 inv _ (wide ∙ sym (inverse_long _)) (λ b h. entry b (omega arith) ∙ sym (inverse_at _ b (omega arith)))
  where
    numbers : List ℕ
    numbers = tabulate (λ v. v) 0 243

    size : length numbers ≡ 243
    size = length_tabulate (λ v. v) 0 243

    at : (b : ℕ) → b < 243 → position b numbers ≡ b
    at b h =
        let l = size in
        let e = tabulate_at (λ v. v) 243 b h in
        ap (λ (x : ℕ). position x numbers) (sym e)
        ∙ position_entry numbers (at_distinct numbers (λ j k hj hk same.
        sym (tabulate_at (λ v. v) 243 j (omega arith)) ∙ same ∙ tabulate_at (λ v. v) 243 k (omega arith))) b (omega arith)

    past : (b : ℕ) → 243 ≤ b → position b numbers ≡ 243
    past b h = position_lacks b numbers (not_intro _ (λ m.
        let (k, l, is) = elem_at b numbers m in
        let s = size in
        let e = tabulate_at (λ v. v) 243 k (omega arith) in
        omega arith)) ∙ size

    entry : (b : ℕ) → b < 256 → get_or inv b 0 ≡ position b numbers
    entry b h = entries b h ∙ lt_or_le b 243 (λ l. sym (entry_low b l) ∙ sym (at b l)) (λ l. sym (entry_high b l) ∙ sym (past b l))

-- the standard table's entries, as they are compared
pub standard_is : (bs inv : List ℕ) → length bs ≡ 243 → length inv ≡ 256 → Alike (λ v. v) 0 224 bs → Alike (λ v. v) 0 224 inv → Alike (λ v. v) 224 243 bs
    → Alike standard_entry 224 256 inv → (bs ≡ standard_table.bytes) × (inv ≡ standard_table.inverse)
unfolding standard_table loaded
standard_is bs inv long wide first first-inverse last last-inverse = (
  ext_get_or 0 bs _ (long ∙ sym (length_tabulate (λ v. v) 0 243)) (λ i h. own i (omega arith) ∙ sym (tabulate_at (λ v. v) 243 i (omega arith))),
  inverse_is inv wide (λ b h. lt_or_le b 224 (λ l. first-inverse.alike b (omega arith) l ∙ entry_low b (omega arith)) (λ g. last-inverse.alike b g h)),
)
  where
    own : (v : ℕ) → v < 243 → get_or bs v 0 ≡ v
    own v h = lt_or_le v 224 (λ l. first.alike v (omega arith) l) (λ g. last.alike v g h)
