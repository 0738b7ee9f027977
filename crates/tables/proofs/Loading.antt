-- What loading returns.
--
--   load_short           not 243 bytes
--   load_equal, load_good   243 bytes that make no table, or one
--   made_loaded          bytes with their inverse are the table that loading gives for them
use Prim.Native.Nat.{ℕ}
use mathlib.Core.Path.{◌≡◌, sym, ap, ap₂, ◌∙◌}
use mathlib.Core.Logic.{◌≢◌}
use mathlib.Core.Bool.{Bool, true, false, not, true≢false}
use mathlib.Core.List.{List}
use lib.ListN.{length}
use borrow.Author.Tests.{ne_eqb, not-true}
use Rattle.model.specs.declared.Table.{Table}
use Rattle.model.specs.Numbers.{first_refusal}
use Rattle.model.specs.Groups.{is_table, inverse_of, loaded, no_table}
use Rattle.model.specs.Calls.{table_refused, load_refusal, loaded_table, Loads}
use Rattle.model.proofs.Booleans.{not_intro}
use Rattle.model.proofs.Tables.{loaded_stands, stands_loaded}

pub made_loaded : (bs own inv : List ℕ) → own ≡ bs → inv ≡ inverse_of own → record { bytes = own; inverse = inv } ≡ loaded bs
unfolding loaded
made_loaded bs own inv e f = ap₂ (λ (xs ys : List ℕ). record { bytes = xs; inverse = ys }) e (f ∙ ap inverse_of e)

module _ (bs : List ℕ) (t : Table) (number : ℕ) where
  -- refused
  none : is_table bs ≡ false → t ≡ no_table → number ≡ 19 → Loads bs t number
  unfolding loaded_table load_refusal first_refusal
  none e same is = record { table_is = rw e same; number_is = rw e is }

  pub load_short : length bs ≢ 243 → t ≡ no_table → number ≡ 19 → Loads bs t number
  unfolding is_table
  load_short d = none (rw (ne_eqb (length bs) 243 d))

  module _ (u : Table) (made : u ≡ loaded bs) (r : Bool) (told : r ≡ not (table_refused u)) where
    pub load_equal : r ≡ false → t ≡ no_table → number ≡ 19 → Loads bs t number
    load_equal failed = none (not_intro (is_table bs) (λ e.
        true≢false (sym (ap not (ap table_refused made ∙ loaded_stands bs e)) ∙ sym told ∙ failed)))

    pub load_good : r ≡ true → t ≡ u → number ≡ 0 → Loads bs t number
    unfolding loaded_table load_refusal first_refusal loaded
    load_good passed same is =
        let stands = not-true (table_refused u) (sym told ∙ passed) in
        let e = bytes_table (stands_loaded u stands).0 in
        record { table_is = rw e (same ∙ made); number_is = rw e is }
      where
        bytes_table : is_table u.bytes ≡ true → is_table bs ≡ true
        bytes_table g = ap (λ (x : Table). is_table x.bytes) (sym made) ∙ g
