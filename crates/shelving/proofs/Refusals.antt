-- The refusals of shelving, at plain values: r is the record, s the shelf, u its used length, t the table and n the length of the work area.
--
--   stored_refused, stored_read   the two ways out of shelving: a refusal met while reading, or the record is placed
--   read_long             a record that is read has a head
use mathlib.Core.Path.{◌≡◌, refl, sym, ap, ◌∙◌}
use mathlib.Core.List.{List}
use Prim.Native.Nat.{ℕ, ◌≤◌}
use lib.ListN.{length}
use Rattle.std.specs.Prelude.{Result, Ok, Err}
use Rattle.model.specs.declared.Refusal.{Refusal}
use Rattle.model.specs.declared.Table.{Table}
use Rattle.model.specs.declared.ReadBack.{ReadBack}
use Rattle.model.specs.declared.Shelved.{Shelved}
use Rattle.model.specs.Calls.{shelve_answer, shelved_bytes, Shelves, unread, planless, readable}
use Rattle.model.proofs.Reading.{record_clear}
use Rattle.model.proofs.Heads.{passes_long}
use Rattle.decoding.specs.Planned.{Verdict, early, decided, had, not_had}

module _ (t : Table) (r : List ℕ) (n : ℕ) (v : Result ReadBack Refusal) (told : Verdict t r n v) where
  pub stored_refused : (s : List ℕ) (u : ℕ) (x : Refusal) → v ≡ Err x → Shelves t r n s u (Err x) s
  stored_refused s u x is = go told
    where
      go : Verdict t r n v → Shelves t r n s u (Err x) s
      go (early d e) = unread d (ap Err (cc (sym is ∙ e))) refl
      go (decided z (had p has e)) = cc (sym is ∙ e)
      go (decided z (not_had never e)) = planless z never (ap Err (cc (sym is ∙ e))) refl

  module _ (b : ReadBack) (is : v ≡ Ok b) where
    pub read_long : 6 ≤ length r
    read_long = go told
      where
        go : Verdict t r n v → 6 ≤ length r
        go (early d e) = cc (sym is ∙ e)
        go (decided z j) = passes_long r (record_clear t r n z).passed

    pub stored_read : (s : List ℕ) (u : ℕ) (a : Result Shelved Refusal) (s' : List ℕ) → a ≡ shelve_answer r s u → s' ≡ shelved_bytes r s u → Shelves t r n s u a s'
    stored_read s u a s' p q = go told
      where
        go : Verdict t r n v → Shelves t r n s u a s'
        go (early d e) = cc (sym is ∙ e)
        go (decided z (had p' has e)) = readable z p' has p q
        go (decided z (not_had never e)) = cc (sym is ∙ e)
