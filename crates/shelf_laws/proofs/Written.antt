-- What writing wrote can be shelved.
--
--   shelves_read          a record that a fit plan has, with room, is met by 14 and 16 alone
--   written_shelved       so is what writing wrote, under its table
use Prim.Native.Nat.{ℕ, ◌*◌, ◌≤◌}
use native.Mathlib.Omega.{arith}
use mathlib.Core.Path.{◌≡◌}
use mathlib.Core.Bool.{false}
use mathlib.Core.List.{List}
use lib.ListN.{length, take}
use Rattle.model.specs.declared.Table.{Table}
use Rattle.std.specs.Prelude.{Result, Ok}
use Rattle.model.specs.declared.Refusal.{Refusal}
use Rattle.model.specs.declared.Shelved.{Shelved}
use Rattle.model.specs.Map.{Plan, edges}
use Rattle.model.specs.Calls.{table_refused, record_refusal, Wrote, HasRecord, shelve_answer, shelved_bytes, Shelves, unread, planless, readable, Stored}
use Rattle.model.proofs.Reading.{clear_record}
use Rattle.reading.proofs.FitRecords.{has_edges, has_passes}
use Rattle.reading.proofs.RoundTrip.{wrote_stands, wrote_has}

pub shelves_read : (t : Table) → table_refused t ≡ false → (r : List ℕ) (p : Plan) → HasRecord t r p → (w s : List ℕ) (u : ℕ) (a : Result Shelved Refusal) (w' s' : List ℕ)
    → Stored t r w s u a w' s' → 32 * edges p.rotation ≤ length w → (a ≡ shelve_answer r s u) × (s' ≡ shelved_bytes r s u)
shelves_read t stands r p has w s u a w' s' c h = go c.outcome
  where
    none : record_refusal t r (length w) ≡ 0
    none =
        let e = has_edges t r p has in
        clear_record t r (length w) (record { stands = stands; passed = has_passes t r p has; room = omega arith })

    go : Shelves t r (length w) s u a s' → (a ≡ shelve_answer r s u) × (s' ≡ shelved_bytes r s u)
    go (unread d e f) = absurd (d none)
    go (planless z never e f) = absurd (never p has)
    go (readable z q g e f) = (e, f)

pub written_shelved : (t : Table) (k : ℕ) (p : Plan) (w o : List ℕ) (n : ℕ) (w' o' : List ℕ) → Wrote t k p w o (Ok n) w' o'
    → (v s : List ℕ) (u : ℕ) (a : Result Shelved Refusal) (v' s' : List ℕ) → Stored t (take n o') v s u a v' s' → 32 * edges p.rotation ≤ length v
    → (a ≡ shelve_answer (take n o') s u) × (s' ≡ shelved_bytes (take n o') s u)
written_shelved t k p w o n w' o' wrote v s u a v' s' c h =
    shelves_read t (wrote_stands t k p w o n w' o' wrote) (take n o') p (wrote_has t k p w o n w' o' wrote) v s u a v' s' c h
