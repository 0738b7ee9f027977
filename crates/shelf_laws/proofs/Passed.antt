-- Shelving beside reading: a is what reading a record answers with room in its output, b what shelving it answers with as long a work area.
--
--   passed_on             "A refusal met while reading the record is passed on", and the shelf is as it was
--   read_placed           a record that is read is met by 14 and 16 alone
use Prim.Native.Nat.{ℕ, ◌*◌, ◌≤◌}
use mathlib.Core.Path.{◌≡◌, sym, ap, ◌∙◌}
use mathlib.Core.List.{List}
use lib.IntN.{pos}
use lib.ListN.{length}
use Rattle.model.specs.declared.Table.{Table}
use Rattle.model.specs.declared.ReadBack.{ReadBack}
use Rattle.std.specs.Prelude.{Result, Ok, Err}
use Rattle.model.specs.declared.Refusal.{Refusal}
use Rattle.model.specs.declared.Shelved.{Shelved}
use Rattle.model.specs.Shelf.{edges_of}
use Rattle.model.specs.Refusals.{numbered}
use Rattle.model.specs.Calls.{Reads, refused, read, unreadable, shelve_answer, shelved_bytes, Shelves, unread, planless, readable}
use Rattle.model.proofs.Reading.{read_record, clear_read, read_clear}

module _ (t : Table) (r : List ℕ) (w : ℕ) (out : List ℕ) (a : Result ReadBack Refusal) (out' : List ℕ) (room : 2 * edges_of r ≤ length out) (s : List ℕ) (u : ℕ) (b : Result Shelved Refusal) (s' : List ℕ) where
  pub passed_on : Reads t r w out a out' → Shelves t r w s u b s' → (x : Refusal) → a ≡ Err x → (b ≡ Err x) × (s' ≡ s)
  passed_on (refused d e f) (unread n p q) x is = (
    p ∙ ap (λ (k : ℕ). Err (numbered k (pos 0))) (read_record t r w (length out) n) ∙ ap Err (cc (sym e ∙ is)),
    q,
  )
  passed_on (refused d e f) (planless z never p q) x is = absurd (d (clear_read t r w (length out) z room))
  passed_on (refused d e f) (readable z pl has p q) x is = absurd (d (clear_read t r w (length out) z room))
  passed_on (read z pl has e f) c x is = cc (sym e ∙ is)
  passed_on (unreadable z never e f) (unread n p q) x is = absurd (n (read_clear t r w (length out) z).0)
  passed_on (unreadable z never e f) (planless n none p q) x is = (p ∙ ap Err (cc (sym e ∙ is)), q)
  passed_on (unreadable z never e f) (readable n pl has p q) x is = absurd (never pl has)

  pub read_placed : Reads t r w out a out' → Shelves t r w s u b s' → (y : ReadBack) → a ≡ Ok y → (b ≡ shelve_answer r s u) × (s' ≡ shelved_bytes r s u)
  read_placed (refused d e f) c y is = cc (sym is ∙ e)
  read_placed (unreadable z never e f) c y is = cc (sym is ∙ e)
  read_placed (read z pl has e f) (unread n p q) y is = absurd (n (read_clear t r w (length out) z).0)
  read_placed (read z pl has e f) (planless n never p q) y is = absurd (never pl has)
  read_placed (read z pl has e f) (readable n pl' has' p q) y is = (p, q)
