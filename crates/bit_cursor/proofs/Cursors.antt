-- What a cursor sees. Assumes nothing.
--
--   sees_less             it sees any fewer bits
--   sees_bit              its next bit is the one at its place
--   sees_past             moved on past a bit it sees the others
--   sees_tree_bit         its next bit is a tree bit of the payload
--   labelled_kept         the labels stay where they belong
use Prim.Native.Nat.{ℕ, ◌-◌, ◌*◌, ◌≤◌, ◌<◌}
use mathlib.Core.Path.{◌≡◌, ◌∙◌}
use mathlib.Core.List.{List}
use lib.ListN.{get_or}
use Rattle.packing.specs.Unpack.{bits}
use Rattle.packing.specs.Payload.{payload_bits}
use Rattle.unpacker.specs.Unpacked.{labels_at}
use Rattle.unpacker.proofs.Payload.{bit_place, labels_in_same}
use Rattle.bit_window.specs.Window.{Holds}
use Rattle.bit_window.proofs.Window.{holds_less, holds_next}
use Rattle.bit_cursor.specs.declared.Cursor.{Cursor}
use Rattle.bit_cursor.specs.Cursors.{Labelled, Sees, past_bit, next_bit}

module _ (bs : List ℕ) (c : Cursor) where
  pub sees_less : (n i : ℕ) → i ≤ n → Sees bs c n → Sees bs c i
  sees_less n i = holds_less bs c.word c.bits n i

  pub sees_past : (n : ℕ) → Sees bs c n → Sees bs (past_bit c) (n - 1)
  sees_past n = holds_next bs c.word c.bits n

  pub sees_bit : Sees bs c 1 → (next_bit c).value ≡ get_or bs c.bits 0
  unfolding Holds
  sees_bit h = h.0

pub sees_tree_bit : (ps : List ℕ) (m : ℕ) (c : Cursor) → Sees (bits ps) c 1 → c.bits < 2 * m → (next_bit c).value ≡ get_or (payload_bits m ps) c.bits 0
sees_tree_bit ps m c h l = sees_bit (bits ps) c h ∙ bit_place ps m c.bits l

pub labelled_kept : (f m : ℕ) (ps w w' : List ℕ) → labels_at m w' ≡ labels_at m w → Labelled f m ps w → Labelled f m ps w'
labelled_kept f m ps w w' e g =
    let same = labels_in_same f m ps w w' e in
    record { has = g.has; sized = g.sized; bits_room = g.bits_room; label_count = rw same g.label_count; labels_small = rw same g.labels_small }
