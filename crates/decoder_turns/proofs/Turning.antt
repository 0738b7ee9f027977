-- A bit was read at the cursor c: what the turn is then. Assumes nothing.
--
--   turn_up               the bit is 0
--   more_seen, turn_down  it is not
use Prim.Native.Nat.{ℕ, ◌*◌, ◌≤◌, ◌<◌}
use native.Mathlib.Omega.{arith}
use mathlib.Core.Path.{◌≡◌, refl, sym, ap, ◌∙◌, subst}
use mathlib.Core.Logic.{◌≢◌}
use mathlib.Core.List.{List}
use lib.ListN.{get_or}
use Rattle.packing.specs.Unpack.{bits}
use Rattle.packing.specs.Payload.{payload_bits}
use Rattle.unpacker.proofs.Payload.{bit_count}
use Rattle.bit_cursor.specs.declared.Cursor.{Cursor}
use Rattle.bit_cursor.specs.declared.Next.{Next}
use Rattle.bit_cursor.specs.Cursors.{Labelled, Sees, next_bit}
use Rattle.bit_cursor.proofs.Cursors.{sees_less, sees_past, sees_tree_bit}
use Rattle.std.specs.Prelude.{Option}
use Rattle.decoder_ends.specs.declared.State.{State}
use Rattle.decoder_turns.specs.declared.Outcome.{Outcome}
use Rattle.decoder_turns.specs.Turns.{Risen, Descended, Stepped}
use Rattle.decoder_turns.proofs.Lists.{one_next}
use Rattle.decoder_turns.proofs.Steps.{slid_past}

module _ (f m : ℕ) (ps w : List ℕ) (s : State) (c : Cursor) (x : Next) (p : x ≡ next_bit c) where
  abbrev bs : List ℕ
  bs = payload_bits m ps

  module _ (h : Sees (bits ps) c 2) (i : c.bits < 2 * m) where
    pub more_seen : Sees (bits ps) x.cursor 1 × (x.cursor.bits ≤ 2 * m)
    more_seen = subst (λ (z : Next). Sees (bits ps) z.cursor 1 × (z.cursor.bits ≤ 2 * m)) (sym p) (sees_past (bits ps) c 2 h, omega arith)

    bit_is : x.value ≡ get_or bs c.bits 0
    bit_is = ap (λ (z : Next). z.value) p ∙ sees_tree_bit ps m c (sees_less (bits ps) c 2 1 (omega arith) h) i

    module _ (r : Option Outcome) (w' : List ℕ) where
      pub turn_up : Labelled f m ps w → x.value ≡ 0 → Risen m w s x.cursor r w' → Stepped 2 f m ps w s c r w'
      turn_up g z y =
          let size = bit_count ps m g.bits_room in
          let risen = subst (λ (n : Next). Risen m w s n.cursor r w') p y in
          (risen.0 bs _ c.bits refl (one_next bs c.bits 0 (omega arith) (sym z ∙ bit_is)), slid_past (bits ps) c r (risen.1 (bits ps)))

      pub turn_down : x.value ≢ 0 → Descended f m ps w s x.cursor r w' → Stepped 2 f m ps w s c r w'
      turn_down z y =
          let gone = subst (λ (n : Next). Descended f m ps w s n.cursor r w') p y in
          (gone.0 c.bits refl (λ q. z (bit_is ∙ q)), slid_past (bits ps) c r gone.1)
