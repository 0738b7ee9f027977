-- The cursor c on tree bits bs and labels ls.
--
--   Labelled f m ps w     ps is a payload of family f, and its labels are where they belong
--   Sees bs c n           the next n bits are in the cursor's word
--   past_bit c, past_label c   the cursor moved on past a bit, and past a label
--   next_bit c, next_label ls c   the next bit and the next label, each with the cursor moved on
use Rattle.std.specs.Prelude.{ℕ, ◌+◌, ◌*◌, ◌/◌, ◌^◌, ◌≤◌, ◌≡◌, true, List, length, get_or}
use Rattle.model.specs.Numbers.{all_below}
use Rattle.packing.specs.Payload.{has_labels, Sized}
use Rattle.unpacker.specs.Unpacked.{labels_in}
use Rattle.bit_window.specs.Window.{shifted, Holds}
use Rattle.bit_cursor.specs.declared.Cursor.{Cursor}
use Rattle.bit_cursor.specs.declared.Next.{Next}

pub record Labelled (f m : ℕ) (ps w : List ℕ) : Type 0 where
  pub has : has_labels f ≡ true
  pub sized : Sized f m ps
  pub bits_room : 2 * m ≤ 8 * length ps
  pub label_count : length (labels_in f m ps w) ≡ m
  pub labels_small : all_below 3 (labels_in f m ps w) ≡ true

abbrev pub Sees : List ℕ → Cursor → ℕ → Type 0
Sees bs c n = Holds bs c.word c.bits n

abbrev pub past_bit : Cursor → Cursor
past_bit c = record { word = shifted c.word; bits = c.bits + 1; labels = c.labels }

abbrev pub past_label : Cursor → Cursor
past_label c = record { word = c.word; bits = c.bits; labels = c.labels + 1 }

abbrev pub next_bit : Cursor → Next
next_bit c = record { value = c.word / 2 ^ 63; cursor = past_bit c }

abbrev pub next_label : List ℕ → Cursor → Next
next_label ls c = record { value = get_or ls c.labels 0; cursor = past_label c }
