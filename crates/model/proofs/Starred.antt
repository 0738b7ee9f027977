-- "Lines marked * form one table; a proof over that table shows that the definitions yield them."
--
--   starred              the lines of document 01 that are marked *; its last one names two records, and is two lines here
--   starred_hold         the definitions yield every line of the table
use mathlib.Core.List.{List, [], ◌∷◌}
use lib.IntN.{pos}
use Rattle.model.specs.Groups.{standard_table}
use Rattle.model.proofs.Line.{Line, on_writing, on_reading, record_is, not_planar, held_holds, AllHold}
use Rattle.model.proofs.Opened.{writing_opened}
use Rattle.model.proofs.Tables.{standard_stands}
use Rattle.model.proofs.Unreadable.{refuses_CC, refuses_C9}

unfoldable pub starred : List Line
starred =
    on_writing (record { kind = 1; root = 0; outside = 0; rotation = 3 ∷ 2 ∷ 1 ∷ 0 ∷ []; says = record_is (0x07 ∷ 0x00 ∷ 0x01 ∷ 0x00 ∷ 0x02 ∷ 0x00 ∷ 0xC8 ∷ []) })
    ∷ on_writing (record { kind = 1; root = 0; outside = 0; rotation = 5 ∷ 2 ∷ 1 ∷ 4 ∷ 3 ∷ 0 ∷ []; says = record_is (0x08 ∷ 0x00 ∷ 0x01 ∷ 0x00 ∷ 0x03 ∷ 0x00 ∷ 0xE2 ∷ 0x00 ∷ []) })
    ∷ on_writing (record { kind = 1; root = 0; outside = 0; rotation = 5 ∷ 2 ∷ 4 ∷ 0 ∷ 1 ∷ 3 ∷ []; says = record_is (0x08 ∷ 0x00 ∷ 0x01 ∷ 0x00 ∷ 0x03 ∷ 0x00 ∷ 0xD2 ∷ 0x80 ∷ []) })
    ∷ on_writing (record { kind = 2; root = 0; outside = 0; rotation = 0 ∷ 1 ∷ []; says = record_is (0x08 ∷ 0x00 ∷ 0x02 ∷ 0x00 ∷ 0x01 ∷ 0x00 ∷ 0x80 ∷ 0xA2 ∷ []) })
    ∷ on_writing (record { kind = 2; root = 0; outside = 0; rotation = 0 ∷ 2 ∷ 1 ∷ 3 ∷ []; says = record_is (0x08 ∷ 0x00 ∷ 0x02 ∷ 0x00 ∷ 0x02 ∷ 0x00 ∷ 0xC0 ∷ 0x36 ∷ []) })
    ∷ on_writing (record { kind = 2; root = 0; outside = 0; rotation = 2 ∷ 1 ∷ 0 ∷ 3 ∷ []; says = record_is (0x08 ∷ 0x00 ∷ 0x02 ∷ 0x00 ∷ 0x02 ∷ 0x00 ∷ 0xA0 ∷ 0xD8 ∷ []) })
    ∷ on_writing (record { kind = 2; root = 0; outside = 0; rotation = 3 ∷ 2 ∷ 1 ∷ 0 ∷ []; says = record_is (0x08 ∷ 0x00 ∷ 0x02 ∷ 0x00 ∷ 0x02 ∷ 0x00 ∷ 0xC0 ∷ 0x51 ∷ []) })
    ∷ on_writing (record { kind = 2; root = 0; outside = 0; rotation = 4 ∷ 2 ∷ 1 ∷ 0 ∷ 3 ∷ 5 ∷ []; says = record_is (0x08 ∷ 0x00 ∷ 0x02 ∷ 0x00 ∷ 0x03 ∷ 0x00 ∷ 0xCC ∷ 0x12 ∷ []) })
    ∷ on_writing (record { kind = 1; root = 0; outside = 0; rotation = 3 ∷ 2 ∷ 4 ∷ 5 ∷ 1 ∷ 0 ∷ []; says = not_planar (pos 0) })
    ∷ on_writing (record { kind = 2; root = 0; outside = 0; rotation = 3 ∷ 2 ∷ 4 ∷ 5 ∷ 1 ∷ 0 ∷ []; says = not_planar (pos 0) })
    ∷ on_reading (0x07 ∷ 0x00 ∷ 0x01 ∷ 0x00 ∷ 0x02 ∷ 0x00 ∷ 0xCC ∷ []) 13
    ∷ on_reading (0x07 ∷ 0x00 ∷ 0x01 ∷ 0x00 ∷ 0x02 ∷ 0x00 ∷ 0xC9 ∷ []) 13
    ∷ []

pub starred_hold : AllHold starred
unfolding starred writing_opened
starred_hold =
    let h = held_holds standard_table standard_stands in
    (h _ tt, (h _ tt, (h _ tt, (h _ tt, (h _ tt, (h _ tt, (h _ tt, (h _ tt, (h _ tt, (h _ tt, (refuses_CC, (refuses_C9, tt))))))))))))
