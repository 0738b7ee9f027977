-- The lines of document 02's requests that have landed: a proof over this table shows that the definitions yield them.
--
--   requested            the lines, request by request
--   requested_hold       the definitions yield every line
--   last_refusals_hold   in kind 3, 8 is given after all others
--   mesh_heads_hold      and 5 is not given
--   tables_hold          lines under two tables of a maker's own
--   loading_hold         what loading refuses
--   table_refusals_hold  tables that loading never gives
--   nineteen_first_hold  19 is given before all other refusals
--   unreadable_hold      shelving a record that no plan has
--   readable_hold        shelving one that a plan has, on an empty shelf that it just fits
--   compared_hold        how many records a search compares
--   lengths_hold         how many darts the areas have, and the list after measuring
--   measured_hold        what measuring refuses
use mathlib.Core.Path.{◌≡◌, refl, sym, ap, ◌∙◌}
use mathlib.Core.Bool.{true}
use mathlib.Core.List.{List, [], ◌∷◌, ◌++◌}
use Prim.Native.Nat.{ℕ, ◌+◌, ◌%◌, ◌≤◌, ◌<◌}
use native.Mathlib.Nat.{suc-ne-zero}
use native.Mathlib.Omega.{arith}
use lib.Dec.{T}
use lib.IntN.{pos}
use lib.ListN.{get_or, set, take, replicate}
use Rattle.std.specs.Prelude.{Result, Ok, Err}
use Rattle.model.specs.declared.Refusal.{Refusal}
use Rattle.model.specs.declared.Refusal.TheVariants.{BadCount, BadEntry, ShortWork, ShortOutput, NotConnected, NotPlanar, NoFitPlan}
use Rattle.model.specs.declared.Shelved.{Shelved}
use Rattle.model.specs.Refusals.{numbered}
use Rattle.model.specs.Numbers.{elem, distinct, all_below, position, tabulate, first_refusal}
use Rattle.model.specs.Groups.{is_table, inverse_of, loaded, standard_table, no_table}
use Rattle.model.specs.Shelf.{word16, head_refusals, head_refusal, passes, cut_into, records_in, all_pass, end_to_end, same, first_equal, met, as_long, compared, shelf_refused}
use Rattle.model.specs.Map.{Plan, is_family, stores_outside, is_kind, family, face_lengths}
use Rattle.model.specs.Record.{head_length, payload_length, record_length}
use Rattle.model.specs.Calls.{table_refused, load_refusal, early_refusals, late_refusals, last_refusals, write_refusal, read_refusal, record_refusal, record_refusals, measure_answer, measured_list}
use Rattle.model.specs.Calls.{front, HasRecord, shelve_refusal, shelve_answer, shelved_bytes, Shelves, unread, planless, readable}
use Rattle.model.proofs.Line.{Writes, record_is, standard_is, refused, not_planar, all_hold, all_held, all_held_lem}
use Rattle.model.proofs.Opened.{writing_opened, measuring_opened}
use Rattle.model.proofs.Refusals.{table_stands}
use Rattle.model.proofs.Reading.{record_room, clear_record}
use Rattle.model.proofs.Tables.{standard_stands, loaded_stands, no_table_refused}
use Rattle.model.proofs.Unreadable.{two_edges, unreadable_CC}

-- (a) "Order 0 2 5 4 3 1, start 0, is then 08 00 01 00 03 00 E1 00": from any other start its dead end is not the start's. One trail has two dead ends.
unfoldable pub requested : List Writes
requested =
    record { kind = 1; root = 0; outside = 0; rotation = 0 ∷ 2 ∷ 5 ∷ 4 ∷ 3 ∷ 1 ∷ []; says = record_is (0x08 ∷ 0x00 ∷ 0x01 ∷ 0x00 ∷ 0x03 ∷ 0x00 ∷ 0xE1 ∷ 0x00 ∷ []) }
    ∷ record { kind = 1; root = 1; outside = 0; rotation = 0 ∷ 2 ∷ 5 ∷ 4 ∷ 3 ∷ 1 ∷ []; says = refused 12 }
    ∷ record { kind = 1; root = 2; outside = 0; rotation = 0 ∷ 2 ∷ 5 ∷ 4 ∷ 3 ∷ 1 ∷ []; says = refused 12 }
    ∷ record { kind = 1; root = 3; outside = 0; rotation = 0 ∷ 2 ∷ 5 ∷ 4 ∷ 3 ∷ 1 ∷ []; says = refused 12 }
    ∷ record { kind = 1; root = 4; outside = 0; rotation = 0 ∷ 2 ∷ 5 ∷ 4 ∷ 3 ∷ 1 ∷ []; says = refused 12 }
    ∷ record { kind = 1; root = 5; outside = 0; rotation = 0 ∷ 2 ∷ 5 ∷ 4 ∷ 3 ∷ 1 ∷ []; says = refused 12 }
    ∷ record { kind = 1; root = 0; outside = 0; rotation = 0 ∷ 1 ∷ []; says = refused 12 }
    ∷ record { kind = 1; root = 1; outside = 0; rotation = 0 ∷ 1 ∷ []; says = refused 12 }
    -- (c) "A single loop gives 07 00 04 00 01 00 B0." One trail, the triangle, three parallel trails, the spur, a loop around a dead end. 9 and 10 are given as in any kind; 11 in the others; 0 and 5 are no kinds.
    ∷ record { kind = 4; root = 0; outside = 0; rotation = 1 ∷ 0 ∷ []; says = record_is (0x07 ∷ 0x00 ∷ 0x04 ∷ 0x00 ∷ 0x01 ∷ 0x00 ∷ 0xB0 ∷ []) }
    ∷ record { kind = 4; root = 0; outside = 0; rotation = 0 ∷ 1 ∷ []; says = record_is (0x07 ∷ 0x00 ∷ 0x04 ∷ 0x00 ∷ 0x01 ∷ 0x00 ∷ 0x10 ∷ []) }
    ∷ record { kind = 4; root = 0; outside = 0; rotation = 5 ∷ 2 ∷ 1 ∷ 4 ∷ 3 ∷ 0 ∷ []; says = record_is (0x08 ∷ 0x00 ∷ 0x04 ∷ 0x00 ∷ 0x03 ∷ 0x00 ∷ 0x09 ∷ 0x70 ∷ []) }
    ∷ record { kind = 4; root = 0; outside = 0; rotation = 5 ∷ 2 ∷ 4 ∷ 0 ∷ 1 ∷ 3 ∷ []; says = record_is (0x08 ∷ 0x00 ∷ 0x04 ∷ 0x00 ∷ 0x03 ∷ 0x00 ∷ 0x29 ∷ 0xF0 ∷ []) }
    ∷ record { kind = 4; root = 0; outside = 0; rotation = 0 ∷ 2 ∷ 5 ∷ 4 ∷ 3 ∷ 1 ∷ []; says = record_is (0x08 ∷ 0x00 ∷ 0x04 ∷ 0x00 ∷ 0x03 ∷ 0x00 ∷ 0x09 ∷ 0xD0 ∷ []) }
    ∷ record { kind = 4; root = 0; outside = 0; rotation = 2 ∷ 1 ∷ 4 ∷ 0 ∷ 3 ∷ 5 ∷ []; says = record_is (0x08 ∷ 0x00 ∷ 0x04 ∷ 0x00 ∷ 0x03 ∷ 0x00 ∷ 0x18 ∷ 0x70 ∷ []) }
    ∷ record { kind = 4; root = 0; outside = 0; rotation = 0 ∷ 1 ∷ 2 ∷ 3 ∷ []; says = refused 9 }
    ∷ record { kind = 4; root = 0; outside = 0; rotation = 3 ∷ 2 ∷ 4 ∷ 5 ∷ 1 ∷ 0 ∷ []; says = not_planar (pos 0) }
    ∷ record { kind = 1; root = 0; outside = 0; rotation = 1 ∷ 0 ∷ []; says = refused 11 }
    ∷ record { kind = 2; root = 0; outside = 0; rotation = 1 ∷ 0 ∷ []; says = refused 11 }
    ∷ record { kind = 0; root = 0; outside = 0; rotation = 1 ∷ 0 ∷ []; says = refused 2 }
    ∷ record { kind = 5; root = 0; outside = 0; rotation = 1 ∷ 0 ∷ []; says = refused 2 }
    -- (e) "the lowest standard dart of the outside area"; "17, outside dart not below the dart count, right after 4"; a kind without the bytes "ignores the outside in writing"
    ∷ record { kind = 0x101; root = 0; outside = 0; rotation = 5 ∷ 2 ∷ 1 ∷ 4 ∷ 3 ∷ 0 ∷ []; says = record_is (0x0A ∷ 0x00 ∷ 0x01 ∷ 0x01 ∷ 0x03 ∷ 0x00 ∷ 0x00 ∷ 0x00 ∷ 0xE2 ∷ 0x00 ∷ []) }
    ∷ record { kind = 0x101; root = 0; outside = 1; rotation = 5 ∷ 2 ∷ 1 ∷ 4 ∷ 3 ∷ 0 ∷ []; says = record_is (0x0A ∷ 0x00 ∷ 0x01 ∷ 0x01 ∷ 0x03 ∷ 0x00 ∷ 0x01 ∷ 0x00 ∷ 0xE2 ∷ 0x00 ∷ []) }
    ∷ record { kind = 0x101; root = 1; outside = 0; rotation = 5 ∷ 2 ∷ 1 ∷ 4 ∷ 3 ∷ 0 ∷ []; says = record_is (0x0A ∷ 0x00 ∷ 0x01 ∷ 0x01 ∷ 0x03 ∷ 0x00 ∷ 0x01 ∷ 0x00 ∷ 0xE2 ∷ 0x00 ∷ []) }
    ∷ record { kind = 0x101; root = 0; outside = 2; rotation = 0 ∷ 2 ∷ 5 ∷ 4 ∷ 3 ∷ 1 ∷ []; says = record_is (0x0A ∷ 0x00 ∷ 0x01 ∷ 0x01 ∷ 0x03 ∷ 0x00 ∷ 0x00 ∷ 0x00 ∷ 0xE1 ∷ 0x00 ∷ []) }
    ∷ record { kind = 0x101; root = 0; outside = 3; rotation = 0 ∷ 2 ∷ 5 ∷ 4 ∷ 3 ∷ 1 ∷ []; says = record_is (0x0A ∷ 0x00 ∷ 0x01 ∷ 0x01 ∷ 0x03 ∷ 0x00 ∷ 0x03 ∷ 0x00 ∷ 0xE1 ∷ 0x00 ∷ []) }
    ∷ record { kind = 0x101; root = 1; outside = 0; rotation = 0 ∷ 2 ∷ 5 ∷ 4 ∷ 3 ∷ 1 ∷ []; says = refused 12 }
    ∷ record { kind = 0x102; root = 0; outside = 1; rotation = 4 ∷ 2 ∷ 1 ∷ 0 ∷ 3 ∷ 5 ∷ []; says = record_is (0x0A ∷ 0x00 ∷ 0x02 ∷ 0x01 ∷ 0x03 ∷ 0x00 ∷ 0x01 ∷ 0x00 ∷ 0xCC ∷ 0x12 ∷ []) }
    ∷ record { kind = 0x102; root = 0; outside = 1; rotation = 0 ∷ 1 ∷ []; says = record_is (0x0A ∷ 0x00 ∷ 0x02 ∷ 0x01 ∷ 0x01 ∷ 0x00 ∷ 0x00 ∷ 0x00 ∷ 0x80 ∷ 0xA2 ∷ []) }
    ∷ record { kind = 0x102; root = 1; outside = 0; rotation = 2 ∷ 1 ∷ 0 ∷ 3 ∷ []; says = record_is (0x0A ∷ 0x00 ∷ 0x02 ∷ 0x01 ∷ 0x02 ∷ 0x00 ∷ 0x00 ∷ 0x00 ∷ 0xC0 ∷ 0x36 ∷ []) }
    ∷ record { kind = 0x104; root = 0; outside = 0; rotation = 1 ∷ 0 ∷ []; says = record_is (0x09 ∷ 0x00 ∷ 0x04 ∷ 0x01 ∷ 0x01 ∷ 0x00 ∷ 0x00 ∷ 0x00 ∷ 0xB0 ∷ []) }
    ∷ record { kind = 0x104; root = 0; outside = 1; rotation = 1 ∷ 0 ∷ []; says = record_is (0x09 ∷ 0x00 ∷ 0x04 ∷ 0x01 ∷ 0x01 ∷ 0x00 ∷ 0x01 ∷ 0x00 ∷ 0xB0 ∷ []) }
    ∷ record { kind = 0x101; root = 0; outside = 6; rotation = 5 ∷ 2 ∷ 1 ∷ 4 ∷ 3 ∷ 0 ∷ []; says = refused 17 }
    ∷ record { kind = 1; root = 0; outside = 6; rotation = 5 ∷ 2 ∷ 1 ∷ 4 ∷ 3 ∷ 0 ∷ []; says = record_is (0x08 ∷ 0x00 ∷ 0x01 ∷ 0x00 ∷ 0x03 ∷ 0x00 ∷ 0xE2 ∷ 0x00 ∷ []) }
    ∷ record { kind = 0x104; root = 6; outside = 6; rotation = 5 ∷ 2 ∷ 1 ∷ 4 ∷ 3 ∷ 0 ∷ []; says = refused 4 }
    ∷ record { kind = 0x104; root = 0; outside = 2; rotation = 1 ∷ 1 ∷ []; says = refused 17 }
    ∷ record { kind = 0x104; root = 0; outside = 1; rotation = 1 ∷ 1 ∷ []; says = refused 6 }
    ∷ record { kind = 0x102; root = 0; outside = 0; rotation = 1 ∷ 0 ∷ []; says = refused 11 }
    ∷ record { kind = 0x103; root = 0; outside = 0; rotation = 1 ∷ 0 ∷ []; says = refused 2 }
    -- (f) "The triangle is 08 00 03 00 03 00 80 A2", from any start, whatever the outside. "A loop is 11 here too"; "18, an area that is not three darts of three different
    -- trails": a single trail; three parallel trails
    ∷ record { kind = 3; root = 0; outside = 0; rotation = 5 ∷ 2 ∷ 1 ∷ 4 ∷ 3 ∷ 0 ∷ []; says = standard_is (0x08 ∷ 0x00 ∷ 0x03 ∷ 0x00 ∷ 0x03 ∷ 0x00 ∷ 0x80 ∷ 0xA2 ∷ []) (5 ∷ 2 ∷ 1 ∷ 4 ∷ 3 ∷ 0 ∷ []) }
    ∷ record { kind = 3; root = 3; outside = 6; rotation = 5 ∷ 2 ∷ 1 ∷ 4 ∷ 3 ∷ 0 ∷ []; says = record_is (0x08 ∷ 0x00 ∷ 0x03 ∷ 0x00 ∷ 0x03 ∷ 0x00 ∷ 0x80 ∷ 0xA2 ∷ []) }
    -- the meshes of six trails
    ∷ record { kind = 3; root = 0; outside = 0; rotation = 11 ∷ 2 ∷ 6 ∷ 4 ∷ 3 ∷ 0 ∷ 8 ∷ 5 ∷ 1 ∷ 10 ∷ 9 ∷ 7 ∷ []; says = standard_is (0x08 ∷ 0x00 ∷ 0x03 ∷ 0x00 ∷ 0x06 ∷ 0x00 ∷ 0x70 ∷ 0x36 ∷ []) (11 ∷ 2 ∷ 6 ∷ 4 ∷ 3 ∷ 0 ∷ 8 ∷ 5 ∷ 1 ∷ 10 ∷ 9 ∷ 7 ∷ []) }
    ∷ record { kind = 3; root = 0; outside = 0; rotation = 9 ∷ 2 ∷ 11 ∷ 4 ∷ 6 ∷ 0 ∷ 3 ∷ 8 ∷ 10 ∷ 5 ∷ 7 ∷ 1 ∷ []; says = standard_is (0x08 ∷ 0x00 ∷ 0x03 ∷ 0x00 ∷ 0x06 ∷ 0x00 ∷ 0x70 ∷ 0x87 ∷ []) (9 ∷ 2 ∷ 11 ∷ 4 ∷ 6 ∷ 0 ∷ 3 ∷ 8 ∷ 10 ∷ 5 ∷ 7 ∷ 1 ∷ []) }
    ∷ record { kind = 3; root = 0; outside = 0; rotation = 11 ∷ 2 ∷ 1 ∷ 4 ∷ 6 ∷ 0 ∷ 10 ∷ 8 ∷ 7 ∷ 5 ∷ 3 ∷ 9 ∷ []; says = standard_is (0x08 ∷ 0x00 ∷ 0x03 ∷ 0x00 ∷ 0x06 ∷ 0x00 ∷ 0xB0 ∷ 0x36 ∷ []) (11 ∷ 2 ∷ 1 ∷ 4 ∷ 6 ∷ 0 ∷ 10 ∷ 8 ∷ 7 ∷ 5 ∷ 3 ∷ 9 ∷ []) }
    ∷ record { kind = 3; root = 0; outside = 0; rotation = 5 ∷ 2 ∷ 11 ∷ 4 ∷ 6 ∷ 0 ∷ 8 ∷ 1 ∷ 3 ∷ 10 ∷ 9 ∷ 7 ∷ []; says = standard_is (0x08 ∷ 0x00 ∷ 0x03 ∷ 0x00 ∷ 0x06 ∷ 0x00 ∷ 0xB0 ∷ 0x87 ∷ []) (5 ∷ 2 ∷ 11 ∷ 4 ∷ 6 ∷ 0 ∷ 8 ∷ 1 ∷ 3 ∷ 10 ∷ 9 ∷ 7 ∷ []) }
    ∷ record { kind = 3; root = 0; outside = 0; rotation = 0 ∷ 1 ∷ []; says = refused 18 }
    ∷ record { kind = 3; root = 0; outside = 0; rotation = 1 ∷ 0 ∷ []; says = refused 11 }
    ∷ record { kind = 3; root = 0; outside = 0; rotation = 5 ∷ 2 ∷ 4 ∷ 0 ∷ 1 ∷ 3 ∷ []; says = refused 18 }
    ∷ record { kind = 3; root = 0; outside = 0; rotation = 0 ∷ 1 ∷ 2 ∷ 3 ∷ []; says = refused 9 }
    ∷ record { kind = 3; root = 0; outside = 0; rotation = 3 ∷ 2 ∷ 4 ∷ 5 ∷ 1 ∷ 0 ∷ []; says = not_planar (pos 0) }
    ∷ []

-- (f) "8 comes last in writing": three parallel trails with no output at all, the triangle with 7 bytes and with 8
abbrev rooted : List ℕ → Plan
rooted rot = record { rotation = rot; root = 0; outside = 0 }

mesh_refusal : (p : Plan) (o : ℕ) → write_refusal standard_table 3 p 96 o
    ≡ first_refusal (early_refusals 3 p 96 o ++ (late_refusals (family 3) p ++ last_refusals standard_table 3 p o))
unfolding write_refusal
mesh_refusal p o = table_stands standard_table (early_refusals 3 p 96 o ++ (late_refusals (family 3) p ++ last_refusals standard_table 3 p o)) standard_stands

pub last_refusals_hold : (write_refusal standard_table 3 (rooted (5 ∷ 2 ∷ 4 ∷ 0 ∷ 1 ∷ 3 ∷ [])) 96 0 ≡ 18)
    × (write_refusal standard_table 3 (rooted (5 ∷ 2 ∷ 1 ∷ 4 ∷ 3 ∷ 0 ∷ [])) 96 7 ≡ 8) × (write_refusal standard_table 3 (rooted (5 ∷ 2 ∷ 1 ∷ 4 ∷ 3 ∷ 0 ∷ [])) 96 8 ≡ 0)
unfolding writing_opened
last_refusals_hold = (
  mesh_refusal (rooted (5 ∷ 2 ∷ 4 ∷ 0 ∷ 1 ∷ 3 ∷ [])) 0,
  mesh_refusal (rooted (5 ∷ 2 ∷ 1 ∷ 4 ∷ 3 ∷ 0 ∷ [])) 7,
  mesh_refusal (rooted (5 ∷ 2 ∷ 1 ∷ 4 ∷ 3 ∷ 0 ∷ [])) 8,
)

-- (f) "5 isn't given": a head of kind 3 passes with any length from 6 on; 1, 2 and 3 are given as in any kind
pub mesh_heads_hold : (head_refusal (0x06 ∷ 0x00 ∷ 0x03 ∷ 0x00 ∷ 0x03 ∷ 0x00 ∷ []) ≡ 0) × (head_refusal (0x08 ∷ 0x00 ∷ 0x03 ∷ 0x00 ∷ 0x04 ∷ 0x00 ∷ 0x80 ∷ 0xA2 ∷ []) ≡ 0)
    × (head_refusal (0x07 ∷ 0x00 ∷ 0x03 ∷ 0x00 ∷ 0x03 ∷ 0x00 ∷ []) ≡ 1) × (head_refusal (0x06 ∷ 0x00 ∷ 0x03 ∷ 0x01 ∷ 0x03 ∷ 0x00 ∷ []) ≡ 2)
    × (head_refusal (0x06 ∷ 0x00 ∷ 0x03 ∷ 0x00 ∷ 0x00 ∷ 0x00 ∷ []) ≡ 3)
unfolding head_refusal head_refusals writing_opened word16
mesh_heads_hold = (refl, refl, refl, refl, refl)

pub requested_hold : T (all_hold standard_table requested)
unfolding requested all_held writing_opened
requested_hold = all_held_lem standard_table standard_stands requested tt

-- (h) "A maker may lend 243 bytes of its own": two entries of the standard table exchanged, and the values moved on by 13
unfoldable pub exchanged : List ℕ
exchanged = set (set (tabulate (λ v. v) 0 243) 0x36 0x51) 0x51 0x36

unfoldable pub moved_on : List ℕ
moved_on = tabulate (λ v. (v + 13) % 256) 0 243

exchanged_table : is_table exchanged ≡ true
unfolding exchanged tabulate is_table all_below distinct elem
exchanged_table = refl

moved_on_table : is_table moved_on ≡ true
unfolding moved_on tabulate is_table all_below distinct elem
moved_on_table = refl

-- the records of 0 2 1 3 and 3 2 1 0 change places; 80 AF for 0 1
unfoldable pub under_exchanged : List Writes
under_exchanged =
    record { kind = 2; root = 0; outside = 0; rotation = 0 ∷ 2 ∷ 1 ∷ 3 ∷ []; says = record_is (0x08 ∷ 0x00 ∷ 0x02 ∷ 0x00 ∷ 0x02 ∷ 0x00 ∷ 0xC0 ∷ 0x51 ∷ []) }
    ∷ record { kind = 2; root = 0; outside = 0; rotation = 3 ∷ 2 ∷ 1 ∷ 0 ∷ []; says = record_is (0x08 ∷ 0x00 ∷ 0x02 ∷ 0x00 ∷ 0x02 ∷ 0x00 ∷ 0xC0 ∷ 0x36 ∷ []) }
    ∷ record { kind = 0x102; root = 1; outside = 0; rotation = 2 ∷ 1 ∷ 0 ∷ 3 ∷ []; says = record_is (0x0A ∷ 0x00 ∷ 0x02 ∷ 0x01 ∷ 0x02 ∷ 0x00 ∷ 0x00 ∷ 0x00 ∷ 0xC0 ∷ 0x51 ∷ []) }
    ∷ record { kind = 1; root = 0; outside = 0; rotation = 3 ∷ 2 ∷ 1 ∷ 0 ∷ []; says = record_is (0x07 ∷ 0x00 ∷ 0x01 ∷ 0x00 ∷ 0x02 ∷ 0x00 ∷ 0xC8 ∷ []) }
    ∷ []

unfoldable pub under_moved_on : List Writes
under_moved_on =
    record { kind = 2; root = 0; outside = 0; rotation = 0 ∷ 1 ∷ []; says = record_is (0x08 ∷ 0x00 ∷ 0x02 ∷ 0x00 ∷ 0x01 ∷ 0x00 ∷ 0x80 ∷ 0xAF ∷ []) }
    ∷ record { kind = 4; root = 0; outside = 0; rotation = 0 ∷ 1 ∷ []; says = record_is (0x07 ∷ 0x00 ∷ 0x04 ∷ 0x00 ∷ 0x01 ∷ 0x00 ∷ 0x10 ∷ []) }
    ∷ []

pub tables_hold : T (all_hold (loaded exchanged) under_exchanged) × T (all_hold (loaded moved_on) under_moved_on)
unfolding exchanged moved_on under_exchanged under_moved_on all_held writing_opened
tables_hold = (
  all_held_lem (loaded exchanged) (loaded_stands exchanged exchanged_table) under_exchanged tt,
  all_held_lem (loaded moved_on) (loaded_stands moved_on moved_on_table) under_moved_on tt,
)

-- "Refused, before all others: 19, not 243 bytes or two of them equal, or a call is handed a table that loading never gives": where 2 holds too
pub loading_hold : (load_refusal exchanged ≡ 0) × (load_refusal (tabulate (λ v. v) 0 242) ≡ 19) × (load_refusal (tabulate (λ v. v) 0 244) ≡ 19)
    × (load_refusal (set exchanged 0 1) ≡ 19) × (load_refusal [] ≡ 19)
unfolding exchanged tabulate load_refusal first_refusal is_table all_below distinct elem
loading_hold = (refl, refl, refl, refl, refl)

-- the table of zeros, and an inverse that is wrong at a byte that no group has
pub table_refusals_hold : (table_refused no_table ≡ true) × (table_refused (record { bytes = exchanged; inverse = set (inverse_of exchanged) 255 242 }) ≡ true)
unfolding exchanged tabulate table_refused is_table inverse_of position same all_below distinct elem
table_refusals_hold = (no_table_refused, refl)

-- where 2 and 1 hold too; shelving meets it as reading does
pub nineteen_first_hold : (p : Plan) → (write_refusal no_table 9 p 0 0 ≡ 19) × (read_refusal no_table [] 0 0 ≡ 19) × (record_refusal no_table [] 0 ≡ 19)
unfolding write_refusal read_refusal record_refusal record_refusals first_refusal
nineteen_first_hold p = (rw no_table_refused, rw no_table_refused, rw no_table_refused)

-- (b) "A refusal met while reading the record is passed on: 7 and 13 may now come from shelving, after 5 and before 14": on whatever shelf
pub unreadable_hold : (w : ℕ) (s : List ℕ) (u : ℕ) (a : Result Shelved Refusal) (s' : List ℕ) → Shelves standard_table (two_edges 0xCC) w s u a s'
    → (64 ≤ w → (a ≡ Err NoFitPlan) × (s' ≡ s)) × (w < 64 → (a ≡ Err ShortWork) × (s' ≡ s))
unfolding passes head_refusal head_refusals first_refusal word16 elem is_family stores_outside is_kind family head_length payload_length record_length numbered
unreadable_hold w s u a s' c = (λ h. long c h, λ h. short c h)
  where
    clear : 64 ≤ w → record_refusal standard_table (two_edges 0xCC) w ≡ 0
    clear h = clear_record standard_table (two_edges 0xCC) w (record { stands = standard_stands; passed = refl; room = h })

    seven : w < 64 → 7 ≡ record_refusal standard_table (two_edges 0xCC) w
    seven h = record_room standard_table (two_edges 0xCC) w standard_stands refl h

    not_none : w < 64 → record_refusal standard_table (two_edges 0xCC) w ≡ 0 → ⊥
    not_none h z = suc-ne-zero 6 (seven h ∙ z)

    long : Shelves standard_table (two_edges 0xCC) w s u a s' → 64 ≤ w → (a ≡ Err NoFitPlan) × (s' ≡ s)
    long (unread d e f) h = absurd (d (clear h))
    long (planless z never e f) h = (e, f)
    long (readable z p has e f) h = absurd (unreadable_CC p has)

    short : Shelves standard_table (two_edges 0xCC) w s u a s' → w < 64 → (a ≡ Err ShortWork) × (s' ≡ s)
    short (unread d e f) h = (e ∙ ap (λ (n : ℕ). Err (numbered n (pos 0))) (sym (seven h)), f)
    short (planless z never e f) h = absurd (not_none h z)
    short (readable z p has e f) h = absurd (not_none h z)

pub readable_hold : (a : Result Shelved Refusal) (s' : List ℕ) → Shelves standard_table (two_edges 0xC8) 64 (replicate 7 0xEE) 0 a s' → (a ≡ Ok (record { number = 0; used = 7 })) × (s' ≡ two_edges 0xC8)
unfolding passes head_refusal head_refusals first_refusal word16 elem is_family stores_outside is_kind family head_length payload_length record_length writing_opened
    shelve_refusal shelve_answer shelved_bytes shelf_refused end_to_end all_pass records_in cut_into first_equal front
readable_hold a s' c = go c
  where
    pair : Plan
    pair = record { rotation = 3 ∷ 2 ∷ 1 ∷ 0 ∷ []; root = 0; outside = 0 }

    has : HasRecord standard_table (two_edges 0xC8) pair
    has = (refl, refl)

    clear : record_refusal standard_table (two_edges 0xC8) 64 ≡ 0
    clear = clear_record standard_table (two_edges 0xC8) 64 (record { stands = standard_stands; passed = refl; room = omega arith })

    go : Shelves standard_table (two_edges 0xC8) 64 (replicate 7 0xEE) 0 a s' → (a ≡ Ok (record { number = 0; used = 7 })) × (s' ≡ two_edges 0xC8)
    go (unread d e f) = absurd (d clear)
    go (planless z never e f) = absurd (never pair has)
    go (readable z p q e f) = (e, f)

-- (g) "as many as those it meets of the new one's length, an equal one included"
unfoldable pub shelved : List (List ℕ)
shelved =
    (0x07 ∷ 0x00 ∷ 0x01 ∷ 0x00 ∷ 0x02 ∷ 0x00 ∷ 0xC8 ∷ [])
    ∷ (0x08 ∷ 0x00 ∷ 0x01 ∷ 0x00 ∷ 0x03 ∷ 0x00 ∷ 0xE2 ∷ 0x00 ∷ [])
    ∷ (0x08 ∷ 0x00 ∷ 0x01 ∷ 0x00 ∷ 0x03 ∷ 0x00 ∷ 0xD2 ∷ 0x80 ∷ [])
    ∷ (0x08 ∷ 0x00 ∷ 0x02 ∷ 0x00 ∷ 0x01 ∷ 0x00 ∷ 0x80 ∷ 0xA2 ∷ [])
    ∷ (0x08 ∷ 0x00 ∷ 0x02 ∷ 0x00 ∷ 0x02 ∷ 0x00 ∷ 0xC0 ∷ 0x36 ∷ [])
    ∷ []

-- the search for record k among the first n of them
abbrev pub compared_among : ℕ → ℕ → ℕ
compared_among n k = compared (get_or shelved k []) (take n shelved)

-- each among those before it; then the last and the first among all
pub compared_hold : (compared_among 0 0 ≡ 0) × (compared_among 1 1 ≡ 0) × (compared_among 2 2 ≡ 1) × (compared_among 3 3 ≡ 2) × (compared_among 4 4 ≡ 3)
    × (compared_among 5 4 ≡ 4) × (compared_among 5 0 ≡ 1)
unfolding shelved compared met as_long first_equal same
compared_hold = (refl, refl, refl, refl, refl, refl, refl)

-- (d) "for each area its number of darts, areas in the order of their lowest dart"
abbrev pub triangle : List ℕ
triangle = 5 ∷ 2 ∷ 1 ∷ 4 ∷ 3 ∷ 0 ∷ []

abbrev pub torus : List ℕ
torus = 3 ∷ 2 ∷ 4 ∷ 5 ∷ 1 ∷ 0 ∷ []

pub lengths_hold : (face_lengths triangle ≡ 3 ∷ 3 ∷ []) × (face_lengths (0 ∷ 1 ∷ []) ≡ 2 ∷ []) × (face_lengths (1 ∷ 0 ∷ []) ≡ 1 ∷ 1 ∷ [])
    × (face_lengths (0 ∷ 2 ∷ 5 ∷ 4 ∷ 3 ∷ 1 ∷ []) ≡ 4 ∷ 2 ∷ []) × (face_lengths (4 ∷ 2 ∷ 1 ∷ 0 ∷ 3 ∷ 5 ∷ []) ≡ 2 ∷ 4 ∷ [])
    × (measured_list triangle 96 (7 ∷ 7 ∷ 7 ∷ []) ≡ 3 ∷ 3 ∷ 7 ∷ []) × (measured_list triangle 96 (7 ∷ []) ≡ 7 ∷ [])
unfolding measuring_opened
lengths_hold = (refl, refl, refl, refl, refl, refl, refl)

-- "It meets refusals 3, 6, 7, 9, 10, then 8 if the list is too short": each where the next ones hold too
pub measured_hold : (measure_answer triangle 96 2 ≡ Ok 2) × (measure_answer (0 ∷ 0 ∷ 0 ∷ []) 0 0 ≡ Err BadCount) × (measure_answer (0 ∷ 0 ∷ []) 0 0 ≡ Err BadEntry)
    × (measure_answer (0 ∷ 1 ∷ 2 ∷ 3 ∷ []) 63 0 ≡ Err ShortWork) × (measure_answer (0 ∷ 1 ∷ 2 ∷ 3 ∷ []) 64 0 ≡ Err NotConnected)
    × (measure_answer torus 96 0 ≡ Err (NotPlanar (pos 0))) × (measure_answer triangle 96 1 ≡ Err ShortOutput)
unfolding measuring_opened numbered
measured_hold = (refl, refl, refl, refl, refl, refl, refl)
