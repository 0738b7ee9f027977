-- Small plans of all kinds, accepted and refused, with the answers of the second coder (tests/second_coder). `tests/vectors.py` prints the lines.
--
--   vectors              the lines
--   vectors_hold         the definitions say the same
use mathlib.Core.List.{List, [], ◌∷◌}
use lib.Dec.{T}
use lib.IntN.{pos, negsuc}
use Rattle.model.specs.Groups.{standard_table}
use Rattle.model.proofs.Line.{Writes, standard_is, refused, not_planar, all_hold, all_held, all_held_lem}
use Rattle.model.proofs.Opened.{writing_opened}
use Rattle.model.proofs.Tables.{standard_stands}

unfoldable pub vectors : List Writes
vectors =
    record { kind = 1; root = 0; outside = 0; rotation = 0 ∷ 1 ∷ 2 ∷ 3 ∷ []; says = refused 9 }
    ∷ record { kind = 2; root = 0; outside = 0; rotation = 0 ∷ 1 ∷ 2 ∷ 3 ∷ []; says = refused 9 }
    ∷ record { kind = 1; root = 0; outside = 0; rotation = 0 ∷ 1 ∷ 3 ∷ 2 ∷ []; says = refused 9 }
    ∷ record { kind = 2; root = 0; outside = 0; rotation = 0 ∷ 1 ∷ 3 ∷ 2 ∷ []; says = refused 9 }
    ∷ record { kind = 1; root = 0; outside = 0; rotation = 0 ∷ 2 ∷ 1 ∷ 3 ∷ []; says = refused 12 }
    ∷ record { kind = 2; root = 0; outside = 0; rotation = 0 ∷ 2 ∷ 1 ∷ 3 ∷ []; says = standard_is (8 ∷ 0 ∷ 2 ∷ 0 ∷ 2 ∷ 0 ∷ 192 ∷ 54 ∷ []) (0 ∷ 2 ∷ 1 ∷ 3 ∷ []) }
    ∷ record { kind = 1; root = 0; outside = 0; rotation = 0 ∷ 2 ∷ 3 ∷ 1 ∷ []; says = refused 11 }
    ∷ record { kind = 2; root = 0; outside = 0; rotation = 0 ∷ 2 ∷ 3 ∷ 1 ∷ []; says = refused 11 }
    ∷ record { kind = 1; root = 0; outside = 0; rotation = 0 ∷ 3 ∷ 1 ∷ 2 ∷ []; says = refused 11 }
    ∷ record { kind = 2; root = 0; outside = 0; rotation = 0 ∷ 3 ∷ 1 ∷ 2 ∷ []; says = refused 11 }
    ∷ record { kind = 1; root = 0; outside = 0; rotation = 0 ∷ 3 ∷ 2 ∷ 1 ∷ []; says = refused 12 }
    ∷ record { kind = 2; root = 0; outside = 0; rotation = 0 ∷ 3 ∷ 2 ∷ 1 ∷ []; says = standard_is (8 ∷ 0 ∷ 2 ∷ 0 ∷ 2 ∷ 0 ∷ 192 ∷ 54 ∷ []) (0 ∷ 2 ∷ 1 ∷ 3 ∷ []) }
    ∷ record { kind = 1; root = 0; outside = 0; rotation = 2 ∷ 1 ∷ 0 ∷ 3 ∷ []; says = refused 12 }
    ∷ record { kind = 2; root = 0; outside = 0; rotation = 2 ∷ 1 ∷ 0 ∷ 3 ∷ []; says = standard_is (8 ∷ 0 ∷ 2 ∷ 0 ∷ 2 ∷ 0 ∷ 160 ∷ 216 ∷ []) (2 ∷ 1 ∷ 0 ∷ 3 ∷ []) }
    ∷ record { kind = 1; root = 0; outside = 0; rotation = 2 ∷ 3 ∷ 0 ∷ 1 ∷ []; says = standard_is (7 ∷ 0 ∷ 1 ∷ 0 ∷ 2 ∷ 0 ∷ 200 ∷ []) (3 ∷ 2 ∷ 1 ∷ 0 ∷ []) }
    ∷ record { kind = 2; root = 0; outside = 0; rotation = 2 ∷ 3 ∷ 0 ∷ 1 ∷ []; says = standard_is (8 ∷ 0 ∷ 2 ∷ 0 ∷ 2 ∷ 0 ∷ 192 ∷ 81 ∷ []) (3 ∷ 2 ∷ 1 ∷ 0 ∷ []) }
    ∷ record { kind = 1; root = 0; outside = 0; rotation = 2 ∷ 3 ∷ 1 ∷ 0 ∷ []; says = not_planar (pos 0) }
    ∷ record { kind = 2; root = 0; outside = 0; rotation = 2 ∷ 3 ∷ 1 ∷ 0 ∷ []; says = not_planar (pos 0) }
    ∷ record { kind = 1; root = 0; outside = 0; rotation = 3 ∷ 1 ∷ 2 ∷ 0 ∷ []; says = refused 12 }
    ∷ record { kind = 1; root = 0; outside = 0; rotation = 3 ∷ 2 ∷ 0 ∷ 1 ∷ []; says = not_planar (pos 0) }
    ∷ record { kind = 2; root = 0; outside = 0; rotation = 3 ∷ 2 ∷ 0 ∷ 1 ∷ []; says = not_planar (pos 0) }
    ∷ record { kind = 1; root = 0; outside = 0; rotation = 3 ∷ 2 ∷ 1 ∷ 0 ∷ []; says = standard_is (7 ∷ 0 ∷ 1 ∷ 0 ∷ 2 ∷ 0 ∷ 200 ∷ []) (3 ∷ 2 ∷ 1 ∷ 0 ∷ []) }
    ∷ record { kind = 1; root = 7; outside = 0; rotation = 8 ∷ 3 ∷ 0 ∷ 4 ∷ 6 ∷ 2 ∷ 9 ∷ 5 ∷ 7 ∷ 1 ∷ []; says = standard_is (8 ∷ 0 ∷ 1 ∷ 0 ∷ 5 ∷ 0 ∷ 213 ∷ 46 ∷ []) (9 ∷ 2 ∷ 4 ∷ 0 ∷ 6 ∷ 3 ∷ 8 ∷ 5 ∷ 1 ∷ 7 ∷ []) }
    ∷ record { kind = 2; root = 7; outside = 0; rotation = 7 ∷ 6 ∷ 4 ∷ 9 ∷ 2 ∷ 8 ∷ 3 ∷ 0 ∷ 5 ∷ 1 ∷ []; says = standard_is (9 ∷ 0 ∷ 2 ∷ 0 ∷ 5 ∷ 0 ∷ 241 ∷ 0 ∷ 108 ∷ []) (9 ∷ 2 ∷ 7 ∷ 4 ∷ 3 ∷ 6 ∷ 5 ∷ 8 ∷ 1 ∷ 0 ∷ []) }
    ∷ record { kind = 1; root = 3; outside = 0; rotation = 2 ∷ 9 ∷ 8 ∷ 1 ∷ 3 ∷ 6 ∷ 5 ∷ 4 ∷ 0 ∷ 7 ∷ []; says = standard_is (8 ∷ 0 ∷ 1 ∷ 0 ∷ 5 ∷ 0 ∷ 211 ∷ 44 ∷ []) (5 ∷ 2 ∷ 4 ∷ 6 ∷ 1 ∷ 3 ∷ 9 ∷ 8 ∷ 7 ∷ 0 ∷ []) }
    ∷ record { kind = 4; root = 65535; outside = 0; rotation = 3 ∷ 6 ∷ 1 ∷ 9 ∷ 7 ∷ 2 ∷ 8 ∷ 0 ∷ 5 ∷ 4 ∷ []; says = refused 4 }
    ∷ record { kind = 1; root = 7; outside = 0; rotation = 6 ∷ 5 ∷ 4 ∷ 3 ∷ 2 ∷ 1 ∷ []; says = refused 4 }
    ∷ record { kind = 2; root = 4; outside = 0; rotation = 5 ∷ 3 ∷ 2 ∷ 7 ∷ 4 ∷ 0 ∷ 6 ∷ 1 ∷ []; says = standard_is (8 ∷ 0 ∷ 2 ∷ 0 ∷ 4 ∷ 0 ∷ 232 ∷ 24 ∷ []) (0 ∷ 2 ∷ 1 ∷ 4 ∷ 6 ∷ 5 ∷ 3 ∷ 7 ∷ []) }
    ∷ record { kind = 2; root = 6; outside = 0; rotation = 9 ∷ 6 ∷ 7 ∷ 5 ∷ 8 ∷ 3 ∷ 1 ∷ 0 ∷ 4 ∷ 2 ∷ []; says = standard_is (9 ∷ 0 ∷ 2 ∷ 0 ∷ 5 ∷ 0 ∷ 220 ∷ 0 ∷ 90 ∷ []) (3 ∷ 2 ∷ 4 ∷ 0 ∷ 9 ∷ 6 ∷ 5 ∷ 8 ∷ 7 ∷ 1 ∷ []) }
    ∷ record { kind = 2; root = 7; outside = 0; rotation = 7 ∷ 5 ∷ 1 ∷ 0 ∷ 4 ∷ 2 ∷ 6 ∷ 3 ∷ []; says = standard_is (8 ∷ 0 ∷ 2 ∷ 0 ∷ 4 ∷ 0 ∷ 180 ∷ 195 ∷ []) (2 ∷ 1 ∷ 5 ∷ 4 ∷ 6 ∷ 0 ∷ 3 ∷ 7 ∷ []) }
    ∷ record { kind = 1; root = 65535; outside = 0; rotation = 3 ∷ 4 ∷ 5 ∷ 0 ∷ 1 ∷ 2 ∷ 3 ∷ []; says = refused 3 }
    ∷ record { kind = 1; root = 3; outside = 0; rotation = 6 ∷ 3 ∷ 0 ∷ 4 ∷ 9 ∷ 2 ∷ 8 ∷ 1 ∷ 5 ∷ 7 ∷ []; says = standard_is (8 ∷ 0 ∷ 1 ∷ 0 ∷ 5 ∷ 0 ∷ 213 ∷ 46 ∷ []) (9 ∷ 2 ∷ 4 ∷ 0 ∷ 6 ∷ 3 ∷ 8 ∷ 5 ∷ 1 ∷ 7 ∷ []) }
    ∷ record { kind = 2; root = 5; outside = 0; rotation = 4 ∷ 2 ∷ 1 ∷ 5 ∷ 0 ∷ 3 ∷ []; says = standard_is (8 ∷ 0 ∷ 2 ∷ 0 ∷ 3 ∷ 0 ∷ 224 ∷ 81 ∷ []) (5 ∷ 2 ∷ 1 ∷ 4 ∷ 3 ∷ 0 ∷ []) }
    ∷ record { kind = 2; root = 0; outside = 0; rotation = 5 ∷ 1 ∷ 0 ∷ 3 ∷ 4 ∷ 2 ∷ []; says = standard_is (8 ∷ 0 ∷ 2 ∷ 0 ∷ 3 ∷ 0 ∷ 168 ∷ 234 ∷ []) (2 ∷ 1 ∷ 4 ∷ 3 ∷ 0 ∷ 5 ∷ []) }
    ∷ record { kind = 256; root = 5; outside = 0; rotation = 3 ∷ 4 ∷ 1 ∷ 5 ∷ 2 ∷ 0 ∷ []; says = refused 2 }
    ∷ record { kind = 255; root = 7; outside = 0; rotation = 3 ∷ 4 ∷ 5 ∷ 0 ∷ 6 ∷ 7 ∷ 1 ∷ 2 ∷ []; says = refused 2 }
    ∷ record { kind = 2; root = 2; outside = 0; rotation = 3 ∷ 2 ∷ 1 ∷ 5 ∷ 6 ∷ 9 ∷ 4 ∷ 7 ∷ 8 ∷ 0 ∷ []; says = standard_is (9 ∷ 0 ∷ 2 ∷ 0 ∷ 5 ∷ 0 ∷ 229 ∷ 0 ∷ 105 ∷ []) (9 ∷ 2 ∷ 6 ∷ 4 ∷ 3 ∷ 5 ∷ 8 ∷ 7 ∷ 1 ∷ 0 ∷ []) }
    ∷ record { kind = 1; root = 3; outside = 0; rotation = 7 ∷ 6 ∷ 4 ∷ 9 ∷ 1 ∷ 8 ∷ 2 ∷ 0 ∷ 5 ∷ 3 ∷ []; says = standard_is (8 ∷ 0 ∷ 1 ∷ 0 ∷ 5 ∷ 0 ∷ 230 ∷ 36 ∷ []) (5 ∷ 2 ∷ 6 ∷ 4 ∷ 3 ∷ 0 ∷ 9 ∷ 8 ∷ 7 ∷ 1 ∷ []) }
    ∷ record { kind = 2; root = 2; outside = 0; rotation = 4 ∷ 1 ∷ 2 ∷ 0 ∷ 3 ∷ 5 ∷ []; says = standard_is (8 ∷ 0 ∷ 2 ∷ 0 ∷ 3 ∷ 0 ∷ 208 ∷ 72 ∷ []) (0 ∷ 2 ∷ 4 ∷ 3 ∷ 1 ∷ 5 ∷ []) }
    ∷ record { kind = 2; root = 6; outside = 0; rotation = 7 ∷ 3 ∷ 0 ∷ 5 ∷ 2 ∷ 6 ∷ 1 ∷ 4 ∷ []; says = standard_is (8 ∷ 0 ∷ 2 ∷ 0 ∷ 4 ∷ 0 ∷ 212 ∷ 93 ∷ []) (7 ∷ 2 ∷ 4 ∷ 0 ∷ 6 ∷ 3 ∷ 1 ∷ 5 ∷ []) }
    ∷ record { kind = 2; root = 0; outside = 0; rotation = 4 ∷ 3 ∷ 0 ∷ 5 ∷ 2 ∷ 1 ∷ []; says = standard_is (8 ∷ 0 ∷ 2 ∷ 0 ∷ 3 ∷ 0 ∷ 208 ∷ 90 ∷ []) (5 ∷ 2 ∷ 4 ∷ 0 ∷ 1 ∷ 3 ∷ []) }
    ∷ record { kind = 2; root = 1; outside = 0; rotation = 8 ∷ 4 ∷ 1 ∷ 3 ∷ 6 ∷ 0 ∷ 9 ∷ 5 ∷ 7 ∷ 2 ∷ []; says = standard_is (9 ∷ 0 ∷ 2 ∷ 0 ∷ 5 ∷ 0 ∷ 212 ∷ 128 ∷ 95 ∷ []) (7 ∷ 2 ∷ 4 ∷ 8 ∷ 6 ∷ 3 ∷ 1 ∷ 5 ∷ 0 ∷ 9 ∷ []) }
    ∷ record { kind = 1; root = 0; outside = 0; rotation = 3 ∷ 4 ∷ 5 ∷ 0 ∷ 1 ∷ 2 ∷ []; says = standard_is (8 ∷ 0 ∷ 1 ∷ 0 ∷ 3 ∷ 0 ∷ 226 ∷ 0 ∷ []) (5 ∷ 2 ∷ 1 ∷ 4 ∷ 3 ∷ 0 ∷ []) }
    ∷ record { kind = 1; root = 2; outside = 0; rotation = 5 ∷ 3 ∷ 4 ∷ 1 ∷ 2 ∷ 0 ∷ 6 ∷ []; says = refused 3 }
    ∷ record { kind = 1; root = 3; outside = 0; rotation = 3 ∷ 5 ∷ 1 ∷ 4 ∷ 0 ∷ 2 ∷ []; says = standard_is (8 ∷ 0 ∷ 1 ∷ 0 ∷ 3 ∷ 0 ∷ 210 ∷ 128 ∷ []) (5 ∷ 2 ∷ 4 ∷ 0 ∷ 1 ∷ 3 ∷ []) }
    ∷ record { kind = 1; root = 4; outside = 0; rotation = 3 ∷ 4 ∷ 1 ∷ 5 ∷ 2 ∷ 0 ∷ []; says = standard_is (8 ∷ 0 ∷ 1 ∷ 0 ∷ 3 ∷ 0 ∷ 210 ∷ 128 ∷ []) (5 ∷ 2 ∷ 4 ∷ 0 ∷ 1 ∷ 3 ∷ []) }
    ∷ record { kind = 1; root = 6; outside = 0; rotation = 1 ∷ 3 ∷ 4 ∷ 5 ∷ 0 ∷ 1 ∷ []; says = refused 4 }
    ∷ record { kind = 1; root = 4; outside = 0; rotation = 6 ∷ 4 ∷ 7 ∷ 1 ∷ 3 ∷ 0 ∷ 5 ∷ 2 ∷ 6 ∷ []; says = refused 3 }
    ∷ record { kind = 1; root = 0; outside = 0; rotation = 5 ∷ 6 ∷ 4 ∷ 7 ∷ 1 ∷ 3 ∷ 2 ∷ 0 ∷ []; says = standard_is (8 ∷ 0 ∷ 1 ∷ 0 ∷ 4 ∷ 0 ∷ 212 ∷ 176 ∷ []) (7 ∷ 2 ∷ 4 ∷ 0 ∷ 6 ∷ 3 ∷ 1 ∷ 5 ∷ []) }
    ∷ record { kind = 1; root = 2; outside = 0; rotation = 5 ∷ 3 ∷ 4 ∷ 1 ∷ 2 ∷ 0 ∷ []; says = standard_is (8 ∷ 0 ∷ 1 ∷ 0 ∷ 3 ∷ 0 ∷ 226 ∷ 0 ∷ []) (5 ∷ 2 ∷ 1 ∷ 4 ∷ 3 ∷ 0 ∷ []) }
    ∷ record { kind = 2; root = 6; outside = 0; rotation = 0 ∷ 4 ∷ 1 ∷ 3 ∷ 2 ∷ 5 ∷ []; says = refused 4 }
    ∷ record { kind = 2; root = 11; outside = 0; rotation = 8 ∷ 7 ∷ 9 ∷ 6 ∷ 1 ∷ 3 ∷ 5 ∷ 4 ∷ 0 ∷ 2 ∷ []; says = refused 4 }
    ∷ record { kind = 2; root = 4; outside = 0; rotation = 0 ∷ 5 ∷ 7 ∷ 3 ∷ 4 ∷ 2 ∷ 6 ∷ 1 ∷ []; says = standard_is (8 ∷ 0 ∷ 2 ∷ 0 ∷ 4 ∷ 0 ∷ 212 ∷ 78 ∷ []) (0 ∷ 2 ∷ 4 ∷ 3 ∷ 6 ∷ 5 ∷ 1 ∷ 7 ∷ []) }
    ∷ record { kind = 1; root = 5; outside = 0; rotation = 4 ∷ 3 ∷ 5 ∷ 2 ∷ 0 ∷ 65535 ∷ []; says = refused 6 }
    ∷ record { kind = 1; root = 1; outside = 0; rotation = 9 ∷ 3 ∷ 1 ∷ 10 ∷ 6 ∷ 2 ∷ 4 ∷ 5 ∷ 7 ∷ 0 ∷ []; says = refused 6 }
    ∷ record { kind = 4; root = 8192; outside = 0; rotation = 0 ∷ 3 ∷ 5 ∷ 4 ∷ 1 ∷ 2 ∷ []; says = refused 4 }
    ∷ record { kind = 1; root = 4; outside = 0; rotation = 5 ∷ 3 ∷ 0 ∷ 4 ∷ 7 ∷ 2 ∷ []; says = refused 6 }
    ∷ record { kind = 1; root = 1; outside = 0; rotation = 2 ∷ 6 ∷ 5 ∷ 1 ∷ 3 ∷ 7 ∷ 4 ∷ 0 ∷ []; says = standard_is (8 ∷ 0 ∷ 1 ∷ 0 ∷ 4 ∷ 0 ∷ 212 ∷ 176 ∷ []) (7 ∷ 2 ∷ 4 ∷ 0 ∷ 6 ∷ 3 ∷ 1 ∷ 5 ∷ []) }
    ∷ record { kind = 1; root = 5; outside = 0; rotation = 4 ∷ 6 ∷ 7 ∷ 5 ∷ 0 ∷ 3 ∷ 1 ∷ 2 ∷ []; says = standard_is (8 ∷ 0 ∷ 1 ∷ 0 ∷ 4 ∷ 0 ∷ 240 ∷ 128 ∷ []) (7 ∷ 2 ∷ 1 ∷ 4 ∷ 3 ∷ 6 ∷ 5 ∷ 0 ∷ []) }
    ∷ record { kind = 1; root = 5; outside = 0; rotation = 5 ∷ 4 ∷ 8 ∷ 1 ∷ 9 ∷ 6 ∷ 2 ∷ 7 ∷ 3 ∷ 0 ∷ []; says = not_planar (negsuc 1) }
    ∷ record { kind = 1; root = 6; outside = 0; rotation = 5 ∷ 7 ∷ 6 ∷ 4 ∷ 1 ∷ 2 ∷ 0 ∷ 3 ∷ []; says = standard_is (8 ∷ 0 ∷ 1 ∷ 0 ∷ 4 ∷ 0 ∷ 212 ∷ 176 ∷ []) (7 ∷ 2 ∷ 4 ∷ 0 ∷ 6 ∷ 3 ∷ 1 ∷ 5 ∷ []) }
    ∷ record { kind = 2; root = 6; outside = 0; rotation = 4 ∷ 2 ∷ 0 ∷ 7 ∷ 6 ∷ 3 ∷ 0 ∷ 5 ∷ []; says = refused 6 }
    ∷ record { kind = 1; root = 4; outside = 0; rotation = 8 ∷ 4 ∷ 9 ∷ 5 ∷ 0 ∷ 7 ∷ 1 ∷ 2 ∷ 3 ∷ 6 ∷ []; says = not_planar (negsuc 1) }
    ∷ record { kind = 1; root = 7; outside = 0; rotation = 2 ∷ 7 ∷ 4 ∷ 6 ∷ 9 ∷ 8 ∷ 5 ∷ 1 ∷ 3 ∷ []; says = refused 3 }
    ∷ record { kind = 1; root = 6; outside = 0; rotation = 4 ∷ 3 ∷ 5 ∷ 1 ∷ 0 ∷ 7 ∷ 6 ∷ 2 ∷ []; says = standard_is (8 ∷ 0 ∷ 1 ∷ 0 ∷ 4 ∷ 0 ∷ 240 ∷ 64 ∷ []) (0 ∷ 2 ∷ 7 ∷ 4 ∷ 3 ∷ 6 ∷ 5 ∷ 1 ∷ []) }
    ∷ record { kind = 1; root = 3; outside = 0; rotation = 9 ∷ 4 ∷ 8 ∷ 3 ∷ 7 ∷ 0 ∷ 5 ∷ 2 ∷ 1 ∷ 6 ∷ []; says = standard_is (8 ∷ 0 ∷ 1 ∷ 0 ∷ 5 ∷ 0 ∷ 234 ∷ 22 ∷ []) (0 ∷ 2 ∷ 9 ∷ 4 ∷ 6 ∷ 1 ∷ 8 ∷ 5 ∷ 3 ∷ 7 ∷ []) }
    ∷ record { kind = 1; root = 9; outside = 0; rotation = 7 ∷ 4 ∷ 5 ∷ 6 ∷ 8 ∷ 2 ∷ 1 ∷ 0 ∷ 3 ∷ 9 ∷ []; says = standard_is (8 ∷ 0 ∷ 1 ∷ 0 ∷ 5 ∷ 0 ∷ 230 ∷ 6 ∷ []) (0 ∷ 2 ∷ 6 ∷ 4 ∷ 3 ∷ 1 ∷ 9 ∷ 8 ∷ 7 ∷ 5 ∷ []) }
    ∷ record { kind = 1; root = 2; outside = 0; rotation = 6 ∷ 1 ∷ 2 ∷ 7 ∷ 3 ∷ 5 ∷ 0 ∷ 4 ∷ []; says = refused 12 }
    ∷ record { kind = 4; root = 5; outside = 0; rotation = 6 ∷ 1 ∷ 4 ∷ 8 ∷ 2 ∷ 7 ∷ 3 ∷ 5 ∷ 9 ∷ 0 ∷ []; says = standard_is (9 ∷ 0 ∷ 4 ∷ 0 ∷ 5 ∷ 0 ∷ 11 ∷ 25 ∷ 112 ∷ []) (9 ∷ 2 ∷ 1 ∷ 4 ∷ 5 ∷ 6 ∷ 8 ∷ 7 ∷ 3 ∷ 0 ∷ []) }
    ∷ record { kind = 4; root = 0; outside = 0; rotation = 2 ∷ 4 ∷ 0 ∷ 5 ∷ 1 ∷ 3 ∷ []; says = standard_is (8 ∷ 0 ∷ 4 ∷ 0 ∷ 3 ∷ 0 ∷ 9 ∷ 112 ∷ []) (5 ∷ 2 ∷ 1 ∷ 4 ∷ 3 ∷ 0 ∷ []) }
    ∷ record { kind = 4; root = 0; outside = 0; rotation = 0 ∷ 1 ∷ []; says = standard_is (7 ∷ 0 ∷ 4 ∷ 0 ∷ 1 ∷ 0 ∷ 16 ∷ []) (0 ∷ 1 ∷ []) }
    ∷ record { kind = 4; root = 0; outside = 0; rotation = 9 ∷ 2 ∷ 8 ∷ 4 ∷ 7 ∷ 0 ∷ 5 ∷ 3 ∷ 1 ∷ 6 ∷ []; says = standard_is (9 ∷ 0 ∷ 4 ∷ 0 ∷ 5 ∷ 0 ∷ 10 ∷ 103 ∷ 240 ∷ []) (9 ∷ 2 ∷ 8 ∷ 4 ∷ 6 ∷ 0 ∷ 3 ∷ 5 ∷ 1 ∷ 7 ∷ []) }
    ∷ record { kind = 4; root = 1; outside = 0; rotation = 6 ∷ 3 ∷ 4 ∷ 2 ∷ 1 ∷ 7 ∷ 0 ∷ 5 ∷ []; says = standard_is (8 ∷ 0 ∷ 4 ∷ 0 ∷ 4 ∷ 0 ∷ 9 ∷ 111 ∷ []) (6 ∷ 2 ∷ 1 ∷ 4 ∷ 3 ∷ 0 ∷ 7 ∷ 5 ∷ []) }
    ∷ record { kind = 4; root = 3; outside = 0; rotation = 4 ∷ 7 ∷ 3 ∷ 0 ∷ 8 ∷ 1 ∷ 9 ∷ 2 ∷ 6 ∷ 5 ∷ []; says = not_planar (pos 0) }
    ∷ record { kind = 4; root = 2; outside = 0; rotation = 3 ∷ 2 ∷ 1 ∷ 0 ∷ []; says = standard_is (7 ∷ 0 ∷ 4 ∷ 0 ∷ 2 ∷ 0 ∷ 39 ∷ []) (3 ∷ 2 ∷ 1 ∷ 0 ∷ []) }
    ∷ record { kind = 4; root = 4; outside = 0; rotation = 5 ∷ 4 ∷ 3 ∷ 7 ∷ 2 ∷ 0 ∷ 6 ∷ 1 ∷ []; says = standard_is (8 ∷ 0 ∷ 4 ∷ 0 ∷ 4 ∷ 0 ∷ 38 ∷ 199 ∷ []) (4 ∷ 2 ∷ 1 ∷ 0 ∷ 5 ∷ 6 ∷ 3 ∷ 7 ∷ []) }
    ∷ record { kind = 4; root = 1; outside = 0; rotation = 3 ∷ 5 ∷ 4 ∷ 2 ∷ 0 ∷ 1 ∷ []; says = standard_is (8 ∷ 0 ∷ 4 ∷ 0 ∷ 3 ∷ 0 ∷ 46 ∷ 112 ∷ []) (5 ∷ 2 ∷ 3 ∷ 4 ∷ 1 ∷ 0 ∷ []) }
    ∷ record { kind = 4; root = 5; outside = 0; rotation = []; says = refused 3 }
    ∷ record { kind = 4; root = 7; outside = 0; rotation = 9 ∷ 6 ∷ 8 ∷ 3 ∷ 5 ∷ 2 ∷ 1 ∷ 4 ∷ 7 ∷ 0 ∷ []; says = standard_is (9 ∷ 0 ∷ 4 ∷ 0 ∷ 5 ∷ 0 ∷ 9 ∷ 108 ∷ 112 ∷ []) (6 ∷ 2 ∷ 1 ∷ 4 ∷ 3 ∷ 0 ∷ 7 ∷ 8 ∷ 5 ∷ 9 ∷ []) }
    ∷ record { kind = 4; root = 2; outside = 0; rotation = 5 ∷ 3 ∷ 4 ∷ 1 ∷ 2 ∷ 0 ∷ []; says = standard_is (8 ∷ 0 ∷ 4 ∷ 0 ∷ 3 ∷ 0 ∷ 9 ∷ 112 ∷ []) (5 ∷ 2 ∷ 1 ∷ 4 ∷ 3 ∷ 0 ∷ []) }
    ∷ record { kind = 4; root = 65535; outside = 0; rotation = 3 ∷ 0 ∷ 2 ∷ 1 ∷ []; says = refused 4 }
    ∷ record { kind = 4; root = 4; outside = 0; rotation = 1 ∷ 6 ∷ 4 ∷ 7 ∷ 3 ∷ 2 ∷ 0 ∷ 5 ∷ []; says = not_planar (pos 0) }
    ∷ record { kind = 4; root = 2; outside = 0; rotation = 2 ∷ 3 ∷ 0 ∷ 1 ∷ []; says = standard_is (7 ∷ 0 ∷ 4 ∷ 0 ∷ 2 ∷ 0 ∷ 39 ∷ []) (3 ∷ 2 ∷ 1 ∷ 0 ∷ []) }
    ∷ record { kind = 4; root = 1; outside = 0; rotation = 1 ∷ 0 ∷ []; says = standard_is (7 ∷ 0 ∷ 4 ∷ 0 ∷ 1 ∷ 0 ∷ 176 ∷ []) (1 ∷ 0 ∷ []) }
    ∷ record { kind = 4; root = 1; outside = 0; rotation = 4 ∷ 7 ∷ 6 ∷ 5 ∷ 0 ∷ 3 ∷ 2 ∷ 1 ∷ []; says = standard_is (8 ∷ 0 ∷ 4 ∷ 0 ∷ 4 ∷ 0 ∷ 2 ∷ 87 ∷ []) (7 ∷ 2 ∷ 1 ∷ 4 ∷ 3 ∷ 6 ∷ 5 ∷ 0 ∷ []) }
    ∷ record { kind = 4; root = 2; outside = 0; rotation = 0 ∷ 3 ∷ 2 ∷ 5 ∷ 4 ∷ 8 ∷ 6 ∷ 1 ∷ 7 ∷ 9 ∷ []; says = standard_is (9 ∷ 0 ∷ 4 ∷ 0 ∷ 5 ∷ 0 ∷ 4 ∷ 68 ∷ 80 ∷ []) (0 ∷ 2 ∷ 4 ∷ 3 ∷ 6 ∷ 5 ∷ 8 ∷ 7 ∷ 1 ∷ 9 ∷ []) }
    ∷ record { kind = 4; root = 2; outside = 0; rotation = 4 ∷ 6 ∷ 7 ∷ 5 ∷ 0 ∷ 3 ∷ 1 ∷ 2 ∷ []; says = standard_is (8 ∷ 0 ∷ 4 ∷ 0 ∷ 4 ∷ 0 ∷ 2 ∷ 87 ∷ []) (7 ∷ 2 ∷ 1 ∷ 4 ∷ 3 ∷ 6 ∷ 5 ∷ 0 ∷ []) }
    ∷ record { kind = 4; root = 1; outside = 0; rotation = 0 ∷ 1 ∷ []; says = standard_is (7 ∷ 0 ∷ 4 ∷ 0 ∷ 1 ∷ 0 ∷ 16 ∷ []) (0 ∷ 1 ∷ []) }
    ∷ record { kind = 4; root = 5; outside = 0; rotation = 0 ∷ 2 ∷ 5 ∷ 1 ∷ 3 ∷ 4 ∷ []; says = standard_is (8 ∷ 0 ∷ 4 ∷ 0 ∷ 3 ∷ 0 ∷ 184 ∷ 112 ∷ []) (1 ∷ 2 ∷ 4 ∷ 0 ∷ 3 ∷ 5 ∷ []) }
    ∷ record { kind = 4; root = 2; outside = 0; rotation = 0 ∷ 1 ∷ 6 ∷ 7 ∷ 2 ∷ 3 ∷ 4 ∷ 5 ∷ []; says = refused 9 }
    ∷ record { kind = 4; root = 3; outside = 0; rotation = 2 ∷ 3 ∷ 0 ∷ 3 ∷ []; says = refused 6 }
    ∷ record { kind = 4; root = 0; outside = 0; rotation = 1 ∷ 0 ∷ []; says = standard_is (7 ∷ 0 ∷ 4 ∷ 0 ∷ 1 ∷ 0 ∷ 176 ∷ []) (1 ∷ 0 ∷ []) }
    ∷ record { kind = 4; root = 1; outside = 0; rotation = 0 ∷ 2 ∷ 3 ∷ 1 ∷ []; says = standard_is (7 ∷ 0 ∷ 4 ∷ 0 ∷ 2 ∷ 0 ∷ 27 ∷ []) (2 ∷ 1 ∷ 3 ∷ 0 ∷ []) }
    ∷ record { kind = 4; root = 4; outside = 0; rotation = 0 ∷ 1 ∷ 6 ∷ 7 ∷ 2 ∷ 3 ∷ 5 ∷ 4 ∷ []; says = refused 9 }
    ∷ record { kind = 4; root = 2; outside = 0; rotation = 2 ∷ 0 ∷ 3 ∷ 1 ∷ []; says = standard_is (7 ∷ 0 ∷ 4 ∷ 0 ∷ 2 ∷ 0 ∷ 187 ∷ []) (1 ∷ 2 ∷ 3 ∷ 0 ∷ []) }
    ∷ record { kind = 257; root = 2; outside = 1; rotation = 3 ∷ 2 ∷ 1 ∷ 0 ∷ []; says = standard_is (9 ∷ 0 ∷ 1 ∷ 1 ∷ 2 ∷ 0 ∷ 1 ∷ 0 ∷ 200 ∷ []) (3 ∷ 2 ∷ 1 ∷ 0 ∷ []) }
    ∷ record { kind = 257; root = 4; outside = 5; rotation = 3 ∷ 2 ∷ 5 ∷ 0 ∷ 4 ∷ 1 ∷ []; says = standard_is (10 ∷ 0 ∷ 1 ∷ 1 ∷ 3 ∷ 0 ∷ 0 ∷ 0 ∷ 225 ∷ 0 ∷ []) (0 ∷ 2 ∷ 5 ∷ 4 ∷ 3 ∷ 1 ∷ []) }
    ∷ record { kind = 260; root = 3; outside = 3; rotation = 0 ∷ 3 ∷ 2 ∷ 1 ∷ []; says = standard_is (9 ∷ 0 ∷ 4 ∷ 1 ∷ 2 ∷ 0 ∷ 0 ∷ 0 ∷ 17 ∷ []) (2 ∷ 1 ∷ 0 ∷ 3 ∷ []) }
    ∷ record { kind = 258; root = 3; outside = 1; rotation = 4 ∷ 2 ∷ 1 ∷ 5 ∷ 0 ∷ 3 ∷ []; says = standard_is (10 ∷ 0 ∷ 2 ∷ 1 ∷ 3 ∷ 0 ∷ 0 ∷ 0 ∷ 224 ∷ 81 ∷ []) (5 ∷ 2 ∷ 1 ∷ 4 ∷ 3 ∷ 0 ∷ []) }
    ∷ record { kind = 258; root = 2; outside = 1; rotation = 2 ∷ 1 ∷ 0 ∷ 3 ∷ []; says = standard_is (10 ∷ 0 ∷ 2 ∷ 1 ∷ 2 ∷ 0 ∷ 0 ∷ 0 ∷ 160 ∷ 216 ∷ []) (2 ∷ 1 ∷ 0 ∷ 3 ∷ []) }
    ∷ record { kind = 260; root = 4; outside = 9; rotation = 6 ∷ 7 ∷ 0 ∷ 9 ∷ 4 ∷ 5 ∷ 2 ∷ 3 ∷ 8 ∷ 1 ∷ []; says = refused 9 }
    ∷ record { kind = 257; root = 3; outside = 5; rotation = 3 ∷ 4 ∷ 5 ∷ 0 ∷ 1 ∷ 2 ∷ []; says = standard_is (10 ∷ 0 ∷ 1 ∷ 1 ∷ 3 ∷ 0 ∷ 0 ∷ 0 ∷ 226 ∷ 0 ∷ []) (5 ∷ 2 ∷ 1 ∷ 4 ∷ 3 ∷ 0 ∷ []) }
    ∷ record { kind = 258; root = 4; outside = 3; rotation = 4 ∷ 1 ∷ 0 ∷ 5 ∷ 2 ∷ 2 ∷ []; says = refused 6 }
    ∷ record { kind = 258; root = 7; outside = 8; rotation = 9 ∷ 1 ∷ 2 ∷ 7 ∷ 4 ∷ 3 ∷ 8 ∷ 5 ∷ 6 ∷ 0 ∷ []; says = standard_is (11 ∷ 0 ∷ 2 ∷ 1 ∷ 5 ∷ 0 ∷ 0 ∷ 0 ∷ 226 ∷ 128 ∷ 26 ∷ []) (6 ∷ 2 ∷ 1 ∷ 4 ∷ 3 ∷ 5 ∷ 8 ∷ 7 ∷ 0 ∷ 9 ∷ []) }
    ∷ record { kind = 258; root = 1; outside = 5; rotation = 6 ∷ 5 ∷ 0 ∷ 2 ∷ 7 ∷ 1 ∷ 3 ∷ 4 ∷ []; says = refused 11 }
    ∷ record { kind = 260; root = 0; outside = 4; rotation = 0 ∷ 3 ∷ 1 ∷ 2 ∷ []; says = refused 17 }
    ∷ record { kind = 258; root = 3; outside = 1; rotation = 3 ∷ 1 ∷ 4 ∷ 7 ∷ 2 ∷ 6 ∷ 5 ∷ 0 ∷ []; says = standard_is (10 ∷ 0 ∷ 2 ∷ 1 ∷ 4 ∷ 0 ∷ 0 ∷ 0 ∷ 226 ∷ 87 ∷ []) (5 ∷ 2 ∷ 1 ∷ 4 ∷ 3 ∷ 6 ∷ 0 ∷ 7 ∷ []) }
    ∷ record { kind = 260; root = 5; outside = 10; rotation = 6 ∷ 8 ∷ 1 ∷ 2 ∷ 4 ∷ 0 ∷ 3 ∷ 7 ∷ 9 ∷ 5 ∷ []; says = refused 17 }
    ∷ record { kind = 257; root = 5; outside = 4; rotation = 5 ∷ 7 ∷ 1 ∷ 4 ∷ 3 ∷ 0 ∷ 6 ∷ 2 ∷ []; says = refused 12 }
    ∷ record { kind = 260; root = 1; outside = 65535; rotation = 2 ∷ 3 ∷ 0 ∷ 1 ∷ []; says = refused 17 }
    ∷ record { kind = 257; root = 3; outside = 3; rotation = 2 ∷ 3 ∷ 1 ∷ 0 ∷ []; says = not_planar (pos 0) }
    ∷ record { kind = 258; root = 4; outside = 9; rotation = 1 ∷ 8 ∷ 7 ∷ 9 ∷ 5 ∷ 0 ∷ 6 ∷ 4 ∷ 2 ∷ 3 ∷ []; says = refused 11 }
    ∷ record { kind = 258; root = 3; outside = 1; rotation = 1 ∷ 0 ∷ 2 ∷ 4 ∷ 5 ∷ 3 ∷ []; says = refused 9 }
    ∷ record { kind = 258; root = 0; outside = 3; rotation = 0 ∷ 2 ∷ 1 ∷ 3 ∷ []; says = standard_is (10 ∷ 0 ∷ 2 ∷ 1 ∷ 2 ∷ 0 ∷ 0 ∷ 0 ∷ 192 ∷ 54 ∷ []) (0 ∷ 2 ∷ 1 ∷ 3 ∷ []) }
    ∷ record { kind = 257; root = 6; outside = 7; rotation = 8 ∷ 4 ∷ 9 ∷ 1 ∷ 3 ∷ 0 ∷ 6 ∷ 2 ∷ 5 ∷ 7 ∷ []; says = standard_is (10 ∷ 0 ∷ 1 ∷ 1 ∷ 5 ∷ 0 ∷ 0 ∷ 0 ∷ 244 ∷ 24 ∷ []) (0 ∷ 2 ∷ 7 ∷ 4 ∷ 9 ∷ 6 ∷ 8 ∷ 1 ∷ 5 ∷ 3 ∷ []) }
    ∷ record { kind = 258; root = 0; outside = 2; rotation = 2 ∷ 3 ∷ 0 ∷ 1 ∷ []; says = standard_is (10 ∷ 0 ∷ 2 ∷ 1 ∷ 2 ∷ 0 ∷ 1 ∷ 0 ∷ 192 ∷ 81 ∷ []) (3 ∷ 2 ∷ 1 ∷ 0 ∷ []) }
    ∷ record { kind = 257; root = 9; outside = 6; rotation = 9 ∷ 7 ∷ 8 ∷ 5 ∷ 6 ∷ 3 ∷ 4 ∷ 1 ∷ 2 ∷ 0 ∷ []; says = standard_is (10 ∷ 0 ∷ 1 ∷ 1 ∷ 5 ∷ 0 ∷ 0 ∷ 0 ∷ 248 ∷ 32 ∷ []) (9 ∷ 2 ∷ 1 ∷ 4 ∷ 3 ∷ 6 ∷ 5 ∷ 8 ∷ 7 ∷ 0 ∷ []) }
    ∷ record { kind = 260; root = 4; outside = 6; rotation = 3 ∷ 2 ∷ 1 ∷ 5 ∷ 4 ∷ 0 ∷ []; says = refused 17 }
    ∷ record { kind = 257; root = 7; outside = 3; rotation = 8 ∷ 5 ∷ 9 ∷ 6 ∷ 0 ∷ 2 ∷ 4 ∷ 7 ∷ 3 ∷ 1 ∷ []; says = standard_is (10 ∷ 0 ∷ 1 ∷ 1 ∷ 5 ∷ 0 ∷ 5 ∷ 0 ∷ 234 ∷ 22 ∷ []) (0 ∷ 2 ∷ 9 ∷ 4 ∷ 6 ∷ 1 ∷ 8 ∷ 5 ∷ 3 ∷ 7 ∷ []) }
    ∷ []

pub vectors_hold : T (all_hold standard_table vectors)
unfolding vectors all_held writing_opened
vectors_hold = all_held_lem standard_table standard_stands vectors tt
