use Rattle.std.proofs.Common.{◌≡◌, ◌+◌, ◌*◌, ◌/◌, take, drop}
use Rattle.work.specs.Map.{LABELS}
use Rattle.work.specs.Area.{region}
use Rattle.packing.specs.Unpack.{groups}
use Rattle.packing.specs.Groups.{values_of}
use Rattle.unpacker.proofs.spread_groups.Given as goal

abbrev pub invariant-loop-i : goal.invariant-loop-i
invariant-loop-i l =
    region (LABELS * (2 * l.m)) (5 * l.i) l.w ≡ groups (take l.i (drop ((2 * l.m + 7) / 8) (values_of l.inverse l.payload)))
