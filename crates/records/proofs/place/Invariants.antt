use Rattle.std.proofs.Common.{◌≡◌, true, ◌+◌, ◌-◌, ◌<◌, length, drop}
use Rattle.model.specs.Shelf.{records_in, end_to_end}
use Rattle.model.specs.ShelfWalk.{place_of_record}
use Rattle.records.proofs.place.Given as goal

abbrev pub invariant-loop : goal.invariant-loop
invariant-loop l =
    (end_to_end (drop l.at l.bytes) ≡ true) × (l.n - l.counter < length (records_in (drop l.at l.bytes)))
    × (l.at + place_of_record (records_in (drop l.at l.bytes)) (l.n - l.counter) ≡ place_of_record (records_in l.bytes) l.n)
