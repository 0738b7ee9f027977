use Rattle.standard_test.proofs.Entries.{standard_is}
use Rattle.standard_test.proofs.is_standard.Goals as goal
use Rattle.standard_test.proofs.is_standard.Goals.{then-first_places, else-first_places}

pub returns-then-last_bytes : goal.returns-then-last_bytes
returns-then-last_bytes c = elim c.if-first_places.branch [
  | then-first_places w ↦ λ e.
      let first = c.first_places.ensures w.if-first_places.true in
      standard_is _ _ c.told-bytes c.told-inverse first.0 first.1 (w.last_bytes.ensures (cc)) (c.last_entries.ensures e)
  | else-first_places w ↦ absurd (cc)
]
