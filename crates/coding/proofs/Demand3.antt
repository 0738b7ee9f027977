-- Demand 3 of document 01, whole.
--
--   demand_3              demand 3 holds of any two lists of writing calls, whatever the one table is that all of them are handed
use Rattle.model.specs.declared.Table.{Table}
use Rattle.model.specs.Writings.{Demand3}
use Rattle.lists.proofs.Lists as lists
use Rattle.coding.proofs.Coders.{coders}

pub demand_3 : (t : Table) → Demand3 t
demand_3 = lists.demand_3 coders
