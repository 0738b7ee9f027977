use Rattle.std.proofs.Common.{ℕ, List}
use mathlib.Core.Path.{ap₂}
use Rattle.model.specs.declared.Table.{Table}
use Rattle.standard_test.proofs.is_standard_table.Goals as goal

pub returns : goal.returns
returns c = λ e.
    let (bytes, inverse) = c.is_standard.ensures e in
    ap₂ (λ (bs inv : List ℕ). let t : Table = record { bytes = bs; inverse = inv } in t) bytes inverse
