use mathlib.Core.Path.{◌∙◌, ap}
use Prim.Native.Nat.{ℕ}
use lib.ListN.{replicate}
use Rattle.model.specs.Calls.{zeros}
use Rattle.reading.proofs.read.Goals as goal

pub returns : goal.returns
unfolding zeros
returns c = record {
  outcome = c.read_out-r.ensures;
  cleared = c.clear.ensures ∙ ap (λ (n : ℕ). replicate n 0) c.read_out-r.auto.work;
}
