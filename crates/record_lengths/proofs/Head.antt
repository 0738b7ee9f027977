-- Where the payload of a record begins, by whether the kind stores the outside.
--
--   head_stores, head_plain  it does, and it does not
use mathlib.Core.Path.{◌≡◌}
use mathlib.Core.Bool.{true, false}
use Prim.Native.Nat.{ℕ}
use Rattle.model.specs.Map.{stores_outside}
use Rattle.model.specs.Record.{head_length}

module _ (k : ℕ) where
  pub head_stores : stores_outside k ≡ true → 8 ≡ head_length k
  unfolding head_length
  head_stores e = rw e

  pub head_plain : stores_outside k ≡ false → 6 ≡ head_length k
  unfolding head_length
  head_plain e = rw e
