-- What is packed into a record.
--
--   Headed               what stands before the payload is in the output, and where the payload begins
use Rattle.std.specs.Prelude.{ℕ, ◌≡◌, List, ◌++◌}
use Rattle.model.specs.Record.{le16, head_length}
use Rattle.packing.specs.Payload.{extra_bytes}
use Rattle.work.specs.Area.{placed}

pub record Headed (total k m x : ℕ) (out : List ℕ) (at : ℕ) (out' : List ℕ) : Type 0 where
  pub begins : at ≡ head_length k
  pub filled : out' ≡ placed 0 (le16 total ++ (le16 k ++ (le16 m ++ extra_bytes k x))) out
