-- Bytes that begin with their length.
--
--   Framed r              r has two bytes at least, and they hold its length
use Rattle.std.specs.Prelude.{ℕ, ◌≤◌, ◌≡◌, List, length}
use Rattle.model.specs.Shelf.{word16}

pub record Framed (r : List ℕ) : Type 0 where
  pub long : 2 ≤ length r
  pub field : word16 r 0 ≡ length r
