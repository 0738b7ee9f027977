-- What it is for darts to hang together.
--
--   Reached rot d        d is reached from dart 0 by a finite sequence of opposites and entries
--   Closed rot S         the set S has, with a dart, its opposite and the entry at it
use Rattle.std.specs.Prelude.{ℕ, ◌<◌, List, length}
use Rattle.model.specs.Map.{opposite, next}

pub data Reached (rot : List ℕ) : ℕ → Type 0 where
  start : Reached rot 0
  across : {d : ℕ} → Reached rot d → Reached rot (opposite d)
  turn : {d : ℕ} → Reached rot d → Reached rot (next rot d)

pub record Closed (rot : List ℕ) (S : ℕ → Type 0) : Type 0 where
  pub across : (d : ℕ) → d < length rot → S d → S (opposite d)
  pub turn : (d : ℕ) → d < length rot → S d → S (next rot d)
