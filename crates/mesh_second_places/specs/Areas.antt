-- What is put into the work area w of a rotation of n darts, in walking its dual.
--
--   WAITING, HALVES, OWNERS, ENTRIES   the places of stacks, in units of n: edges outside the tree that wait; second places that are still to come, the numbers
--                            of their faces, and those of the edges that these were entered by
--   edge_area                 an edge begins outside the tree
--   View                     what the parts of the work area hold
use Rattle.std.specs.Prelude.{ℕ, ◌+◌, ◌*◌, ◌≤◌, ◌≡◌, List, length, set}
use Rattle.work.specs.Map.{TYPES}
use Rattle.work.specs.Area.{region, stack}

abbrev pub WAITING : ℕ
WAITING = 1

abbrev pub HALVES : ℕ
HALVES = 2

abbrev pub OWNERS : ℕ
OWNERS = 3

abbrev pub ENTRIES : ℕ
ENTRIES = 4

unfoldable pub edge_area : ℕ → ℕ → ℕ → ℕ → List ℕ → List ℕ
edge_area n d e waiting w = set (set w d (8192 + e)) (WAITING * n + waiting) e

pub record View (n waiting halves : ℕ) (w b waits ps fs es ts : List ℕ) : Type 0 where
  pub marks : region 0 n w ≡ b
  pub opens : stack (WAITING * n) waiting w ≡ waits
  pub places : stack (HALVES * n) halves w ≡ ps
  pub owners : stack (OWNERS * n) halves w ≡ fs
  pub entries : stack (ENTRIES * n) halves w ≡ es
  pub types : region (TYPES * n) n w ≡ ts
  pub room : 16 * n ≤ length w
