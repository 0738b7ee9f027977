-- What naming and measuring the cycles of a rotation or of its face walk leaves behind.
--
--   Named                each dart's cycle is named by its least dart, from place a on; the cycles are counted, and their sizes stand from place b on
--   FacesNamed rot w     the faces' names are in the work area
use Rattle.std.specs.Prelude.{ℕ, ◌*◌, ◌≡◌, List, length}
use Rattle.model.specs.Numbers.{least, cycles, cycle_sizes, tabulate}
use Rattle.model.specs.Map.{face_of}
use Rattle.work.specs.Map.{FACES}
use Rattle.work.specs.Area.{region, placed}

pub record Named (f : ℕ → ℕ) (n a b : ℕ) (w : List ℕ) (count : ℕ) (w' : List ℕ) : Type 0 where
  pub counted : count ≡ cycles f n
  pub named : w' ≡ placed b (cycle_sizes f n) (placed a (tabulate (least f n) 0 n) w)

abbrev pub FacesNamed : List ℕ → List ℕ → Type 0
FacesNamed rot w = region (FACES * length rot) (length rot) w ≡ tabulate (face_of rot) 0 (length rot)
