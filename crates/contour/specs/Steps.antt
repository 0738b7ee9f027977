-- One step of the walk in the work area w of a rotation of n darts.
--
--   names_in, met_in, seen_in n w   names of the vertices, letters by dart, vertices seen
--   VerticesNamed rot w          the vertices' names are there
--   letter_in rot w d             the letter of dart d, from what is met and seen
--   Noted n d l w w'             letter l is noted by dart d
--   Visited rot d w e w'         dart d is met, and e comes after it
use Rattle.std.specs.Prelude.{ℕ, ◌*◌, ◌≡◌, List, length, set}
use Rattle.model.specs.Map.{vertex_of}
use Rattle.model.specs.Traversal.{Letter, code, letter_at, onward, seen_after}
use Rattle.model.specs.Numbers.{tabulate}
use Rattle.work.specs.Map.{MET, SEEN}
use Rattle.work.specs.Area.{region}

abbrev pub names_in : ℕ → List ℕ → List ℕ
names_in n w = region 0 n w

abbrev pub met_in : ℕ → List ℕ → List ℕ
met_in n w = region (MET * n) n w

abbrev pub seen_in : ℕ → List ℕ → List ℕ
seen_in n w = region (SEEN * n) n w

abbrev pub VerticesNamed : List ℕ → List ℕ → Type 0
VerticesNamed rot w = names_in (length rot) w ≡ tabulate (vertex_of rot) 0 (length rot)

unfoldable pub letter_in : List ℕ → List ℕ → ℕ → Letter
letter_in rot w d = letter_at rot (met_in (length rot) w) (seen_in (length rot) w) d

pub record Noted (n d l : ℕ) (w w' : List ℕ) : Type 0 where
  pub names : names_in n w' ≡ names_in n w
  pub met : met_in n w' ≡ set (met_in n w) d l
  pub seen : seen_in n w' ≡ seen_in n w
  pub kept : length w' ≡ length w

pub record Visited (rot : List ℕ) (d : ℕ) (w : List ℕ) (e : ℕ) (w' : List ℕ) : Type 0 where
  pub onwards : e ≡ onward rot (letter_in rot w d) d
  pub names : names_in (length rot) w' ≡ names_in (length rot) w
  pub met : met_in (length rot) w' ≡ set (met_in (length rot) w) d (code (letter_in rot w d))
  pub seen : seen_in (length rot) w' ≡ seen_after rot (letter_in rot w d) d (seen_in (length rot) w)
  pub kept : length w' ≡ length w
