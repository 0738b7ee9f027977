-- What the machine in the code does, in the terms of the reading machine: bs and ls are its bits and labels, of which k are read, and l is the label of the
-- edge that has just ended.
--
--   Read                     p letters at least are read: their darts are entered, and the run is those letters and the run from there; t, j and i are the
--                            stage, the label and the bits read then, and b is the area
--   Passed                   the same in the work area, which is w' then
--   Ended                    what the end of edges outside the tree comes to, however many edges have begun and whichever bits and labels are still to be read; the
--                            label then is below q
--   Finished                 whether all edges have begun and ended; if so, dart 0 is entered
use Rattle.std.specs.Prelude.{ℕ, ◌+◌, ◌-◌, ◌≤◌, ◌<◌, ◌≡◌, Bool, true, false, List, ◌++◌, length, set, Option, MatchOption}
use Rattle.model.specs.Traversal.{Letter}
use Rattle.words.specs.Word.{none, after}
use Rattle.machine.specs.Reading.{left, run}
use Rattle.unpacker.specs.Unpacked.{labels_at}
use Rattle.decoder_ends.specs.declared.State.{State}
use Rattle.decoder_ends.specs.declared.Ending.{Ending}
use Rattle.decoder_ends.specs.States.{Stage, stage, Area, area_at, machine_of, machine_at, outcome_of, Fits}

pub record Read (p : ℕ) (bs ls : List ℕ) (a : Area) (s : Stage) (l k : ℕ) (t : Stage) (j i : ℕ) (b : Area) : Type 0 where
  pub letters : List Letter
  pub some : p ≤ length letters
  pub answer : run (machine_of bs ls a s l k) ≡ after letters (run (machine_of bs ls b t j i))
  pub paced : length letters + left (machine_of bs ls b t j i) ≡ left (machine_of bs ls a s l k)
  pub built : (v : List Letter) → outcome_of b t v ≡ outcome_of a s (letters ++ v)

pub record Passed (p m : ℕ) (bs ls w : List ℕ) (s : Stage) (l k : ℕ) (t : Stage) (j i : ℕ) (w' : List ℕ) : Type 0 where
  pub read : Read p bs ls (area_at m w s) s l k t j i (area_at m w' t)
  pub fits : Fits m w' t
  pub kept : length w' ≡ length w
  pub labels_kept : labels_at m w' ≡ labels_at m w

-- no bit is read and no edge begins
abbrev pub EndedOne : ℕ → ℕ → ℕ → List ℕ → List ℕ → List ℕ → ℕ → State → ℕ → ℕ → Option Ending → List ℕ → Type 0
EndedOne p q m bs ls w e s l k r w' =
    MatchOption r (run (machine_at m bs ls w (stage e s) l k) ≡ none)
    (λ t. (t.label < q) × Passed p m bs ls w (stage e s) l k (stage e t.state) t.label k w')

abbrev pub Ended : ℕ → ℕ → ℕ → List ℕ → State → ℕ → Option Ending → List ℕ → Type 0
Ended p q m w s l r w' = (e : ℕ) → Fits m w (stage e s) → (bs ls : List ℕ) (k : ℕ) → EndedOne p q m bs ls w e s l k r w'

pub record Finished (m : ℕ) (w : List ℕ) (s : Stage) (r : Bool) (w' : List ℕ) : Type 0 where
  pub ends : r ≡ true → (s.depth ≡ 0) × (s.opens ≡ 0) × (m ≤ s.edges) × (w' ≡ set w s.place 0)
  pub goes_on : r ≡ false → 0 < s.depth + s.opens + (m - s.edges)
