-- The reading machine with its vertices named otherwise.
--
--   named f s             the state s, where vertex v is named f v
--   enters_at k s          the state s, where the next vertex is named k
--   Names f n             f keeps the order of vertices, and names one after the other those from n on
--   Low s                 the vertices in the state s have lower names than the next one
use Rattle.std.specs.Prelude.{ℕ, suc, ◌≤◌, ◌<◌, ◌≡◌, true, map}
use Rattle.model.specs.Numbers.{all_below}
use Rattle.words.specs.Word.{Machine}

abbrev pub named : (ℕ → ℕ) → Machine → Machine
named f s = record {
  n = f s.n;
  here = f s.here;
  below = map f s.below;
  ups = s.ups;
  opens = map f s.opens;
  seconds = s.seconds;
  label = s.label;
  bits = s.bits;
  labels = s.labels;
}

abbrev pub enters_at : ℕ → Machine → Machine
enters_at k s = record {
  n = k;
  here = s.here;
  below = s.below;
  ups = s.ups;
  opens = s.opens;
  seconds = s.seconds;
  label = s.label;
  bits = s.bits;
  labels = s.labels;
}

pub record Names (f : ℕ → ℕ) (n : ℕ) : Type 0 where
  pub rises : (a b : ℕ) → a < b → f a < f b
  pub goes_on : (a : ℕ) → n ≤ a → f (suc a) ≡ suc (f a)

pub record Low (s : Machine) : Type 0 where
  pub here_in : s.here < s.n
  pub below_in : all_below s.n s.below ≡ true
  pub opens_in : all_below s.n s.opens ≡ true
