-- What the code that takes a payload apart stores.
--
--   labels_at m w          the m labels in the work area w
--   labels_in f m ps w     the m labels in family f: of the payload ps in family 1, in the work area w in another
--   grouped at g w        w with the five labels of the group g from place at on
--   Unpacks f m inv ps b w'   b says whether the payload ps, undone by the inverse inv, is as it is laid out; if so, its labels are where they belong, w' being the
--                         work area then
use Rattle.std.specs.Prelude.{ℕ, ◌*◌, ◌≡◌, Bool, true, cond, List, eqb}
use Rattle.packing.specs.Unpack.{digits_of}
use Rattle.packing.specs.Payload.{payload_labels, payload_clean}
use Rattle.packing.specs.Groups.{undone}
use Rattle.work.specs.Map.{LABELS}
use Rattle.work.specs.Area.{region, placed}

abbrev pub labels_at : ℕ → List ℕ → List ℕ
labels_at m w = region (LABELS * (2 * m)) m w

unfoldable pub labels_in : ℕ → ℕ → List ℕ → List ℕ → List ℕ
labels_in f m ps w = cond (eqb f 1) (payload_labels 1 m ps) (labels_at m w)

-- "first label highest in base 3, one byte a group"
abbrev pub grouped : ℕ → ℕ → List ℕ → List ℕ
grouped at g w = placed at (digits_of 3 5 g) w

pub record Unpacks (f m : ℕ) (inv ps : List ℕ) (b : Bool) (w' : List ℕ) : Type 0 where
  pub clean : b ≡ payload_clean f m (undone inv f m ps)
  pub labels : b ≡ true → labels_in f m ps w' ≡ payload_labels f m (undone inv f m ps)
