-- One letter of the word in the work area, where e edges have begun. Assumes nothing.
--
--   some_room             there is room for an edge that may begin
--   able_as, moved_as     the letter with the code x is l: l may come; its step moves on
--   code_at               each code in a list of codes is that of its letter
--   begun_odd             one edge more has begun after a letter with an odd code
use Prim.Native.Nat.{ℕ, zero, suc, ◌+◌, ◌%◌, ◌<◌}
use native.Mathlib.Nat.{add-zero, not-suc-le-zero, le_of_suc-le-suc}
use native.Mathlib.Numerals.{add-one}
use native.Mathlib.Omega.{arith}
use mathlib.Core.Path.{◌≡◌, refl, sym, ap, subst}
use mathlib.Core.List.{List, [], ◌∷◌, map}
use lib.ListN.{length, get_or}
use Rattle.model.specs.Traversal.{Letter, down, up, first, second, code}
use Rattle.work.specs.Letters.{to_letter}
use Rattle.work.proofs.Letters.{letter_code}
use Rattle.builder.specs.declared.State.{State}
use Rattle.builder.specs.Steps.{parts_at, edge_of, begun_after, Room, Stepped}
use Rattle.builder.specs.Moves.{Fits, Able, Moved}
use Rattle.builder.proofs.Moves.{moved}

module _ (m : ℕ) (w : List ℕ) (s : State) (e : ℕ) (f : Fits m w s e) where
  pub some_room : e < m → Room m s e
  some_room h = let o = f.few_open in let v = f.vertices in record { one_more = omega arith; edge_in = h; vertices = omega arith }

  module _ (x : ℕ) (a : Able (to_letter x) m (parts_at m w s) s e) (l : Letter) (q : to_letter x ≡ l) where
    pub able_as : Able l m (parts_at m w s) s e
    able_as = subst (λ (k : Letter). Able k m (parts_at m w s) s e) q a

    pub moved_as : (y : ℕ) (t : State) (w' : List ℕ) → y ≡ edge_of l (parts_at m w s) e → y < m → Stepped l m w s y t w'
        → Moved (to_letter x ∷ []) [] m w s e t (begun_after (to_letter x) e) w'
    moved_as y t w' g h z = rw q (moved m w s e f l y t (begun_after l e) w' able_as g h refl z)

pub code_at : (v : List Letter) (i : ℕ) → i < length v → get_or (map code v) i 0 ≡ code (to_letter (get_or (map code v) i 0))
code_at [] i h = absurd (not-suc-le-zero h)
code_at (l ∷ v) zero h = ap code (sym (letter_code l))
code_at (l ∷ v) (suc i) h = code_at v i (le_of_suc-le-suc h)

pub begun_odd : (l : Letter) (e : ℕ) → e + code l % 2 ≡ begun_after l e
begun_odd down e = add-one e
begun_odd up e = add-zero e
begun_odd first e = add-one e
begun_odd second e = add-zero e
