-- Bare leaves, letter by letter.
--
--   BareAt w i         a down stands at i right before an up
--   bare_at, at_bare   the word has a bare leaf exactly where there is such a place
use Prim.Native.Nat.{ℕ, zero, suc, ◌<◌}
use native.Mathlib.Nat.{not-suc-le-zero, le_of_suc-le-suc}
use native.Mathlib.Omega.{arith}
use mathlib.Core.Path.{◌≡◌, refl}
use mathlib.Core.Bool.{true, false≢true}
use mathlib.Core.List.{List, [], ◌∷◌}
use lib.ListN.{length, get_or}
use Rattle.model.specs.Traversal.{Letter, down, up, first, second}
use Rattle.model.proofs.Booleans.{or_split, or_left, or_right}
use Rattle.words.specs.Word.{starts_up, bare_leaf}

up_first : (w : List Letter) → starts_up w ≡ true → (0 < length w) × (get_or w 0 second ≡ up)
unfolding starts_up
up_first [] e = absurd (false≢true e)
up_first (down ∷ w) e = absurd (false≢true e)
up_first (up ∷ w) e = (omega arith, refl)
up_first (first ∷ w) e = absurd (false≢true e)
up_first (second ∷ w) e = absurd (false≢true e)

abbrev pub BareAt : List Letter → ℕ → Type 0
BareAt w i = (suc i < length w) × (get_or w i second ≡ down) × (get_or w (suc i) second ≡ up)

bare_later : (l : Letter) (w : List Letter) → (i : ℕ) × BareAt w i → (i : ℕ) × BareAt (l ∷ w) i
bare_later l w (i, (h, d, u)) = (suc i, (omega arith, d, u))

pub bare_at : (w : List Letter) → bare_leaf w ≡ true → (i : ℕ) × BareAt w i
unfolding bare_leaf
bare_at [] e = absurd (false≢true e)
bare_at (down ∷ w) e =
    or_split (starts_up w) (bare_leaf w) e
    (λ s. let (h, u) = up_first w s in (0, (omega arith, refl, u)))
    (λ s. bare_later down w (bare_at w s))
bare_at (up ∷ w) e = bare_later up w (bare_at w e)
bare_at (first ∷ w) e = bare_later first w (bare_at w e)
bare_at (second ∷ w) e = bare_later second w (bare_at w e)

first_up : (w : List Letter) → get_or w 0 second ≡ up → starts_up w ≡ true
unfolding starts_up
first_up [] e = let z : ◌≡◌ {A = ℕ} 0 1 = cc in absurd (omega arith)
first_up (down ∷ w) e = let z : ◌≡◌ {A = ℕ} 0 1 = cc in absurd (omega arith)
first_up (up ∷ w) e = refl
first_up (first ∷ w) e = let z : ◌≡◌ {A = ℕ} 0 1 = cc in absurd (omega arith)
first_up (second ∷ w) e = let z : ◌≡◌ {A = ℕ} 0 1 = cc in absurd (omega arith)

pub at_bare : (w : List Letter) (i : ℕ) → BareAt w i → bare_leaf w ≡ true
unfolding bare_leaf
at_bare [] i b = absurd (not-suc-le-zero b.0)
at_bare (down ∷ w) zero b = or_left (starts_up w) (bare_leaf w) (first_up w b.2)
at_bare (down ∷ w) (suc i) b = or_right (starts_up w) (bare_leaf w) (at_bare w i (le_of_suc-le-suc b.0, b.1, b.2))
at_bare (up ∷ w) zero b = let e = b.1 in let z : ◌≡◌ {A = ℕ} 0 1 = cc in absurd (omega arith)
at_bare (up ∷ w) (suc i) b = at_bare w i (le_of_suc-le-suc b.0, b.1, b.2)
at_bare (first ∷ w) zero b = let e = b.1 in let z : ◌≡◌ {A = ℕ} 0 1 = cc in absurd (omega arith)
at_bare (first ∷ w) (suc i) b = at_bare w i (le_of_suc-le-suc b.0, b.1, b.2)
at_bare (second ∷ w) zero b = let e = b.1 in let z : ◌≡◌ {A = ℕ} 0 1 = cc in absurd (omega arith)
at_bare (second ∷ w) (suc i) b = at_bare w i (le_of_suc-le-suc b.0, b.1, b.2)
