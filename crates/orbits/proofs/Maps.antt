-- The permutations of a map: a list of entries, the rotation, opposites, the steps of the faces.
--
--   list_perm, perm_list   a list passes is_permutation exactly when its entries are a permutation
--   next_perm              the rotation is a permutation
--   position_next          the place of an entry is its dart
--   opposite_inv, opposite_free   opposites are an involution without fixed points, below an even number
--   face_perm              the step of the faces is a permutation
--   vertex_turn            a dart and its entry have one vertex
--   vertex_bound           a vertex is named by a dart
--   vertex_alone           a dart that is its own entry is alone at its vertex
--   face_bound, face_own   a face is named by a dart, and that dart's face has its name
--   face_zero              dart 0 names its face
use Prim.Native.Nat.{ℕ, ◌%◌, ◌<◌}
use native.Mathlib.Omega.{arith}
use mathlib.Core.Path.{◌≡◌, sym, ◌∙◌}
use mathlib.Core.Bool.{true}
use mathlib.Core.List.{List}
use lib.ListN.{length, get_or}
use Rattle.model.specs.Numbers.{distinct, all_below, is_permutation, position}
use Rattle.model.specs.Map.{opposite, next, vertex_of, face_next, face_of}
use Rattle.model.proofs.Booleans.{and_right}
use Rattle.model.proofs.Permutations.{permutation_below, permutation_inj, permutation_of, position_entry}
use Rattle.model.proofs.Opposite.{opposite_opposite, opposite_ne, opposite_bound}
use Rattle.orbits.specs.Permutation.{Perm}
use Rattle.orbits.specs.Chord.{Involution}
use Rattle.orbits.proofs.Cycle.{iter_fixed, least_le, least_step, least_bound, least_idem, same_reach}
use Rattle.orbits.proofs.Chord.{crossed_perm}
use Rattle.orbits.proofs.Euler.{Free}

pub list_perm : (xs : List ℕ) → is_permutation xs ≡ true → Perm (length xs) (λ d. get_or xs d 0)
list_perm xs e = record { bound = permutation_below xs e; inj = permutation_inj xs e }

pub perm_list : (xs : List ℕ) → Perm (length xs) (λ d. get_or xs d 0) → is_permutation xs ≡ true
perm_list xs perm = permutation_of xs perm.bound perm.inj

pub next_perm : (rot : List ℕ) → is_permutation rot ≡ true → Perm (length rot) (next rot)
unfolding next
next_perm rot e = record { bound = permutation_below rot e; inj = permutation_inj rot e }

pub position_next : (rot : List ℕ) → is_permutation rot ≡ true → (d : ℕ) → d < length rot → position (next rot d) rot ≡ d
unfolding next is_permutation
position_next rot e d = position_entry rot (and_right (all_below (length rot) rot) (distinct rot) e) d

pub opposite_inv : (n : ℕ) → n % 2 ≡ 0 → Involution n opposite
opposite_inv n e = record { bound = λ d h. opposite_bound n d e h; back = λ d h. opposite_opposite d }

pub opposite_free : (n : ℕ) → Free n opposite
opposite_free n d h = opposite_ne d

pub face_perm : (rot : List ℕ) → is_permutation rot ≡ true → length rot % 2 ≡ 0 → Perm (length rot) (face_next rot)
unfolding face_next
face_perm rot e two = crossed_perm (length rot) opposite (opposite_inv (length rot) two) (next rot) (next_perm rot e)

module _ (rot : List ℕ) (perm : Perm (length rot) (next rot)) where
  pub vertex_turn : (d : ℕ) → d < length rot → vertex_of rot (next rot d) ≡ vertex_of rot d
  unfolding vertex_of
  vertex_turn = least_step (length rot) (next rot) perm

  pub vertex_bound : (d : ℕ) → d < length rot → vertex_of rot d < length rot
  unfolding vertex_of
  vertex_bound = least_bound (length rot) (next rot) perm

  pub vertex_alone : (d e : ℕ) → e < length rot → next rot d ≡ d → vertex_of rot d ≡ vertex_of rot e → d ≡ e
  unfolding vertex_of
  vertex_alone d e h own same =
      let (j, reached) = same_reach (length rot) (next rot) perm d e h same in sym (iter_fixed (next rot) j d own) ∙ reached

module _ (rot : List ℕ) (perm : is_permutation rot ≡ true) (two : length rot % 2 ≡ 0) where
  pub face_bound : (d : ℕ) → d < length rot → face_of rot d < length rot
  unfolding face_of
  face_bound = least_bound (length rot) (face_next rot) (face_perm rot perm two)

  pub face_own : (d : ℕ) → d < length rot → face_of rot (face_of rot d) ≡ face_of rot d
  unfolding face_of
  face_own = least_idem (length rot) (face_next rot) (face_perm rot perm two)

pub face_zero : (rot : List ℕ) → face_of rot 0 ≡ 0
unfolding face_of
face_zero rot = let h = least_le (face_next rot) (length rot) 0 in omega arith
