-- A valid word is the word of a fit plan, the one that is built from it.
--
--   built_word   the word of the built plan is the word that it was built from
--   built_fit    the built plan is fit for the kinds of the family that the word is valid for
use Prim.Native.Nat.{ℕ, ◌<◌}
use mathlib.Core.Path.{◌≡◌, refl, sym, ap, subst, ◌∙◌}
use mathlib.Core.Logic.{◌≢◌}
use mathlib.Core.Bool.{Bool, true, false, ◌&&◌}
use mathlib.Core.List.{List}
use lib.Dec.{eqb}
use borrow.Author.Tests.{ne_eqb}
use lib.ListN.{length}
use Rattle.model.specs.Numbers.{is_permutation}
use Rattle.model.specs.Map.{darts, is_kind, family, dart_count_fits, connected, has_dead_end, takes_loops, face_refused, degree_refused, fit}
use Rattle.model.specs.Traversal.{Letter, word}
use Rattle.model.proofs.Fitness.{parts_fit, count_positive, dart_outside, no_loop_refused}
use Rattle.words.specs.Word.{bare_leaf, valid, rotation_of, plan_of}
use Rattle.words.specs.Toured.{Toured, Bracketed}
use Rattle.words.specs.Brackets.{letter}
use Rattle.words.specs.Position.{Balance, Closes}
use Rattle.words.proofs.Plans.{rotation_length}
use Rattle.words.proofs.Validity.{valid_fits, valid_nested, valid_strict, valid_plain}
use Rattle.words.proofs.Nesting.{balance, nested_closes, closes_low}
use Rattle.words.proofs.Rotation.{rotation_listed}
use Rattle.traversal.specs.Walked.{Walked}
use Rattle.traversal.proofs.Walk.{walked}
use Rattle.traversal.proofs.Toured.{walk_toured}
use Rattle.planarity.proofs.Vertices.{trees_nested}
use Rattle.planarity.proofs.Planar.{bracketed_planar}
use Rattle.standard.proofs.DeadEnds.{dead_end_word}
use Rattle.building.proofs.Walk.{built_walk}
use Rattle.building.proofs.Planar.{built_chords}
use Rattle.building.proofs.Loops.{built_no_loop}
use Rattle.building.proofs.Connected.{built_connected}

module _ (f : ℕ) (w : List Letter) (v : valid f w ≡ true) where
  brackets : Balance (letter w) (length w)
  brackets = balance (takes_loops f) w (valid_nested f w v)

  strict : takes_loops f ≡ false → Closes false (letter w) (length w)
  strict e = nested_closes false w (valid_strict f w v e)

  low : Closes true (letter w) (length w)
  low = closes_low (takes_loops f) (letter w) (length w) (nested_closes (takes_loops f) w (valid_nested f w v))

  some : 0 < length w
  some = count_positive (length w) (valid_fits f w v)

  -- ---- fitness, part by part

  count : dart_count_fits (darts (plan_of w)) ≡ true
  unfolding plan_of
  count = ap dart_count_fits (rotation_length w) ∙ valid_fits f w v

  root : (plan_of w).root < darts (plan_of w)
  unfolding plan_of
  root = subst (λ (n : ℕ). 0 < n) (sym (rotation_length w)) some

  entries : is_permutation (plan_of w).rotation ≡ true
  unfolding plan_of
  entries = rotation_listed w brackets

  joined : connected (plan_of w).rotation ≡ true
  unfolding plan_of
  joined = built_connected w brackets some

  -- ---- its traversal

  walk : Walked (plan_of w)
  walk = walked (plan_of w) count root entries

  pub built_word : word (plan_of w) ≡ w
  built_word = built_walk w brackets low some walk

  toured : Toured (plan_of w)
  toured = walk_toured (plan_of w) count root entries joined

  bracketed : Bracketed (plan_of w)
  bracketed = record { trees = trees_nested (plan_of w) toured count entries; chords = built_chords w brackets low some walk toured }

  -- the word tells of dead ends
  dead_ends : has_dead_end (plan_of w) ≡ bare_leaf w
  dead_ends = sym (dead_end_word (plan_of w) toured bracketed count) ∙ ap bare_leaf built_word

  degrees : degree_refused f (plan_of w) ≡ false
  unfolding degree_refused
  degrees = go (eqb f 1) refl
    where
      go : (c : Bool) → eqb f 1 ≡ c → (c && has_dead_end (plan_of w)) ≡ false
      go false e = refl
      go true e = dead_ends ∙ valid_plain f w v e

  triangles : f ≢ 3 → face_refused f (rotation_of w) ≡ false
  unfolding face_refused
  triangles other = rw (ne_eqb f 3 other)

  pub built_fit : f ≢ 3 → (k : ℕ) → is_kind k ≡ true → family k ≡ f → fit k (plan_of w) ≡ true
  unfolding plan_of
  built_fit other k kind of = parts_fit k (plan_of w) (record {
    kind = kind;
    count = count;
    root = root;
    outside = dart_outside k (plan_of w) (λ s. root);
    entries = entries;
    joined = joined;
    flat = bracketed_planar (plan_of w) toured count entries bracketed;
    loops = rw of (no_loop_refused f (rotation_of w) (λ e. built_no_loop w brackets (strict e)));
    triangles = rw of (triangles other);
    degrees = rw of degrees;
  })
