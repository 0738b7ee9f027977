use Rattle.std.proofs.Common.{◌≡◌, ℕ, ◌+◌, ◌≢◌, true, List, length, arith}
use Rattle.model.specs.Numbers.{is_permutation}
use Rattle.model.specs.Map.{face_next, face_of, dart_count_fits}
use Rattle.model.proofs.Fitness.{count_even}
use Rattle.orbits.specs.Permutation.{Perm}
use Rattle.orbits.proofs.Maps.{face_perm}
use Rattle.outer_face.proofs.Ahead.{ahead_less}
use Rattle.outer_face.proofs.Rising.{rising_start, rising_step, rising_gone, walk_ends}
use Rattle.outer_face.proofs.is_lowest.Goals as goal

-- the steps along faces are a permutation
steps : (rot : List ℕ) → dart_count_fits (length rot) ≡ true → is_permutation rot ≡ true → Perm (length rot) (face_next rot)
steps rot count entries = face_perm rot entries (count_even (length rot) count)

pub loop-d-init : goal.loop-d-init
loop-d-init c =
    let f = steps _ c.args.rotation.sized c.args.rotation.entries in
    rw c.along-d.ensures (f.bound c.args.x c.requires, (1, rising_start _ _ f _ c.requires))

pub loop-d-smaller : goal.loop-d-smaller
loop-d-smaller c =
    let away : c.loop-d.d ≢ c.args.x = omega arith in
    rw c.along-d-in-loop-d.ensures
    (ahead_less _ _ _ (steps _ c.args.rotation.sized c.args.rotation.entries) c.requires (rising_gone _ _ (steps _ c.args.rotation.sized c.args.rotation.entries) _ c.requires c.loop-d.invariant.1.1) away)

pub loop-d-preserved : goal.loop-d-preserved
loop-d-preserved c =
    let f = steps _ c.args.rotation.sized c.args.rotation.entries in
    rw c.along-d-in-loop-d.ensures (
      f.bound c.loop-d.d c.loop-d.invariant.0,
      (c.loop-d.invariant.1.0 + 1, rising_step _ _ f _ c.requires c.loop-d.invariant.1.1 (omega arith)),
    )

pub returns : goal.returns
unfolding face_of
returns c = walk_ends _ _ (steps _ c.args.rotation.sized c.args.rotation.entries) _ c.requires c.loop-d.invariant.1.1 c.loop-d-test.false
