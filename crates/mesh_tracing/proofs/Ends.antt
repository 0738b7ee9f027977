-- When the walk of the dual is back at the root after all darts, the plan is a mesh, and its types are told.
--
--   written_ext          what is told depends on the letters before
--   mesh_walked          the plan is a mesh
--   types_walked         its types
use Prim.Native.Nat.{ℕ, zero, suc, ◌-◌, ◌/◌, ◌≤◌, ◌<◌}
use native.Mathlib.Nat.{le_refl, le_of_lt}
use native.Mathlib.Omega.{arith}
use mathlib.Core.Path.{◌≡◌, refl, sym, ap, ap₂, subst, ◌∙◌}
use mathlib.Core.Logic.{◌≢◌}
use mathlib.Core.Bool.{true, false, not}
use mathlib.Core.List.{List, [], ◌∷◌}
use lib.ListN.{length, take}
use Rattle.model.specs.Numbers.{is_permutation}
use Rattle.model.specs.Map.{Plan, dart_count_fits, connected, is_triangle, has_other_face, fit}
use Rattle.model.specs.Traversal.{Letter}
use Rattle.model.specs.Mesh.{dual_of, dual_plan, types}
use Rattle.model.proofs.Booleans.{no_some}
use Rattle.model.proofs.Fitness.{count_positive}
use Rattle.orbits.proofs.Tally.{count_ext}
use Rattle.words.specs.Brackets.{tree_kind, tree_stack}
use Rattle.words.specs.Entered.{is_down}
use Rattle.words.specs.Position.{vertex_count, vertex_top, vertex_no}
use Rattle.words.specs.Toured.{Toured, letter_of, pos_of, is_chord, Brackets}
use Rattle.traversal.specs.Steps.{dart, letter_after, seen_mark}
use Rattle.traversal.proofs.Steps.{seen_here}
use Rattle.traversal.proofs.Walk.{walk_back}
use Rattle.traversal.proofs.Complete.{long_connected}
use Rattle.traversal.proofs.Toured.{walk_toured}
use Rattle.traversal.proofs.Positions.{stack_ext, letter_at, dart_at_lem, stack_at, mate_is}
use Rattle.forward.proofs.Stacked.{OnTop, stacked_chords}
use Rattle.forward.proofs.Tops.{tree_opener, chord_opener}
use Rattle.duals.proofs.Duals.{length_dual}
use Rattle.mesh_walks.specs.Told.{told_after, told, tell, written}
use Rattle.mesh_walks.proofs.Tests.{mesh_fits_top}
use Rattle.mesh_walks.proofs.Written.{length_written, types_front}
use Rattle.tracing.specs.Tracing.{from}
use Rattle.tracing.proofs.Positions.{tops_at}
use Rattle.mesh_trails.specs.Strolls.{Strolled}
use Rattle.mesh_trails.proofs.Climbs.{seen_marked}
use Rattle.mesh_second_places.specs.Walks.{Good}
use Rattle.mesh_second_places.proofs.Dual.{dual_count, dual_entries, turn, cross, few, three}

-- ---- letters that agree

module _ (ℓ m : ℕ → Letter) (ts : List ℕ) where
  Agree : ℕ → Type 0
  Agree k = (j : ℕ) → j < k → ℓ j ≡ m j

  count_same : (k : ℕ) → Agree k → vertex_count ℓ k ≡ vertex_count m k
  unfolding vertex_count Agree
  count_same k e = ap suc (count_ext (λ j. is_down (ℓ j)) (λ j. is_down (m j)) k (λ j h. ap is_down (e j h)))

  number_same : (k : ℕ) → Agree k → vertex_no ℓ k ≡ vertex_no m k
  unfolding vertex_no Agree
  number_same k e = go (tree_stack ℓ k) refl ∙ ap (vertex_top m) (stack_ext _ _ k (λ j h. ap tree_kind (e j h)))
    where
      go : (s : List ℕ) → tree_stack ℓ k ≡ s → vertex_top ℓ (tree_stack ℓ k) ≡ vertex_top m (tree_stack ℓ k)
      go [] q = ap (vertex_top ℓ) q ∙ sym (ap (vertex_top m) q)
      go (a ∷ s) q =
          let (l, d) = tree_opener ℓ k a s q in
          ap (vertex_top ℓ) q ∙ count_same a (λ j h. e j (omega arith)) ∙ sym (ap (vertex_top m) q)

  told_same : (k : ℕ) → Agree (suc k) → told ℓ k ≡ told m k
  unfolding told Agree
  told_same zero e = refl
  told_same (suc j) e = ap₂ told_after (e j (omega arith)) (e (suc j) (omega arith))

  pub written_ext : (k : ℕ) → ((j : ℕ) → j < k → ℓ j ≡ m j) → written ℓ ts k ≡ written m ts k
  unfolding written Agree
  written_ext zero e = refl
  written_ext (suc k) e =
      let f : Agree k = λ j h. e j (omega arith) in
      ap₂ (λ (t n : ℕ). tell t n (written ℓ ts k)) (told_same k e) (number_same k f) ∙ ap (tell (told m k) (vertex_no m k)) (written_ext k f)

-- ---- the end

module _ (order : List ℕ) (count_fits : dart_count_fits (length order) ≡ true) (perm : is_permutation order ≡ true) where
  abbrev rot : List ℕ
  rot = dual_of order

  abbrev size : length (dual_of order) ≡ length order
  size = length_dual order

  counted : dart_count_fits (length (dual_of order)) ≡ true
  counted = dual_count order count_fits perm

  entries : is_permutation (dual_of order) ≡ true
  entries = dual_entries order count_fits perm

  module _ (r : ℕ) (hr : r < length order) (b ts : List ℕ) (s : Strolled (Good order) (dual_of order) r (length (dual_of order)) b [] ts)
      (back : dart (dual_of order) r (length (dual_of order)) ≡ r) where
    abbrev p : Plan
    p = from order r

    abbrev q : Plan
    q = from rot r

    abbrev N : ℕ
    N = length rot

    hq : r < N
    hq = subst (λ (n : ℕ). r < n) (sym size) hr

    joined : connected rot ≡ true
    joined = long_connected q counted hq entries
        (walk_back q counted hq entries N (count_positive N counted) back s.trail.away)

    t : Toured q
    t = walk_toured q counted hq entries joined

    letters : (j : ℕ) → j < N → letter_of q j ≡ letter_after rot r j
    letters = letter_at q counted hq entries t

    tops : OnTop q
    tops = tops_at rot r counted entries hq t N (le_refl N) s.trail.tops

    nested : Brackets is_chord q
    nested = stacked_chords q t counted tops

    triangles : has_other_face order ≡ false
    unfolding has_other_face
    triangles = no_some (λ d. not (is_triangle order d)) (length order) (λ d h. ap not (good d h))
      where
        good : (d : ℕ) → d < length order → is_triangle order d ≡ true
        good d h =
            let h' : d < N = subst (λ (n : ℕ). d < n) (sym size) h in
            let j = pos_of q d in
            let hj = t.pos_bound d h' in
            let e : dart rot r j ≡ d = sym (dart_at_lem q counted hq entries t j hj) ∙ t.dart_pos d h' in
            s.faces d h' (seen_marked (Good order) rot r (turn order count_fits perm) (cross order count_fits perm) hq (few order count_fits perm) (three order count_fits perm) N b [] ts s d h'
            (subst (λ (x : ℕ). seen_mark rot r N x ≢ 0) e (seen_here rot r (turn order count_fits perm) (cross order count_fits perm) hq N j (le_of_lt hj))))

    pub mesh_walked : fit 3 (from order r) ≡ true
    unfolding dual_plan
    mesh_walked = mesh_fits_top p count_fits hr perm joined nested triangles (λ k h e u.
        let hk : suc k < N = subst (λ (n : ℕ). suc k < n) (sym size) h in
        let (x, c, j, o, d, l) = s.crossed k hk (sym (letters k (omega arith)) ∙ e) (sym (letters (suc k) hk) ∙ u) in
        let (b, f) = chord_opener (letter_after rot r) (suc k) x c o in
        let m = mate_is q counted hq entries t (suc k) j hk (omega arith) d in
        (x, c, stack_at q counted hq entries t (suc k) (le_of_lt hk) ∙ o, subst (λ (i : ℕ). i ≤ x) (sym m) l))

    pub types_walked : length order / 3 - 1 ≤ length ts → take (length order / 3 - 1) ts ≡ types (from order r)
    unfolding dual_plan
    types_walked l =
        let n = length order / 3 - 1 in
        let w = length_written (letter_after rot r) s.before N in
        let z = ap length s.types in
        ap (take n) (s.types ∙ sym (written_ext (letter_of q) (letter_after rot r) s.before N letters)
        ∙ ap (written (letter_of q) s.before) size)
        ∙ types_front p mesh_walked s.before (omega arith)
