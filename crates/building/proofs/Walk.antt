-- The darts and letters of a balanced word w keep the rules of the traversal of the plan that is built from it; so they are that traversal.
--
--   word_ruled       they keep the rules
--   built_walk       its word is w
--   built_dart       and its darts are those of w
use Prim.Native.Nat.{ℕ, zero, suc, ◌≤◌, ◌<◌}
use native.Mathlib.Nat.{le_step, le_refl, le_of_lt}
use native.Mathlib.Omega.{arith}
use mathlib.Core.Path.{◌≡◌, refl, sym, ap, ◌∙◌}
use mathlib.Core.Logic.{◌⊎◌, inl, inr, ⊎_elim}
use mathlib.Core.Bool.{true}
use mathlib.Core.List.{List}
use lib.ListN.{length}
use borrow.Author.Tests.{leb-true}
use Rattle.model.specs.Numbers.{count}
use Rattle.model.specs.Map.{opposite, next, vertex_of}
use Rattle.model.specs.Traversal.{Letter, down, up, first, second, opens, onward, word}
use Rattle.orbits.specs.Chord as Chord
use Rattle.orbits.specs.Stack.{push, stack}
use Rattle.orbits.proofs.Order.{lt_suc_split}
use Rattle.orbits.proofs.Tally.{count_grows}
use Rattle.orbits.proofs.Chord.{next_cases}
use Rattle.words.specs.Word.{rotation_of, plan_of, place_of}
use Rattle.words.specs.Toured.{dart_at, fellow}
use Rattle.words.specs.Brackets.{letter, tree_kind, tree_stack}
use Rattle.words.specs.Entered.{is_down}
use Rattle.words.specs.Position.{vertex_count, vertex_top, vertex_no, dart_no, Balance, Closes}
use Rattle.words.proofs.Nesting.{entered_by}
use Rattle.words.proofs.Mates.{mate, mate_inv, fellows, earlier, vertex_new, vertex_closes, vertex_entered}
use Rattle.words.proofs.Darts.{dart_perm, dart_mate, dart_zero}
use Rattle.words.proofs.Rotation.{place, turn}
use Rattle.traversal.specs.Walked.{Ruled, Walked}
use Rattle.traversal.proofs.Ruled.{ruled_size, ruled_same, ruled_word}
use Rattle.building.proofs.Vertices.{vertex_number, vertex_same}

module _ (w : List Letter) (b : Balance (letter w) (length w)) (low : Closes true (letter w) (length w)) (some : 0 < length w) where
  abbrev N : ℕ
  N = length w

  abbrev ℓ : ℕ → Letter
  ℓ = letter w

  abbrev x : ℕ → ℕ
  x = dart_no ℓ

  abbrev m : ℕ → ℕ
  m = mate ℓ N b

  abbrev rot : List ℕ
  rot = rotation_of w

  -- ---- one step

  onward_turn : (i : ℕ) → i < N → onward rot (ℓ i) (x i) ≡ x (Chord.next N i)
  unfolding onward place_of
  onward_turn i h = by_place (ℓ i) ∙ ap (next rot) (place w b i h) ∙ turn w b i h
    where
      by_place : (l : Letter) → onward rot l (x i) ≡ next rot (place_of l (x i))
      by_place down = refl
      by_place up = refl
      by_place first = refl
      by_place second = refl

  pair : (i j : ℕ) → i < j → j < N → x j ≡ opposite (x i) → ((ℓ i ≡ down) × (ℓ j ≡ up)) ⊎ ((ℓ i ≡ first) × (ℓ j ≡ second))
  pair i j l hj e = go (ℓ i) refl
    where
      h : i < N
      h = omega arith

      same : j ≡ m i
      same = (dart_perm ℓ N b).inj j (m i) hj ((mate_inv ℓ N b).bound i h) (e ∙ sym (dart_mate ℓ N b i h))

      other : (l : Letter) → ℓ i ≡ l → ℓ j ≡ fellow l
      other l f = ap ℓ same ∙ fellows ℓ N b i h ∙ ap fellow f

      go : (l : Letter) → ℓ i ≡ l → ((ℓ i ≡ down) × (ℓ j ≡ up)) ⊎ ((ℓ i ≡ first) × (ℓ j ≡ second))
      go down f = inl (f, other down f)
      go up f = absurd (omega (arith, same, earlier ℓ N b i h (ap opens f)))
      go first f = inr (f, other first f)
      go second f = absurd (omega (arith, same, earlier ℓ N b i h (ap opens f)))

  -- ---- the vertices that are entered

  -- each has been stood at
  visited : (i v : ℕ) → v < vertex_count ℓ i → (j : ℕ) × (j ≤ i) × (vertex_no ℓ j ≡ v)
  unfolding vertex_count count vertex_no stack
  visited zero v h = (0, le_refl 0, omega arith)
  visited (suc i) v h = go (ℓ i) refl (visited i v)
    where
      earlier_on : (j : ℕ) × (j ≤ i) × (vertex_no ℓ j ≡ v) → (j : ℕ) × (j ≤ suc i) × (vertex_no ℓ j ≡ v)
      earlier_on (j, l, e) = (j, le_step l, e)

      go : (l : Letter) → ℓ i ≡ l → (v < vertex_count ℓ i → (j : ℕ) × (j ≤ i) × (vertex_no ℓ j ≡ v)) → (j : ℕ) × (j ≤ suc i) × (vertex_no ℓ j ≡ v)
      go down e before =
          lt_suc_split (omega (arith, entered_by ℓ i down e))
          (λ q. (suc i, le_refl (suc i), ap (λ (l : Letter). vertex_top ℓ (push (tree_kind l) i (tree_stack ℓ i))) e ∙ sym q))
          (λ l. earlier_on (before l))
      go up e before = earlier_on (before (omega (arith, entered_by ℓ i up e)))
      go first e before = earlier_on (before (omega (arith, entered_by ℓ i first e)))
      go second e before = earlier_on (before (omega (arith, entered_by ℓ i second e)))

  there : (i : ℕ) → i < N → vertex_of rot (opposite (x i)) ≡ vertex_of rot (x (m i))
  there i h = ap (vertex_of rot) (sym (dart_mate ℓ N b i h))

  new : (i : ℕ) → i < N → ℓ i ≡ down → (j : ℕ) → j ≤ i → vertex_of rot (x j) ≡ vertex_of rot (opposite (x i)) → ⊥
  unfolding vertex_count
  new i h e j l v =
      let same = vertex_number w b j (m i) (omega arith) ((mate_inv ℓ N b).bound i h) (v ∙ there i h) ∙ vertex_new ℓ N b i h e in
      omega (arith, vertex_entered ℓ N b j (omega arith), count_grows (λ k. is_down (ℓ k)) j i l)

  old : (i : ℕ) → i < N → ℓ i ≡ first → (j : ℕ) × (j ≤ i) × (vertex_of rot (x j) ≡ vertex_of rot (opposite (x i)))
  old i h e =
      let hm = (mate_inv ℓ N b).bound i h in
      let back : vertex_no ℓ (m (m i)) ≡ vertex_no ℓ i = ap (vertex_no ℓ) ((mate_inv ℓ N b).back i h) in
      let lower = leb-true (vertex_no ℓ (m i)) (vertex_no ℓ (m (m i))) (vertex_closes ℓ N b true low (m i) hm (fellows ℓ N b i h ∙ ap fellow e)) in
      let (j, l, v) = visited i (vertex_no ℓ (m i)) (omega (arith, vertex_entered ℓ N b i (le_of_lt h))) in
      (j, l, vertex_same w b j (m i) (omega arith) hm v ∙ sym (there i h))

  pub word_ruled : Ruled (rotation_of w) 0 (length w) (dart_no (letter w)) (letter w)
  word_ruled = record {
    some_met = some;
    different = λ i j hi hj. (dart_perm ℓ N b).inj i j hi hj;
    starts = dart_zero ℓ N b some;
    step = λ i h. ⊎_elim (λ c. ap x (sym c.1)) (λ c. absurd (omega arith)) (next_cases N i (le_of_lt h)) ∙ sym (onward_turn i (le_of_lt h));
    closes = λ i e.
        onward_turn i (omega arith)
        ∙ ⊎_elim (λ c. absurd (omega arith)) (λ c. ap x c.1 ∙ dart_zero ℓ N b some) (next_cases N i (omega arith));
    across = λ i h. (m i, (mate_inv ℓ N b).bound i h, dart_mate ℓ N b i h);
    pair = pair;
    new = new;
    old = old;
  }

  module _ (walked : Walked (plan_of w)) where
    pub built_walk : word (plan_of w) ≡ w
    unfolding plan_of
    built_walk = ruled_word (plan_of w) walked w word_ruled

    pub built_dart : (i : ℕ) → i < length w → dart_at (plan_of w) i ≡ dart_no (letter w) i
    unfolding plan_of
    built_dart i h = let size = ruled_size walked.ruled word_ruled in (ruled_same walked.ruled word_ruled i (omega arith) h).0
