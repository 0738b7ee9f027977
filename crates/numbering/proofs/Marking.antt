-- The marks along the walk of a toured plan, step by step.
--
--   start_marks          the round of the root's vertex
--   unmarked             where the opposite of the dart to come has no mark, no dart of its vertex has one
--   tells_down, tells_first, tells_up, tells_second   the letter to come, by that mark
--   ends_mark            that mark, where an edge ends
--   down_marks, first_marks, up_marks, second_marks   one step
use mathlib.Core.Path.{◌≡◌, refl, sym, ap, ◌∙◌, subst}
use mathlib.Core.Logic.{◌≢◌}
use mathlib.Core.Bool.{true, false, false≢true}
use mathlib.Core.List.{List}
use Prim.Native.Nat.{ℕ, suc, ◌+◌, ◌≤◌, ◌<◌}
use native.Mathlib.Omega.{arith}
use lib.ListN.{length, get_or, set, replicate}
use lib.Seq.{get_or-set_same, get_or-set_other}
use Rattle.model.specs.Numbers.{is_permutation}
use Rattle.model.specs.Map.{opposite, next, vertex_of, dart_count_fits}
use Rattle.model.specs.Traversal.{Letter, down, up, first, second, opens}
use Rattle.model.proofs.Fitness.{count_even}
use Rattle.orbits.specs.Permutation.{Perm}
use Rattle.orbits.specs.Chord.{Involution}
use Rattle.orbits.proofs.Order.{lt_suc_split}
use Rattle.orbits.proofs.Maps.{next_perm, opposite_inv}
use Rattle.words.specs.Position.{opened}
use Rattle.words.specs.Toured.{Toured, fellow}
use Rattle.words.proofs.Positions.{dart_inj}
use Rattle.traversal.specs.Steps.{dart, letter_after}
use Rattle.traversal.proofs.Steps.{dart_bound}
use Rattle.traversal.proofs.Follow.{Away}
use Rattle.traversal.proofs.Positions.{dart_at_lem, back_late}
use Rattle.marks.specs.Marks.{Rounded, mark_of}
use Rattle.marks.proofs.Trail.{some_mark}
use Rattle.marks.proofs.Walk.{unmarked_vertex, read_down, read_first, read_up, read_second, marks_start, marks_up, marks_second, marks_first, marks_down}
use Rattle.tracing.specs.Tracing.{from}
use Rattle.numbering.specs.Numbering.{Marked}
use Rattle.numbering.proofs.Numbers.{Ends}

module _ (rot : List ℕ) (r : ℕ) (count : dart_count_fits (length rot) ≡ true) (perm : is_permutation rot ≡ true) (hr : r < length rot) where
  abbrev N : ℕ
  N = length rot

  abbrev D : ℕ → ℕ
  D = dart rot r

  abbrev ℓ : ℕ → Letter
  ℓ = letter_after rot r

  turn : Perm N (next rot)
  turn = next_perm rot perm

  cross : Involution N opposite
  cross = opposite_inv N (count_even N count)

  pub start_marks : (b : List ℕ) → Rounded rot r 32768 (replicate N 0) b → Marked rot r 0 b
  start_marks b u = record { stands = marks_start rot r turn cross hr 32768 (omega arith) b u; numbers = λ j h. absurd (omega arith) }

  module _ (t : Toured (from rot r)) (k : ℕ) (here : k < N) (b : List ℕ) (m : Marked rot r k b) where
    abbrev o : ℕ
    o = opposite (D k)

    out : Away rot r turn cross hr (suc k)
    out j some h = back_late (from rot r) count hr perm t j some (omega arith)

    inside : D k < N
    inside = dart_bound rot r turn cross hr k

    fresh : (j : ℕ) → j < k → D j ≢ D k
    fresh j h e =
        let z = dart_inj (from rot r) t j k (omega arith) here
        (dart_at_lem (from rot r) count hr perm t j (omega arith) ∙ e ∙ sym (dart_at_lem (from rot r) count hr perm t k here)) in
        omega arith

    -- ---- the letter to come

    pub tells_down : get_or b o 0 ≡ 0 → ℓ k ≡ down
    tells_down = read_down rot r turn cross hr k out b m.stands

    pub tells_first : 32768 ≤ get_or b o 0 → ℓ k ≡ first
    tells_first = read_first rot r turn cross hr k out b m.stands

    pub tells_up : 16384 ≤ get_or b o 0 → get_or b o 0 < 32768 → ℓ k ≡ up
    tells_up = read_up rot r turn cross hr k out b m.stands

    pub tells_second : 0 < get_or b o 0 → get_or b o 0 < 16384 → ℓ k ≡ second
    tells_second = read_second rot r turn cross hr k out b m.stands

    pub unmarked : get_or b o 0 ≡ 0 → (z : ℕ) → z < N → vertex_of rot z ≡ vertex_of rot o → get_or b z 0 ≡ 0
    unmarked none = unmarked_vertex rot r turn cross hr k out b m.stands (tells_down none)

    pub ends_mark : (a : Letter) (g : Ends rot r count perm hr t k a) → opens (fellow a) ≡ true → get_or b o 0 ≡ mark_of (fellow a) + opened ℓ g.begun
    ends_mark a g q =
        ap (λ (x : ℕ). get_or b x 0) (sym g.across) ∙ m.numbers g.begun g.earlier (ap opens g.letter ∙ q)
        ∙ ap (λ (l : Letter). mark_of l + opened ℓ g.begun) g.letter

    -- ---- one step

    numbers_on : (b' : List ℕ) → ((j : ℕ) → j < k → opens (ℓ j) ≡ true → get_or b' (D j) 0 ≡ get_or b (D j) 0)
        → (opens (ℓ k) ≡ true → get_or b' (D k) 0 ≡ mark_of (ℓ k) + opened ℓ k)
        → (j : ℕ) → j < suc k → opens (ℓ j) ≡ true → get_or b' (D j) 0 ≡ mark_of (ℓ j) + opened ℓ j
    numbers_on b' kept own j h e = lt_suc_split h
        (λ q. subst (λ (i : ℕ). opens (ℓ i) ≡ true → get_or b' (D i) 0 ≡ mark_of (ℓ i) + opened ℓ i) (sym q) own e)
        (λ g. kept j g e ∙ m.numbers j g e)

    -- an edge that begins here gets its mark, and the marks of those that began before stay
    marked_here : (b' : List ℕ) (v : ℕ) → length b' ≡ N → get_or (set b' (D k) v) (D k) 0 ≡ v
    marked_here b' v e = get_or-set_same b' (D k) v 0 (subst (λ (n : ℕ). D k < n) (sym e) inside)

    marked_before : (b' : List ℕ) (v j : ℕ) → j < k → get_or (set b' (D k) v) (D j) 0 ≡ get_or b' (D j) 0
    marked_before b' v j h = get_or-set_other b' (D k) (D j) v 0 (fresh j h)

    pub down_marks : get_or b o 0 ≡ 0 → opened ℓ k < 8192 → (b' : List ℕ) → Rounded rot o 32768 b b' → Marked rot r (suc k) (set b' (D k) (16384 + opened ℓ k))
    down_marks none few b' u =
        let e = tells_down none in
        let v = 16384 + opened ℓ k in
        record {
          stands = marks_down rot r turn cross hr k out b m.stands e 32768 (omega arith) b' u v (omega arith) (omega arith);
          numbers = numbers_on (set b' (D k) v)
              (λ j h q. marked_before b' v j h ∙ u.others (D j) (dart_bound rot r turn cross hr j)
              (λ z. some_mark (ℓ j) q (opened ℓ j) (sym (m.numbers j h q) ∙ unmarked none (D j) (dart_bound rot r turn cross hr j) z)))
              (λ q. marked_here b' v (u.size ∙ m.stands.size) ∙ ap (λ (a : Letter). mark_of a + opened ℓ k) (sym e));
        }

    pub first_marks : 32768 ≤ get_or b o 0 → opened ℓ k < 8192 → Marked rot r (suc k) (set b (D k) (8192 + opened ℓ k))
    first_marks big few =
        let e = tells_first big in
        let v = 8192 + opened ℓ k in
        record {
          stands = marks_first rot r turn cross hr k out b m.stands e v (omega arith) (omega arith);
          numbers = numbers_on (set b (D k) v) (λ j h q. marked_before b v j h)
              (λ q. marked_here b v m.stands.size ∙ ap (λ (a : Letter). mark_of a + opened ℓ k) (sym e));
        }

    -- where an edge ends nothing is marked
    same_numbers : opens (ℓ k) ≡ false → (j : ℕ) → j < suc k → opens (ℓ j) ≡ true → get_or b (D j) 0 ≡ mark_of (ℓ j) + opened ℓ j
    same_numbers e = numbers_on b (λ j h q. refl) (λ q. absurd (false≢true (sym e ∙ q)))

    pub up_marks : ℓ k ≡ up → Marked rot r (suc k) b
    up_marks e = record { stands = marks_up rot r turn cross hr k out b m.stands e; numbers = same_numbers (ap opens e) }

    pub second_marks : ℓ k ≡ second → Marked rot r (suc k) b
    second_marks e = record { stands = marks_second rot r turn cross hr k out b m.stands e; numbers = same_numbers (ap opens e) }
