-- The whole walk: what it begins with, and what it says when it is back at the root after all darts.
--
--   Walking              the loop: the walk is traced, and is not back
--   walking_start        the round of the root's vertex, in an area with no marks
--   fitting              the walk is back after all darts
--   walking_on           one step that does not lead back
--   traced_back, traced_unfit, traced_never   the ways out
--   unmarked_root        what the round of the root's vertex requires
use mathlib.Core.Path.{◌≡◌, refl, sym, ap, ◌∙◌, subst}
use mathlib.Core.Logic.{◌≢◌}
use mathlib.Core.Bool.{true, false, false≢true}
use mathlib.Core.List.{List, [], ◌∷◌, map}
use Prim.Native.Nat.{ℕ, zero, suc, ◌+◌, ◌*◌, ◌≤◌, ◌<◌}
use native.Mathlib.Nat.{le_refl}
use native.Mathlib.Omega.{arith}
use lib.Dec.{eqb}
use lib.ListN.{length, get_or, replicate, length-map, get_or-map}
use lib.Seq.{ext_get_or}
use borrow.Author.Tests.{eqb-true, eqb-false}
use Rattle.model.specs.Numbers.{is_permutation, count}
use Rattle.model.specs.Map.{Plan, opposite, vertex_of, degree_one, connected, planar, dart_count_fits}
use Rattle.model.specs.Traversal.{Letter, second, code, opens, visits, word}
use Rattle.model.proofs.Fitness.{count_even, count_positive}
use Rattle.orbits.proofs.Maps.{next_perm, opposite_inv}
use Rattle.words.specs.Brackets.{chord_stack}
use Rattle.words.specs.Position.{opened}
use Rattle.words.specs.Toured.{Toured, Bracketed, dart_at, letter_of}
use Rattle.words.proofs.Positions.{word_length}
use Rattle.traversal.specs.Steps.{at, start, dart, letter_after}
use Rattle.traversal.proofs.Marks.{zeros_at}
use Rattle.traversal.proofs.Walk.{walk_back}
use Rattle.traversal.proofs.Complete.{long_connected}
use Rattle.traversal.proofs.Toured.{walk_toured}
use Rattle.traversal.proofs.Positions.{letter_at, dart_at_lem, opened_at, stack_at}
use Rattle.forward.proofs.Stacked.{OnTop, stacked_planar, stacked_bracketed}
use Rattle.forward.proofs.Tops.{open_room}
use Rattle.forward.proofs.Bits.{bits_to_lem}
use Rattle.forward.proofs.Labels.{written_placed, labels_by_place}
use Rattle.forward.proofs.Loops.{no_loop_first}
use Rattle.forward.proofs.DeadEnds.{no_dead_end_up}
use Rattle.work.specs.Map.{LETTERS, WAITING, BITS}
use Rattle.work.specs.Area.{region, stack}
use Rattle.work.specs.Letters.{work_bits, work_labels}
use Rattle.work.proofs.Regions.{length_region, getD-region}
use Rattle.work.proofs.Stacks.{length_stack}
use Rattle.marks.specs.Marks.{Rounded, mark_of}
use Rattle.marks.proofs.Alike.{distinct_start}
use Rattle.marks.proofs.Trail.{trail_start}
use Rattle.trace_steps.specs.declared.Trace.{Trace}
use Rattle.trace_steps.specs.Steps.{Ground, Circled}
use Rattle.std.specs.Prelude.{Option, None, Some}
use Rattle.tracing.specs.Tracing.{from, Tracing, Stepped, Sound, Fitting, Traced}
use Rattle.tracing.proofs.Places.{mark_at}
use Rattle.tracing.proofs.Declining.{short_unsound, endless_unsound}
use Rattle.tracing.proofs.Puts.{puts_none}
use Rattle.tracing.proofs.Positions.{tops_at, ended_mark}

pub record Walking (family : ℕ) (rot : List ℕ) (root : ℕ) (w₀ w : List ℕ) (s : Trace) (i : ℕ) : Type 0 where
  pub traced : Tracing family rot i w s
  pub rooted : s.root ≡ root
  pub away : 0 < i → s.dart ≢ s.root
  pub kept : length w ≡ length w₀
  pub places : i ≤ length rot

-- ---- the beginning

pub walking_start : (family : ℕ) (rot : List ℕ) (root : ℕ) (w w₁ : List ℕ) → Ground rot w → root < length rot → region 0 (length rot) w ≡ replicate (length rot) 0
    → Circled rot root 32768 w w₁ → Walking family rot root w₁ w₁ (record { root = root; dart = root; edges = 0; waiting = 0 }) 0
unfolding dart at start opened count stack
walking_start family rot root w w₁ g hr none c = record {
  traced = record {
    ground = record { count = g.count; perm = g.perm; room = omega (arith, g.room, c.kept) };
    root_in = hr;
    here = refl;
    edges = refl;
    trail = trail_start rot root (next_perm rot g.perm) (opposite_inv (length rot) (count_even (length rot) g.count)) hr 32768 (le_refl 32768)
        (region 0 (length rot) w₁) first_round;
    no_loop = λ f j h. absurd (omega arith);
    no_leaf = λ f j h. absurd (omega arith);
    distinct = distinct_start rot (region 0 (length rot) w₁) root 32768 first_round (λ z. omega arith);
    puts = puts_none family (from rot root) g.count w₁ (omega (arith, g.room, c.kept));
  };
  rooted = refl;
  away = λ h. absurd (omega arith);
  kept = refl;
  places = omega arith;
}
  where
    first_round : Rounded rot root 32768 (replicate (length rot) 0) (region 0 (length rot) w₁)
    first_round = subst (λ (b : List ℕ). Rounded rot root 32768 b (region 0 (length rot) w₁)) none c.marks

-- ---- the end

getD-within : (l : List ℕ) (i a b : ℕ) → i < length l → get_or l i a ≡ get_or l i b
getD-within [] i a b h = absurd (omega arith)
getD-within (x ∷ l) zero a b h = refl
getD-within (x ∷ l) (suc i) a b h = getD-within l i a b (omega arith)

module _ (family : ℕ) (rot : List ℕ) (w : List ℕ) (s : Trace) (g : Tracing family rot (length rot) w s) (back : s.dart ≡ s.root) where
  abbrev N : ℕ
  N = length rot

  abbrev r : ℕ
  r = s.root

  abbrev p : Plan
  p = from rot r

  abbrev count_fits : dart_count_fits N ≡ true
  count_fits = g.ground.count

  abbrev perm : is_permutation rot ≡ true
  perm = g.ground.perm

  all_met : length (visits p) ≡ N
  all_met = walk_back p count_fits g.root_in perm N (count_positive N count_fits) (sym g.here ∙ back) g.trail.away

  joined : connected rot ≡ true
  joined = long_connected p count_fits g.root_in perm all_met

  t : Toured p
  t = walk_toured p count_fits g.root_in perm joined

  letters_are : (j : ℕ) → j < N → letter_of p j ≡ letter_after rot r j
  letters_are = letter_at p count_fits g.root_in perm t

  darts_are : (j : ℕ) → j < N → dart_at p j ≡ dart rot r j
  darts_are = dart_at_lem p count_fits g.root_in perm t

  tops : OnTop p
  tops = tops_at rot r count_fits perm g.root_in t N (le_refl N) g.trail.tops

  flat : planar rot ≡ true
  flat = stacked_planar p t count_fits tops perm

  bracketed : Bracketed p
  bracketed = stacked_bracketed p t count_fits tops perm

  none_waits : s.waiting ≡ 0
  none_waits =
      let e = length_stack (WAITING * N) s.waiting w in
      let z = open_room p t count_fits N (le_refl N) tops in
      let c = ap length (stack_at p count_fits g.root_in perm t N (le_refl N)) in
      let ℓ = letter_after rot r in
      let q : length (stack (WAITING * N) s.waiting w) ≡ length (chord_stack ℓ N) = ap length g.trail.stacked ∙ length-map (chord_stack ℓ N) (opened ℓ) in
      omega arith

  begun : (j : ℕ) → j < N → opens (letter_of p j) ≡ true → get_or w (dart_at p j) 0 ≡ mark_of (letter_of p j) + opened (letter_of p) j
  begun j h o =
      let l = letters_are j h in
      let d = darts_are j h in
      ap (λ (x : ℕ). get_or w x 0) d
      ∙ sym (mark_at N w (dart rot r j) (subst (λ (x : ℕ). x < N) d (t.dart_bound j h)))
      ∙ g.trail.numbers j h (ap opens (sym l) ∙ o)
      ∙ ap (λ (a : Letter). mark_of a + opened (letter_after rot r) j) (sym l)
      ∙ ap (λ (x : ℕ). mark_of (letter_of p j) + x) (sym (opened_at p count_fits g.root_in perm t j (omega arith)))

  ended : (j : ℕ) → j < N → opens (letter_of p j) ≡ false → 32768 ≤ get_or w (dart_at p j) 0
  ended j h o =
      let d = darts_are j h in
      let m = ended_mark rot r count_fits perm g.root_in t N (region 0 N w) _ g.trail j h (ap opens (sym (letters_are j h)) ∙ o) in
      let e = ap (λ (x : ℕ). get_or w x 0) d ∙ sym (mark_at N w (dart rot r j) (subst (λ (x : ℕ). x < N) d (t.dart_bound j h))) in
      subst (λ (x : ℕ). 32768 ≤ x) (sym e) m

  word_put : family ≡ 4 → region (LETTERS * N) N w ≡ map code (word p)
  unfolding letter_of
  word_put f =
      let size : length (map code (word p)) ≡ N = length-map (word p) code ∙ word_length p t in
      let room : length (region (LETTERS * N) N w) ≡ N = length_region (LETTERS * N) N w (omega (arith, g.ground.room)) in
      ext_get_or 0 (region (LETTERS * N) N w) (map code (word p)) (room ∙ sym size)
      (λ j h. let hj : j < N = subst (λ (x : ℕ). j < x) room h in
      getD-region (LETTERS * N) N w j hj ∙ g.puts.letters f j hj ∙ ap code (sym (letters_are j hj))
      ∙ sym (get_or-map code (word p) j second) ∙ getD-within (map code (word p)) j 4 0 (subst (λ (x : ℕ). j < x) (sym size) hj))

  pub fitting : Fitting family p w
  unfolding work_bits
  fitting = record {
    sound = record {
      joined = joined;
      flat = flat;
      no_loop = λ f. no_loop_first p t count_fits (λ j h e. subst (λ (d : ℕ). vertex_of rot d ≢ vertex_of rot (opposite d)) (sym (darts_are j h))
          (g.no_loop f j h (sym (letters_are j h) ∙ e)));
      no_leaf = λ f. no_dead_end_up p t count_fits bracketed (λ j h e. ap (degree_one rot) (darts_are j h) ∙ g.no_leaf f j h (sym (letters_are j h) ∙ e));
    };
    begun = begun;
    ended = ended;
    letters = word_put;
    bits = λ f. let e : N + s.waiting ≡ N = omega (arith, none_waits) in
        ap (λ (c : ℕ). region (BITS * N) c w) (sym e) ∙ g.puts.bits f t ∙ bits_to_lem p t bracketed count_fits;
    labels = λ f. labels_by_place p t bracketed count_fits (work_labels N w) (written_placed p (work_labels N w) (g.puts.labels f t));
  }

-- ---- one step

module _ (family : ℕ) (rot : List ℕ) (i : ℕ) (w : List ℕ) (s : Trace) (r : Option Trace) (w' : List ℕ) (step : Stepped family rot i w s r w') where
  stepped_goes : (t : Trace) → r ≡ Some t → Tracing family rot (suc i) w' t × (t.root ≡ s.root) × (length w' ≡ length w)
  unfolding Stepped
  stepped_goes t e = subst (λ (x : Option Trace). Stepped family rot i w s x w') e step

  stepped_unfit : r ≡ None → (w' ≡ w) × (Sound family (from rot s.root) → ⊥)
  unfolding Stepped
  stepped_unfit e = subst (λ (x : Option Trace). Stepped family rot i w s x w') e step

  module _ (root : ℕ) (w₀ : List ℕ) (at : Walking family rot root w₀ w s i) where
    module _ (here : i < length rot) (t : Trace) (goes : r ≡ Some t) where
      step_on : Tracing family rot (i + 1) w' t
      step_on = subst (λ (k : ℕ). Tracing family rot k w' t) (omega arith) (stepped_goes t goes).0

      pub walking_on : t.dart ≢ root → Walking family rot root w₀ w' t (i + 1)
      walking_on ne =
          let (g, e, l) = stepped_goes t goes in
          record {
            traced = step_on;
            rooted = e ∙ at.rooted;
            away = λ h q. ne (q ∙ e ∙ at.rooted);
            kept = l ∙ at.kept;
            places = omega arith;
          }

      pub traced_back : t.dart ≡ root → (w₁ : List ℕ) → length w₀ ≡ length w₁ → Traced family (from rot root) w₁ (eqb (i + 1) (length rot)) w'
      traced_back b w₁ l₁ =
          let (g, e, l) = stepped_goes t goes in
          let rooted = e ∙ at.rooted in
          record {
            kept = l ∙ at.kept ∙ l₁;
            fits = λ q.
                let all = eqb-true (i + 1) (length rot) q in
                subst (λ (x : ℕ). Fitting family (from rot x) w') rooted
                (fitting family rot w' t (subst (λ (k : ℕ). Tracing family rot k w' t) all step_on) (b ∙ sym rooted));
            unfit = λ q sound.
                short_unsound family rot (i + 1) w' t step_on (subst (λ (x : ℕ). Sound family (from rot x)) (sym rooted) sound) (omega arith) (b ∙ sym rooted)
                (eqb-false (i + 1) (length rot) q);
          }

    pub traced_unfit : r ≡ None → (w₁ : List ℕ) → length w₀ ≡ length w₁ → Traced family (from rot root) w₁ false w'
    traced_unfit e w₁ l =
        let (same, not_sound) = stepped_unfit e in
        record {
          kept = ap length same ∙ at.kept ∙ l;
          fits = λ q. absurd (false≢true q);
          unfit = λ q sound. not_sound (subst (λ (x : ℕ). Sound family (from rot x)) (sym at.rooted) sound);
        }

pub traced_never : (family : ℕ) (rot : List ℕ) (root : ℕ) (w₀ w : List ℕ) (s : Trace) (i : ℕ) → Walking family rot root w₀ w s i → length rot ≤ i
    → (w₁ : List ℕ) → length w₀ ≡ length w₁ → Traced family (from rot root) w₁ false w
traced_never family rot root w₀ w s i at all w₁ l =
    let e : i ≡ length rot = let z = at.places in omega arith in
    record {
      kept = at.kept ∙ l;
      fits = λ q. absurd (false≢true q);
      unfit = λ q sound.
          let some = count_positive (length rot) at.traced.ground.count in
          endless_unsound family rot i w s at.traced (subst (λ (x : ℕ). Sound family (from rot x)) (sym at.rooted) sound) e (at.away (omega arith));
    }

-- the root's vertex has no marks yet
pub unmarked_root : (rot w : List ℕ) → region 0 (length rot) w ≡ replicate (length rot) 0 → (z : ℕ) → z < length rot → get_or w z 0 ≡ 0
unmarked_root rot w none z h = sym (mark_at (length rot) w z h) ∙ ap (λ (b : List ℕ). get_or b z 0) none ∙ zeros_at (length rot) z
