-- The marks and the open edges outside the tree, step by step: while the walk is away from the root, the mark of the opposite tells the letter to come and the
-- number of the edge that ends.
--
--   trail_start           the round of the root's vertex
--   Began                 the edge that ends at step k began at an earlier step
-- then, of the dart to come, which is not the root again:
--   tells_down, tells_first, tells_up, tells_second   its letter
--   began_up, began_second   where the edge that ends began; the mark is that of its letter and its number
--   own_mark, apart_first  the dart itself is marked as seen; an edge whose darts have different marks is no loop
--   trail_down, trail_first, trail_up, trail_second   one step
use mathlib.Core.Path.{◌≡◌, refl, sym, ap, ◌∙◌, subst}
use mathlib.Core.Logic.{⊎_elim, ◌≢◌}
use mathlib.Core.Bool.{true, false≢true}
use mathlib.Core.List.{List, [], ◌∷◌, map}
use Prim.Native.Nat.{ℕ, suc, ◌+◌, ◌≤◌, ◌<◌}
use native.Mathlib.Nat.{le_refl}
use native.Mathlib.Omega.{arith}
use lib.ListN.{length, get_or, set, replicate}
use lib.Seq.{get_or-set_same, get_or-set_other}
use Rattle.model.specs.Map.{opposite, next, vertex_of}
use Rattle.model.specs.Traversal.{Letter, down, up, first, second, code, opens}
use Rattle.orbits.specs.Permutation.{Perm}
use Rattle.orbits.specs.Chord.{Involution}
use Rattle.orbits.specs.Stack.{pop, push, stack}
use Rattle.orbits.proofs.Order.{lt_suc_split}
use Rattle.words.specs.Brackets.{chord_kind, chord_stack}
use Rattle.words.specs.Position.{opened}
use Rattle.words.specs.Word.{head, tail}
use Rattle.words.proofs.Opened.{opened_inj, chord_opener}
use Rattle.traversal.specs.Steps.{dart, letter_after, mark}
use Rattle.traversal.proofs.Marks.{zeros_at}
use Rattle.traversal.proofs.Steps.{Case, new, old, back, noted, case, code_some, mark_met, dart_bound, across_bound}
use Rattle.traversal.proofs.Follow.{Away, Followed, follows, away_less, apart}
use Rattle.marks.specs.Marks.{Rounded, mark_of, Top, Trailed}
use Rattle.marks.proofs.Alike.{alike_set, alike_round}
use Rattle.marks.proofs.Walk.{known, new_here, seen_now, unmarked_vertex, read_down, read_first, read_up, read_second, marks_start, marks_up, marks_second}
use Rattle.marks.proofs.Walk.{marks_first, marks_down}

-- ---- letters

up_case : {m s : ℕ} {l : Letter} → Case m s l → l ≡ up → m ≡ 1
up_case (new m s e) d = let z : ◌≡◌ {A = ℕ} 0 1 = cc in absurd (omega arith)
up_case (old m s e) d = let z : ◌≡◌ {A = ℕ} 0 1 = cc in absurd (omega arith)
up_case (back m e) d = m
up_case (noted m n e) d = let z : ◌≡◌ {A = ℕ} 0 1 = cc in absurd (omega arith)

second_case : {m s : ℕ} {l : Letter} → Case m s l → l ≡ second → (m ≢ 0) × (m ≢ 1)
second_case (new m s e) d = let z : ◌≡◌ {A = ℕ} 0 1 = cc in absurd (omega arith)
second_case (old m s e) d = let z : ◌≡◌ {A = ℕ} 0 1 = cc in absurd (omega arith)
second_case (back m e) d = let z : ◌≡◌ {A = ℕ} 0 1 = cc in absurd (omega arith)
second_case (noted m n e) d = (m, n)

code_down : (a : Letter) → code a ≡ 1 → a ≡ down
code_down down e = refl
code_down up e = absurd (omega arith)
code_down first e = absurd (omega arith)
code_down second e = absurd (omega arith)

code_first : (a : Letter) → code a ≡ 3 → a ≡ first
code_first down e = absurd (omega arith)
code_first up e = absurd (omega arith)
code_first first e = refl
code_first second e = absurd (omega arith)

pub some_mark : (a : Letter) → opens a ≡ true → (e : ℕ) → mark_of a + e ≢ 0
some_mark down q e z = omega arith
some_mark up q e z = absurd (false≢true q)
some_mark first q e z = omega arith
some_mark second q e z = absurd (false≢true q)

-- ---- edges by their numbers

-- the numbers of a stack, one of them on top
pub record Headed (ℓ : ℕ → Letter) (k f : ℕ) (fs : List ℕ) : Type 0 where
  pub position : ℕ
  pub below : List ℕ
  pub on_top : chord_stack ℓ k ≡ position ∷ below
  pub is_first : ℓ position ≡ first
  pub number : opened ℓ position ≡ f
  pub others : map (opened ℓ) below ≡ fs

headed : (ℓ : ℕ → Letter) (k f : ℕ) (fs : List ℕ) → f ∷ fs ≡ map (opened ℓ) (chord_stack ℓ k) → Headed ℓ k f fs
headed ℓ k f fs e = go (chord_stack ℓ k) refl
  where
    go : (s : List ℕ) → chord_stack ℓ k ≡ s → Headed ℓ k f fs
    go [] q = let z = ap length (e ∙ ap (map (opened ℓ)) q) in absurd (omega arith)
    go (a ∷ s) q =
        let same = e ∙ ap (map (opened ℓ)) q in
        record { position = a; below = s; on_top = q; is_first = (chord_opener ℓ k a s q).1; number = sym (ap head same); others = sym (ap tail same) }

stack_step : (ℓ : ℕ → Letter) (k : ℕ) (l : Letter) → ℓ k ≡ l → chord_stack ℓ (suc k) ≡ push (chord_kind l) k (chord_stack ℓ k)
unfolding stack
stack_step ℓ k l e = ap (λ (a : Letter). push (chord_kind a) k (chord_stack ℓ k)) e

-- ---- the walk

module _ (rot : List ℕ) (r : ℕ) (turn : Perm (length rot) (next rot)) (cross : Involution (length rot) opposite) (hr : r < length rot) where
  abbrev D : ℕ → ℕ
  D = dart rot r

  abbrev l : ℕ → Letter
  l = letter_after rot r

  pub trail_start : (c : ℕ) → 32768 ≤ c → (b : List ℕ) → Rounded rot r c (replicate (length rot) 0) b → Trailed rot r 0 b []
  unfolding stack
  trail_start c big b t = record {
    away = λ j h g. absurd (omega arith);
    stands = marks_start rot r turn cross hr c big b t;
    alike = alike_round rot (replicate (length rot) 0) (λ x y hx hy e p q. absurd (omega (arith, zeros_at (length rot) x))) r c b t;
    numbers = λ j h. absurd (omega arith);
    stacked = refl;
    tops = λ j h. absurd (omega arith);
  }

  -- the edge that ends at step k began at an earlier one, with the letter a
  pub record Began (k : ℕ) (a : Letter) : Type 0 where
    pub position : ℕ
    pub earlier : position < k
    pub across : D position ≡ opposite (D k)
    pub letter : l position ≡ a

  module _ (k : ℕ) (b waiting : List ℕ) (t : Trailed rot r k b waiting) (on : 0 < k → D k ≢ r) where
    abbrev o : ℕ
    o = opposite (D k)

    out : Away rot r turn cross hr (suc k)
    out j h g = lt_suc_split g (λ e z. on (omega arith) (ap D (sym e) ∙ z)) (t.away j h)

    followed : Followed rot r turn cross hr k
    followed = follows rot r turn cross hr k (away_less rot r turn cross hr k out)

    fresh : (j : ℕ) → j < k → D j ≢ D k
    fresh j h e = let z = apart rot r turn cross hr k followed k (le_refl k) out j k (omega arith) (le_refl k) e in omega arith

    inside : D k < length rot
    inside = dart_bound rot r turn cross hr k

    -- ---- the letter to come

    pub tells_down : get_or b o 0 ≡ 0 → l k ≡ down
    tells_down = read_down rot r turn cross hr k out b t.stands

    pub tells_first : 32768 ≤ get_or b o 0 → l k ≡ first
    tells_first = read_first rot r turn cross hr k out b t.stands

    pub tells_up : 16384 ≤ get_or b o 0 → get_or b o 0 < 32768 → l k ≡ up
    tells_up = read_up rot r turn cross hr k out b t.stands

    pub tells_second : 0 < get_or b o 0 → get_or b o 0 < 16384 → l k ≡ second
    tells_second = read_second rot r turn cross hr k out b t.stands

    -- ---- where the edge that ends began

    began : (a : Letter) → ((x : Letter) → code x ≡ code a → x ≡ a) → mark rot r k o ≡ code a → Began k a
    began a only m =
        let (j, h, e) = mark_met rot r k o (λ z. code_some a (sym m ∙ z)) in
        record { position = j; earlier = h; across = e; letter = only (l j) (sym (followed.marked j h) ∙ ap (mark rot r k) e ∙ m) }

    pub began_up : l k ≡ up → Began k down
    began_up e = began down code_down (up_case (case rot r k) e)

    pub began_second : l k ≡ second → Began k first
    unfolding mark
    began_second e =
        let (some, other) = second_case (case rot r k) e in
        began first code_first (⊎_elim (λ z. absurd (some z)) (λ z. ⊎_elim (λ d. absurd (other d)) (λ f. f) z) (known rot r turn cross hr k out))

    pub began_mark : (a : Letter) (g : Began k a) → opens a ≡ true → get_or b o 0 ≡ mark_of a + opened l g.position
    began_mark a g e =
        ap (λ (x : ℕ). get_or b x 0) (sym g.across) ∙ t.numbers g.position g.earlier (ap opens g.letter ∙ e)
        ∙ ap (λ (c : Letter). mark_of c + opened l g.position) g.letter

    -- ---- no loop

    pub own_mark : 32768 ≤ get_or b (D k) 0
    own_mark =
        let z = new_here rot r turn cross hr k out in
        t.stands.light (D k) inside (seen_now rot r turn cross hr k out) (λ e. omega arith) (λ e. omega arith)

    pub apart_first : 32768 ≤ get_or b o 0 → get_or b o 0 ≢ get_or b (D k) 0 → vertex_of rot (D k) ≢ vertex_of rot o
    apart_first big ne e = ne (t.alike o (D k) (across_bound rot r turn cross hr k) inside (sym e) big own_mark)

    -- ---- one step

    numbers_on : (b' : List ℕ) → ((j : ℕ) → j < k → opens (l j) ≡ true → get_or b' (D j) 0 ≡ get_or b (D j) 0)
        → (opens (l k) ≡ true → get_or b' (D k) 0 ≡ mark_of (l k) + opened l k)
        → (j : ℕ) → j < suc k → opens (l j) ≡ true → get_or b' (D j) 0 ≡ mark_of (l j) + opened l j
    numbers_on b' kept here j h e = lt_suc_split h
        (λ q. subst (λ (i : ℕ). opens (l i) ≡ true → get_or b' (D i) 0 ≡ mark_of (l i) + opened l i) (sym q) here e)
        (λ g. kept j g e ∙ t.numbers j g e)

    tops_on : (l k ≡ second → Top rot r k) → (j : ℕ) → j < suc k → l j ≡ second → Top rot r j
    tops_on here j h e = lt_suc_split h (λ q. subst (λ (i : ℕ). l i ≡ second → Top rot r i) (sym q) here e) (λ g. t.tops j g e)

    stacked_on : (a : Letter) → l k ≡ a → (s : List ℕ) → s ≡ map (opened l) (push (chord_kind a) k (chord_stack l k)) → s ≡ map (opened l) (chord_stack l (suc k))
    stacked_on a e s q = q ∙ ap (map (opened l)) (sym (stack_step l k a e))

    -- an edge that opens here gets its mark, and the marks of those that opened before stay
    marked_here : (b' : List ℕ) (v : ℕ) → length b' ≡ length rot → get_or (set b' (D k) v) (D k) 0 ≡ v
    marked_here b' v e = get_or-set_same b' (D k) v 0 (subst (λ (n : ℕ). D k < n) (sym e) inside)

    marked_before : (b' : List ℕ) (v j : ℕ) → j < k → get_or (set b' (D k) v) (D j) 0 ≡ get_or b' (D j) 0
    marked_before b' v j h = get_or-set_other b' (D k) (D j) v 0 (fresh j h)

    pub trail_down : get_or b o 0 ≡ 0 → opened l k < 8192 → (c : ℕ) → 32768 ≤ c → (b' : List ℕ) → Rounded rot o c b b'
        → Trailed rot r (suc k) (set b' (D k) (16384 + opened l k)) waiting
    trail_down none few c big b' u =
        let e = tells_down none in
        let size : length b' ≡ length rot = u.size ∙ t.stands.size in
        let v = 16384 + opened l k in
        record {
          away = out;
          stands = marks_down rot r turn cross hr k out b t.stands e c big b' u v (omega arith) (omega arith);
          alike = alike_set rot b' (alike_round rot b t.alike o c b' u) (D k) v (subst (λ (n : ℕ). D k < n) (sym size) inside) (omega arith);
          numbers = numbers_on (set b' (D k) v)
              (λ j h q. marked_before b' v j h ∙ u.others (D j) (dart_bound rot r turn cross hr j)
              (λ z. some_mark (l j) q (opened l j) (sym (t.numbers j h q) ∙ unmarked_vertex rot r turn cross hr k out b t.stands e (D j) (dart_bound rot r turn cross hr j) z)))
              (λ q. marked_here b' v size ∙ ap (λ (a : Letter). mark_of a + opened l k) (sym e));
          stacked = stacked_on down e waiting t.stacked;
          tops = tops_on (λ q. absurd (omega (arith, ap code (sym e ∙ q))));
        }

    pub trail_first : 32768 ≤ get_or b o 0 → opened l k < 8192 → Trailed rot r (suc k) (set b (D k) (8192 + opened l k)) (opened l k ∷ waiting)
    trail_first big few =
        let e = tells_first big in
        let v = 8192 + opened l k in
        record {
          away = out;
          stands = marks_first rot r turn cross hr k out b t.stands e v (omega arith) (omega arith);
          alike = alike_set rot b t.alike (D k) v (subst (λ (n : ℕ). D k < n) (sym t.stands.size) inside) (omega arith);
          numbers = numbers_on (set b (D k) v) (λ j h q. marked_before b v j h)
              (λ q. marked_here b v t.stands.size ∙ ap (λ (a : Letter). mark_of a + opened l k) (sym e));
          stacked = stacked_on first e (opened l k ∷ waiting) (ap (λ (s : List ℕ). opened l k ∷ s) t.stacked);
          tops = tops_on (λ q. absurd (omega (arith, ap code (sym e ∙ q))));
        }

    pub trail_up : 16384 ≤ get_or b o 0 → get_or b o 0 < 32768 → Trailed rot r (suc k) b waiting
    trail_up lo hi =
        let e = tells_up lo hi in
        record {
          away = out;
          stands = marks_up rot r turn cross hr k out b t.stands e;
          alike = t.alike;
          numbers = numbers_on b (λ j h q. refl) (λ q. absurd (false≢true (sym (ap opens e) ∙ q)));
          stacked = stacked_on up e waiting t.stacked;
          tops = tops_on (λ q. absurd (omega (arith, ap code (sym e ∙ q))));
        }

    pub trail_second : 0 < get_or b o 0 → get_or b o 0 < 16384 → (f : ℕ) (fs : List ℕ) → waiting ≡ f ∷ fs → get_or b o 0 ≡ 8192 + f → Trailed rot r (suc k) b fs
    trail_second lo hi f fs w m =
        let e = tells_second lo hi in
        let g = began_second e in
        let h = headed l k f fs (sym w ∙ t.stacked) in
        let same : h.position ≡ g.position =
        opened_inj l h.position g.position (ap opens h.is_first) (ap opens g.letter)
        (let q = began_mark first g refl in let i = h.number in omega arith) in
        record {
          away = out;
          stands = marks_second rot r turn cross hr k out b t.stands e;
          alike = t.alike;
          numbers = numbers_on b (λ j i q. refl) (λ q. absurd (false≢true (sym (ap opens e) ∙ q)));
          stacked = stacked_on second e fs (sym (ap (λ (s : List ℕ). map (opened l) (pop s)) h.on_top ∙ h.others));
          tops = tops_on (λ q. record { begun = h.position; below = h.below; on_top = h.on_top; across = ap D same ∙ g.across });
        }
