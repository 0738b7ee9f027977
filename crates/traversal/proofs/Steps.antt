-- One step of the walk, law by law.
--
--   Case                    the four letters, each with what it says of the opposite dart
--   down_case, first_case   what down and first say
--   case                    the letter of step k is one of the four
--   code_some               no letter's code is 0
--   letter_split            a letter is down or not
--   dart_step               the walk goes on as the letter says
--   dart_bound, across_bound   its darts and their opposites are below the dart count
--   next_vertex             the vertex of the next dart
--   mark_here, mark_other   the code of a letter is put at its dart, and nowhere else
--   mark_met                a dart with a code was met
--   seen_same, seen_other   only down marks a vertex, and only the one across
--   seen_grows              a vertex that is seen stays so
--   seen_turn               the darts of a vertex have one mark
--   seen_here               the vertices of the darts met are seen, and that of the dart to come
--   seen_across             so are those of their opposites
--   seen_some               and no others
use Prim.Native.Nat.{ℕ, zero, suc, ◌≤◌, ◌<◌}
use native.Mathlib.Nat.{le_refl, le_step, le_of_suc-le-suc}
use native.Mathlib.Omega.{arith}
use mathlib.Core.Path.{◌≡◌, refl, sym, ap, subst, ◌∙◌}
use mathlib.Core.Logic.{◌≢◌}
use mathlib.Core.Bool.{Bool, true, false, cond}
use mathlib.Core.List.{List}
use lib.Dec.{eqb}
use lib.ListN.{length, get_or, set, replicate, length-set, length-replicate}
use lib.Seq.{get_or-set_same, get_or-set_other}
use borrow.Author.Tests.{eqb-true, eqb-false}
use Rattle.model.specs.Map.{opposite, next, vertex_of}
use Rattle.model.specs.Traversal.{Letter, down, up, first, second, code, letter_at, onward, seen_after}
use Rattle.orbits.specs.Permutation.{Perm}
use Rattle.orbits.specs.Chord.{Involution}
use Rattle.orbits.proofs.Order.{eq_split, le_split}
use Rattle.orbits.proofs.Maps.{vertex_turn, vertex_bound}
use Rattle.words.specs.Toured.{is_tree}
use Rattle.traversal.specs.Steps.{letter, step, start, at, dart, letter_after, mark, seen_mark}
use Rattle.traversal.proofs.Marks.{zeros_at, set_here, set_still}

-- ---- the letter

-- m: the code at the opposite, s: the mark of its vertex
pub data Case (m s : ℕ) (l : Letter) : Type 0 where
  new : m ≡ 0 → s ≡ 0 → l ≡ down → Case m s l
  old : m ≡ 0 → s ≢ 0 → l ≡ first → Case m s l
  back : m ≡ 1 → l ≡ up → Case m s l
  noted : m ≢ 0 → m ≢ 1 → l ≡ second → Case m s l

letter_case : (m s : ℕ) (b c u : Bool) → eqb m 0 ≡ b → eqb s 0 ≡ c → eqb m 1 ≡ u → Case m s (cond b (cond c down first) (cond u up second))
letter_case m s true true u e f g = new (eqb-true m 0 e) (eqb-true s 0 f) refl
letter_case m s true false u e f g = old (eqb-true m 0 e) (eqb-false s 0 f) refl
letter_case m s false c true e f g = back (eqb-true m 1 g) refl
letter_case m s false c false e f g = noted (eqb-false m 0 e) (eqb-false m 1 g) refl

-- and back: what a letter says
pub down_case : {m s : ℕ} {l : Letter} → Case m s l → l ≡ down → (m ≡ 0) × (s ≡ 0)
down_case (new m s e) d = (m, s)
down_case (old m s e) d = let z : ◌≡◌ {A = ℕ} 0 1 = cc in absurd (omega arith)
down_case (back m e) d = let z : ◌≡◌ {A = ℕ} 0 1 = cc in absurd (omega arith)
down_case (noted m n e) d = let z : ◌≡◌ {A = ℕ} 0 1 = cc in absurd (omega arith)

pub first_case : {m s : ℕ} {l : Letter} → Case m s l → l ≡ first → (m ≡ 0) × (s ≢ 0)
first_case (new m s e) d = let z : ◌≡◌ {A = ℕ} 0 1 = cc in absurd (omega arith)
first_case (old m s e) d = (m, s)
first_case (back m e) d = let z : ◌≡◌ {A = ℕ} 0 1 = cc in absurd (omega arith)
first_case (noted m n e) d = let z : ◌≡◌ {A = ℕ} 0 1 = cc in absurd (omega arith)

pub code_some : (l : Letter) → code l ≢ 0
code_some down e = omega arith
code_some up e = omega arith
code_some first e = omega arith
code_some second e = omega arith

-- a letter is down or not
pub letter_split : {C : Type 0} (a : Letter) → (a ≡ down → C) → (a ≢ down → C) → C
letter_split down y n = y refl
letter_split up y n = n (λ e. let z : ◌≡◌ {A = ℕ} 0 1 = cc in omega arith)
letter_split first y n = n (λ e. let z : ◌≡◌ {A = ℕ} 0 1 = cc in omega arith)
letter_split second y n = n (λ e. let z : ◌≡◌ {A = ℕ} 0 1 = cc in omega arith)

module _ (rot : List ℕ) (r : ℕ) where
  abbrev D : ℕ → ℕ
  D = dart rot r

  abbrev M : ℕ → ℕ → ℕ
  M = mark rot r

  abbrev S : ℕ → ℕ → ℕ
  S = seen_mark rot r

  abbrev l : ℕ → Letter
  l = letter_after rot r

  pub case : (k : ℕ) → Case (M k (opposite (D k))) (S k (opposite (D k))) (l k)
  unfolding dart mark seen_mark letter_after letter letter_at
  case k = letter_case (M k (opposite (D k))) (S k (opposite (D k))) _ _ _ refl refl refl

  pub dart_step : (k : ℕ) → D (suc k) ≡ onward rot (l k) (D k)
  unfolding dart letter_after at step
  dart_step k = refl

  -- ---- codes

  length_met : (k : ℕ) → length (at rot r k).met ≡ length rot
  unfolding at start step
  length_met zero = simp length-replicate
  length_met (suc k) = simp length-set (length_met k)

  pub mark_other : (k x : ℕ) → x ≢ D k → M (suc k) x ≡ M k x
  unfolding dart mark at step
  mark_other k x n = get_or-set_other (at rot r k).met (D k) x (code (letter rot (at rot r k))) 0 n

  pub mark_met : (k x : ℕ) → M k x ≢ 0 → (j : ℕ) × (j < k) × (D j ≡ x)
  unfolding mark at start
  mark_met zero x n = absurd (n (zeros_at (length rot) x))
  mark_met (suc k) x n = eq_split x (D k)
      (λ e. (k, omega arith, sym e))
      (λ o. let (j, h, e) = mark_met k x (λ z. n (mark_other k x o ∙ z)) in (j, omega arith, e))

  -- ---- marks of vertices

  length_after : (a : Letter) (d : ℕ) (seen : List ℕ) → length (seen_after rot a d seen) ≡ length seen
  unfolding seen_after
  length_after down d seen = simp length-set
  length_after up d seen = refl
  length_after first d seen = refl
  length_after second d seen = refl

  length_seen : (k : ℕ) → length (at rot r k).seen ≡ length rot
  unfolding at start step
  length_seen zero = simp (length-set, length-replicate)
  length_seen (suc k) = length_after (letter rot (at rot r k)) (at rot r k).dart (at rot r k).seen ∙ length_seen k

  -- only down marks a vertex
  after_other : (a : Letter) → a ≢ down → (d : ℕ) (seen : List ℕ) → seen_after rot a d seen ≡ seen
  unfolding seen_after
  after_other down n d seen = absurd (n refl)
  after_other up n d seen = refl
  after_other first n d seen = refl
  after_other second n d seen = refl

  pub seen_same : (k x : ℕ) → l k ≢ down → S (suc k) x ≡ S k x
  unfolding seen_mark at step letter_after
  seen_same k x n = ap (λ (s : List ℕ). get_or s (vertex_of rot x) 0) (after_other (l k) n (at rot r k).dart (at rot r k).seen)

  -- the vertex that down marks
  abbrev far : ℕ → ℕ
  far k = vertex_of rot (opposite (D k))

  seen_set : (k x : ℕ) → l k ≡ down → S (suc k) x ≡ get_or (set (at rot r k).seen (far k) 1) (vertex_of rot x) 0
  unfolding seen_mark at step letter_after dart seen_after
  seen_set k x e = ap (λ (a : Letter). get_or (seen_after rot a (at rot r k).dart (at rot r k).seen) (vertex_of rot x) 0) e

  pub seen_other : (k x : ℕ) → vertex_of rot x ≢ far k → S (suc k) x ≡ S k x
  unfolding seen_mark
  seen_other k x n = letter_split (l k)
      (λ e. seen_set k x e ∙ get_or-set_other (at rot r k).seen (far k) (vertex_of rot x) 1 0 n)
      (seen_same k x)

  -- ---- among the darts

  module _ (turn : Perm (length rot) (next rot)) (cross : Involution (length rot) opposite) (hr : r < length rot) where
    abbrev N : ℕ
    N = length rot

    onward_bound : (a : Letter) (d : ℕ) → d < N → onward rot a d < N
    unfolding onward
    onward_bound down d h = turn.bound (opposite d) (cross.bound d h)
    onward_bound up d h = turn.bound (opposite d) (cross.bound d h)
    onward_bound first d h = turn.bound d h
    onward_bound second d h = turn.bound d h

    pub dart_bound : (k : ℕ) → D k < N
    unfolding dart at start
    dart_bound zero = hr
    dart_bound (suc k) = subst (λ (d : ℕ). d < N) (sym (dart_step k)) (onward_bound (l k) (D k) (dart_bound k))

    pub across_bound : (k : ℕ) → opposite (D k) < N
    across_bound k = cross.bound (D k) (dart_bound k)

    pub mark_here : (k : ℕ) → M (suc k) (D k) ≡ code (l k)
    unfolding dart mark at step letter_after
    mark_here k =
        get_or-set_same (at rot r k).met (D k) (code (l k)) 0 (subst (λ (n : ℕ). D k < n) (sym (length_met k)) (dart_bound k))

    -- the next dart lies across after down and up, else at the same vertex
    onward_vertex : (a : Letter) (d : ℕ) → d < N → vertex_of rot (onward rot a d) ≡ cond (is_tree a) (vertex_of rot (opposite d)) (vertex_of rot d)
    unfolding onward
    onward_vertex down d h = vertex_turn rot turn (opposite d) (cross.bound d h)
    onward_vertex up d h = vertex_turn rot turn (opposite d) (cross.bound d h)
    onward_vertex first d h = vertex_turn rot turn d h
    onward_vertex second d h = vertex_turn rot turn d h

    pub next_vertex : (k : ℕ) → vertex_of rot (D (suc k)) ≡ cond (is_tree (l k)) (far k) (vertex_of rot (D k))
    next_vertex k = ap (vertex_of rot) (dart_step k) ∙ onward_vertex (l k) (D k) (dart_bound k)

    far_bound : (k : ℕ) → far k < length (at rot r k).seen
    far_bound k = subst (λ (n : ℕ). far k < n) (sym (length_seen k)) (vertex_bound rot turn (opposite (D k)) (across_bound k))

    pub seen_grows : (k x : ℕ) → S k x ≢ 0 → S (suc k) x ≢ 0
    unfolding seen_mark
    seen_grows k x n = letter_split (l k)
        (λ e z. set_still (at rot r k).seen (far k) (vertex_of rot x) n (sym (seen_set k x e) ∙ z))
        (λ o z. n (sym (seen_same k x o) ∙ z))

    -- the mark of x is that of its vertex
    seen_vertex : (k x y : ℕ) → vertex_of rot x ≡ vertex_of rot y → S k y ≢ 0 → S k x ≢ 0
    unfolding seen_mark
    seen_vertex k x y e n z = n (ap (λ (v : ℕ). get_or (at rot r k).seen v 0) (sym e) ∙ z)

    pub seen_turn : (k x : ℕ) → x < N → S k (next rot x) ≡ S k x
    unfolding seen_mark
    seen_turn k x h = ap (λ (v : ℕ). get_or (at rot r k).seen v 0) (vertex_turn rot turn x h)

    seen_root : S 0 r ≢ 0
    unfolding seen_mark at start
    seen_root = set_here (replicate N 0) (vertex_of rot r) (simp length-replicate (vertex_bound rot turn r hr))

    -- down marks the vertex across
    seen_down : (k : ℕ) → l k ≡ down → S (suc k) (opposite (D k)) ≢ 0
    seen_down k e z = set_here (at rot r k).seen (far k) (far_bound k) (sym (seen_set k (opposite (D k)) e) ∙ z)

    -- the vertex across is seen after the step, whatever the letter
    seen_far : (k : ℕ) → ((j : ℕ) → j ≤ k → S k (D j) ≢ 0) → S (suc k) (opposite (D k)) ≢ 0
    seen_far k here = go (case k)
      where
        met : M k (opposite (D k)) ≢ 0 → S (suc k) (opposite (D k)) ≢ 0
        met n = let (j, h, e) = mark_met k (opposite (D k)) n in
            seen_grows k (opposite (D k)) (subst (λ (x : ℕ). S k x ≢ 0) e (here j (omega arith)))

        go : Case (M k (opposite (D k))) (S k (opposite (D k))) (l k) → S (suc k) (opposite (D k)) ≢ 0
        go (new m s e) = seen_down k e
        go (old m s e) = seen_grows k (opposite (D k)) s
        go (back m e) = met (λ z. omega arith)
        go (noted m n e) = met m

    seen_next : (k : ℕ) → ((j : ℕ) → j ≤ k → S k (D j) ≢ 0) → S (suc k) (D (suc k)) ≢ 0
    seen_next k here = go (is_tree (l k)) (next_vertex k)
      where
        go : (b : Bool) → vertex_of rot (D (suc k)) ≡ cond b (far k) (vertex_of rot (D k)) → S (suc k) (D (suc k)) ≢ 0
        go true v = seen_vertex (suc k) (D (suc k)) (opposite (D k)) v (seen_far k here)
        go false v = seen_vertex (suc k) (D (suc k)) (D k) v (seen_grows k (D k) (here k (le_refl k)))

    pub seen_here : (k j : ℕ) → j ≤ k → S k (D j) ≢ 0
    unfolding dart at start
    seen_here zero zero h = seen_root
    seen_here zero (suc j) h = absurd (omega arith)
    seen_here (suc k) j h = le_split h
        (λ e. subst (λ (i : ℕ). S (suc k) (D i) ≢ 0) (sym e) (seen_next k (seen_here k)))
        (λ g. seen_grows k (D j) (seen_here k j (le_of_suc-le-suc g)))

    pub seen_across : (k j : ℕ) → j < k → S k (opposite (D j)) ≢ 0
    seen_across zero j h = absurd (omega arith)
    seen_across (suc k) j h = le_split (le_of_suc-le-suc h)
        (λ e. subst (λ (i : ℕ). S (suc k) (opposite (D i)) ≢ 0) (sym e) (seen_far k (seen_here k)))
        (λ g. seen_grows k (opposite (D j)) (seen_across k j g))

    pub seen_some : (k x : ℕ) → S k x ≢ 0 → (j : ℕ) × (j ≤ k) × (vertex_of rot (D j) ≡ vertex_of rot x)
    unfolding seen_mark at start dart
    seen_some zero x n = eq_split (vertex_of rot x) (vertex_of rot r)
        (λ e. (0, omega arith, sym e))
        (λ o. absurd (n (get_or-set_other (replicate N 0) (vertex_of rot r) (vertex_of rot x) 1 0 o ∙ zeros_at N (vertex_of rot x))))
    seen_some (suc k) x n = letter_split (l k)
        (λ e. eq_split (vertex_of rot x) (far k)
        (λ f. (suc k, le_refl (suc k), next_vertex k ∙ ap (λ (a : Letter). cond (is_tree a) (far k) (vertex_of rot (D k))) e ∙ sym f))
        (λ o. more (seen_some k x (λ z. n (seen_other k x o ∙ z)))))
        (λ o. more (seen_some k x (λ z. n (seen_same k x o ∙ z))))
      where
        more : (j : ℕ) × (j ≤ k) × (vertex_of rot (D j) ≡ vertex_of rot x) → (j : ℕ) × (j ≤ suc k) × (vertex_of rot (D j) ≡ vertex_of rot x)
        more f = (f.0, le_step f.1, f.2)
