-- The visits of a plan are the steps of its first round; so all that is known of those holds of the visits, position by position.
--
--   walked                      all that is known of the traversal of a plan
--   walk_dart, walk_letter      the visits are the steps of the walk without an end
--   walk_back                   until it is first back at the root
--   walk_closed, walk_least     the darts met are a closed set, and every closed set that has the root has them
use Prim.Native.Nat.{ℕ, zero, suc, ◌+◌, ◌≤◌, ◌<◌}
use native.Mathlib.Nat.{le_of_lt, le_of_suc-le-suc}
use native.Mathlib.Omega.{arith}
use mathlib.Core.Path.{◌≡◌, refl, sym, ap, ap₂, subst, ◌∙◌}
use mathlib.Core.Logic.{◌≢◌, ◌⊎◌}
use mathlib.Core.Bool.{Bool, true, cond}
use mathlib.Core.List.{List, [], ◌∷◌, map}
use lib.Dec.{eqb}
use lib.ListN.{length, get_or}
use borrow.Author.Tests.{eq-eqb, ne_eqb}
use Rattle.model.specs.Numbers.{is_permutation}
use Rattle.model.specs.Map.{Plan, darts, opposite, next, vertex_of, dart_count_fits}
use Rattle.model.specs.Traversal.{Letter, down, up, first, second, onward, Visit, walk, visits, word}
use Rattle.model.proofs.Fitness.{count_even}
use Rattle.orbits.specs.Permutation.{Perm}
use Rattle.orbits.specs.Chord.{Involution}
use Rattle.orbits.proofs.Maps.{next_perm, opposite_inv}
use Rattle.orbits.proofs.Order.{tri}
use Rattle.words.specs.Toured.{darts_met, dart_at, letter_of}
use Rattle.traversal.specs.Reach.{Closed}
use Rattle.traversal.specs.Steps.{at, start, step, letter, dart, letter_after, seen_mark}
use Rattle.traversal.specs.Walked.{Ruled, Among, Walked}
use Rattle.traversal.proofs.Steps.{case, down_case, first_case, dart_step, dart_bound, seen_here, seen_some}
use Rattle.traversal.proofs.Round.{Round, round, different, met_across, met_turn, pair}

-- ---- the visits of steps i to i + m

unfoldable trace : List ℕ → ℕ → ℕ → ℕ → List Visit
trace rot r i zero = []
trace rot r i (suc m) = record { dart = dart rot r i; letter = letter_after rot r i } ∷ trace rot r (suc i) m

module _ (rot : List ℕ) (r : ℕ) where
  length_trace : (m i : ℕ) → length (trace rot r i m) ≡ m
  unfolding trace
  length_trace zero i = refl
  length_trace (suc m) i = ap suc (length_trace m (suc i))

  dart_trace : (m i j : ℕ) → j < m → get_or (map (λ (v : Visit). v.dart) (trace rot r i m)) j 0 ≡ dart rot r (i + j)
  unfolding trace
  dart_trace zero i j h = absurd (omega arith)
  dart_trace (suc m) i zero h = ap (dart rot r) (omega arith)
  dart_trace (suc m) i (suc j) h = dart_trace m (suc i) j (le_of_suc-le-suc h) ∙ ap (dart rot r) (omega arith)

  letter_trace : (m i j : ℕ) → j < m → get_or (map (λ (v : Visit). v.letter) (trace rot r i m)) j second ≡ letter_after rot r (i + j)
  unfolding trace
  letter_trace zero i j h = absurd (omega arith)
  letter_trace (suc m) i zero h = ap (letter_after rot r) (omega arith)
  letter_trace (suc m) i (suc j) h = letter_trace m (suc i) j (le_of_suc-le-suc h) ∙ ap (letter_after rot r) (omega arith)

  abbrev rest : ℕ → ℕ → List Visit
  rest n i = walk rot r n (at rot r i).dart (at rot r i).met (at rot r i).seen

  abbrev visit : ℕ → Visit
  visit i = record { dart = dart rot r i; letter = letter_after rot r i }

  rest_step : (n i : ℕ) → rest (suc n) i ≡ visit i ∷ cond (eqb (dart rot r (suc i)) r) [] (rest n (suc i))
  unfolding walk at step letter dart letter_after
  rest_step n i = refl

  -- with fuel enough `walk` goes on to the return after step `last`
  walk_trace : (last : ℕ) → dart rot r (suc last) ≡ r → ((j : ℕ) → 0 < j → j < suc last → dart rot r j ≢ r)
      → (m n i : ℕ) → m < n → i + m ≡ last → rest n i ≡ trace rot r i (suc m)
  unfolding trace
  walk_trace last returns away m zero i h e = absurd (omega arith)
  walk_trace last returns away zero (suc n) i h e =
      let here : i ≡ last = omega arith in
      let end : dart rot r (suc i) ≡ r = ap (λ (j : ℕ). dart rot r (suc j)) here ∙ returns in
      rest_step n i ∙ ap (λ (b : Bool). visit i ∷ cond b [] (rest n (suc i))) (eq-eqb (dart rot r (suc i)) r end)
  walk_trace last returns away (suc m) (suc n) i h e =
      let on : dart rot r (suc i) ≢ r = away (suc i) (omega arith) (omega arith) in
      rest_step n i ∙ ap (λ (b : Bool). visit i ∷ cond b [] (rest n (suc i))) (ne_eqb (dart rot r (suc i)) r on)
      ∙ ap (λ (vs : List Visit). visit i ∷ vs) (walk_trace last returns away m n (suc i) (le_of_suc-le-suc h) (omega arith))

-- ---- positions

module _ (p : Plan) (turn : Perm (darts p) (next p.rotation)) (cross : Involution (darts p) opposite) (hr : p.root < darts p) where
  abbrev rot : List ℕ
  rot = p.rotation

  abbrev r : ℕ
  r = p.root

  o : Round rot r turn cross hr
  o = round rot r turn cross hr

  abbrev n : ℕ
  n = suc o.last

  visits_trace : visits p ≡ trace rot r 0 n
  unfolding visits at start
  visits_trace = walk_trace rot r o.last o.returns o.away o.last (darts p) 0 o.fits (omega arith)

  size : length (visits p) ≡ n
  size = ap length visits_trace ∙ length_trace rot r n 0

  dart_is : (i : ℕ) → i < n → dart_at p i ≡ dart rot r i
  unfolding dart_at darts_met
  dart_is i h =
      ap (λ (vs : List Visit). get_or (map (λ (v : Visit). v.dart) vs) i 0) visits_trace ∙ dart_trace rot r n 0 i h
      ∙ ap (dart rot r) (omega arith)

  letter_is : (i : ℕ) → i < n → letter_of p i ≡ letter_after rot r i
  unfolding letter_of word
  letter_is i h =
      ap (λ (vs : List Visit). get_or (map (λ (v : Visit). v.letter) vs) i second) visits_trace ∙ letter_trace rot r n 0 i h
      ∙ ap (letter_after rot r) (omega arith)

  -- a dart met within the round is met
  among : (x : ℕ) → (j : ℕ) × (j < n) × (dart rot r j ≡ x) → Among p x
  among x (j, h, e) = (j, subst (λ (k : ℕ). j < k) (sym size) h, dart_is j h ∙ e)

  met : (x : ℕ) → Among p x → (j : ℕ) × (j < n) × (dart rot r j ≡ x)
  met x (j, h, e) = let b : j < n = subst (λ (k : ℕ). j < k) size h in (j, b, sym (dart_is j b) ∙ e)

  within : (i : ℕ) → i < length (visits p) → i < n
  within i h = subst (λ (k : ℕ). i < k) size h

  turn_on : (x : ℕ) → Among p x → Among p (next rot x)
  turn_on x a =
      let (j, h, e) = met x a in
      among (next rot x) (subst (λ (y : ℕ). (i : ℕ) × (i < n) × (dart rot r i ≡ next rot y)) e (met_turn rot r turn cross hr o j h))

  step_on : (i : ℕ) → i < n → onward rot (letter_of p i) (dart_at p i) ≡ dart rot r (suc i)
  step_on i h = ap₂ (λ (a : Letter) (d : ℕ). onward rot a d) (letter_is i h) (dart_is i h) ∙ sym (dart_step rot r i)

  paired : (i j : ℕ) → i < j → j < n → dart_at p j ≡ opposite (dart_at p i)
      → ((letter_of p i ≡ down) × (letter_of p j ≡ up)) ⊎ ((letter_of p i ≡ first) × (letter_of p j ≡ second))
  paired i j h hj e =
      rw (letter_is i (omega arith), letter_is j hj)
      (pair rot r turn cross hr o i j h hj (sym (dart_is j hj) ∙ e ∙ ap opposite (dart_is i (omega arith))))

  new_vertex : (i : ℕ) → i < n → letter_of p i ≡ down → (j : ℕ) → j ≤ i → vertex_of rot (dart_at p j) ≢ vertex_of rot (opposite (dart_at p i))
  unfolding seen_mark
  new_vertex i h d j hj e =
      let s = (down_case (case rot r i) (sym (letter_is i h) ∙ d)).1 in
      let one : vertex_of rot (dart rot r j) ≡ vertex_of rot (opposite (dart rot r i)) =
      ap (vertex_of rot) (sym (dart_is j (omega arith))) ∙ e ∙ ap (λ (x : ℕ). vertex_of rot (opposite x)) (dart_is i h) in
      seen_here rot r turn cross hr i j hj (ap (λ (v : ℕ). get_or (at rot r i).seen v 0) one ∙ s)

  old_vertex : (i : ℕ) → i < n → letter_of p i ≡ first → (j : ℕ) × (j ≤ i) × (vertex_of rot (dart_at p j) ≡ vertex_of rot (opposite (dart_at p i)))
  old_vertex i h d =
      let s = (first_case (case rot r i) (sym (letter_is i h) ∙ d)).1 in
      let (j, hj, e) = seen_some rot r turn cross hr i (opposite (dart rot r i)) s in
      (j, hj, ap (vertex_of rot) (dart_is j (omega arith)) ∙ e ∙ ap (λ (x : ℕ). vertex_of rot (opposite x)) (sym (dart_is i h)))

  root_first : dart_at p 0 ≡ r
  unfolding dart at start
  root_first = dart_is 0 (omega arith)

  rules : Ruled rot r (length (visits p)) (dart_at p) (letter_of p)
  rules = record {
    some_met = omega (arith, size);
    different = λ i j hi hj e.
        different rot r turn cross hr o i j (within i hi) (within j hj) (sym (dart_is i (within i hi)) ∙ e ∙ dart_is j (within j hj));
    starts = root_first;
    step = λ i h. let b : suc i < n = within (suc i) h in dart_is (suc i) b ∙ sym (step_on i (le_of_lt b));
    closes = λ i e. let last : suc i ≡ n = e ∙ size in step_on i (omega arith) ∙ ap (dart rot r) last ∙ o.returns;
    across = λ i h. among (opposite (dart_at p i)) (rw (dart_is i (within i h)) (met_across rot r turn cross hr o i (within i h)));
    pair = λ i j h hj e. paired i j h (within j hj) e;
    new = λ i h. new_vertex i (within i h);
    old = λ i h. old_vertex i (within i h);
  }

  walked_perm : Walked p
  walked_perm = record {
    ruled = rules;
    few_met = omega (arith, size, o.fits);
    dart_bound = λ i h. subst (λ (d : ℕ). d < darts p) (sym (dart_is i (within i h))) (dart_bound rot r turn cross hr i);
    turn = turn_on;
  }

-- ---- any plan that passes the tests on its darts, its root and its entries

module _ (p : Plan) (fits : dart_count_fits (darts p) ≡ true) (hr : p.root < darts p) (good : is_permutation p.rotation ≡ true) where
  turn : Perm (darts p) (next p.rotation)
  turn = next_perm p.rotation good

  cross : Involution (darts p) opposite
  cross = opposite_inv (darts p) (count_even (darts p) fits)

  pub walked : Walked p
  walked = walked_perm p turn cross hr

  abbrev once : Round p.rotation p.root turn cross hr
  once = o p turn cross hr

  pub walk_dart : (i : ℕ) → i < length (visits p) → dart_at p i ≡ dart p.rotation p.root i
  walk_dart i h = dart_is p turn cross hr i (within p turn cross hr i h)

  pub walk_letter : (i : ℕ) → i < length (visits p) → letter_of p i ≡ letter_after p.rotation p.root i
  walk_letter i h = letter_is p turn cross hr i (within p turn cross hr i h)

  pub walk_back : (k : ℕ) → 0 < k → dart p.rotation p.root k ≡ p.root
      → ((j : ℕ) → 0 < j → j < k → dart p.rotation p.root j ≢ p.root) → length (visits p) ≡ k
  walk_back k some back away =
      size p turn cross hr ∙ tri (suc once.last) k
      (λ l. absurd (away (suc once.last) (omega arith) l once.returns))
      (λ e. e)
      (λ g. absurd (once.away k some g back))

  pub walk_closed : Closed p.rotation (Among p)
  walk_closed = record {
    across = λ d h (i, hi, e). let (j, hj, f) = walked.ruled.across i hi in (j, hj, f ∙ ap opposite e);
    turn = λ d h a. walked.turn d a;
  }

  -- ---- the least closed set that has the root

  on_in : (S : ℕ → Type 0) → Closed p.rotation S → (a : Letter) (d : ℕ) → d < darts p → S d → S (onward p.rotation a d)
  unfolding onward
  on_in S c down d h s = c.turn (opposite d) (cross.bound d h) (c.across d h s)
  on_in S c up d h s = c.turn (opposite d) (cross.bound d h) (c.across d h s)
  on_in S c first d h s = c.turn d h s
  on_in S c second d h s = c.turn d h s

  visit_in : (S : ℕ → Type 0) → Closed p.rotation S → S p.root → (i : ℕ) → i < length (visits p) → S (dart_at p i)
  visit_in S c s zero h = subst S (sym walked.ruled.starts) s
  visit_in S c s (suc i) h =
      subst S (sym (walked.ruled.step i h))
      (on_in S c (letter_of p i) (dart_at p i) (walked.dart_bound i (le_of_lt h)) (visit_in S c s i (le_of_lt h)))

  pub walk_least : (S : ℕ → Type 0) → Closed p.rotation S → S p.root → (x : ℕ) → Among p x → S x
  walk_least S c s x (i, h, e) = subst S e (visit_in S c s i h)
