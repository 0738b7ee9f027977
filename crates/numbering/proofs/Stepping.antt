-- One step of the walk keeps what `Numbering` says. The opposite of the dart that comes next is told as o.
--
--   over_in, placed, blank, up_range, end_range   what each step requires
--   moved_down, moved_first, moved_up, moved_second   what it comes to
use mathlib.Core.Path.{◌≡◌, refl, sym, ap, ap₂, ◌∙◌, subst}
use mathlib.Core.Bool.{true, false}
use mathlib.Core.List.{List}
use Prim.Native.Nat.{ℕ, suc, ◌+◌, ◌*◌, ◌≤◌, ◌<◌, ◌-◌}
use native.Mathlib.Omega.{arith}
use lib.ListN.{length, get_or, set, length-set}
use lib.Seq.{get_or-set_other}
use Rattle.model.specs.Numbers.{is_permutation}
use Rattle.model.specs.Map.{opposite, next, vertex_of, dart_count_fits}
use Rattle.model.specs.Traversal.{Letter, down, up, first, second, opens, onward, standard_numbers, standard_rotation}
use Rattle.model.proofs.Fitness.{count_even, count_parts}
use Rattle.orbits.specs.Chord.{Involution}
use Rattle.orbits.proofs.Maps.{next_perm, opposite_inv}
use Rattle.words.specs.Position.{opened}
use Rattle.words.proofs.Opened.{opened_more, opened_stays, opened_few}
use Rattle.traversal.specs.Steps.{dart, letter_after}
use Rattle.traversal.proofs.Steps.{dart_step, dart_bound}
use Rattle.work.specs.Area.{region}
use Rattle.work.proofs.Regions.{region_set_other}
use Rattle.marks.specs.Marks.{Rounded}
use Rattle.tracing.specs.Tracing.{from}
use Rattle.tracing.proofs.Places.{mark_at, region_mark, above_at}
use Rattle.numbering.specs.declared.Stand.{Stand}
use Rattle.numbering.specs.Numbering.{source, link_of, Marked, Placed, down_on, WentDown, first_on, first_area, up_on, second_on, end_area, Numbering}
use Rattle.numbering.proofs.Numbers.{begins_number, across_number, Ends, ends, end_number, open_number, link_bound}
use Rattle.numbering.proofs.Entries.{stored}
use Rattle.numbering.proofs.Marking.{tells_down, tells_first, tells_up, tells_second, unmarked, ends_mark, down_marks, first_marks, up_marks, second_marks}

module _ (rot : List ℕ) (r k : ℕ) (w : List ℕ) (s : Stand) (g : Numbering rot r k w s) (here : k < length rot) (o : ℕ) (is : o ≡ opposite s.dart) where
  abbrev n : ℕ
  n = length rot

  abbrev D : ℕ → ℕ
  D = dart rot r

  abbrev ℓ : ℕ → Letter
  ℓ = letter_after rot r

  abbrev num : ℕ → ℕ
  num d = get_or (standard_numbers (from rot r)) d 0

  abbrev std : List ℕ
  std = standard_rotation (from rot r)

  abbrev fits : dart_count_fits n ≡ true
  fits = g.ground.count

  abbrev perm : is_permutation rot ≡ true
  perm = g.ground.perm

  cross : Involution n opposite
  cross = opposite_inv n (count_even n fits)

  few : n ≤ 8192
  few = (count_parts n fits).2

  -- ---- ranges

  dart_in : s.dart < n
  dart_in = subst (λ (x : ℕ). x < n) (sym g.here) (dart_bound rot r (next_perm rot perm) cross g.root_in k)

  pub over_in : o < n
  over_in = subst (λ (x : ℕ). x < n) (sym is) (cross.bound s.dart dart_in)

  edges_few : s.edges < 8192
  edges_few = let e = g.edges in let y = opened_few ℓ k in omega (arith, few)

  pub placed : Placed rot s
  placed = record { dart = dart_in; edges = edges_few; place = g.place_in }

  -- ---- marks

  abbrev marks : List ℕ
  marks = region 0 n w

  abbrev mark : ℕ
  mark = get_or w o 0

  across : opposite (D k) ≡ o
  across = ap opposite (sym g.here) ∙ sym is

  mark_is : get_or marks (opposite (D k)) 0 ≡ mark
  mark_is = ap (λ (x : ℕ). get_or marks x 0) across ∙ mark_at n w o over_in

  told : (P : ℕ → Type 0) → P mark → P (get_or marks (opposite (D k)) 0)
  told P = subst P (sym mark_is)

  pub blank : mark ≡ 0 → (z : ℕ) → z < n → vertex_of rot z ≡ vertex_of rot o → get_or w z 0 ≡ 0
  blank e z h q =
      sym (mark_at n w z h)
      ∙ unmarked rot r fits perm g.root_in g.toured k here marks g.marks (mark_is ∙ e) z h (q ∙ ap (vertex_of rot) (sym across))

  room : 16 * n ≤ length w
  room = g.ground.room

  -- ---- the next state

  abbrev Entered : List ℕ → Type 0
  Entered w' = (j : ℕ) → suc j < suc k → get_or w' (n + link_of rot r j) 0 ≡ get_or std (link_of rot r j) 0

  step_to : (l : Letter) → ℓ k ≡ l → (w' : List ℕ) (t : Stand) → length w' ≡ length w → t.dart ≡ onward rot l (D k) → t.edges ≡ opened ℓ (suc k)
      → t.place ≡ num (source l (D k)) → Marked rot r (suc k) (region 0 n w') → Entered w' → Numbering rot r (suc k) w' t
  unfolding link_of
  step_to l e w' t size to edges place marked entered =
      let link : t.place ≡ num (source (ℓ k) (D k)) = place ∙ ap (λ (a : Letter). num (source a (D k))) (sym e) in
      record {
        ground = record { count = fits; perm = perm; room = omega (arith, room) };
        root_in = g.root_in;
        toured = g.toured;
        here = to ∙ sym (dart_step rot r k ∙ ap (λ (a : Letter). onward rot a (D k)) e);
        edges = edges;
        marks = marked;
        place_in = subst (λ (x : ℕ). x < n) (sym link) (link_bound rot r fits perm g.root_in g.toured k);
        place = λ j q. let same : j ≡ k = omega arith in link ∙ ap (link_of rot r) (sym same);
        entries = entered;
      }

  put_size : (v : ℕ) → length (set w (n + s.place) v) ≡ length w
  put_size v = length-set w (n + s.place) v

  put_marks : (v : ℕ) → region 0 n (set w (n + s.place) v) ≡ marks
  put_marks v = region_set_other 0 n w (n + s.place) v (λ _. omega arith)

  -- the mark of the dart itself, in an area with the same entries
  own_mark : (u : List ℕ) (c : ℕ) → region 0 n (set u s.dart (c + s.edges)) ≡ set (region 0 n u) (D k) (c + opened ℓ k)
  own_mark u c = region_mark n u s.dart (c + s.edges) dart_in ∙ ap₂ (λ (x y : ℕ). set (region 0 n u) x (c + y)) g.here g.edges

  own_entry : (u : List ℕ) (v x : ℕ) → get_or (set u s.dart v) (n + x) 0 ≡ get_or u (n + x) 0
  own_entry u v x = get_or-set_other u s.dart (n + x) v 0 (λ e. omega (arith, dart_in))

  room_left : opened ℓ k < 8192
  room_left = let e = g.edges in omega (arith, edges_few)

  begins : opens (ℓ k) ≡ true → 2 * s.edges ≡ num (D k)
  begins q = ap (λ (e : ℕ). 2 * e) g.edges ∙ sym (begins_number rot r fits perm g.root_in g.toured k here q)

  -- ---- down and first

  down_to : mark ≡ 0 → (w' : List ℕ) → (c : List ℕ) → Rounded rot o 32768 (region 0 n (set w (n + s.place) (2 * s.edges))) (region 0 n c)
      → ((x : ℕ) → n ≤ x → get_or c x 0 ≡ get_or (set w (n + s.place) (2 * s.edges)) x 0) → length c ≡ length w
      → w' ≡ set c s.dart (16384 + s.edges) → Numbering rot r (suc k) w' (down_on rot o s)
  unfolding onward
  down_to none w' c round above size area =
      let e = tells_down rot r fits perm g.root_in g.toured k here marks g.marks (mark_is ∙ none) in
      let v = 2 * s.edges in
      let u : Rounded rot (opposite (D k)) 32768 marks (region 0 n c) =
      subst (λ (x : ℕ). Rounded rot x 32768 marks (region 0 n c)) (sym across) (subst (λ (b : List ℕ). Rounded rot o 32768 b (region 0 n c)) (put_marks v) round) in
      step_to down e w' (down_on rot o s) (ap length area ∙ length-set c s.dart (16384 + s.edges) ∙ size)
      (ap (next rot) (sym across))
      (ap (λ (x : ℕ). x + 1) g.edges ∙ sym (opened_more ℓ k (ap opens e)))
      (ap (λ (x : ℕ). 2 * x + 1) g.edges ∙ sym (across_number rot r fits perm g.root_in g.toured k here (ap opens e)))
      (subst (Marked rot r (suc k)) (sym (ap (region 0 n) area ∙ own_mark c 16384))
      (down_marks rot r fits perm g.root_in g.toured k here marks g.marks (mark_is ∙ none) room_left (region 0 n c) u))
      (λ j h. ap (λ (a : List ℕ). get_or a (n + link_of rot r j) 0) area ∙ own_entry c (16384 + s.edges) (link_of rot r j)
      ∙ above (n + link_of rot r j) (omega arith) ∙ stored rot r k w s g v (begins (ap opens e)) j h)

  pub moved_down : mark ≡ 0 → (t : Stand) (w' : List ℕ) → WentDown rot o s w t w' → Numbering rot r (suc k) w' t
  moved_down none t w' wd = subst (Numbering rot r (suc k) w') (sym wd.stands)
      (down_to none w' wd.circled wd.round.marks (λ x h. above_at n _ _ wd.round.rest x h) (wd.round.kept ∙ put_size (2 * s.edges)) wd.area)

  pub moved_first : 32768 ≤ mark → (t : Stand) (w' : List ℕ) → t ≡ first_on rot s → w' ≡ first_area n s w → Numbering rot r (suc k) w' t
  unfolding onward
  moved_first big t w' stands area =
      let e = tells_first rot r fits perm g.root_in g.toured k here marks g.marks (told (λ m. 32768 ≤ m) big) in
      let v = 2 * s.edges in
      let w₁ = set w (n + s.place) v in
      subst (Numbering rot r (suc k) w') (sym stands)
      (step_to first e w' (first_on rot s) (ap length area ∙ length-set w₁ s.dart (8192 + s.edges) ∙ put_size v)
      (ap (next rot) g.here)
      (ap (λ (x : ℕ). x + 1) g.edges ∙ sym (opened_more ℓ k (ap opens e)))
      (begins (ap opens e))
      (subst (Marked rot r (suc k)) (sym (ap (region 0 n) area ∙ own_mark w₁ 8192 ∙ ap (λ (b : List ℕ). set b (D k) (8192 + opened ℓ k)) (put_marks v)))
      (first_marks rot r fits perm g.root_in g.toured k here marks g.marks (told (λ m. 32768 ≤ m) big) room_left))
      (λ j h. ap (λ (a : List ℕ). get_or a (n + link_of rot r j) 0) area ∙ own_entry w₁ (8192 + s.edges) (link_of rot r j) ∙ stored rot r k w s g v (begins (ap opens e)) j h))

  -- ---- up and second

  -- where an edge ends, with a number f that its mark tells
  end_to : (l : Letter) (e : ℓ k ≡ l) → opens l ≡ false → (f : ℕ) (w' : List ℕ) (t : Stand) → w' ≡ end_area n f s w → 2 * f + 1 ≡ num (D k)
      → t.dart ≡ onward rot l (D k) → t.edges ≡ s.edges → t.place ≡ num (source l (D k)) → Marked rot r (suc k) marks → Numbering rot r (suc k) w' t
  end_to l e q f w' t area value to edges place marked =
      let v = 2 * f + 1 in
      step_to l e w' t (ap length area ∙ put_size v) to (edges ∙ g.edges ∙ sym (opened_stays ℓ k (ap opens e ∙ q))) place
      (subst (Marked rot r (suc k)) (sym (ap (region 0 n) area ∙ put_marks v)) marked)
      (λ j h. ap (λ (a : List ℕ). get_or a (n + link_of rot r j) 0) area ∙ stored rot r k w s g v value j h)

  module _ (lo : 16384 ≤ mark) (hi : mark < 32768) where
    goes_up : ℓ k ≡ up
    goes_up = tells_up rot r fits perm g.root_in g.toured k here marks g.marks (told (λ m. 16384 ≤ m) lo) (told (λ m. m < 32768) hi)

    up_ends : Ends rot r fits perm g.root_in g.toured k up
    up_ends = ends rot r fits perm g.root_in g.toured k here up goes_up refl

    up_edge_lem : mark - 16384 ≡ opened ℓ up_ends.begun
    up_edge_lem = let e = sym mark_is ∙ ends_mark rot r fits perm g.root_in g.toured k here marks g.marks up up_ends refl in omega arith

    pub up_range : mark - 16384 < 8192
    up_range = let l = up_ends.earlier in let y = opened_few ℓ up_ends.begun in omega (arith, up_edge_lem, few)

    pub moved_up : (t : Stand) (w' : List ℕ) → t ≡ up_on rot o (mark - 16384) s → w' ≡ end_area n (mark - 16384) s w → Numbering rot r (suc k) w' t
    unfolding onward
    moved_up t w' stands area = subst (Numbering rot r (suc k) w') (sym stands)
        (end_to up goes_up refl (mark - 16384) w' (up_on rot o (mark - 16384) s) area
        (ap (λ (f : ℕ). 2 * f + 1) up_edge_lem ∙ sym (end_number rot r fits perm g.root_in g.toured k here up up_ends refl))
        (ap (next rot) (sym across)) refl
        (ap (λ (f : ℕ). 2 * f) up_edge_lem ∙ sym (open_number rot r fits perm g.root_in g.toured k here up up_ends refl))
        (up_marks rot r fits perm g.root_in g.toured k here marks g.marks goes_up))

  module _ (lo : 0 < mark) (hi : mark < 16384) where
    goes_second : ℓ k ≡ second
    goes_second = tells_second rot r fits perm g.root_in g.toured k here marks g.marks (told (λ m. 0 < m) lo) (told (λ m. m < 16384) hi)

    second_ends : Ends rot r fits perm g.root_in g.toured k second
    second_ends = ends rot r fits perm g.root_in g.toured k here second goes_second refl

    second_mark : mark ≡ 8192 + opened ℓ second_ends.begun
    second_mark = sym mark_is ∙ ends_mark rot r fits perm g.root_in g.toured k here marks g.marks second second_ends refl

    second_edge : mark - 8192 ≡ opened ℓ second_ends.begun
    second_edge = omega (arith, second_mark)

    pub end_range : (8192 ≤ mark) × (mark - 8192 < 8192)
    end_range = (omega (arith, second_mark), let l = second_ends.earlier in let y = opened_few ℓ second_ends.begun in omega (arith, second_edge, few))

    pub moved_second : (t : Stand) (w' : List ℕ) → t ≡ second_on rot (mark - 8192) s → w' ≡ end_area n (mark - 8192) s w → Numbering rot r (suc k) w' t
    unfolding onward
    moved_second t w' stands area =
        let value : 2 * (mark - 8192) + 1 ≡ num (D k) =
        ap (λ (f : ℕ). 2 * f + 1) second_edge ∙ sym (end_number rot r fits perm g.root_in g.toured k here second second_ends refl) in
        subst (Numbering rot r (suc k) w') (sym stands)
        (end_to second goes_second refl (mark - 8192) w' (second_on rot (mark - 8192) s) area value (ap (next rot) g.here) refl value
        (second_marks rot r fits perm g.root_in g.toured k here marks g.marks goes_second))
