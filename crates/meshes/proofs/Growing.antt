-- A plan that is fit for kind 2, whose vertices have three darts and whose edges have two faces, has the word of a good tree.
--
--   after_flat, after_tree   the next place about a vertex
--   second_late       a second stands after the first place of its node, and its edge begins between them
--   Places a j, places   the node that is entered at a has its second place at j; it has one
--   not_up            an up stands at none of a node's places but that of its arrival dart
--   node, grow        the letters from a down to its up are those of a good tree (lemma 4.1: no other node type comes)
--   grown             the whole word is that of a good tree with two open edges
use Prim.Native.Nat.{ℕ, zero, suc, ◌+◌, ◌≤◌, ◌<◌}
use native.Mathlib.Nat.{le_of_lt}
use native.Mathlib.Omega.{arith}
use mathlib.Core.Path.{◌≡◌, refl, sym, ap, subst, ◌∙◌}
use mathlib.Core.Logic.{◌⊎◌, inl, inr, ⊎_elim, ◌≢◌}
use mathlib.Core.Bool.{true, false, true≢false}
use mathlib.Core.List.{List, [], ◌∷◌, ◌++◌}
use lib.ListN.{length, drop, length-append}
use borrow.Author.Tests.{le-leb}
use Rattle.model.specs.Map.{Plan, darts, opposite, next, vertex_of, face_of, fit}
use Rattle.model.specs.Traversal.{Letter, down, up, first, second, opens, word}
use Rattle.model.proofs.Booleans.{both}
use Rattle.model.proofs.Fitness.{Fit, fit_parts, count_positive}
use Rattle.orbits.specs.Stack.{stack}
use Rattle.orbits.specs.Chord as chord
use Rattle.orbits.proofs.Order.{lt_or_le, tri}
use Rattle.orbits.proofs.Chord.{next_cases}
use Rattle.orbits.proofs.Maps.{next_perm, vertex_turn}
use Rattle.words.specs.Toured.{Toured, dart_at, letter_of, pos_of, mate_of, is_tree}
use Rattle.words.specs.Entered.{entered_at}
use Rattle.words.proofs.Letters.{apart}
use Rattle.words.proofs.Positions.{mate_dart, mate_bound, mate_back, mate_letter, mate_before, word_left, word_end}
use Rattle.planarity.proofs.SameVertex.{same_vertex}
use Rattle.fit_plans.proofs.FitPlans.{fit_toured, fit_descends}
use Rattle.node_types.specs.Tree.{Tree, fork, free, late, soon, tips, letters, whole, net, good}
use Rattle.node_types.proofs.Trees.{net_positive}
use Rattle.meshes.proofs.Fits.{no_loop}
use Rattle.meshes.proofs.OpenEdges.{open_chords, after_second, chords_end, In, open_chord, chord_open}
use Rattle.meshes.proofs.Turns.{turn_flat, turn_tree, enters_start, enters_down, enters_arrival, enters_before}
use Rattle.meshes.proofs.Blocks.{offspring, turn_up, block}
use Rattle.meshes.proofs.Faces.{closed_joined}

empty : (xs : List ℕ) → length xs ≡ 0 → xs ≡ []
empty [] e = refl
empty (x ∷ xs) e = absurd (omega arith)

module _ (q : Plan) (fits : fit 2 q ≡ true) where
  abbrev N : ℕ
  N = darts q

  abbrev toured : Toured q
  toured = fit_toured 2 q fits

  abbrev parts : Fit 2 q
  parts = fit_parts 2 q fits

  abbrev ℓ : ℕ → Letter
  ℓ = letter_of q

  abbrev m : ℕ → ℕ
  m = mate_of q

  abbrev x : ℕ → ℕ
  x = dart_at q

  abbrev w : List Letter
  w = word q

  abbrev σ : ℕ → ℕ
  σ = next q.rotation

  left : (i : ℕ) (l : Letter) → i < N → ℓ i ≡ l → drop i w ≡ l ∷ drop (suc i) w
  left i l h e = word_left q toured i h ∙ ap (λ (c : Letter). c ∷ drop (suc i) w) e

  -- ---- the next place about a vertex

  -- it comes where the step of the walk says, unless that is the first position
  further : (i j : ℕ) → i < N → j < N → σ (x i) ≡ x j → pos_of q (σ (x i)) ≡ j
  further i j hi hj s = ap (pos_of q) s ∙ toured.pos_dart j hj

  pub after_flat : (i j : ℕ) → i < darts q → j < darts q → next q.rotation (dart_at q i) ≡ dart_at q j → is_tree (letter_of q i) ≡ false
      → (j ≡ suc i) ⊎ ((j ≡ 0) × (suc i ≡ darts q))
  after_flat i j hi hj s e =
      let p : j ≡ chord.next N i = sym (further i j hi hj s) ∙ turn_flat q fits i hi e in
      ⊎_elim (λ c. inl (p ∙ c.1)) (λ c. inr (p ∙ c.1, c.0)) (next_cases N i hi)

  pub after_tree : (i j : ℕ) → i < darts q → j < darts q → next q.rotation (dart_at q i) ≡ dart_at q j → is_tree (letter_of q i) ≡ true
      → (j ≡ suc (mate_of q i)) ⊎ ((j ≡ 0) × (suc (mate_of q i) ≡ darts q))
  after_tree i j hi hj s e =
      let p : j ≡ chord.next N (m i) = sym (further i j hi hj s) ∙ turn_tree q fits i hi e in
      ⊎_elim (λ c. inl (p ∙ c.1)) (λ c. inr (p ∙ c.1, c.0)) (next_cases N (m i) (mate_bound q toured parts.count i hi))

  not_first_place : {A : Type 0} (j : ℕ) → j ≢ 0 → {k : ℕ} → (j ≡ k) ⊎ ((j ≡ 0) × A) → j ≡ k
  not_first_place j n (inl e) = e
  not_first_place j n (inr c) = absurd (n c.0)

  place : (i : ℕ) → i < N → (j : ℕ) × (j < N) × (σ (x i) ≡ x j) × (entered_at q j ≡ entered_at q i)
  place i h =
      let turn = next_perm q.rotation parts.entries in
      let hd = toured.dart_bound i h in
      let hs = turn.bound (x i) hd in
      let j = pos_of q (σ (x i)) in
      let s = toured.dart_pos (σ (x i)) hs in (
        j,
        toured.pos_bound (σ (x i)) hs,
        sym s,
        same_vertex q toured parts.count parts.entries j i (toured.pos_bound (σ (x i)) hs) h
            (ap (vertex_of q.rotation) s ∙ vertex_turn q.rotation turn (x i) hd),
      )

  -- an up stands at the place of the arrival dart
  up_entered : (k : ℕ) → k < N → ℓ k ≡ up → entered_at q k ≡ suc (m k)
  up_entered k h e =
      ap (entered_at q) (sym (mate_back q toured parts.count k h))
      ∙ enters_arrival q fits (m k) (mate_bound q toured parts.count k h) (mate_letter q toured k h up e)

  -- a second ends an edge that began in a vertex entered later, so not before that vertex's first place
  pub second_late : (k : ℕ) → k < darts q → letter_of q k ≡ second → (entered_at q k < mate_of q k) × (mate_of q k < k)
  second_late k h e =
      let d = fit_descends 2 q fits (no_loop q fits) k h e in
      let l = enters_before q fits (m k) (le_of_lt (mate_bound q toured parts.count k h)) in
      (omega arith, mate_before q toured parts.count k h (ap opens e))

  -- where the same edges are open before a down and after its up, those between do not leave
  closed_under : (a : ℕ) → a < N → ℓ a ≡ down → open_chords q (suc (m a)) ≡ open_chords q a
      → (z : ℕ) → a < z → z < m a → is_tree (ℓ z) ≡ false → (a < m z) × (m z < m a)
  closed_under a h d same z l u = go (ℓ z) refl
    where
      hb : m a < N
      hb = mate_bound q toured parts.count a h

      hz : z < N
      hz = omega (arith, hb)

      go : (c : Letter) → ℓ z ≡ c → is_tree c ≡ false → (a < m z) × (m z < m a)
      go down e f = absurd (true≢false f)
      go up e f = absurd (true≢false f)
      go first e f =
          let o = toured.opens_first z hz (ap opens e) in (
            omega arith,
            tri (m z) (m a)
                (λ k. k)
                (λ k. absurd (let y = apart (ℓ (m z)) (mate_letter q toured z hz first e) (ap ℓ k ∙ mate_letter q toured a h down d) in omega arith))
                (λ k. absurd (let y = (open_chord q fits a z (le_of_lt h) (subst (In z) same (chord_open q fits (suc (m a)) z hb (omega arith) e k))).0 in omega arith)),
          )
      go second e f =
          let o = mate_before q toured parts.count z hz (ap opens e) in
          let back = mate_back q toured parts.count z hz in
          let s = mate_letter q toured z hz second e in (
            tri a (m z)
                (λ k. k)
                (λ k. absurd (let y = apart (ℓ a) d (ap ℓ k ∙ s) in omega arith))
                (λ k. absurd (
                let y = (open_chord q fits (suc (m a)) (m z) hb (subst (In (m z)) (sym same) (chord_open q fits a (m z) (le_of_lt h) k s (omega arith)))).2 in
                omega arith)),
            omega arith,
          )

  module _ (three : (d : ℕ) → d < darts q → next q.rotation (next q.rotation (next q.rotation d)) ≡ d)
      (alone : (d : ℕ) → d < darts q → next q.rotation d ≢ d)
      (two_faced : (d : ℕ) → d < darts q → face_of q.rotation d ≢ face_of q.rotation (opposite d)) where
    -- ---- an edge leads out of every subtree

    leaves : (t : Tree) (a : ℕ) → good t ≡ true → a < N → ℓ a ≡ down → drop a w ≡ letters (free t) (drop (suc (m a)) w) → 2 ≤ net t
    unfolding net
    leaves t a g h d e = lt_or_le (net t) 2 (λ l. absurd (go l)) (λ l. l)
      where
        go : net t < 2 → ⊥
        go l =
            let b = block q fits (free t) g a (drop (suc (m a)) w) e in
            let p = net_positive t g in
            let many = b.many in
            let none : b.news ≡ [] = empty b.news (omega arith) in
            let same : open_chords q (suc b.end) ≡ open_chords q a = b.chords ∙ ap (λ (s : List ℕ). s ++ open_chords q a) none in
            let ends = b.ends in
            let inside = b.inside in
            let closed = closed_under a h d (ap (λ (i : ℕ). open_chords q (suc i)) ends ∙ same) in
            two_faced (x a) (toured.dart_bound a h)
            (sym (closed_joined q fits a h d closed) ∙ ap (face_of q.rotation) (mate_dart q toured parts.count a h))

    -- ---- a node

    -- the places of the node that is entered at a: suc a, j and that of the arrival dart
    pub record Places (a j : ℕ) : Type 0 where
      pub inside : (suc a < darts q) × (j < darts q)
      pub turn₁ : next q.rotation (dart_at q (suc a)) ≡ dart_at q j
      pub turn₂ : next q.rotation (dart_at q j) ≡ dart_at q (mate_of q a)
      pub entered₁ : entered_at q (suc a) ≡ suc a
      pub entered₂ : entered_at q j ≡ suc a
      pub other₁ : suc a ≢ mate_of q a
      pub other₂ : j ≢ mate_of q a

    pub places : (a : ℕ) → a < darts q → letter_of q a ≡ down → (j : ℕ) × Places a j
    places a h e =
        let b = m a in
        let hb = mate_bound q toured parts.count a h in
        let l = toured.opens_first a h (ap opens e) in
        let hi : suc a < N = omega arith in
        let (j, hj, s, n) = place (suc a) hi in
        let t₀ = turn_up q fits a b h e refl in
        let hd = toured.dart_bound b hb in
        let back : σ (x j) ≡ x b = ap σ (sym s) ∙ ap (λ (d : ℕ). σ (σ d)) (sym t₀) ∙ three (x b) hd in
        let n₁ = enters_down q fits a e in (
          j,
          record {
            inside = (hi, hj);
            turn₁ = s;
            turn₂ = back;
            entered₁ = n₁;
            entered₂ = n ∙ n₁;
            other₁ = λ k. alone (x b) hd (t₀ ∙ ap x k);
            other₂ = λ k. alone (x b) hd (ap σ (ap x (sym k)) ∙ back);
          },
        )

    pub not_up : (a k : ℕ) → a < darts q → k < darts q → entered_at q k ≡ suc a → k ≢ mate_of q a → letter_of q k ≢ up
    not_up a k ha h n o e =
        let s = up_entered k h e in
        let z : m k ≡ a = omega arith in
        o (sym (mate_back q toured parts.count k h) ∙ ap m z)

    -- ---- trees

    abbrev Grown : ℕ → Type 0
    Grown a = (t : Tree) × (good t ≡ true) × (drop a w ≡ letters t (drop (suc (m a)) w))

    node : (a j : ℕ) → a < N → ℓ a ≡ down → Places a j → ((c : ℕ) → a < c → c < N → ℓ c ≡ down → Grown c) → Grown a
    unfolding letters good
    node a j h e p ih = go (ℓ (suc a)) (ℓ j) refl refl
      where
        b : ℕ
        b = m a

        hb : b < N
        hb = mate_bound q toured parts.count a h

        before : a < b
        before = toured.opens_first a h (ap opens e)

        hi : suc a < N
        hi = p.inside.0

        hj : j < N
        hj = p.inside.1

        j_later : j ≢ 0
        j_later z =
            let n = p.entered₂ in
            let s = ap (entered_at q) z ∙ enters_start q fits in
            omega arith

        b_later : b ≢ 0
        b_later z = omega (arith, before)

        begins : (v : List Letter) → drop (suc a) w ≡ v → drop a w ≡ down ∷ v
        begins v s = left a down h e ∙ ap (λ (u : List Letter). down ∷ u) s

        finish : (k : ℕ) → b ≡ k → drop k w ≡ up ∷ drop (suc b) w
        finish k s = ap (λ (i : ℕ). drop i w) (sym s) ∙ left b up hb (mate_letter q toured a h down e)

        second_place_lem : ℓ (suc a) ≡ down → j ≡ suc (m (suc a))
        second_place_lem d = not_first_place j j_later (after_tree (suc a) j hi hj p.turn₁ (ap is_tree d))

        next_place : is_tree (ℓ (suc a)) ≡ false → j ≡ suc (suc a)
        next_place f = not_first_place j j_later (after_flat (suc a) j hi hj p.turn₁ f)

        end_tree : ℓ j ≡ down → b ≡ suc (m j)
        end_tree d = not_first_place b b_later (after_tree j b hj hb p.turn₂ (ap is_tree d))

        end_flat : is_tree (ℓ j) ≡ false → b ≡ suc j
        end_flat f = not_first_place b b_later (after_flat j b hj hb p.turn₂ f)

        later : ℓ (suc a) ≡ down → a < j
        later d = omega (arith, second_place_lem d, toured.opens_first (suc a) hi (ap opens d))

        -- the letter l at j, then the up
        flat_end : (l : Letter) → ℓ j ≡ l → is_tree l ≡ false → drop j w ≡ l ∷ up ∷ drop (suc b) w
        flat_end l d f = left j l hj d ∙ ap (λ (u : List Letter). l ∷ u) (finish (suc j) (end_flat (ap is_tree d ∙ f)))

        -- a tree at suc a, then what comes from j on
        tree_first : (d : ℓ (suc a) ≡ down) (v : List Letter) → drop j w ≡ v
            → (t : Tree) × (good t ≡ true) × (drop (suc a) w ≡ letters t v)
        tree_first d v s =
            let (t, g, r) = ih (suc a) (omega arith) hi d in
            (t, g, r ∙ ap (letters t) (ap (λ (i : ℕ). drop i w) (sym (second_place_lem d)) ∙ s))

        -- a tree at j, then the up
        tree_second : ℓ j ≡ down → a < j → (t : Tree) × (good t ≡ true) × (drop j w ≡ letters t (up ∷ drop (suc b) w))
        tree_second d l =
            let (t, g, r) = ih j l hj d in
            (t, g, r ∙ ap (letters t) (finish (suc (m j)) (end_tree d)))

        leaf_first : ℓ (suc a) ≡ first → (v : List Letter) → drop j w ≡ v → drop a w ≡ down ∷ first ∷ v
        leaf_first d v s = begins (first ∷ v) (left (suc a) first hi d
            ∙ ap (λ (u : List Letter). first ∷ u) (ap (λ (i : ℕ). drop i w) (sym (next_place (ap is_tree d))) ∙ s))

        go : (c d : Letter) → ℓ (suc a) ≡ c → ℓ j ≡ d → Grown a
        go down down c d =
            let (y, g, r) = tree_second d (later c) in
            let (t, f, s) = tree_first c _ r in
            (fork t y, both f g, begins _ s)
        go down second c d =
            let (t, f, s) = tree_first c _ (flat_end second d refl) in
            let r : drop a w ≡ letters (free t) (drop (suc b) w) = begins _ s in
            (free t, both (le-leb 2 (net t) (leaves t a f h e r)) f, r)
        go down first c d = let (t, f, s) = tree_first c _ (flat_end first d refl) in (late t, f, begins _ s)
        go down up c d = absurd (not_up a j h hj p.entered₂ p.other₂ d)
        go first down c d =
            let (y, g, r) = tree_second d (omega (arith, next_place (ap is_tree c))) in (soon y, g, leaf_first c _ r)
        go first second c d =
            let (u, v) = second_late j hj d in
            absurd (omega (arith, next_place (ap is_tree c), p.entered₂))
        go first first c d = (tips, refl, leaf_first c _ (flat_end first d refl))
        go first up c d = absurd (not_up a j h hj p.entered₂ p.other₂ d)
        go second d c f = let (u, v) = second_late (suc a) hi c in absurd (omega (arith, p.entered₁))
        go up d c f = absurd (not_up a (suc a) h hi p.entered₁ p.other₁ c)

    grow : (n a : ℕ) → N ≤ a + n → a < N → ℓ a ≡ down → Grown a
    grow zero a l h e = absurd (omega arith)
    grow (suc n) a l h e = let (j, p) = places a h e in node a j h e p (λ c k hc d. grow n c (omega arith) hc d)

    -- ---- the start node

    abbrev height : ℕ → ℕ
    height i = length (open_chords q i)

    height_tree : (t : Tree) → good t ≡ true → (a : ℕ) → drop a w ≡ letters t (drop (suc (m a)) w) → height (suc (m a)) ≡ net t + height a
    height_tree t g a e =
        let b = block q fits t (offspring t g) a (drop (suc (m a)) w) e in
        ap (λ (i : ℕ). height (suc i)) b.ends ∙ ap length b.chords ∙ length-append b.news (open_chords q a)
        ∙ ap (λ (n : ℕ). n + height a) b.many

    height_second : (i : ℕ) → i < N → ℓ i ≡ second → height i ≡ suc (height (suc i))
    height_second i h e = ap length (after_second q fits i h e).1

    height_start : height 0 ≡ 0
    unfolding stack
    height_start = refl

    height_end : (i : ℕ) → i ≡ N → height i ≡ 0
    height_end i e = ap height e ∙ ap length (chords_end q fits)

    -- at the start node edges begin by down and end by second alone
    root_letter : (i : ℕ) → i < N → entered_at q i ≡ 0 → (ℓ i ≡ down) ⊎ (ℓ i ≡ second)
    root_letter i h n = go (ℓ i) refl
      where
        go : (l : Letter) → ℓ i ≡ l → (ℓ i ≡ down) ⊎ (ℓ i ≡ second)
        go down e = inl e
        go up e = absurd (omega (arith, up_entered i h e))
        go first e =
            let hm = mate_bound q toured parts.count i h in
            let d = fit_descends 2 q fits (no_loop q fits) (m i) hm (mate_letter q toured i h first e) in
            let s = ap (entered_at q) (mate_back q toured parts.count i h) in
            absurd (omega arith)
        go second e = inr e

    -- back at the start node's first place is the end of the word
    round : (k n : ℕ) → (0 ≡ suc n) ⊎ ((◌≡◌ {A = ℕ} 0 0) × (suc n ≡ k)) → suc n ≡ k
    round k n (inl e) = absurd (omega arith)
    round k n (inr c) = c.1

    abbrev Whole : Type 0
    Whole = (t : Tree) × (good t ≡ true) × (net t ≡ 2) × (word q ≡ whole t)

    pub grown : Whole
    unfolding whole
    grown = go₀ (root_letter 0 h₀ n₀)
      where
        h₀ : 0 < N
        h₀ = count_positive N parts.count

        n₀ : entered_at q 0 ≡ 0
        n₀ = enters_start q fits

        d₀ : x 0 < N
        d₀ = toured.dart_bound 0 h₀

        P : (j : ℕ) × (j < N) × (σ (x 0) ≡ x j) × (entered_at q j ≡ entered_at q 0)
        P = place 0 h₀

        j : ℕ
        j = P.0

        Q : (k : ℕ) × (k < N) × (σ (x j) ≡ x k) × (entered_at q k ≡ entered_at q j)
        Q = place j P.1

        k : ℕ
        k = Q.0

        back : σ (x k) ≡ x 0
        back = ap σ (sym Q.2) ∙ ap (λ (d : ℕ). σ (σ d)) (sym P.2) ∙ three (x 0) d₀

        j_later : j ≢ 0
        j_later e = alone (x 0) d₀ (P.2 ∙ ap x e)

        k_later : k ≢ 0
        k_later e = alone (x 0) d₀ (ap σ (ap x (sym e)) ∙ back)

        tree : (i : ℕ) → i < N → ℓ i ≡ down → Grown i
        tree i h e = grow N i (omega arith) h e

        -- the third place
        go₂ : (t : Tree) → good t ≡ true → height j ≡ net t → drop 0 w ≡ letters t (drop j w)
            → ((ℓ j ≡ second) × (k ≡ suc j) × (height j ≡ suc (height k))) ⊎ (2 ≤ height k)
            → (ℓ k ≡ down) ⊎ (ℓ k ≡ second) → Whole
        go₂ t g n s c (inl d) =
            let (y, f, r) = tree k Q.1 d in
            let z = height_end (suc (m k)) (round N (m k) (after_tree k 0 Q.1 h₀ back (ap is_tree d))) in
            let o = height_tree y f k r in
            let p = net_positive y f in
            absurd (omega arith)
        go₂ t g n s (inr l) (inr d) =
            let z = height_end (suc k) (round N k (after_flat k 0 Q.1 h₀ back (ap is_tree d))) in
            let o = height_second k Q.1 d in
            absurd (omega arith)
        go₂ t g n s (inl (e, p, o)) (inr d) =
            let r = round N k (after_flat k 0 Q.1 h₀ back (ap is_tree d)) in
            let z = height_end (suc k) r in
            let u = height_second k Q.1 d in
            let end : drop k w ≡ second ∷ [] = left k second Q.1 d ∙ ap (λ (v : List Letter). second ∷ v) (ap (λ (i : ℕ). drop i w) r ∙ word_end q toured) in (
              t,
              g,
              omega arith,
              s ∙ ap (letters t) (left j second P.1 e ∙ ap (λ (v : List Letter). second ∷ v) (ap (λ (i : ℕ). drop i w) (sym p) ∙ end)),
            )

        -- the second place
        go₁ : (t : Tree) → good t ≡ true → height j ≡ net t → drop 0 w ≡ letters t (drop j w) → (ℓ j ≡ down) ⊎ (ℓ j ≡ second) → Whole
        go₁ t g n s (inl d) =
            let (y, f, r) = tree j P.1 d in
            let e = not_first_place k k_later (after_tree j k P.1 Q.1 Q.2 (ap is_tree d)) in
            let o = ap height e ∙ height_tree y f j r in
            let p = net_positive y f in
            let u = net_positive t g in
            go₂ t g n s (inr (omega arith)) (root_letter k Q.1 (Q.3 ∙ P.3 ∙ n₀))
        go₁ t g n s (inr d) =
            let e = not_first_place k k_later (after_flat j k P.1 Q.1 Q.2 (ap is_tree d)) in
            let o = height_second j P.1 d ∙ ap (λ (i : ℕ). suc (height i)) (sym e) in
            go₂ t g n s (inl (d, e, o)) (root_letter k Q.1 (Q.3 ∙ P.3 ∙ n₀))

        go₀ : (ℓ 0 ≡ down) ⊎ (ℓ 0 ≡ second) → Whole
        go₀ (inl d) =
            let (t, g, s) = tree 0 h₀ d in
            let e = not_first_place j j_later (after_tree 0 j h₀ P.1 P.2 (ap is_tree d)) in
            let o = ap height e ∙ height_tree t g 0 s in
            let z = height_start in
            go₁ t g (omega arith) (s ∙ ap (λ (i : ℕ). letters t (drop i w)) (sym e)) (root_letter j P.1 (P.3 ∙ n₀))
        go₀ (inr d) = let (u, v) = second_late 0 h₀ d in absurd (omega arith)
