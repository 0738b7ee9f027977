-- A tour whose seconds each find their first on top of the stack is planar: its edges outside the tree match like brackets.
--
--   TopAt p j          if a second stands at j, then the last open edge outside the tree is the one that ends there
--   OnTopTo p n, OnTop p   so it is at each position before n; at all positions
--   on_top_served      then no second before n finds an empty stack
--   stacked_mates      the stack machine joins each position of such an edge to its mate
--   stacked_chords     the edges outside the tree match like brackets
--   stacked_planar, stacked_bracketed   so the plan is planar, and all edges match
--   planar_stacked     and of a planar plan each second finds its first on top
use Prim.Native.Nat.{ℕ, zero, suc, ◌<◌}
use native.Mathlib.Nat.{not-suc-le-zero, le_step}
use native.Mathlib.Omega.{arith}
use mathlib.Core.Path.{◌≡◌, refl, sym, ap, ap₂, subst, ◌∙◌}
use mathlib.Core.Bool.{true, false≢true}
use mathlib.Core.List.{List, [], ◌∷◌}
use Rattle.model.specs.Numbers.{is_permutation}
use Rattle.model.specs.Map.{Plan, darts, planar, dart_count_fits}
use Rattle.model.specs.Traversal.{Letter, down, up, first, second, opens}
use Rattle.orbits.specs.Stack.{Kind, flat, open', close, stack, put, join, matched, Served}
use Rattle.orbits.proofs.Order.{lt_suc_split}
use Rattle.orbits.proofs.Decode.{Held, held, put_same, put_other, close≢open}
use Rattle.words.specs.Toured.{letter_of, mate_of, is_chord, Toured, Brackets, Bracketed}
use Rattle.words.specs.Brackets.{chord_kind, chord_word, chord_stack}
use Rattle.words.proofs.Bracketing.{is_second_lem}
use Rattle.words.proofs.Positions.{mate_bound, mate_back, mate_letter}
use Rattle.words.proofs.OpenEdges.{chord_whole, part_top}
use Rattle.planarity.proofs.Planar.{chords_planar, planar_bracketed}

-- ---- what the stack machine joins to a closing bracket

module _ (K : ℕ → Kind) (j : ℕ) (c : K j ≡ close) where
  join_at : (a : ℕ) (s : List ℕ) → stack K j ≡ a ∷ s → matched K (suc j) j ≡ a
  unfolding matched
  join_at a s e =
      ap₂ (λ (k : Kind) (s : List ℕ). join k j s (matched K j) j) c e ∙ put_same (put (matched K j) a j) j a

  -- a later bracket joins itself and an opening one
  join_past : (i : ℕ) → j < i → (k : Kind) (s : List ℕ) → K i ≡ k → Held K i s (matched K i) → join k i s (matched K i) j ≡ matched K i j
  join_past i l flat s e h = refl
  join_past i l open' s e h = refl
  join_past i l close [] e h = refl
  join_past i l close (a ∷ s) e h =
      put_other (put (matched K i) a i) i a j (λ q. omega arith)
      ∙ put_other (matched K i) a i j (λ q. close≢open (sym c ∙ ap K q ∙ h.wait.0.opens))

  joined : (a : ℕ) (s : List ℕ) → stack K j ≡ a ∷ s → (i : ℕ) → j < i → Served K i → matched K i j ≡ a
  unfolding matched
  joined a s e zero l served = absurd (not-suc-le-zero l)
  joined a s e (suc i) l served =
      let before : Served K i = λ x h. served x (le_step h) in
      lt_suc_split l
      (λ q. subst (λ (n : ℕ). matched K (suc n) j ≡ a) q (join_at a s e))
      (λ h. join_past i h (K i) (stack K i) refl (held K i before) ∙ joined a s e i h before)

-- ---- a tour

abbrev pub TopAt : Plan → ℕ → Type 0
TopAt p j = letter_of p j ≡ second → (s : List ℕ) × (chord_stack (letter_of p) j ≡ mate_of p j ∷ s)

abbrev pub OnTopTo : Plan → ℕ → Type 0
OnTopTo p n = (j : ℕ) → j < n → TopAt p j

abbrev pub OnTop : Plan → Type 0
OnTop p = OnTopTo p (darts p)

-- no closing bracket before n meets an empty stack
pub on_top_served : (p : Plan) (n : ℕ) → OnTopTo p n → Served (chord_word (letter_of p)) n
on_top_served p n tops j h c e =
    let (s, f) = tops j h (is_second_lem (letter_of p j) c) in
    let z : ◌≡◌ {A = ℕ} 0 1 = cc in
    omega arith

module _ (p : Plan) (t : Toured p) (fits : dart_count_fits (darts p) ≡ true) (tops : OnTop p) where
  abbrev K : ℕ → Kind
  K = chord_word (letter_of p)

  served : Served K (darts p)
  served = on_top_served p (darts p) tops

  machine : Held K (darts p) (stack K (darts p)) (matched K (darts p))
  machine = held K (darts p) served

  second_mate : (j : ℕ) → j < darts p → letter_of p j ≡ second → matched K (darts p) j ≡ mate_of p j
  second_mate j h e = let (s, f) = tops j h e in joined K j (ap chord_kind e) (mate_of p j) s f (darts p) h served

  first_mate : (i : ℕ) → i < darts p → letter_of p i ≡ first → matched K (darts p) i ≡ mate_of p i
  first_mate i h e =
      let there = mate_bound p t fits i h in
      let end = second_mate (mate_of p i) there (mate_letter p t i h first e) ∙ mate_back p t fits i h in
      ap (matched K (darts p)) (sym end) ∙ machine.back (mate_of p i) there

  pub stacked_mates : (i : ℕ) → i < darts p → is_chord (letter_of p i) ≡ true → matched K (darts p) i ≡ mate_of p i
  stacked_mates i h c = go (letter_of p i) refl c
    where
      go : (l : Letter) → letter_of p i ≡ l → is_chord l ≡ true → matched K (darts p) i ≡ mate_of p i
      go down e c = absurd (false≢true c)
      go up e c = absurd (false≢true c)
      go first e c = first_mate i h e
      go second e c = second_mate i h e

  pub stacked_chords : Brackets is_chord p
  stacked_chords i x h c l u d =
      let end = mate_bound p t fits i h in
      let e = stacked_mates i h c in
      let f = stacked_mates x (omega arith) d in
      let r = machine.nested i h (omega arith) x l (omega arith) in
      (omega arith, omega arith)

  module _ (perm : is_permutation p.rotation ≡ true) where
    pub stacked_planar : planar p.rotation ≡ true
    stacked_planar = chords_planar p t fits perm stacked_chords

    pub stacked_bracketed : Bracketed p
    stacked_bracketed = planar_bracketed p t fits perm stacked_planar

module _ (p : Plan) (t : Toured p) (fits : dart_count_fits (darts p) ≡ true) (perm : is_permutation p.rotation ≡ true) where
  pub planar_stacked : planar p.rotation ≡ true → OnTop p
  planar_stacked plane j h e =
      (_, part_top is_chord chord_whole p t fits (planar_bracketed p t fits perm plane).chords j h (ap is_chord e) (ap opens e))
