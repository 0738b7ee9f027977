-- The traversal's rules determine it: steps that keep them from one root are the same.
--
--   ruled_size, ruled_same   as many steps, with the same darts and letters
--   ruled_word            so a word whose letters keep the rules is the plan's
--   carried_word          and plans whose darts are carried to one another, root to root, have one word
use Prim.Native.Nat.{ℕ, zero, suc, ◌≤◌, ◌<◌}
use native.Mathlib.Nat.{le_of_lt, le_refl}
use native.Mathlib.Omega.{arith}
use mathlib.Core.Path.{◌≡◌, sym, ap, ap₂, subst, ◌∙◌}
use mathlib.Core.Logic.{◌≢◌, ⊎_elim}
use mathlib.Core.List.{List}
use lib.ListN.{length}
use lib.Seq.{ext_get_or}
use Rattle.model.specs.Map.{Plan, darts, opposite, next, vertex_of}
use Rattle.model.specs.Traversal.{Letter, down, up, first, second, onward, visits, word}
use Rattle.model.proofs.Opposite.{opposite_opposite, opposite_ne}
use Rattle.orbits.proofs.Order.{tri, le_split}
use Rattle.words.specs.Brackets.{letter}
use Rattle.words.specs.Toured.{dart_at, letter_of}
use Rattle.words.proofs.Letters.{apart}
use Rattle.words.proofs.Positions.{length_word}
use Rattle.traversal.specs.Walked.{Ruled, Carries, Walked}

-- ---- what each letter says of the steps up to it

abbrev Unmet : (ℕ → ℕ) → ℕ → Type 0
Unmet x i = (j : ℕ) → j < i → x j ≢ opposite (x i)

data View (rot : List ℕ) (x : ℕ → ℕ) (ℓ : ℕ → Letter) (i : ℕ) : Type 0 where
  goes_down : Unmet x i → ((j : ℕ) → j ≤ i → vertex_of rot (x j) ≢ vertex_of rot (opposite (x i))) → ℓ i ≡ down → View rot x ℓ i
  begins : Unmet x i → (j : ℕ) → j ≤ i → vertex_of rot (x j) ≡ vertex_of rot (opposite (x i)) → ℓ i ≡ first → View rot x ℓ i
  comes_up : (j : ℕ) → j < i → x j ≡ opposite (x i) → ℓ j ≡ down → ℓ i ≡ up → View rot x ℓ i
  ends : (j : ℕ) → j < i → x j ≡ opposite (x i) → ℓ j ≡ first → ℓ i ≡ second → View rot x ℓ i

view : {rot : List ℕ} {root n : ℕ} {x : ℕ → ℕ} {ℓ : ℕ → Letter} → Ruled rot root n x ℓ → (i : ℕ) → i < n → View rot x ℓ i
view {rot} {root} {n} {x} {ℓ} a i h =
    let (j, hj, e) = a.across i h in
    tri j i
    (λ l. ⊎_elim (λ m. comes_up j l e m.0 m.1) (λ m. ends j l e m.0 m.1) (a.pair j i l h (sym (ap opposite e ∙ opposite_opposite (x i)))))
    (λ q. absurd (opposite_ne (x i) (sym e ∙ ap x q)))
    (λ g.
    let unmet : Unmet x i = λ k l f. let same = a.different k j (omega arith) hj (f ∙ sym e) in omega arith in
    ⊎_elim (λ m. goes_down unmet (a.new i h m.0) m.0)
    (λ m. let (t, l, v) = a.old i h m.0 in begins unmet t l v m.0) (a.pair i j g hj e))

-- ---- two walks by the rules

module _ {rot : List ℕ} {root n n' : ℕ} {x y : ℕ → ℕ} {ℓ k : ℕ → Letter} (a : Ruled rot root n x ℓ) (b : Ruled rot root n' y k) where
  module _ (i : ℕ) (h : i < n) (h' : i < n') (darts : (j : ℕ) → j ≤ i → x j ≡ y j) (letters : (j : ℕ) → j < i → ℓ j ≡ k j) where
    across : opposite (x i) ≡ opposite (y i)
    across = ap opposite (darts i (le_refl i))

    -- both have met the opposite dart at one step
    at_once : (j j' : ℕ) → j < i → j' < i → x j ≡ opposite (x i) → y j' ≡ opposite (y i) → ℓ j ≡ k j'
    at_once j j' l l' e e' =
        letters j l ∙ ap k (a.different j j' (omega arith) (omega arith) (e ∙ across ∙ sym e' ∙ sym (darts j' (le_of_lt l'))))

    met_here : (j : ℕ) → j < i → x j ≡ opposite (x i) → Unmet y i → ⊥
    met_here j l e unmet = unmet j l (sym (darts j (le_of_lt l)) ∙ e ∙ across)

    met_there : (j : ℕ) → j < i → y j ≡ opposite (y i) → Unmet x i → ⊥
    met_there j l e unmet = unmet j l (darts j (le_of_lt l) ∙ e ∙ sym across)

    vertex_there : (j : ℕ) → j ≤ i → vertex_of rot (x j) ≡ vertex_of rot (opposite (x i)) → vertex_of rot (y j) ≡ vertex_of rot (opposite (y i))
    vertex_there j l e = ap (vertex_of rot) (sym (darts j l)) ∙ e ∙ ap (vertex_of rot) across

    vertex_here : (j : ℕ) → j ≤ i → vertex_of rot (y j) ≡ vertex_of rot (opposite (y i)) → vertex_of rot (x j) ≡ vertex_of rot (opposite (x i))
    vertex_here j l e = ap (vertex_of rot) (darts j l) ∙ e ∙ ap (vertex_of rot) (sym across)

    letter_same : View rot x ℓ i → View rot y k i → ℓ i ≡ k i
    letter_same (goes_down u v e) (goes_down u' v' e') = e ∙ sym e'
    letter_same (goes_down u v e) (begins u' j l w e') = absurd (v j l (vertex_here j l w))
    letter_same (goes_down u v e) (comes_up j l q d e') = absurd (met_there j l q u)
    letter_same (goes_down u v e) (ends j l q d e') = absurd (met_there j l q u)
    letter_same (begins u j l w e) (goes_down u' v' e') = absurd (v' j l (vertex_there j l w))
    letter_same (begins u j l w e) (begins u' j' l' w' e') = e ∙ sym e'
    letter_same (begins u j l w e) (comes_up j' l' q d e') = absurd (met_there j' l' q u)
    letter_same (begins u j l w e) (ends j' l' q d e') = absurd (met_there j' l' q u)
    letter_same (comes_up j l q d e) (goes_down u v e') = absurd (met_here j l q u)
    letter_same (comes_up j l q d e) (begins u j' l' w e') = absurd (met_here j l q u)
    letter_same (comes_up j l q d e) (comes_up j' l' q' d' e') = e ∙ sym e'
    letter_same (comes_up j l q d e) (ends j' l' q' d' e') = let z = apart (k j') (sym (at_once j j' l l' q q') ∙ d) d' in absurd (omega arith)
    letter_same (ends j l q d e) (goes_down u v e') = absurd (met_here j l q u)
    letter_same (ends j l q d e) (begins u j' l' w e') = absurd (met_here j l q u)
    letter_same (ends j l q d e) (comes_up j' l' q' d' e') = let z = apart (k j') (sym (at_once j j' l l' q q') ∙ d) d' in absurd (omega arith)
    letter_same (ends j l q d e) (ends j' l' q' d' e') = e ∙ sym e'

  abbrev Same : ℕ → Type 0
  Same i = (x i ≡ y i) × (ℓ i ≡ k i)

  same_next : (i : ℕ) → i < n → i < n' → ((j : ℕ) → j < i → Same j) → x i ≡ y i → Same i
  same_next i h h' before e = (e, letter_same i h h' darts (λ j l. (before j l).1) (view a i h) (view b i h'))
    where
      darts : (j : ℕ) → j ≤ i → x j ≡ y j
      darts j l = le_split l (λ q. subst (λ (t : ℕ). x t ≡ y t) (sym q) e) (λ l. (before j l).0)

  pub ruled_same : (i : ℕ) → i < n → i < n' → Same i
  ruled_same i h h' = go (suc i) i (omega arith) h h'
    where
      go : (m i : ℕ) → i < m → i < n → i < n' → Same i
      go zero i l h h' = absurd (omega arith)
      go (suc m) zero l h h' = same_next zero h h' (λ j u. absurd (omega arith)) (a.starts ∙ sym b.starts)
      go (suc m) (suc i) l h h' =
          let before : (j : ℕ) → j < suc i → Same j = λ j u. go m j (omega arith) (omega arith) (omega arith) in
          let (e, f) = before i (omega arith) in
          same_next (suc i) h h' before (a.step i h ∙ ap₂ (onward rot) f e ∙ sym (b.step i h'))

-- a walk that is back at the root goes no further
no_longer : {rot : List ℕ} {root : ℕ} (n : ℕ) {n' : ℕ} {x y : ℕ → ℕ} {ℓ k : ℕ → Letter} → Ruled rot root n x ℓ → Ruled rot root n' y k → n < n' → ⊥
no_longer zero a b l = let z = a.some_met in omega arith
no_longer {rot} (suc i) a b l =
    let (e, f) = ruled_same a b i (omega arith) (omega arith) in
    let again = b.different (suc i) 0 l (omega arith) (b.step i l ∙ sym (ap₂ (onward rot) f e) ∙ a.closes i (omega arith) ∙ sym b.starts) in
    omega arith

pub ruled_size : {rot : List ℕ} {root n n' : ℕ} {x y : ℕ → ℕ} {ℓ k : ℕ → Letter} → Ruled rot root n x ℓ → Ruled rot root n' y k → n ≡ n'
ruled_size {rot} {root} {n} {n'} a b = tri n n' (λ l. absurd (no_longer n a b l)) (λ e. e) (λ g. absurd (no_longer n' b a g))

pub ruled_word : (p : Plan) → Walked p → {x : ℕ → ℕ} (w : List Letter) → Ruled p.rotation p.root (length w) x (letter w) → word p ≡ w
unfolding letter_of
ruled_word p walked w b =
    let size = ruled_size walked.ruled b in
    ext_get_or second (word p) w (length_word p ∙ size) (λ i h. (ruled_same walked.ruled b i (omega (arith, length_word p)) (omega (arith, length_word p))).1)

-- ---- darts that are carried to those of another map

module _ (p q : Plan) (there : Walked p) (f : ℕ → ℕ) (c : Carries p.rotation q.rotation f) (roots : f p.root ≡ q.root) where
  abbrev n : ℕ
  n = length (visits p)

  abbrev x : ℕ → ℕ
  x = dart_at p

  abbrev a : Ruled p.rotation p.root n x (letter_of p)
  a = there.ruled

  inside : (i : ℕ) → i < n → x i < darts p
  inside = there.dart_bound

  onward_carried : (l : Letter) (d : ℕ) → d < darts p → f (onward p.rotation l d) ≡ onward q.rotation l (f d)
  unfolding onward
  onward_carried down d h = c.rotations (opposite d) (c.across d h) ∙ ap (next q.rotation) (c.opposites d h)
  onward_carried up d h = c.rotations (opposite d) (c.across d h) ∙ ap (next q.rotation) (c.opposites d h)
  onward_carried first d h = c.rotations d h
  onward_carried second d h = c.rotations d h

  -- the partner of the opposite dart, at its vertex
  vertex_across : (i : ℕ) → i < n → vertex_of q.rotation (f (opposite (x i))) ≡ vertex_of q.rotation (opposite (f (x i)))
  vertex_across i h = ap (vertex_of q.rotation) (c.opposites (x i) (inside i h))

  carried : Ruled q.rotation q.root n (λ i. f (x i)) (letter_of p)
  carried = record {
    some_met = a.some_met;
    different = λ i j hi hj e. a.different i j hi hj (c.one_to_one (x i) (x j) (inside i hi) (inside j hj) e);
    starts = ap f a.starts ∙ roots;
    step = λ i h. ap f (a.step i h) ∙ onward_carried (letter_of p i) (x i) (inside i (omega arith));
    closes = λ i e. sym (onward_carried (letter_of p i) (x i) (inside i (omega arith))) ∙ ap f (a.closes i e) ∙ roots;
    across = λ i h. let (j, hj, e) = a.across i h in (j, hj, ap f e ∙ c.opposites (x i) (inside i h));
    pair = λ i j h hj e.
        let hi = inside i (omega arith) in
        a.pair i j h hj (c.one_to_one (x j) (opposite (x i)) (inside j hj) (c.across (x i) hi) (e ∙ sym (c.opposites (x i) hi)));
    new = λ i h d j l e.
        a.new i h d j l ((c.vertices (x j) (opposite (x i)) (inside j (omega arith)) (c.across (x i) (inside i h))).1 (e ∙ sym (vertex_across i h)));
    old = λ i h d.
        let (j, l, e) = a.old i h d in
        (j, l, (c.vertices (x j) (opposite (x i)) (inside j (omega arith)) (c.across (x i) (inside i h))).0 e ∙ vertex_across i h);
  }

  pub carried_word : Walked q → word p ≡ word q
  unfolding letter_of
  carried_word w = sym (ruled_word q w (word p)
      (subst (λ (n : ℕ). Ruled q.rotation q.root n (λ i. f (x i)) (letter_of p)) (sym (length_word p)) carried))
