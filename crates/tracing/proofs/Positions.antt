-- What the marks of the walk from r tell of the positions of a tour; that its steps are those positions, `traversal/Positions` says.
--
--   tops_at                  where each edge outside the tree ended on top of the stack, it did so in the tour
--   ended_mark               a dart at which an edge ended is marked as seen
--   next_second              whether second comes next, by the mark of the opposite of the dart that does
use mathlib.Core.Path.{◌≡◌, refl, sym, ap, ◌∙◌, subst}
use mathlib.Core.Logic.{◌≢◌}
use mathlib.Core.Bool.{Bool, true, false, cond, true≢false}
use mathlib.Core.List.{List, ◌∷◌}
use Prim.Native.Nat.{ℕ, ◌/◌, ◌≤◌, ◌<◌}
use native.Mathlib.Nat.{le_of_lt}
use native.Mathlib.Omega.{arith}
use lib.Dec.{eqb}
use lib.ListN.{length, get_or, drop}
use borrow.Author.Tests.{eq-eqb, ne_eqb}
use Rattle.model.specs.Numbers.{is_permutation}
use Rattle.model.specs.Map.{Plan, opposite, next, dart_count_fits}
use Rattle.model.specs.Traversal.{Letter, down, up, first, second, code, opens, word}
use Rattle.model.proofs.Fitness.{count_even}
use Rattle.orbits.specs.Permutation.{Perm}
use Rattle.orbits.specs.Chord.{Involution}
use Rattle.orbits.proofs.Order.{lt_or_le, le_split}
use Rattle.orbits.proofs.Maps.{next_perm, opposite_inv}
use Rattle.words.specs.Word.{starts_second}
use Rattle.words.specs.Toured.{Toured, letter_of, mate_of}
use Rattle.words.proofs.Letters.{fellow_closes}
use Rattle.words.proofs.Positions.{mate_bound, mate_before}
use Rattle.traversal.specs.Steps.{dart, letter_after, mark, seen_mark}
use Rattle.traversal.proofs.Steps.{dart_bound, seen_here}
use Rattle.traversal.proofs.Follow.{follows}
use Rattle.traversal.proofs.Positions.{letter_at, dart_at_lem, stack_at, back_late, across_at, mate_is}
use Rattle.forward.proofs.Stacked.{OnTopTo}
use Rattle.forward.proofs.Starts.{starts_second_lem, starts_other, starts_none}
use Rattle.forward.proofs.Tops.{chord_opener}
use Rattle.marks.specs.Marks.{Trailed, Top}
use Rattle.marks.proofs.Trail.{tells_down, tells_first, tells_up, tells_second, began_second, began_mark}
use Rattle.tracing.specs.Tracing.{from}

no_second : (m : ℕ) → m / 8192 ≢ 1 → ◌≡◌ {A = ℕ} (cond (eqb (m / 8192) 1) 1 0) 0
no_second m n = rw (ne_eqb (m / 8192) 1 n) refl

module _ (rot : List ℕ) (r : ℕ) (count : dart_count_fits (length rot) ≡ true) (perm : is_permutation rot ≡ true) (hr : r < length rot)
    (t : Toured (from rot r)) where
  abbrev p : Plan
  p = from rot r

  abbrev N : ℕ
  N = length rot

  abbrev D : ℕ → ℕ
  D = dart rot r

  abbrev ℓ : ℕ → Letter
  ℓ = letter_after rot r

  turn : Perm N (next rot)
  turn = next_perm rot perm

  cross : Involution N opposite
  cross = opposite_inv N (count_even N count)

  letters_are : (j : ℕ) → j < N → letter_of p j ≡ ℓ j
  letters_are = letter_at p count hr perm t

  pub tops_at : (k : ℕ) → k ≤ N → ((j : ℕ) → j < k → ℓ j ≡ second → Top rot r j) → OnTopTo p k
  tops_at k h tops j l e =
      let hj : j < N = omega arith in
      let top = tops j l (sym (letters_are j hj) ∙ e) in
      let s = stack_at p count hr perm t j (le_of_lt hj) ∙ top.on_top in
      let a = (chord_opener (letter_of p) j top.begun top.below s).0 in
      (top.below, s ∙ ap (λ (i : ℕ). i ∷ top.below) (sym (mate_is p count hr perm t j top.begun hj (omega arith) top.across)))

  -- ---- the letter that comes next

  module _ (k : ℕ) (b waiting : List ℕ) (trail : Trailed rot r k b waiting) where
    abbrev m : ℕ
    m = get_or b (opposite (D k)) 0

    abbrev Right : Type 0
    Right = cond (eqb (m / 8192) 1) 1 0 ≡ starts_second (drop k (word p))

    -- not the end: the mark tells the letter
    other : (h : k < N) → (l : Letter) → ℓ k ≡ l → (l ≢ second) → m / 8192 ≢ 1 → Right
    other h l e ne n = no_second m n ∙ sym (starts_other p t k h (λ q. ne (sym e ∙ sym (letters_are k h) ∙ q)))

    inner : k < N → Right
    inner h =
        let on : 0 < k → D k ≢ r = λ some. back_late p count hr perm t k some h in
        lt_or_le m 1
        (λ z. other h down (tells_down rot r turn cross hr k b waiting trail on (omega arith)) (λ q. omega (arith, ap code q)) (λ q. omega arith))
        (λ lo. lt_or_le m 16384
        (λ z.
        let e = tells_second rot r turn cross hr k b waiting trail on lo z in
        let g = began_second rot r turn cross hr k b waiting trail on e in
        let q = began_mark rot r turn cross hr k b waiting trail on first g refl in
        let one : m / 8192 ≡ 1 = omega arith in
        ap (λ (x : Bool). cond x 1 0) (eq-eqb (m / 8192) 1 one) ∙ sym (starts_second_lem p t k h (letters_are k h ∙ e)))
        (λ mid. lt_or_le m 32768
        (λ z. other h up (tells_up rot r turn cross hr k b waiting trail on mid z) (λ q. omega (arith, ap code q)) (λ q. omega arith))
        (λ hi. other h first (tells_first rot r turn cross hr k b waiting trail on hi) (λ q. omega (arith, ap code q)) (λ q. omega arith))))

    -- a dart met as up or second keeps the mark of its vertex
    pub ended_mark : (j : ℕ) → j < k → opens (ℓ j) ≡ false → 32768 ≤ get_or b (D j) 0
    unfolding seen_mark mark
    ended_mark j h o =
        let f = (follows rot r turn cross hr k trail.away).marked j h in
        let c = closing (ℓ j) o in
        trail.stands.light (D j) (dart_bound rot r turn cross hr j) (seen_here rot r turn cross hr k j (le_of_lt h)) (λ q. c.0 (sym f ∙ q)) (λ q. c.1 (sym f ∙ q))
      where
        closing : (l : Letter) → opens l ≡ false → (code l ≢ 1) × (code l ≢ 3)
        closing down o = absurd (true≢false o)
        closing up o = (λ q. omega arith, λ q. omega arith)
        closing first o = absurd (true≢false o)
        closing second o = (λ q. omega arith, λ q. omega arith)

    -- the end: the opposite of the root was met as up or second
    last : k ≡ N → D k ≡ r → Right
    last e back =
        let some : 0 < N = omega arith in
        let j = mate_of p 0 in
        let hj = mate_bound p t count 0 some in
        let o = ap opens (sym (letters_are j hj) ∙ t.fellows 0 some) ∙ fellow_closes (letter_of p 0) (begins some (opens (letter_of p 0)) refl) in
        let there : D j ≡ opposite (D k) = across_at p count hr perm t 0 some ∙ ap opposite (sym (dart_at_lem p count hr perm t 0 some) ∙ t.starts ∙ sym back) in
        let big : 32768 ≤ m = subst (λ (x : ℕ). 32768 ≤ get_or b x 0) there (ended_mark j (omega arith) o) in
        no_second m (λ q. omega arith) ∙ sym (ap (λ (i : ℕ). starts_second (drop i (word p))) e ∙ starts_none p t)
      where
        begins : 0 < N → (o : Bool) → opens (letter_of p 0) ≡ o → opens (letter_of p 0) ≡ true
        begins h true e = e
        begins h false e = absurd (omega (arith, mate_before p t count 0 h e))

    pub next_second : k ≤ N → (k ≡ N → D k ≡ r) → Right
    next_second h back = le_split h (λ e. last e (back e)) inner
