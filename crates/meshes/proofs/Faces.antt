-- The faces of a plan that is fit for kind 2, along its walk.
--
--   face_tree, face_chord   one step of a face, from a dart of a tree edge and from another
--   separated         an edge outside the tree parts the positions under it from the others: no face has darts of both
--   Crossed a         an edge begins between the down at a and its up, and ends after it
--   edges_apart       where all tree edges are crossed, the two darts of any edge are on different faces
--   closed_joined     where no edge leaves the positions between a down and its up, these two are darts of one face
use Prim.Native.Nat.{ℕ, zero, suc, ◌≤◌, ◌<◌}
use native.Mathlib.Nat.{le_refl, le_of_lt}
use native.Mathlib.Omega.{arith}
use mathlib.Core.Path.{◌≡◌, refl, sym, ap, subst, ◌∙◌}
use mathlib.Core.Logic.{◌⊎◌, inl, ⊎_elim, ◌≢◌}
use mathlib.Core.Bool.{Bool, true, false, not, true≢false}
use Rattle.model.specs.Numbers.{iter}
use Rattle.model.specs.Map.{Plan, darts, opposite, next, face_next, face_of, fit}
use Rattle.model.specs.Traversal.{Letter, down, up, first, second, opens}
use Rattle.model.proofs.Fitness.{Fit, fit_parts, count_even}
use Rattle.orbits.specs.Permutation.{Perm}
use Rattle.orbits.specs.Chord as chord
use Rattle.orbits.proofs.Order.{le_split, eq_split}
use Rattle.orbits.proofs.Chord.{next_cases}
use Rattle.orbits.proofs.Cycle.{least_step, same_reach}
use Rattle.orbits.proofs.Maps.{face_perm}
use Rattle.words.specs.Toured.{Toured, dart_at, letter_of, pos_of, mate_of, is_tree, is_chord}
use Rattle.words.proofs.Letters.{onward_tree, fellow_opens}
use Rattle.words.proofs.Positions.{mate_bound, mate_back, mate_letter, mate_tree, mate_dart}
use Rattle.planarity.proofs.Touring.{step_on}
use Rattle.fit_plans.proofs.FitPlans.{fit_toured, fit_bracketed}
use Rattle.meshes.proofs.Turns.{turn_flat}

module _ (q : Plan) (fits : fit 2 q ≡ true) where
  abbrev N : ℕ
  N = darts q

  abbrev parts : Fit 2 q
  parts = fit_parts 2 q fits

  abbrev toured : Toured q
  toured = fit_toured 2 q fits

  abbrev ℓ : ℕ → Letter
  ℓ = letter_of q

  abbrev m : ℕ → ℕ
  m = mate_of q

  abbrev φ : ℕ → ℕ
  φ = face_next q.rotation

  perm : Perm N φ
  perm = face_perm q.rotation parts.entries (count_even N parts.count)

  abbrev at : ℕ → ℕ
  at i = face_of q.rotation (dart_at q i)

  -- ---- one step

  pub face_tree : (i : ℕ) → i < darts q → is_tree (letter_of q i) ≡ true → pos_of q (face_next q.rotation (dart_at q i)) ≡ chord.next (darts q) i
  unfolding face_next
  face_tree i h e =
      ap (pos_of q) (sym (onward_tree q.rotation (ℓ i) (dart_at q i) e)) ∙ step_on q toured parts.count i h

  pub face_chord : (i : ℕ) → i < darts q → is_tree (letter_of q i) ≡ false
      → pos_of q (face_next q.rotation (dart_at q i)) ≡ chord.next (darts q) (mate_of q i)
  unfolding face_next
  face_chord i h e =
      ap (λ (d : ℕ). pos_of q (next q.rotation d)) (sym (mate_dart q toured parts.count i h))
      ∙ turn_flat q fits (m i) (mate_bound q toured parts.count i h) (mate_tree q toured i h ∙ e)

  next_is : (i : ℕ) → suc i < N → chord.next N i ≡ suc i
  next_is i l = ⊎_elim (λ c. c.1) (λ c. absurd (omega (arith, c.0))) (next_cases N i (le_of_lt l))

  face_kept : (d : ℕ) → d < N → face_of q.rotation (φ d) ≡ face_of q.rotation d
  unfolding face_of
  face_kept d h = least_step N φ perm d h

  -- what a closed set of darts has, its faces have
  stays : (S : ℕ → Type 0) → ((d : ℕ) → d < N → S d → S (φ d)) → (d e : ℕ) → d < N → e < N
      → face_of q.rotation d ≡ face_of q.rotation e → S d → S e
  unfolding face_of iter
  stays S closed d e hd he same s = let (k, r) = same_reach N φ perm d e he same in subst S r (go k d hd s)
    where
      go : (k d : ℕ) → d < N → S d → S (iter φ k d)
      go zero d h s = s
      go (suc k) d h s = go k (φ d) (perm.bound d h) (closed d h s)

  -- ---- under an edge outside the tree

  module _ (a : ℕ) (h : a < darts q) (f : letter_of q a ≡ first) where
    abbrev Under : ℕ → Type 0
    Under i = (a < i) × (i ≤ m a)

    under_tree : (i : ℕ) → i < N → is_tree (ℓ i) ≡ true → Under i → Under (pos_of q (φ (dart_at q i)))
    under_tree i hi e (l, u) =
        let hb = mate_bound q toured parts.count a h in
        let s = mate_letter q toured a h first f in
        let below : i < m a = le_split u (λ k. absurd (true≢false (sym e ∙ ap is_tree (ap ℓ k ∙ s)))) (λ k. k) in
        rw (face_tree i hi e, next_is i (omega arith)) (omega arith, omega arith)

    under_chord : (i : ℕ) → i < N → is_tree (ℓ i) ≡ false → Under i → Under (pos_of q (φ (dart_at q i)))
    under_chord i hi e (l, u) =
        let hb = mate_bound q toured parts.count a h in
        let la = toured.opens_first a h (ap opens f) in
        le_split u
        (λ k.
        let back : m i ≡ a = ap m k ∙ mate_back q toured parts.count a h in
        rw (face_chord i hi e, next_is (m i) (omega arith), back) (omega arith, omega arith))
        (λ k.
        let (x, y) = (fit_bracketed 2 q fits).chords a i h (ap is_chord f) l k (ap not e) in
        rw (face_chord i hi e, next_is (m i) (omega arith)) (omega arith, omega arith))

    under_step : (d : ℕ) → d < N → Under (pos_of q d) → Under (pos_of q (φ d))
    under_step d hd u =
        subst (λ (x : ℕ). Under (pos_of q (φ x))) (toured.dart_pos d hd) (go (is_tree (ℓ (pos_of q d))) refl)
      where
        go : (c : Bool) → is_tree (ℓ (pos_of q d)) ≡ c → Under (pos_of q (φ (dart_at q (pos_of q d))))
        go true e = under_tree (pos_of q d) (toured.pos_bound d hd) e u
        go false e = under_chord (pos_of q d) (toured.pos_bound d hd) e u

    pub separated : (i j : ℕ) → i < darts q → j < darts q → a < i → i ≤ mate_of q a → (j ≤ a) ⊎ (mate_of q a < j)
        → face_of q.rotation (dart_at q i) ≢ face_of q.rotation (dart_at q j)
    separated i j hi hj l u out same =
        let ui : Under (pos_of q (dart_at q i)) = subst Under (sym (toured.pos_dart i hi)) (l, u) in
        let uj = subst Under (toured.pos_dart j hj)
        (stays (λ d. Under (pos_of q d)) under_step (dart_at q i) (dart_at q j) (toured.dart_bound i hi) (toured.dart_bound j hj) same ui) in
        ⊎_elim (λ k. omega (arith, uj.0)) (λ k. omega (arith, uj.1)) out

  -- ---- edges with two faces

  abbrev pub Crossed : ℕ → Type 0
  Crossed a = (x : ℕ) × (a < x) × (x < mate_of q a) × (letter_of q x ≡ first) × (mate_of q a < mate_of q x)

  module _ (crossed : (a : ℕ) → a < darts q → letter_of q a ≡ down → Crossed a) where
    opening_apart : (i : ℕ) (l : Letter) → i < N → ℓ i ≡ l → opens l ≡ true → at (m i) ≢ at i
    opening_apart i down h e o =
        let (x, u, v, f, w) = crossed i h e in
        let hm = mate_bound q toured parts.count i h in
        separated x (omega arith) f (m i) i hm h v (le_of_lt w) (inl (le_of_lt u))
    opening_apart i up h e o = absurd (true≢false (sym o))
    opening_apart i first h e o =
        separated i h e (m i) i (mate_bound q toured parts.count i h) h (toured.opens_first i h (ap opens e)) (le_refl (m i)) (inl (le_refl i))
    opening_apart i second h e o = absurd (true≢false (sym o))

    position_apart : (i : ℕ) → i < N → at i ≢ at (m i)
    position_apart i h = go (opens (ℓ i)) refl
      where
        hm : m i < N
        hm = mate_bound q toured parts.count i h

        go : (c : Bool) → opens (ℓ i) ≡ c → at i ≢ at (m i)
        go true o same = opening_apart i (ℓ i) h refl o (sym same)
        go false o same =
            let k = toured.fellows i h in
            opening_apart (m i) (ℓ (m i)) hm refl (ap opens k ∙ fellow_opens (ℓ i) o)
            (ap at (mate_back q toured parts.count i h) ∙ same)

    pub edges_apart : (d : ℕ) → d < darts q → face_of q.rotation d ≢ face_of q.rotation (opposite d)
    edges_apart d h same =
        let i = pos_of q d in
        let hi = toured.pos_bound d h in
        let this : dart_at q i ≡ d = toured.dart_pos d h in
        let other : dart_at q (m i) ≡ opposite d = mate_dart q toured parts.count i hi ∙ ap opposite this in
        position_apart i hi
        (ap (face_of q.rotation) this ∙ same ∙ ap (face_of q.rotation) (sym other))

  -- ---- an edge with one face

  module _ (a : ℕ) (h : a < darts q) (e : letter_of q a ≡ down)
      (closed : (x : ℕ) → a < x → x < mate_of q a → is_tree (letter_of q x) ≡ false → (a < mate_of q x) × (mate_of q x < mate_of q a)) where
    hb : m a < N
    hb = mate_bound q toured parts.count a h

    la : a < m a
    la = toured.opens_first a h (ap opens e)

    -- between the two, on the face of the first
    abbrev Between : ℕ → Type 0
    Between d = (a < pos_of q d) × (pos_of q d < m a) × (face_of q.rotation d ≡ at a)

    between_step : (d j : ℕ) → at (m a) ≢ at a → d < N → pos_of q (φ d) ≡ chord.next N j → a ≤ j → j < m a → face_of q.rotation d ≡ at a → Between (φ d)
    between_step d j apart hd p l u f =
        let b = hb in
        let s = p ∙ next_is j (omega arith) in
        let k : face_of q.rotation (φ d) ≡ at a = face_kept d hd ∙ f in (
          omega arith,
          le_split {a = suc j} {b = m a} u
              (λ r. absurd (apart (ap (face_of q.rotation) (ap (dart_at q) (sym r ∙ sym s) ∙ toured.dart_pos (φ d) (perm.bound d hd)) ∙ k)))
              (λ r. omega arith),
          k,
        )

    between_closed : at (m a) ≢ at a → (d : ℕ) → d < N → Between d → Between (φ d)
    between_closed apart d hd (l, u, f) = go (is_tree (ℓ (pos_of q d))) refl
      where
        hp : pos_of q d < N
        hp = toured.pos_bound d hd

        here : dart_at q (pos_of q d) ≡ d
        here = toured.dart_pos d hd

        go : (c : Bool) → is_tree (ℓ (pos_of q d)) ≡ c → Between (φ d)
        go true k = between_step d (pos_of q d) apart hd (ap (λ (x : ℕ). pos_of q (φ x)) (sym here) ∙ face_tree (pos_of q d) hp k) (le_of_lt l) u f
        go false k =
            let (x, y) = closed (pos_of q d) l u k in
            between_step d (m (pos_of q d)) apart hd (ap (λ (x : ℕ). pos_of q (φ x)) (sym here) ∙ face_chord (pos_of q d) hp k) (le_of_lt x) y f

    pub closed_joined : face_of q.rotation (dart_at q (mate_of q a)) ≡ face_of q.rotation (dart_at q a)
    closed_joined = eq_split (at (m a)) (at a) (λ r. r) (λ apart.
        let ha = toured.dart_bound a h in
        let s = between_step (dart_at q a) a apart ha (face_tree a h (ap is_tree e)) (le_refl a) la refl in
        let r = stays Between (between_closed apart) (φ (dart_at q a)) (dart_at q a) (perm.bound (dart_at q a) ha) ha (face_kept (dart_at q a) ha) s in
        absurd (omega (arith, r.0, toured.pos_dart a h)))
