-- Where the tree edges of a plan that is fit for kind 2 are crossed.
--
--   crossed_all       all are, where those are after whose last position but one an edge ends
--   crossed_top       one is, where the edge opened last before its up begins after its down
use Prim.Native.Nat.{ℕ, zero, suc, ◌+◌, ◌-◌, ◌≤◌, ◌<◌}
use native.Mathlib.Nat.{le_of_lt}
use native.Mathlib.Omega.{arith}
use mathlib.Core.Path.{◌≡◌, refl, sym, ap, subst, ◌∙◌}
use mathlib.Core.Logic.{inl, ◌≢◌}
use mathlib.Core.Bool.{true}
use mathlib.Core.List.{List, ◌∷◌}
use Rattle.model.specs.Map.{Plan, darts, next, fit}
use Rattle.model.specs.Traversal.{Letter, down, up, first, second, code, opens}
use Rattle.model.proofs.Fitness.{Fit, fit_parts}
use Rattle.orbits.specs.Stack.{top}
use Rattle.orbits.proofs.Order.{tri, le_split}
use Rattle.words.specs.Toured.{Toured, dart_at, letter_of, mate_of, is_tree}
use Rattle.words.specs.Brackets.{chord_stack}
use Rattle.words.specs.Entered.{entered_at}
use Rattle.words.proofs.Letters.{apart, tree_fellow}
use Rattle.words.proofs.Positions.{mate_bound, mate_back, mate_letter}
use Rattle.words.proofs.OpenEdges.{part_holds}
use Rattle.fit_plans.proofs.FitPlans.{fit_toured, fit_bracketed, fit_descends}
use Rattle.meshes.proofs.Fits.{no_loop}
use Rattle.meshes.proofs.OpenEdges.{open_chords, after_down_lem, after_up, after_first, In, open_chord}
use Rattle.meshes.proofs.Turns.{enters_arrival}
use Rattle.meshes.proofs.Blocks.{turn_up}
use Rattle.meshes.proofs.Faces.{Crossed}

module _ (q : Plan) (fits : fit 2 q ≡ true) where
  abbrev N : ℕ
  N = darts q

  abbrev parts : Fit 2 q
  parts = fit_parts 2 q fits

  abbrev toured : Toured q
  toured = fit_toured 2 q fits

  abbrev ℓ : ℕ → Letter
  ℓ = letter_of q

  abbrev m : ℕ → ℕ
  m = mate_of q

  -- ---- one edge

  module _ (a : ℕ) (h : a < darts q) (d : letter_of q a ≡ down) where
    hb : m a < N
    hb = mate_bound q toured parts.count a h

    arrival : ℓ (m a) ≡ up
    arrival = mate_letter q toured a h down d

    before : a < m a
    before = toured.opens_first a h (ap opens d)

    -- an edge that is open at the up does not end there
    open_crosses : (x : ℕ) → a ≤ x → In x (open_chords q (m a)) → Crossed q fits a
    open_crosses x l p =
        let (u, f, v) = open_chord q fits (m a) x (le_of_lt hb) p in
        let hx : x < N = omega (arith, hb) in (
          x,
          le_split l (λ e. absurd (let z = apart (ℓ a) d (ap ℓ e ∙ f) in omega arith)) (λ k. k),
          u,
          f,
          le_split v (λ e. absurd (let z = apart (ℓ (m a)) arrival (ap ℓ e ∙ mate_letter q toured x hx first f) in omega arith)) (λ k. k),
        )

    pub crossed_top : (x : ℕ) (s : List ℕ) → chord_stack (letter_of q) (mate_of q a) ≡ x ∷ s → a ≤ x → Crossed q fits a
    crossed_top x s e l = open_crosses x l (subst (In x) (sym e) (inl refl))

  -- ---- all edges

  module _ (alone : (d : ℕ) → d < darts q → next q.rotation d ≢ d) where
    -- a vertex is not left where it is entered
    stays : (a k : ℕ) → a < N → ℓ a ≡ down → suc k ≡ m a → ℓ k ≢ down
    stays a k h d e e' =
        let hb = mate_bound q toured parts.count a h in
        let (s, c) = after_up q fits (m a) hb (mate_letter q toured a h down d) in
        let (t, f) = after_down_lem q fits k e' in
        let back = mate_back q toured parts.count a h in
        let z : k ≡ a = cc in
        alone (dart_at q (m a)) (toured.dart_bound (m a) hb) (turn_up q fits a (m a) h d refl ∙ ap (dart_at q) (ap suc (sym z) ∙ e))

    -- an edge that begins just before the up ends at a vertex entered earlier
    first_crosses : (a k : ℕ) → a < N → ℓ a ≡ down → suc k ≡ m a → a < k → ℓ k ≡ first → Crossed q fits a
    unfolding entered_at
    first_crosses a k h d e l f =
        let hb = mate_bound q toured parts.count a h in
        let hk : k < N = omega arith in
        let hm = mate_bound q toured parts.count k hk in
        let s = mate_letter q toured k hk first f in
        let low = fit_descends 2 q fits (no_loop q fits) (m k) hm s in
        let here = ap (entered_at q) (mate_back q toured parts.count k hk) in
        let on = toured.opens_first k hk (ap opens f) in
        let there : entered_at q k ≡ suc a = entered k f ∙ ap (entered_at q) e ∙ enters_arrival q fits a h d in (
          k,
          l,
          omega arith,
          f,
          tri (m k) (m a)
              (λ u. absurd (let z = holds (m k) (omega arith) (le_of_lt u) in omega arith))
              (λ u. absurd (let z = apart (ℓ (m k)) s (ap ℓ u ∙ mate_letter q toured a h down d) in omega arith))
              (λ u. u),
        )
      where
        entered : (k : ℕ) → ℓ k ≡ first → entered_at q k ≡ entered_at q (suc k)
        entered k f = ap top (sym (after_first q fits k f).0)

        holds : (i : ℕ) → a < i → i ≤ m a → a < entered_at q i
        holds i l u =
            part_holds is_tree tree_fellow q toured parts.count (fit_bracketed 2 q fits).trees i a
            (omega (arith, mate_bound q toured parts.count a h)) l (ap is_tree d) u

    -- an edge that leaves the subtree left last leaves this one too
    up_crosses : (a k : ℕ) → a < N → ℓ a ≡ down → suc k ≡ m a → a < k → ℓ k ≡ up
        → ((c : ℕ) → a < c → c < N → ℓ c ≡ down → Crossed q fits c) → Crossed q fits a
    up_crosses a k h d e l f ih =
        let hb = mate_bound q toured parts.count a h in
        let hk : k < N = omega arith in
        let hc = mate_bound q toured parts.count k hk in
        let (u, v) = (fit_bracketed 2 q fits).trees a k h (ap is_tree d) l (omega arith) (ap is_tree f) in
        let back = mate_back q toured parts.count k hk in
        let (x, xl, xu, xf, xm) = ih (m k) u hc (mate_letter q toured k hk up f) in (
          x,
          omega arith,
          omega arith,
          xf,
          le_split {a = m a} {b = m x} (omega arith)
              (λ z. absurd (
              let y = apart (ℓ (m a)) (mate_letter q toured a h down d) (ap ℓ z ∙ mate_letter q toured x (omega arith) first xf) in omega arith))
              (λ z. z),
        )

    module _ (last : (a k : ℕ) → a < darts q → letter_of q a ≡ down → suc k ≡ mate_of q a → letter_of q k ≡ second → Crossed q fits a) where
      crossed_from : (n a : ℕ) → N ≤ a + n → a < N → ℓ a ≡ down → Crossed q fits a
      crossed_from zero a l h d = absurd (omega arith)
      crossed_from (suc n) a l h d =
          let b = toured.opens_first a h (ap opens d) in
          go (m a - 1) (omega arith) (ℓ (m a - 1)) refl (λ c u hc e. crossed_from n c (omega arith) hc e)
        where
          after : (k : ℕ) → suc k ≡ m a → (l : Letter) → ℓ k ≡ l → code l ≢ 1 → a < k
          after k e l f n =
              le_split {a = a} {b = k} (omega (arith, toured.opens_first a h (ap opens d))) (λ z. absurd (n (apart (ℓ k) f (ap ℓ (sym z) ∙ d)))) (λ z. z)

          go : (k : ℕ) → suc k ≡ m a → (l : Letter) → ℓ k ≡ l → ((c : ℕ) → a < c → c < N → ℓ c ≡ down → Crossed q fits c) → Crossed q fits a
          go k e down f ih = absurd (stays a k h d e f)
          go k e up f ih = up_crosses a k h d e (after k e up f (λ z. omega arith)) f ih
          go k e first f ih = first_crosses a k h d e (after k e first f (λ z. omega arith)) f
          go k e second f ih = last a k h d e f

      pub crossed_all : (a : ℕ) → a < darts q → letter_of q a ≡ down → Crossed q fits a
      crossed_all a h d = crossed_from N a (omega arith) h d
