-- The walk declines no mesh at a second place: the mark of an opposite tells the letter to come, and what a mesh has there is what the code asks for.
--
--   Fits order r         the plan is a mesh
--   ends, ends_here      where the opposite's mark is that of an edge that has begun, the letter is up or second; so at a second place
--   begun_mark           the mark of a dart that began an edge outside the tree
--   two_wait, last_is_lem, before_is   the two edges that wait last
--   Last, second_last    where one ends at a second place: it is the last that waits, and the one before began after the edge that entered
use Prim.Native.Nat.{ℕ, suc, ◌+◌, ◌-◌, ◌*◌, ◌≤◌, ◌<◌}
use native.Mathlib.Omega.{arith}
use mathlib.Core.Path.{◌≡◌, refl, sym, ap, ◌∙◌}
use mathlib.Core.Logic.{◌⊎◌, inl, inr, ⊎_elim, ◌≢◌}
use mathlib.Core.Bool.{true}
use mathlib.Core.List.{List, ◌∷◌, map}
use lib.ListN.{length, get_or, length-map}
use Rattle.model.specs.Map.{opposite, fit}
use Rattle.model.specs.Traversal.{Letter, up, first, second, opens}
use Rattle.model.specs.Mesh.{dual_of}
use Rattle.orbits.proofs.Order.{lt_or_le}
use Rattle.words.specs.Brackets.{chord_stack}
use Rattle.words.specs.Position.{opened}
use Rattle.traversal.specs.Steps.{dart, letter_after}
use Rattle.forward.proofs.Tops.{tree_opener, chord_opener}
use Rattle.marks.specs.Marks.{mark_of, Trailed}
use Rattle.marks.proofs.Trail.{tells_up, tells_second}
use Rattle.tracing.specs.Tracing.{from}
use Rattle.mesh_trails.proofs.Meshes.{mesh_second, mesh_ends}
use Rattle.mesh_second_places.specs.declared.Stroll.{Stroll}
use Rattle.mesh_second_places.specs.Areas.{WAITING}
use Rattle.mesh_second_places.specs.Walks.{Held, AtSecond, Ending}
use Rattle.mesh_second_places.proofs.Dual.{turn, cross}
use Rattle.mesh_second_places.proofs.Views.{open_top, view_close}
use Rattle.mesh_second_places.proofs.Walks.{root_dual, dart_in, over_in, waiting_is, mark_is}
use Rattle.mesh_second_places.proofs.Seconds.{second_away, second_within}

abbrev pub Fits : List ℕ → ℕ → Type 0
Fits order r = fit 3 (from order r) ≡ true

-- ---- at position k

module _ (order w : List ℕ) (s : Stroll) (k : ℕ) (us b waits ts : List ℕ) (g : Held order w s k us b waits ts)
    (t : Trailed (dual_of order) s.root k b waits) where
  abbrev n : ℕ
  n = length order

  abbrev rot : List ℕ
  rot = dual_of order

  abbrev r : ℕ
  r = s.root

  abbrev ℓ : ℕ → Letter
  ℓ = letter_after rot r

  abbrev D : ℕ → ℕ
  D = dart rot r

  hr : r < length rot
  hr = root_dual order w s k us b waits ts g

  pub ends : (0 < k → dart (dual_of order) s.root k ≢ s.root) → s.dart ≡ dart (dual_of order) s.root k → Ending w s.dart
      → (letter_after (dual_of order) s.root k ≡ up) ⊎ (letter_after (dual_of order) s.root k ≡ second)
  ends on here (some, small) =
      let m = get_or b (opposite (D k)) 0 in
      let e : m ≡ get_or w (opposite s.dart) 0 =
      mark_is order w s k us b waits ts g (opposite (D k)) (over_in order w s k us b waits ts g k) ∙ ap (λ (x : ℕ). get_or w (opposite x) 0) (sym here) in
      let c = turn order g.count g.perm in
      let i = cross order g.count g.perm in
      lt_or_le m 16384
      (λ l. inr (tells_second rot r c i hr k b waits t on (omega arith) l))
      (λ h. inl (tells_up rot r c i hr k b waits t on h (omega arith)))

  pub begun_mark : (j : ℕ) → j < k → letter_after (dual_of order) s.root j ≡ first
      → get_or w (dart (dual_of order) s.root j) 0 ≡ 8192 + opened (letter_after (dual_of order) s.root) j
  begun_mark j h e =
      sym (mark_is order w s k us b waits ts g (D j) (dart_in order w s k us b waits ts g j)) ∙ t.numbers j h (ap opens e)
      ∙ ap (λ (a : Letter). mark_of a + opened ℓ j) e

  module _ (x y : ℕ) (rest : List ℕ) (q : chord_stack (letter_after (dual_of order) s.root) k ≡ x ∷ (y ∷ rest)) where
    waits_are : waits ≡ opened ℓ x ∷ (opened ℓ y ∷ map (opened ℓ) rest)
    waits_are = t.stacked ∙ ap (map (opened ℓ)) q

    pub two_wait : s.waiting ≡ suc (suc (length rest))
    two_wait = waiting_is order w s k us b waits ts g ∙ ap length waits_are ∙ ap (λ (i : ℕ). suc (suc i)) (length-map rest (opened ℓ))

    pub last_is_lem : get_or w (WAITING * length order + (s.waiting - 1)) 0 ≡ opened (letter_after (dual_of order) s.root) x
    last_is_lem = open_top n s.waiting s.halves w b waits _ _ _ ts g.view _ _ waits_are

    pub before_is : get_or w (WAITING * length order + (s.waiting - 2)) 0 ≡ opened (letter_after (dual_of order) s.root) y
    before_is =
        let two = two_wait in
        let i : s.waiting - 2 ≡ s.waiting - 1 - 1 = omega arith in
        ap (λ (i : ℕ). get_or w (WAITING * n + i) 0) i
        ∙ open_top n (s.waiting - 1) s.halves w b _ _ _ _ ts (view_close n s.waiting s.halves w b waits _ _ _ ts g.view _ _ waits_are) _ _ refl

-- ---- at a second place

module _ (order w : List ℕ) (l : Letter) (f e : ℕ) (s : Stroll) (a : AtSecond order w l f e s) (fits : Fits order s.root) (end : Ending w s.dart) where
  abbrev rot₂ : List ℕ
  rot₂ = dual_of order

  abbrev ℓ₂ : ℕ → Letter
  ℓ₂ = letter_after rot₂ s.root

  abbrev g₂ : Held order w s a.k a.us a.b a.waits a.ts
  g₂ = a.held

  pub ends_here : (letter_after (dual_of order) s.root a.k ≡ up) ⊎ (letter_after (dual_of order) s.root a.k ≡ second)
  ends_here = ends order w s a.k a.us a.b a.waits a.ts g₂ a.stands.strolled.trail (λ _. second_away order w l f e s a) a.here end

  pub record Last : Type 0 where
    pub two : 2 ≤ s.waiting
    pub mark : get_or w (opposite s.dart) 0 ≡ 8192 + get_or w (WAITING * length order + (s.waiting - 1)) 0
    pub later : e ≤ get_or w (WAITING * length order + (s.waiting - 2)) 0

  pub second_last : Last
  second_last =
      let (before, is_down_lem) = tree_opener ℓ₂ a.k a.node a.stands.below a.stands.stacked in
      let in' = second_within order w l f e s a in
      let j : a.node < length rot₂ = omega arith in
      let is = ⊎_elim (λ u. absurd (mesh_second order s.root fits a.node a.k j is_down_lem in' a.stands.here u)) (λ q. q) ends_here in
      let m = mesh_ends order s.root fits a.node a.k j is_down_lem in' a.stands.here is in
      let t = a.stands.strolled.trail in
      let two = two_wait order w s a.k a.us a.b a.waits a.ts g₂ t m.begun m.under m.rest m.stacked in
      let last = last_is_lem order w s a.k a.us a.b a.waits a.ts g₂ t m.begun m.under m.rest m.stacked in
      let under = before_is order w s a.k a.us a.b a.waits a.ts g₂ t m.begun m.under m.rest m.stacked in
      let marked = begun_mark order w s a.k a.us a.b a.waits a.ts g₂ t m.begun m.earlier
      (chord_opener ℓ₂ a.k m.begun (m.under ∷ m.rest) m.stacked).1 in
      let late = m.number in
      let entry = a.entry in
      record {
        two = omega arith;
        mark = ap (λ (i : ℕ). get_or w i 0) (ap opposite a.here ∙ sym m.across) ∙ marked ∙ ap (λ (i : ℕ). 8192 + i) (sym last);
        later = omega arith;
      }
