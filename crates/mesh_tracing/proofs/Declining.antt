-- The walk declines no mesh at its end.
--
--   first_below          what waits below an edge that ends began outside the tree too
--   Over, home_over      back at the root's face: two edges wait, and end there
use Prim.Native.Nat.{ℕ, suc, ◌+◌, ◌-◌, ◌*◌, ◌/◌, ◌<◌}
use native.Mathlib.Omega.{arith}
use mathlib.Core.Path.{◌≡◌, sym, ap, ◌∙◌}
use mathlib.Core.Logic.{◌≢◌}
use mathlib.Core.List.{List, [], ◌∷◌}
use lib.ListN.{length, get_or}
use Rattle.model.specs.Map.{opposite, next, face_next}
use Rattle.model.specs.Traversal.{Letter, first, second}
use Rattle.model.specs.Mesh.{dual_of}
use Rattle.orbits.specs.Stack.{push, stack}
use Rattle.words.specs.Brackets.{chord_kind, chord_stack}
use Rattle.traversal.specs.Steps.{dart, letter_after}
use Rattle.forward.proofs.Tops.{chord_opener}
use Rattle.duals.proofs.Duals.{length_dual, dual_next}
use Rattle.meshes.proofs.Triangles.{triangle_parts}
use Rattle.mesh_trails.proofs.Strolls.{within}
use Rattle.mesh_trails.proofs.Meshes.{mesh_home}
use Rattle.mesh_second_places.specs.declared.Stroll.{Stroll}
use Rattle.mesh_second_places.specs.Areas.{WAITING}
use Rattle.mesh_second_places.specs.Walks.{Good}
use Rattle.mesh_tracing.specs.Walks.{AtHome}
use Rattle.mesh_second_places.proofs.Dual.{turn, cross}
use Rattle.mesh_first_places.proofs.Faces.{next_below}
use Rattle.mesh_second_places.proofs.Walks.{root_dual}
use Rattle.mesh_second_places.proofs.Declining.{Fits, begun_mark, two_wait, last_is_lem, before_is}

first_below : (ℓ : ℕ → Letter) (k x y : ℕ) (s : List ℕ) → ℓ k ≡ second → chord_stack ℓ k ≡ x ∷ (y ∷ s) → ℓ y ≡ first
unfolding stack
first_below ℓ k x y s e q =
    (chord_opener ℓ (suc k) y s (ap (λ (a : Letter). push (chord_kind a) k (chord_stack ℓ k)) e ∙ ap (push (chord_kind second) k) q)).1

module _ (order w : List ℕ) (s : Stroll) (a : AtHome order w s) (fits : Fits order s.root) where
  pub record Over : Type 0 where
    pub two : s.waiting ≡ 2
    pub all : s.edges ≡ length order / 2
    pub mark : get_or w (opposite (face_next order s.root)) 0 ≡ 8192 + get_or w (WAITING * length order + 1) 0
    pub mark_next : get_or w (opposite (face_next order (face_next order s.root))) 0 ≡ 8192 + get_or w (WAITING * length order + 0) 0

  pub home_over : Over
  home_over =
      let g = a.held in
      let k = a.k in
      let t = a.stands.strolled.trail in
      let rot = dual_of order in
      let ℓ = letter_after rot s.root in
      let x = face_next order s.root in
      let one : next rot s.root ≡ x = dual_next order s.root g.root_in in
      let two : next rot x ≡ face_next order x = dual_next order x (next_below order g.count g.perm s.root g.root_in) in
      let on : 0 < k → dart rot s.root k ≢ s.root = λ _ e.
      (triangle_parts order s.root a.stands.root).one_two (ap (λ (z : ℕ). z / 2) (sym e ∙ a.stands.here ∙ one)) in
      let inside = within (Good order) rot s.root (turn order g.count g.perm) (cross order g.count g.perm)
      (root_dual order w s k a.us a.b a.waits a.ts g) k a.b a.waits a.ts a.stands.strolled on in
      let m = mesh_home order s.root fits k inside a.stands.here in
      let waits = two_wait order w s k a.us a.b a.waits a.ts g t m.begun m.under [] m.stacked in
      let last = last_is_lem order w s k a.us a.b a.waits a.ts g t m.begun m.under [] m.stacked in
      let under = before_is order w s k a.us a.b a.waits a.ts g t m.begun m.under [] m.stacked in
      let marked = begun_mark order w s k a.us a.b a.waits a.ts g t in
      let i₁ : s.waiting - 1 ≡ 1 = omega arith in
      let i₀ : s.waiting - 2 ≡ 0 = omega arith in
      let at : (i j : ℕ) → i ≡ j → get_or w (WAITING * length order + i) 0 ≡ get_or w (WAITING * length order + j) 0 = λ i j e.
      ap (λ (h : ℕ). get_or w (WAITING * length order + h) 0) e in
      record {
        two = waits;
        all = g.edges ∙ m.edges ∙ ap (λ (h : ℕ). h / 2) (length_dual order);
        mark = ap (λ (i : ℕ). get_or w i 0) (ap opposite (sym one ∙ sym a.stands.here) ∙ sym m.across)
            ∙ marked m.begun m.earlier.0 (chord_opener ℓ k m.begun (m.under ∷ []) m.stacked).1 ∙ ap (λ (i : ℕ). 8192 + i) (sym last ∙ at _ _ i₁);
        mark_next = ap (λ (i : ℕ). get_or w i 0) (ap opposite (sym two ∙ ap (next rot) (sym one ∙ sym a.stands.here)) ∙ sym m.across_next)
            ∙ marked m.under m.earlier.1 (first_below ℓ k m.begun m.under [] m.letter m.stacked) ∙ ap (λ (i : ℕ). 8192 + i) (sym under ∙ at _ _ i₀);
      }
