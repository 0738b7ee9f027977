-- The walk declines no mesh on the way down: what a mesh has there is what the code asks for.
--
--   face_declines        a face that is no triangle of three edges
--   first_begins         at a first place no edge ends
--   leaf_begins          nor at the second place after a first
use Prim.Native.Nat.{ℕ, suc, ◌<◌}
use native.Mathlib.Omega.{arith}
use mathlib.Core.Path.{◌≡◌, sym, ap, subst, ◌∙◌}
use mathlib.Core.Logic.{◌⊎◌, ⊎_elim}
use mathlib.Core.Bool.{Bool, true, false, true≢false}
use mathlib.Core.List.{List}
use lib.ListN.{length}
use Rattle.model.specs.Traversal.{Letter, down, up, first, second, opens}
use Rattle.model.specs.Mesh.{dual_of}
use Rattle.traversal.specs.Steps.{letter_after}
use Rattle.mesh_trails.proofs.Strolls.{within}
use Rattle.mesh_trails.proofs.Meshes.{mesh_first, mesh_leaf, mesh_face}
use Rattle.mesh_second_places.specs.declared.Stroll.{Stroll}
use Rattle.mesh_second_places.specs.Walks.{Good, AtSecond, Ending}
use Rattle.mesh_first_places.specs.Faces.{Faced, AtFirst}
use Rattle.mesh_second_places.proofs.Dual.{turn, cross}
use Rattle.mesh_second_places.proofs.Walks.{root_dual}
use Rattle.mesh_second_places.proofs.Seconds.{second_within}
use Rattle.mesh_second_places.proofs.Declining.{Fits, ends, ends_here}

pub face_declines : (order : List ℕ) (r o : ℕ) (w : List ℕ) (b : Bool) (w' : List ℕ) → Faced order o w b w' → b ≡ false → o < length order → Fits order r → ⊥
unfolding Faced
face_declines order r o w b w' f e h fits =
    let (other, same) = subst (λ (c : Bool). Faced order o w c w') e f in
    true≢false (sym (mesh_face order r fits o h) ∙ other)

-- ---- letters

closes : (a : Letter) → (a ≡ up) ⊎ (a ≡ second) → opens a ≡ false
closes a = ⊎_elim (ap opens) (ap opens)

begins : (a : Letter) → (a ≡ down) ⊎ (a ≡ first) → opens a ≡ true
begins a = ⊎_elim (ap opens) (ap opens)

-- ---- at a first place, and at a second after it

pub first_begins : (order w : List ℕ) (y : ℕ) (s : Stroll) → AtFirst order w y s → Fits order s.root → Ending w s.dart → ⊥
first_begins order w y s a fits e =
    let g = a.held in
    let st = a.stands in
    let hr = root_dual order w s (suc a.k) a.us a.b a.waits a.ts g in
    let l = within (Good order) (dual_of order) s.root (turn order g.count g.perm) (cross order g.count g.perm) hr (suc a.k) a.b a.waits a.ts
    st.strolled (λ _. st.away) in
    true≢false (sym (begins _ (mesh_first order s.root fits a.k (omega arith) st.is_down))
    ∙ closes _ (ends order w s (suc a.k) a.us a.b a.waits a.ts g st.strolled.trail (λ _. st.away) a.here e))

pub leaf_begins : (order w : List ℕ) (l : Letter) (f e : ℕ) (s : Stroll) (a : AtSecond order w l f e s) → Fits order s.root → Ending w s.dart → l ≡ first → (j : ℕ) → suc (suc j) ≡ a.k → letter_after (dual_of order) s.root j ≡ down → ⊥
leaf_begins order w l f e s a fits end q j k d =
    let ℓ = letter_after (dual_of order) s.root in
    let in' = second_within order w l f e s a in
    let b = a.stands.before in
    let i : a.stands.last ≡ suc j = omega arith in
    true≢false (sym (begins _ (mesh_leaf order s.root fits j (omega arith) d (ap ℓ (sym i) ∙ a.stands.after ∙ q)))
    ∙ ap (λ (x : ℕ). opens (ℓ x)) k ∙ closes _ (ends_here order w l f e s a fits end))
