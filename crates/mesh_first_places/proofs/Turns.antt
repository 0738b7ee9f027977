-- What the steps of the walk answer on the way down.
--
--   first_goes_down, first_goes_on, first_unfit   at a first place
--   enters, enter_unfit  at a down
use Prim.Native.Nat.{ℕ, ◌+◌, ◌-◌, ◌≤◌, ◌<◌}
use native.Mathlib.Nat.{le_refl}
use native.Mathlib.Omega.{arith}
use mathlib.Core.Path.{◌≡◌, refl, sym, ap, subst, ◌∙◌}
use mathlib.Core.Logic.{◌≢◌}
use mathlib.Core.Bool.{Bool, true, false}
use mathlib.Core.List.{List}
use lib.ListN.{length, get_or, set}
use Rattle.model.specs.Map.{opposite, face_next, is_triangle}
use Rattle.model.specs.Traversal.{first}
use Rattle.model.specs.Mesh.{node_type}
use Rattle.mesh_walks.specs.Told.{told_after}
use Rattle.mesh_second_places.specs.declared.Stroll.{Stroll}
use Rattle.std.specs.Prelude.{None, Some}
use Rattle.mesh_second_places.specs.declared.Turn.TheVariants.{Down}
use Rattle.mesh_second_places.specs.Areas.{edge_area}
use Rattle.mesh_second_places.specs.Walks.{AtDown, Telling, Stepped}
use Rattle.mesh_first_places.specs.Faces.{face_area, half_area, Faced, AtFirst}
use Rattle.mesh_first_places.proofs.Firsts.{down_over, entered, held_down, held_second}
use Rattle.mesh_second_places.proofs.Turns.{declined, ending}
use Rattle.mesh_first_places.proofs.Declining.{face_declines, first_begins, leaf_begins}

-- ---- at a first place

module _ (order w : List ℕ) (y : ℕ) (s : Stroll) (a : AtFirst order w y s) (o : ℕ) (is : o ≡ opposite s.dart) (w₁ : List ℕ) (l : length w₁ ≡ length w) where
  pub first_goes_down : get_or w o 0 ≡ 0 → w₁ ≡ half_area (length order) y (s.faces - 1) (s.edges - 1) s.halves w
      → Stepped order s.root s.edges s.halves w
      (Some (Down (record { root = s.root; dart = s.dart; edges = s.edges; faces = s.faces; waiting = s.waiting; halves = s.halves + 1 }))) w₁
  unfolding Stepped
  first_goes_down none e = (
    subst (λ (v : List ℕ). AtDown order v
        (record { root = s.root; dart = s.dart; edges = s.edges; faces = s.faces; waiting = s.waiting; halves = s.halves + 1 })) (sym e)
        (held_down order w y s a (ap (λ (x : ℕ). get_or w x 0) (sym is) ∙ none)),
    record { rooted = refl; grown = le_refl s.edges; kept = l },
  )

  pub first_goes_on : 32768 ≤ get_or w (opposite s.dart) 0 → w₁ ≡ edge_area (length order) s.dart s.edges s.waiting w
      → Telling order w₁ (s.faces - 1) 4 5 (record { root = s.root; dart = y; edges = s.edges + 1; faces = s.faces; waiting = s.waiting + 1; halves = s.halves })
  unfolding told_after node_type
  first_goes_on big e =
      let to : Stroll = record { root = s.root; dart = y; edges = s.edges + 1; faces = s.faces; waiting = s.waiting + 1; halves = s.halves } in
      let v = edge_area (length order) s.dart s.edges s.waiting w in
      let (t, k) = held_second order w y s a big in
      subst (λ (v : List ℕ). Telling order v (s.faces - 1) 4 5 to) (sym e) (record {
        letter = first;
        edge = s.edges - 1;
        at = t;
        by_down = refl;
        by_first = refl;
        some_down = omega arith;
        some_first = omega arith;
        no_end = λ fits end. leaf_begins order v first (s.faces - 1) (s.edges - 1) to t fits end refl a.k k a.stands.is_down;
      })

pub first_unfit : (order w : List ℕ) (y : ℕ) (s : Stroll) → AtFirst order w y s → (o : ℕ) → o ≡ opposite s.dart
    → get_or w o 0 ≢ 0 → get_or w o 0 < 32768 → Stepped order s.root s.edges s.halves w None w
first_unfit order w y s a o is some small = declined order s.root s.edges s.halves w w refl (λ fits.
    first_begins order w y s a fits (ending w o s.dart is some small))

-- ---- at a down

pub enters : (order w : List ℕ) (s : Stroll) → AtDown order w s → (o x y : ℕ) → o ≡ opposite s.dart → x ≡ face_next order o → y ≡ face_next order x
    → (b : Bool) (w₁ : List ℕ) → Faced order o w b w₁ → b ≡ true
    → AtFirst order (set w₁ s.dart (16384 + s.edges)) y
    (record { root = s.root; dart = x; edges = s.edges + 1; faces = s.faces + 1; waiting = s.waiting; halves = s.halves })
unfolding Faced
enters order w s a o x y is ex ey b w₁ f e =
    let (good, area) = subst (λ (c : Bool). Faced order o w c w₁) e f in
    let ex' : x ≡ face_next order (opposite s.dart) = ex ∙ ap (face_next order) is in
    let to : Stroll = record { root = s.root; dart = x; edges = s.edges + 1; faces = s.faces + 1; waiting = s.waiting; halves = s.halves } in
    subst (λ (v : List ℕ). AtFirst order (set v s.dart (16384 + s.edges)) y to) (ap (λ (i : ℕ). face_area order i w) (sym is) ∙ sym area)
    (subst (λ (i : ℕ). AtFirst order (set (face_area order (opposite s.dart) w) s.dart (16384 + s.edges)) y
    (record { root = s.root; dart = i; edges = s.edges + 1; faces = s.faces + 1; waiting = s.waiting; halves = s.halves })) (sym ex')
    (entered order w s a (ap (is_triangle order) (sym is) ∙ good) y (ey ∙ ap (face_next order) ex')))

pub enter_unfit : (order w : List ℕ) (s : Stroll) → AtDown order w s → (o e h : ℕ) → o ≡ opposite s.dart → (b : Bool) (w₁ : List ℕ) → Faced order o w b w₁ → b ≡ false
    → length w₁ ≡ length w → Stepped order s.root e h w None w₁
enter_unfit order w s a o e h is b w₁ f none l = declined order s.root e h w w₁ l
    (face_declines order s.root o w b w₁ f none (subst (λ (x : ℕ). x < length order) (sym is) (down_over order w s a)))
