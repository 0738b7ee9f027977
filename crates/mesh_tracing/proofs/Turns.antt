-- What the steps of the walk answer on the way up, and the whole walk.
--
--   half_tells           at a second place that was still to come
--   Going, going_start, going_up, going_lower, gone_down, gone_unfit, gone_home   the way up
--   ended_since          what leads down again or home, from an earlier time on
--   turned_at, turned_up, turned_down, turned_unfit   down and up again
--   Walking, faced_begun, walking_on, walking_home, meshed_since   the whole walk
--   not_meshed, root_unfit, turn_unfit   it declines
--   Corners, corners     the root's face
--   home_unfit, mark_unfit, is_meshed   it is back at the root's face
use Prim.Native.Nat.{ℕ, suc, ◌+◌, ◌-◌, ◌*◌, ◌/◌, ◌≤◌, ◌<◌}
use native.Mathlib.Nat.{le_refl}
use native.Mathlib.Omega.{arith}
use mathlib.Core.Path.{◌≡◌, refl, sym, ap, subst, ◌∙◌}
use mathlib.Core.Logic.{◌⊎◌, ⊎_elim, ◌≢◌}
use mathlib.Core.Bool.{Bool, true, false, false≢true}
use mathlib.Core.List.{List}
use lib.Dec.{eqb}
use lib.ListN.{length, get_or, replicate}
use borrow.Author.Tests.{eqb-true, eqb-false, eq-eqb}
use Rattle.model.specs.Numbers.{is_permutation}
use Rattle.model.specs.Map.{opposite, face_next, dart_count_fits, fit}
use Rattle.model.specs.Traversal.{up}
use Rattle.model.specs.Mesh.{types, node_type}
use Rattle.model.proofs.Booleans.{not_intro, bool_ext}
use Rattle.model.proofs.Fitness.{count_even, count_positive}
use Rattle.model.proofs.Opposite.{opposite_bound}
use Rattle.work.specs.Map.{TYPES}
use Rattle.work.specs.Area.{region}
use Rattle.tracing.specs.Tracing.{from}
use Rattle.mesh_walks.specs.Told.{told_after}
use Rattle.mesh_second_places.specs.declared.Stroll.{Stroll}
use Rattle.std.specs.Prelude.{Option, None, Some}
use Rattle.trace_steps.specs.Steps.{Ground}
use Rattle.trace_steps.proofs.Grounds as grounds
use Rattle.mesh_second_places.specs.declared.Turn.{Turn}
use Rattle.mesh_second_places.specs.declared.Turn.TheVariants.{Down, Up}
use Rattle.mesh_second_places.specs.Areas.{WAITING}
use Rattle.mesh_second_places.specs.Walks.{AtDown, AtSecond, Telling, AtUp, Onward, Stepped}
use Rattle.mesh_first_places.specs.Faces.{Faced}
use Rattle.mesh_tracing.specs.Walks.{AtHome, Ended, Meshed}
use Rattle.mesh_second_places.proofs.Declining.{Fits}
use Rattle.mesh_second_places.proofs.Turns.{since, stepped_since}
use Rattle.mesh_first_places.proofs.Faces.{x_in, y_in}
use Rattle.mesh_first_places.proofs.Declining.{face_declines}
use Rattle.mesh_tracing.proofs.Homes.{home_at, ended, begun}
use Rattle.mesh_tracing.proofs.Declining.{home_over}

-- ---- the way up

pub half_tells : (order w : List ℕ) (f e : ℕ) (s : Stroll) → AtSecond order w up f e s → (o : ℕ) → o ≡ opposite s.dart
    → (get_or w o 0 ≡ 0) ⊎ (32768 ≤ get_or w o 0) → Telling order w f 1 3 s
unfolding told_after node_type
half_tells order w f e s a o is none = record {
  letter = up;
  edge = e;
  at = a;
  by_down = refl;
  by_first = refl;
  some_down = omega arith;
  some_first = omega arith;
  no_end = λ fits end.
      let m = ap (λ (x : ℕ). get_or w x 0) is in
      let some = end.0 in
      let small = end.1 in
      ⊎_elim (λ z. omega arith) (λ big. omega arith) none;
}

pub record Going (order w₀ w : List ℕ) (s t : Stroll) : Type 0 where
  pub at : AtUp order w t
  pub on : Onward s.root s.edges w₀ t w

pub going_start : (order w : List ℕ) (s : Stroll) → AtUp order w s → Going order w w s s
going_start order w s a = record { at = a; on = record { rooted = refl; grown = le_refl s.edges; kept = refl } }

module _ (order w₀ w : List ℕ) (s t : Stroll) (g : Going order w₀ w s t) where
  pub gone_home : t.halves ≡ 0 → Ended order s.root s.edges w₀ (Some (Up t)) w
  unfolding Ended
  gone_home none = (home_at order w t g.at none, g.on)

  module _ (w' : List ℕ) (h : ℕ) (x : Option Turn) (a : Stepped order t.root t.edges h w x w') where
    since_start : Stepped order s.root s.edges h w₀ x w'
    since_start = stepped_since order s.root t.root s.edges t.edges w₀ w w' g.on.rooted g.on.grown g.on.kept h x a

    pub going_up : (u : Stroll) → x ≡ Some (Up u) → Going order w₀ w' s u
    unfolding Stepped
    going_up u e = let (p, o, f) = subst (λ (y : Option Turn). Stepped order s.root s.edges h w₀ y w') e since_start in record { at = p; on = o }

    pub going_lower : (u : Stroll) → x ≡ Some (Up u) → u.halves ≤ h
    unfolding Stepped
    going_lower u e = (subst (λ (y : Option Turn). Stepped order s.root s.edges h w₀ y w') e since_start).2

    pub gone_down : (u : Stroll) → x ≡ Some (Down u) → Ended order s.root s.edges w₀ (Some (Down u)) w'
    unfolding Stepped Ended
    gone_down u e = subst (λ (y : Option Turn). Stepped order s.root s.edges h w₀ y w') e since_start

    pub gone_unfit : x ≡ None → Ended order s.root s.edges w₀ None w'
    unfolding Stepped Ended
    gone_unfit e = subst (λ (y : Option Turn). Stepped order s.root s.edges h w₀ y w') e since_start

-- ---- down and up again

ended_since : (order : List ℕ) (r r' e e' : ℕ) (w w₁ w' : List ℕ) → r' ≡ r → e ≤ e' → length w₁ ≡ length w → (x : Option Turn) → Ended order r' e' w₁ x w' → Ended order r e w x w'
unfolding Ended
ended_since order r r' e e' w w₁ w' q h l (Some (Down t)) (a, o) = (a, since q h l o)
ended_since order r r' e e' w w₁ w' q h l (Some (Up t)) (a, o) = (a, since q h l o)
ended_since order r r' e e' w w₁ w' q h l None (k, never) = (k ∙ l, λ f. never (subst (Fits order) (sym q) f))

module _ (order : List ℕ) (r e h : ℕ) (w w₁ : List ℕ) (x : Option Turn) (a : Stepped order r e h w x w₁) where
  pub turned_down : (t : Stroll) → x ≡ Some (Down t) → Ended order r e w (Some (Down t)) w₁
  unfolding Stepped Ended
  turned_down t q = subst (λ (y : Option Turn). Stepped order r e h w y w₁) q a

  pub turned_unfit : x ≡ None → Ended order r e w None w₁
  unfolding Stepped Ended
  turned_unfit q = subst (λ (y : Option Turn). Stepped order r e h w y w₁) q a

  pub turned_at : (t : Stroll) → x ≡ Some (Up t) → AtUp order w₁ t
  unfolding Stepped
  turned_at t q = (subst (λ (y : Option Turn). Stepped order r e h w y w₁) q a).0

  pub turned_up : (t : Stroll) → x ≡ Some (Up t) → (w' : List ℕ) (y : Option Turn) → Ended order t.root t.edges w₁ y w' → Ended order r e w y w'
  unfolding Stepped
  turned_up t q w' y b =
      let o = (subst (λ (y : Option Turn). Stepped order r e h w y w₁) q a).1 in
      ended_since order r t.root e t.edges w w₁ w' o.rooted o.grown o.kept y b

-- ---- the whole walk

pub record Walking (order : List ℕ) (root : ℕ) (w₀ w : List ℕ) (s : Stroll) : Type 0 where
  pub at : AtDown order w s
  pub rooted : s.root ≡ root
  pub kept : length w ≡ length w₀

module _ (order : List ℕ) (root : ℕ) (w₀ w w' : List ℕ) (s : Stroll) (g : Walking order root w₀ w s) (x : Option Turn)
    (a : Ended order s.root (suc s.edges) w x w') where
  pub walking_on : (t : Stroll) → x ≡ Some (Down t) → Walking order root w₀ w' t × (s.edges < t.edges)
  unfolding Ended
  walking_on t e =
      let (p, o) = subst (λ (y : Option Turn). Ended order s.root (suc s.edges) w y w') e a in
      (record { at = p; rooted = o.rooted ∙ g.rooted; kept = o.kept ∙ g.kept }, o.grown)

  pub walking_home : (t : Stroll) → x ≡ Some (Up t) → AtHome order w' t × (t.root ≡ root) × (length w' ≡ length w₀)
  unfolding Ended
  walking_home t e =
      let (p, o) = subst (λ (y : Option Turn). Ended order s.root (suc s.edges) w y w') e a in
      (p, o.rooted ∙ g.rooted, o.kept ∙ g.kept)

pub meshed_since : (order : List ℕ) (r root : ℕ) (w w' : List ℕ) (b : Bool) → r ≡ root → length w' ≡ length w → Meshed (from order r) w' b w' → Meshed (from order root) w b w'
meshed_since order r root w w' b e l m =
    let n = subst (λ (i : ℕ). Meshed (from order i) w' b w') e m in
    record { kept = l; mesh = n.mesh; typed = n.typed }

pub faced_begun : (order : List ℕ) (root : ℕ) (w w₁ : List ℕ) → dart_count_fits (length order) ≡ true → is_permutation order ≡ true → root < length order
    → 16 * length order ≤ length w → region 0 (length order) w ≡ replicate (length order) 0 → (b : Bool) → Faced order root w b w₁ → b ≡ true
    → Walking order root w₁ w₁ (record { root = root; dart = root; edges = 0; faces = 1; waiting = 0; halves = 0 })
unfolding Faced
faced_begun order root w w₁ count perm hr room none b f e =
    let (good, area) = subst (λ (c : Bool). Faced order root w c w₁) e f in
    let to : Stroll = record { root = root; dart = root; edges = 0; faces = 1; waiting = 0; halves = 0 } in
    record {
      at = subst (λ (v : List ℕ). AtDown order v to) (sym area) (begun order root w count perm hr room none good);
      rooted = refl;
      kept = refl;
    }

-- ---- it declines

pub not_meshed : (order : List ℕ) (r : ℕ) (w w' : List ℕ) → length w' ≡ length w → (Fits order r → ⊥) → Meshed (from order r) w false w'
not_meshed order r w w' l never = record { kept = l; mesh = sym (not_intro _ never); typed = λ e. absurd (false≢true e) }

pub root_unfit : (order : List ℕ) (root : ℕ) (w w₁ : List ℕ) (b : Bool) → root < length order → Faced order root w b w₁ → b ≡ false → length w₁ ≡ length w
    → Meshed (from order root) w false w₁
root_unfit order root w w₁ b hr f none l = not_meshed order root w w₁ l (face_declines order root root w b w₁ f none hr)

module _ (order : List ℕ) (root : ℕ) (w w₀ w₁ : List ℕ) (s : Stroll) (l : length w₀ ≡ length w) (g : Walking order root w₀ w₁ s) where
  pub turn_unfit : (x : Option Turn) (w' : List ℕ) → Ended order s.root (suc s.edges) w₁ x w' → x ≡ None → Meshed (from order root) w false w'
  unfolding Ended
  turn_unfit x w' a e =
      let (k, never) = subst (λ (y : Option Turn). Ended order s.root (suc s.edges) w₁ y w') e a in
      not_meshed order root w w' (k ∙ g.kept ∙ l) (λ f. never (subst (Fits order) (sym g.rooted) f))

-- ---- back at the root's face

-- the other darts of the root's face, and their opposites
pub record Corners (order : List ℕ) (x y : ℕ) : Type 0 where
  pub few : length order ≤ 8192
  pub some : 1 < length order
  pub first : x < length order
  pub second : y < length order
  pub over_first : opposite x < length order
  pub over_second : opposite y < length order

pub corners : {order w : List ℕ} {r x y : ℕ} → Ground order w → r < length order → x ≡ face_next order r → y ≡ face_next order x → Corners order x y
corners {order} g hr ex ey =
    let two = count_even (length order) g.count in
    let some = count_positive (length order) g.count in
    let hx = x_in g hr ex in
    let hy = y_in g hr ex ey in
    record {
      few = grounds.few g;
      some = omega arith;
      first = hx;
      second = hy;
      over_first = opposite_bound (length order) _ two hx;
      over_second = opposite_bound (length order) _ two hy;
    }

module _ (order w : List ℕ) (s : Stroll) (a : AtHome order w s) where
  pub home_unfit : (s.waiting ≢ 2) ⊎ (s.edges ≢ length order / 2) → Meshed (from order s.root) w false w
  home_unfit wrong = not_meshed order s.root w w refl (λ fits. let h = home_over order w s a fits in ⊎_elim (λ never. never h.two) (λ never. never h.all) wrong)

  module _ (x o : ℕ) (ex : x ≡ face_next order s.root) (eo : o ≡ opposite x) (c : Bool) (ec : c ≡ eqb (get_or w o 0) (8192 + get_or w (WAITING * length order + 1) 0)) where
    mark : get_or w o 0 ≡ get_or w (opposite (face_next order s.root)) 0
    mark = ap (λ (i : ℕ). get_or w i 0) (eo ∙ ap opposite ex)

    pub mark_unfit : c ≡ false → Meshed (from order s.root) w false w
    mark_unfit e = not_meshed order s.root w w refl (λ fits. eqb-false _ _ (sym ec ∙ e) (mark ∙ (home_over order w s a fits).mark))

    pub is_meshed : s.waiting ≡ 2 → s.edges ≡ length order / 2 → c ≡ true → (y p : ℕ) → y ≡ face_next order x → p ≡ opposite y → (b : Bool)
        → b ≡ eqb (get_or w p 0) (8192 + get_or w (WAITING * length order + 0) 0) → Meshed (from order s.root) w b w
    is_meshed two all yes' y p ey ep b eb =
        let next : get_or w p 0 ≡ get_or w (opposite (face_next order (face_next order s.root))) 0 =
        ap (λ (i : ℕ). get_or w i 0) (ep ∙ ap opposite (ey ∙ ap (face_next order) ex)) in
        let over : b ≡ true → (fit 3 (from order s.root) ≡ true) × (region (TYPES * length order) (length order / 3 - 1) w ≡ types (from order s.root)) = λ e.
        ended order w s a two all (sym mark ∙ eqb-true _ _ (sym ec ∙ yes')) (sym next ∙ eqb-true _ _ (sym eb ∙ e)) in
        record {
          kept = refl;
          mesh = bool_ext b _ (λ e. (over e).0) (λ fits. eb ∙ eq-eqb _ _ (next ∙ (home_over order w s a fits).mark_next));
          typed = λ e. (over e).1;
        }
