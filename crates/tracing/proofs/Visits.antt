-- What one visit answers, for each way that it takes. The walk stands at position k, before the dart whose opposite is o.
--
--   over_in, ranges, blank, up_range, end_range, has_waiting   what each step requires
--   visited_down, visited_first, visited_up, visited_second    what it ensures
--   unfit_first, unfit_up, unfit_second   the same where the walk ends
use mathlib.Core.Path.{◌≡◌, refl, sym, ap, ◌∙◌, subst}
use mathlib.Core.Logic.{◌≢◌}
use mathlib.Core.Bool.{Bool, true, false, cond, false≢true}
use mathlib.Core.List.{List}
use Prim.Native.Nat.{ℕ, suc, ◌-◌, ◌*◌, ◌≤◌, ◌<◌}
use lib.Dec.{eqb}
use lib.ListN.{length, get_or}
use borrow.Author.Tests.{eqb-true, eqb-false, eq-eqb, ne_eqb}
use Rattle.model.specs.Map.{opposite, next, vertex_of}
use Rattle.work.specs.Map.{WAITING}
use Rattle.work.specs.Area.{stack}
use Rattle.trace_steps.specs.declared.Trace.{Trace}
use Rattle.trace_steps.specs.Steps.{Placed, down_on, WentDown, first_on, first_area, up_on, up_area, second_on, second_area, last_is}
use Rattle.std.specs.Prelude.{None, Some}
use Rattle.tracing.specs.Tracing.{Tracing, Stepped}
use Rattle.tracing.proofs.Declining.{loop_unsound, leaf_unsound, crossing_unsound}
use Rattle.tracing.proofs.Stepping as stepping

-- ---- what the tests of a loop and of a leaf say

pub loop_taken : (family a b : ℕ) → cond (eqb family 4) false (eqb a b) ≡ true → (family ≢ 4) × (a ≡ b)
loop_taken family a b q = go (eqb family 4) refl q
  where
    go : (c : Bool) → eqb family 4 ≡ c → cond c false (eqb a b) ≡ true → (family ≢ 4) × (a ≡ b)
    go true e z = absurd (false≢true z)
    go false e z = (eqb-false family 4 e, eqb-true a b z)

pub loop_left : (family a b : ℕ) → cond (eqb family 4) false (eqb a b) ≡ false → family ≢ 4 → a ≢ b
loop_left family a b q f = eqb-false a b (sym (ap (λ (c : Bool). cond c false (eqb a b)) (ne_eqb family 4 f)) ∙ q)

pub leaf_taken : (family a b : ℕ) → cond (eqb family 1) (eqb a b) false ≡ true → (family ≡ 1) × (a ≡ b)
leaf_taken family a b q = go (eqb family 1) refl q
  where
    go : (c : Bool) → eqb family 1 ≡ c → cond c (eqb a b) false ≡ true → (family ≡ 1) × (a ≡ b)
    go true e z = (eqb-true family 1 e, eqb-true a b z)
    go false e z = absurd (false≢true z)

pub leaf_left : (family a b : ℕ) → cond (eqb family 1) (eqb a b) false ≡ false → family ≡ 1 → a ≢ b
leaf_left family a b q f = eqb-false a b (sym (ap (λ (c : Bool). cond c (eqb a b) false) (eq-eqb family 1 f)) ∙ q)

-- ---- a visit

module _ {family : ℕ} {rot : List ℕ} {k : ℕ} {w : List ℕ} {s : Trace} {o : ℕ} (g : Tracing family rot k w s) (here : k < length rot)
    (on : 0 < k → s.dart ≢ s.root) (is : o ≡ opposite s.dart) where
  abbrev n : ℕ
  n = length rot

  abbrev mark : ℕ
  mark = get_or w o 0

  same : get_or w (opposite s.dart) 0 ≡ mark
  same = ap (λ (x : ℕ). get_or w x 0) (sym is)

  told : (P : ℕ → Type 0) → P mark → P (get_or w (opposite s.dart) 0)
  told P = subst P (sym same)

  pub ranges : Placed rot k s
  ranges = stepping.placed family rot k w s g here on

  pub over_in : o < n
  over_in = subst (λ (x : ℕ). x < n) (sym is) (stepping.across_in family rot k w s g here on)

  pub blank : mark ≡ 0 → (z : ℕ) → z < n → vertex_of rot z ≡ vertex_of rot o → get_or w z 0 ≡ 0
  blank e z h q = stepping.unmarked family rot k w s g here on (same ∙ e) z h (q ∙ ap (vertex_of rot) is)

  -- a step that goes on
  going : (t t' : Trace) (w' : List ℕ) → t ≡ t' → t'.root ≡ s.root → Tracing family rot (suc k) w' t' → length w' ≡ length w → Stepped family rot k w s (Some t) w'
  unfolding Stepped
  going t t' w' e r tr l =
      (subst (Tracing family rot (suc k) w') (sym e) tr, ap (λ (u : Trace). u.root) e ∙ r, l)

  pub visited_down : mark ≡ 0 → (t : Trace) (w' : List ℕ) → length w' ≡ length w → WentDown rot family k o s w t w' → Stepped family rot k w s (Some t) w'
  visited_down e t w' l wd =
      let wd' = subst (λ (x : ℕ). WentDown rot family k x s w t w') is wd in
      going t (down_on rot (opposite s.dart) s) w' wd'.stands refl
      (stepping.traced_down family rot k w s g here on (same ∙ e) t w' wd') l

  pub visited_first : 32768 ≤ mark → (family ≢ 4 → mark ≢ get_or w s.dart 0) → (t : Trace) (w' : List ℕ) → length w' ≡ length w
      → t ≡ first_on rot s → w' ≡ first_area n family k s w → Stepped family rot k w s (Some t) w'
  visited_first big loop t w' l e area =
      going t (first_on rot s) w' e refl
      (stepping.traced_first family rot k w s g here on (told (λ m. 32768 ≤ m) big) (λ f. told (λ m. m ≢ get_or w s.dart 0) (loop f)) w' area) l

  module _ (lo : 16384 ≤ mark) (hi : mark < 32768) where
    pub up_range : mark - 16384 < n
    up_range = subst (λ (m : ℕ). m - 16384 < n) same
        (stepping.up_in family rot k w s g here on (told (λ m. 16384 ≤ m) lo) (told (λ m. m < 32768) hi))

    pub visited_up : (family ≡ 1 → next rot s.dart ≢ s.dart) → (t : Trace) (w' : List ℕ) → length w' ≡ length w
        → t ≡ up_on rot o s → w' ≡ up_area rot family k o (mark - 16384) s w → Stepped family rot k w s (Some t) w'
    visited_up leaf t w' l e area =
        going t (up_on rot (opposite s.dart) s) w' (subst (λ (x : ℕ). t ≡ up_on rot x s) is e) refl
        (stepping.traced_up family rot k w s g here on (told (λ m. 16384 ≤ m) lo) (told (λ m. m < 32768) hi) leaf w'
        (subst (λ (x : ℕ). w' ≡ up_area rot family k x (get_or w x 0 - 16384) s w) is area)) l

  module _ (lo : 0 < mark) (hi : mark < 16384) where
    pub end_range : (8192 ≤ mark) × (mark - 8192 < n)
    end_range = subst (λ (m : ℕ). (8192 ≤ m) × (m - 8192 < n)) same
        (stepping.end_in family rot k w s g here on (told (λ m. 0 < m) lo) (told (λ m. m < 16384) hi))

    module _ (last : last_is (stack (WAITING * n) s.waiting w) (mark - 8192) ≡ true) where
      last' : last_is (stack (WAITING * n) s.waiting w) (get_or w (opposite s.dart) 0 - 8192) ≡ true
      last' = told (λ m. last_is (stack (WAITING * n) s.waiting w) (m - 8192) ≡ true) last

      pub has_waiting : 1 ≤ s.waiting
      has_waiting = stepping.some_waits family rot k w s g here on last'

      pub visited_second : (t : Trace) (w' : List ℕ) → length w' ≡ length w → t ≡ second_on rot s → w' ≡ second_area rot family k (mark - 8192) s w
          → Stepped family rot k w s (Some t) w'
      visited_second t w' l e area =
          going t (second_on rot s) w' e refl
          (stepping.traced_second family rot k w s g here on (told (λ m. 0 < m) lo) (told (λ m. m < 16384) hi) last' w'
          (subst (λ (x : ℕ). w' ≡ second_area rot family k (get_or w x 0 - 8192) s w) is area)) l

    pub unfit_second : last_is (stack (WAITING * n) s.waiting w) (mark - 8192) ≡ false → Stepped family rot k w s None w
    unfolding Stepped
    unfit_second last = (
      refl,
      λ sound.
          crossing_unsound family rot k w s g sound here on (told (λ m. 0 < m) lo) (told (λ m. m < 16384) hi)
          (told (λ m. last_is (stack (WAITING * n) s.waiting w) (m - 8192) ≡ false) last),
    )

  pub unfit_first : 32768 ≤ mark → cond (eqb family 4) false (eqb mark (get_or w s.dart 0)) ≡ true → Stepped family rot k w s None w
  unfolding Stepped
  unfit_first big q = (
    refl,
    λ sound.
        let (f, e) = loop_taken family mark (get_or w s.dart 0) q in
        loop_unsound family rot k w s g sound here on f (told (λ m. 32768 ≤ m) big) (same ∙ e),
  )

  pub unfit_up : 16384 ≤ mark → mark < 32768 → cond (eqb family 1) (eqb (next rot s.dart) s.dart) false ≡ true → Stepped family rot k w s None w
  unfolding Stepped
  unfit_up lo hi q = (
    refl,
    λ sound.
        let (f, e) = leaf_taken family (next rot s.dart) s.dart q in
        leaf_unsound family rot k w s g sound here on f (told (λ m. 16384 ≤ m) lo) (told (λ m. m < 32768) hi) e,
  )
