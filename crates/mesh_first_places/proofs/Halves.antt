-- A second place is still to come: the parts of the work area after it is put.
--
--   view_half            the stacks of second places, of their faces and of the edges that these were entered by
use Prim.Native.Nat.{ℕ, suc, ◌+◌, ◌*◌, ◌≤◌, ◌<◌}
use native.Mathlib.Omega.{arith}
use mathlib.Core.Path.{◌≡◌, ap, ◌∙◌}
use mathlib.Core.List.{List, ◌∷◌}
use lib.ListN.{length, set, length-set}
use Rattle.work.specs.Map.{TYPES}
use Rattle.work.proofs.Regions.{region_set_other}
use Rattle.work.proofs.Stacks.{stack_set, stack_push}
use Rattle.mesh_second_places.specs.Areas.{WAITING, HALVES, OWNERS, ENTRIES, View}
use Rattle.mesh_first_places.specs.Faces.{half_area}

pub view_half : (n c h : ℕ) (w b waits ps fs es ts : List ℕ) → View n c h w b waits ps fs es ts → c ≤ n → h ≤ n → (y f e : ℕ) → h < n → View n c (suc h) (half_area n y f e h w) b waits (y ∷ ps) (f ∷ fs) (e ∷ es) ts
unfolding half_area
view_half n c h w b waits ps fs es ts v ch hh y f e l =
    let i = HALVES * n + h in
    let j = OWNERS * n + h in
    let k = ENTRIES * n + h in
    let w₁ = set w i y in
    let w₂ = set w₁ j f in
    let size : length w₁ ≡ length w = length-set w i y in
    let size₂ : length w₂ ≡ length w₁ = length-set w₁ j f in
    record {
      marks = region_set_other 0 n w₂ k e (λ g. omega arith) ∙ region_set_other 0 n w₁ j f (λ g. omega arith) ∙ region_set_other 0 n w i y (λ g. omega arith)
          ∙ v.marks;
      opens = stack_set (WAITING * n) c w₂ k e (λ g. omega arith) ∙ stack_set (WAITING * n) c w₁ j f (λ g. omega arith)
          ∙ stack_set (WAITING * n) c w i y (λ g. omega arith) ∙ v.opens;
      places = stack_set (HALVES * n) (suc h) w₂ k e (λ g. omega arith) ∙ stack_set (HALVES * n) (suc h) w₁ j f (λ g. omega arith)
          ∙ stack_push (HALVES * n) h w y (omega (arith, v.room)) ∙ ap (λ (a : List ℕ). y ∷ a) v.places;
      owners = stack_set (OWNERS * n) (suc h) w₂ k e (λ g. omega arith) ∙ stack_push (OWNERS * n) h w₁ f (omega (arith, v.room))
          ∙ ap (λ (a : List ℕ). f ∷ a) (stack_set (OWNERS * n) h w i y (λ g. omega arith) ∙ v.owners);
      entries = stack_push (ENTRIES * n) h w₂ e (omega (arith, v.room))
          ∙ ap (λ (a : List ℕ). e ∷ a) (stack_set (ENTRIES * n) h w₁ j f (λ g. omega arith) ∙ stack_set (ENTRIES * n) h w i y (λ g. omega arith) ∙ v.entries);
      types = region_set_other (TYPES * n) n w₂ k e (λ g. omega arith) ∙ region_set_other (TYPES * n) n w₁ j f (λ g. omega arith)
          ∙ region_set_other (TYPES * n) n w i y (λ g. omega arith) ∙ v.types;
      room = simp length-set v.room;
    }
