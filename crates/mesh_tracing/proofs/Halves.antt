-- The last second place that is still to come.
--
--   half_top             it is on top of the stacks, with its face and the edge that this was entered by
--   view_release         it comes: the parts of the work area then
use Prim.Native.Nat.{ℕ, ◌+◌, ◌-◌, ◌*◌, ◌<◌}
use native.Mathlib.Omega.{arith}
use mathlib.Core.Path.{◌≡◌, ap, ◌∙◌}
use mathlib.Core.List.{List, ◌∷◌}
use lib.ListN.{length, get_or}
use Rattle.mesh_second_places.specs.Areas.{HALVES, OWNERS, ENTRIES, View}
use Rattle.mesh_second_places.proofs.Views.{top_is, rest_is, half_count}

module _ (n c h : ℕ) (w b waits ps fs es ts : List ℕ) (v : View n c h w b waits ps fs es ts)
    (y f e : ℕ) (ys gs ds : List ℕ) (p : ps ≡ y ∷ ys) (q : fs ≡ f ∷ gs) (d : es ≡ e ∷ ds) where
  some_half : 0 < h
  some_half = let z = half_count n c h w b waits ps fs es ts v in let y = ap length p in omega arith

  pub half_top : (get_or w (HALVES * n + (h - 1)) 0 ≡ y) × (get_or w (OWNERS * n + (h - 1)) 0 ≡ f) × (get_or w (ENTRIES * n + (h - 1)) 0 ≡ e)
  half_top = (
    top_is (HALVES * n) h y w ys some_half (v.places ∙ p),
    top_is (OWNERS * n) h f w gs some_half (v.owners ∙ q),
    top_is (ENTRIES * n) h e w ds some_half (v.entries ∙ d),
  )

  pub view_release : View n c (h - 1) w b waits ys gs ds ts
  view_release = record {
    marks = v.marks;
    opens = v.opens;
    places = rest_is (HALVES * n) h y w ys some_half (v.places ∙ p);
    owners = rest_is (OWNERS * n) h f w gs some_half (v.owners ∙ q);
    entries = rest_is (ENTRIES * n) h e w ds some_half (v.entries ∙ d);
    types = v.types;
    room = v.room;
  }
