-- One cycle is followed in a part of the work area: `Naming` with the area around it.
--
--   Following            the area w while the cycle of d is named, x next, k darts of it named, and w₀ before
--   following_here, following_few   x is a dart, and not every dart is named
--   following_start, following_step, following_end   at the start d, one step, and back at d
use mathlib.Core.Path.{◌≡◌, refl, sym, ap, ◌∙◌, subst}
use mathlib.Core.Logic.{◌≢◌}
use mathlib.Core.List.{List}
use Prim.Native.Nat.{ℕ, suc, ◌+◌, ◌≤◌, ◌<◌}
use native.Mathlib.Omega.{arith}
use lib.ListN.{length, set, length-set}
use Rattle.model.proofs.Fitness.{count_parts}
use Rattle.orbits.specs.Permutation.{Perm}
use Rattle.work.specs.Area.{region, placed}
use Rattle.work.proofs.Regions.{length_region, region_set, set_placed, placed_region}
use Rattle.dart_steps.specs.Steps.{Permutes}
use Rattle.following.specs.Half.{names_below, HalfNamed, Followed}
use Rattle.following.proofs.Naming.{Naming, naming_start, naming_here, naming_few, naming_step, naming_end, naming_size}

pub record Following (f : ℕ → ℕ) (n a d : ℕ) (w₀ w : List ℕ) (x k : ℕ) : Type 0 where
  pub as_long : length w ≡ length w₀
  pub around : w ≡ placed a (region a n w) w₀
  pub naming : Naming f n d (region a n w) x k

module _ {step : List ℕ → ℕ → ℕ} (permutes : Permutes step) {rot : List ℕ} {a d : ℕ} {w₀ : List ℕ} (b : HalfNamed step rot a d w₀) where
  abbrev f : ℕ → ℕ
  f = step rot

  abbrev n : ℕ
  n = length rot

  perm : Perm n f
  perm = permutes rot b.entries b.size

  few : n ≤ 8192
  few = (count_parts n b.size).2

  pub following_start : Following f n a d w₀ w₀ d 0
  following_start = record {
    as_long = refl;
    around = sym (placed_region a n w₀ b.fits);
    naming = subst (λ (r : List ℕ). Naming f n d r d 0) (sym b.names) (naming_start f n perm few d b.below);
  }

  module _ {w : List ℕ} {x k : ℕ} (s : Following f n a d w₀ w x k) where
    pub following_here : x < n
    following_here = naming_here f n perm few d b.below (region a n w) x k s.naming

    module _ (new : 0 < k → x ≢ d) where
      pub following_few : k < n
      following_few = naming_few f n perm few d b.below (region a n w) x k s.naming new

      pub following_step : Following f n a d w₀ (set w (a + x) d) (f x) (k + 1)
      following_step =
          let e = region_set a n w x d following_here in
          let l = length_region a n w (omega (arith, s.as_long, b.fits)) in
          record {
            as_long = length-set w (a + x) d ∙ s.as_long;
            around = ap (λ (v : List ℕ). set v (a + x) d) s.around
                ∙ set_placed a (region a n w) w₀ (omega (arith, b.fits)) x d (omega (arith, following_here))
                ∙ ap (λ (r : List ℕ). placed a r w₀) (sym e);
            naming = subst (λ (r : List ℕ). Naming f n d r (f x) (k + 1)) (sym e)
                (naming_step f n perm few d b.below (region a n w) x k s.naming new);
          }

    pub following_end : 0 < k → x ≡ d → Followed f n a d w₀ k w
    following_end some back =
        let e : suc d ≡ d + 1 = omega arith in
        record {
          size = naming_size f n perm few d b.below (region a n w) x k s.naming b.own some back;
          names = s.around ∙ ap (λ (r : List ℕ). placed a r w₀)
              (naming_end f n perm few d b.below (region a n w) x k s.naming b.own some back ∙ ap (names_below f n) e);
        }
