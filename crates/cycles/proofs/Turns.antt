-- All cycles are named, counted and measured, one dart after the other.
--
--   Half                 the darts below d have had their turn: c cycles are counted, and the area w₀ has become w
--   half_start           nothing is named
--   half_end             all darts have had their turn
--   Turn                 the turn of dart d
--   turn_count           no more cycles than darts so far
--   turn_room            there is room for one more size
--   turn_ready           d is unnamed: its cycle can be followed
--   turn_size            the size of that cycle is a small number
--   turn_new, turn_old   after the turn of an unnamed dart, and of a named one
use mathlib.Core.Path.{◌≡◌, refl, sym, ap, ap₂, ◌∙◌}
use mathlib.Core.Logic.{◌≢◌}
use mathlib.Core.Bool.{true}
use mathlib.Core.List.{List}
use Prim.Native.Nat.{ℕ, suc, ◌+◌, ◌≤◌, ◌<◌}
use native.Mathlib.Omega.{arith}
use native.Mathlib.Numerals.{add-one}
use lib.Dec.{eqb→eq}
use lib.ListN.{length, get_or, set, replicate}
use Rattle.model.specs.Numbers.{count, least, is_least, cycles, cycle_size, sizes_below, cycle_sizes, is_permutation}
use Rattle.model.specs.Map.{dart_count_fits}
use Rattle.model.proofs.Fitness.{count_parts}
use Rattle.orbits.specs.Permutation.{Perm}
use Rattle.orbits.proofs.Order.{eq→eqb}
use Rattle.orbits.proofs.Tally.{count_in, count_out, count_le}
use Rattle.orbits.proofs.Sizes.{size_le, sizes_in, sizes_out, length_sizes}
use Rattle.work.specs.Area.{region, placed}
use Rattle.work.proofs.Regions.{getD-region, length_placed, region_placed, region_placed_other, placed_none, placed_placed, placed_snoc, placed_beside}
use Rattle.dart_steps.specs.Steps.{Permutes}
use Rattle.following.specs.Half.{unnamed, names_below, HalfNamed, Followed}
use Rattle.following.proofs.Naming.{length_names, names_none, names_skip, names_all, unnamed_least, named_other}
use Rattle.cycles.specs.Cycles.{Named}

-- the names from place a on, and the sizes from place b on
abbrev laid : (ℕ → ℕ) → ℕ → ℕ → ℕ → List ℕ → ℕ → List ℕ
laid f n a b w d = placed b (sizes_below f n d) (placed a (names_below f n d) w)

pub record Half (f : ℕ → ℕ) (n a b : ℕ) (w₀ : List ℕ) (d c : ℕ) (w : List ℕ) : Type 0 where
  pub counted : c ≡ count (is_least f n) d
  pub stands : w ≡ laid f n a b w₀ d

module _ (f : ℕ → ℕ) (n a b : ℕ) (w₀ : List ℕ) (apart : a + n ≤ b) (fits : b + n ≤ length w₀) where
  names_fit : (d : ℕ) → a + length (names_below f n d) ≤ length w₀
  names_fit d = omega (arith, length_names f n d)

  names_long : (d : ℕ) → length (placed a (names_below f n d) w₀) ≡ length w₀
  names_long d = length_placed a (names_below f n d) w₀ (names_fit d)

  sizes_fit : (d : ℕ) → d ≤ n → b + length (sizes_below f n d) ≤ length (placed a (names_below f n d) w₀)
  sizes_fit d l = omega (arith, names_long d, length_sizes f n d, count_le (is_least f n) d)

  -- names put anew
  replaced : (d e : ℕ) → placed a (names_below f n e) (placed a (names_below f n d) w₀) ≡ placed a (names_below f n e) w₀
  replaced d e = placed_placed a (names_below f n d) w₀ (names_fit d) (names_below f n e) (length_names f n e ∙ sym (length_names f n d))

  module _ (v : List ℕ) (filled : v ≡ placed a (replicate n unnamed) w₀) where
    none_yet : v ≡ placed a (names_below f n 0) w₀
    none_yet = filled ∙ ap (λ (r : List ℕ). placed a r w₀) (names_none f n)

    anew : (d : ℕ) → placed a (names_below f n d) v ≡ placed a (names_below f n d) w₀
    anew d = ap (placed a (names_below f n d)) none_yet ∙ replaced 0 d

    pub half_start : Half f n a b v 0 0 v
    unfolding count sizes_below
    half_start = record { counted = refl; stands = none_yet ∙ sym (placed_none b (placed a (names_below f n 0) v) ∙ anew 0) }

    pub half_end : (d c : ℕ) (w : List ℕ) → d ≡ n → Half f n a b v d c w → Named f n a b w₀ c w
    unfolding cycles cycle_sizes
    half_end d c w e s = record {
      counted = s.counted ∙ ap (count (is_least f n)) e;
      named = s.stands ∙ ap₂ (placed b) (ap (sizes_below f n) e)
          (anew d ∙ ap (λ (r : List ℕ). placed a r w₀) (ap (names_below f n) e ∙ names_all f n));
    }

-- ---- one turn

pub record Turn (step : List ℕ → ℕ → ℕ) (rot : List ℕ) (a b : ℕ) (w₀ : List ℕ) (d c : ℕ) (w : List ℕ) : Type 0 where
  pub permutes : Permutes step
  pub size : dart_count_fits (length rot) ≡ true
  pub entries : is_permutation rot ≡ true
  pub apart : a + length rot ≤ b
  pub fits : b + length rot ≤ length w₀
  pub below : d < length rot
  pub as_long : length w ≡ length w₀
  pub half : Half (step rot) (length rot) a b w₀ d c w

module _ {step : List ℕ → ℕ → ℕ} {rot : List ℕ} {a b : ℕ} {w₀ : List ℕ} {d c : ℕ} {w : List ℕ} (t : Turn step rot a b w₀ d c w) where
  abbrev f : ℕ → ℕ
  f = step rot

  abbrev n : ℕ
  n = length rot

  perm : Perm n f
  perm = t.permutes rot t.entries t.size

  few : n ≤ 8192
  few = (count_parts n t.size).2

  sizes_there : b + length (sizes_below f n d) ≤ length (placed a (names_below f n d) w₀)
  sizes_there = sizes_fit f n a b w₀ t.apart t.fits d (omega (arith, t.below))

  names_there : region a n w ≡ names_below f n d
  names_there =
      ap (region a n) t.half.stands
      ∙ region_placed_other b (sizes_below f n d) (placed a (names_below f n d) w₀) sizes_there a n (λ h. absurd (omega (arith, t.apart)))
      ∙ region_placed a (names_below f n d) w₀ (names_fit f n a b w₀ t.apart t.fits d) n (sym (length_names f n d))

  entry : get_or w (a + d) 0 ≡ get_or (names_below f n d) d 0
  entry = sym (getD-region a n w d t.below) ∙ ap (λ (r : List ℕ). get_or r d 0) names_there

  own : get_or w (a + d) 0 ≡ unnamed → least f n d ≡ d
  own e = unnamed_least f n perm few d t.below (sym entry ∙ e)

  pub turn_count : c ≤ d
  turn_count = omega (arith, t.half.counted, count_le (is_least f n) d)

  pub turn_room : b + c < length w
  turn_room = omega (arith, turn_count, t.below, t.fits, t.as_long)

  pub turn_ready : get_or w (a + d) 0 ≡ unnamed → HalfNamed step rot a d w
  turn_ready e = record {
    size = t.size;
    entries = t.entries;
    below = t.below;
    fits = omega (arith, t.apart, t.fits, t.as_long);
    names = names_there;
    own = own e;
  }

  module _ {steps : ℕ} {w₁ : List ℕ} (s : Followed f n a d w steps w₁) where
    pub turn_size : steps ≤ 8192
    turn_size = omega (arith, s.size, few, size_le f n d)

    -- the cycle's names go beside the sizes
    named_more : w₁ ≡ placed b (sizes_below f n d) (placed a (names_below f n (suc d)) w₀)
    named_more =
        s.names ∙ ap₂ (λ (k : ℕ) (v : List ℕ). placed a (names_below f n k) v) (add-one d) t.half.stands
        ∙ placed_beside a b (names_below f n (suc d)) (sizes_below f n d) (placed a (names_below f n d) w₀)
        (omega (arith, length_names f n (suc d), t.apart)) sizes_there
        ∙ ap (placed b (sizes_below f n d)) (replaced f n a b w₀ t.apart t.fits d (suc d))

    pub turn_new : get_or w (a + d) 0 ≡ unnamed → {c' : ℕ} {w' : List ℕ} → c' ≡ c + 1 → w' ≡ set w₁ (b + c) steps → Half f n a b w₀ (d + 1) c' w'
    turn_new e {c'} {w'} ec ew =
        let here = own e in
        let many = length_sizes f n d in
        let long = names_long f n a b w₀ t.apart t.fits (suc d) in
        record {
          counted = ec ∙ add-one c ∙ ap suc t.half.counted ∙ sym (count_in (is_least f n) d (eq→eqb (least f n d) d here))
              ∙ ap (count (is_least f n)) (sym (add-one d));
          stands = ew ∙ rw (add-one d, named_more, t.half.counted, ← many, s.size, sizes_in f n d here)
              (placed_snoc b (sizes_below f n d) (placed a (names_below f n (suc d)) w₀) (cycle_size f n d)
              (omega (arith, t.fits, t.below, count_le (is_least f n) d)));
        }

  pub turn_old : get_or w (a + d) 0 ≢ unnamed → {c' : ℕ} {w' : List ℕ} → c' ≡ c → w' ≡ w → Half f n a b w₀ (d + 1) c' w'
  turn_old e {c'} {w'} ec ew =
      let other = named_other f n perm few d t.below (λ q. e (entry ∙ q)) in
      record {
        counted = ec ∙ t.half.counted ∙ sym (count_out (is_least f n) d (λ u. other (eqb→eq (least f n d) d u))) ∙ ap (count (is_least f n)) (sym (add-one d));
        stands = ew ∙ t.half.stands ∙ rw (add-one d, sizes_out f n d other, names_skip f n perm few d t.below other);
      }
