-- The darts of a vertex are marked in the work area, one after the other.
--
--   Rounding rot o c w₀ w x  the area w while this goes on from w₀: x is the dart to be marked next
--   rounding_start, rounding_step, rounding_end     before the first mark, one mark, and when x has one already
--   Around rot o c w₀ w x    o gets its mark last, and the round comes back to it
--   around_start, around_step, around_end           none but o, one more, and back at o
--   around_size              nothing is longer
--   steps_to f o k x         how many steps lead from x to o, where there are no more than k
--   around_falls             one less after each
use mathlib.Core.Path.{◌≡◌, refl, sym, ap, ◌∙◌, subst}
use mathlib.Core.Logic.{◌≢◌}
use mathlib.Core.List.{List}
use mathlib.Core.Bool.{cond}
use Prim.Native.Nat.{ℕ, zero, suc, ◌≤◌, ◌<◌}
use native.Mathlib.Nat.{zero-add, le_of_lt}
use native.Mathlib.Omega.{arith}
use lib.Dec.{eqb}
use borrow.Author.Tests.{eq-eqb, ne_eqb}
use lib.ListN.{length, get_or, set, drop, length-set}
use lib.Seq.{get_or-set_same, set_comm, drop-set-lt}
use Rattle.model.specs.Numbers.{iter}
use Rattle.model.specs.Map.{next, vertex_of}
use Rattle.orbits.proofs.Order.{eq_split}
use Rattle.orbits.proofs.Cycle.{first_back}
use Rattle.orbits.proofs.Maps.{next_perm}
use Rattle.work.specs.Area.{region}
use Rattle.work.proofs.Regions.{length_region, getD-region, region_set}
use Rattle.marks.proofs.Round.{Round, round_start, round_step, rounded}
use Rattle.trace_steps.specs.Steps.{Ground, Circled}

pub record Rounding (rot : List ℕ) (o c : ℕ) (w₀ w : List ℕ) (x : ℕ) : Type 0 where
  pub marks : Round (next rot) (length rot) o c (region 0 (length rot) w₀) (region 0 (length rot) w) x
  pub rest : drop (length rot) w ≡ drop (length rot) w₀
  pub kept : length w ≡ length w₀

pub record Around (rot : List ℕ) (o c : ℕ) (w₀ : List ℕ) (w : List ℕ) (x : ℕ) : Type 0 where
  pub rounding : Rounding rot o c w₀ (set w o c) x
  pub left : ℕ
  pub back : iter (next rot) left x ≡ o
  pub soon : left < length rot

module _ (f : ℕ → ℕ) (o : ℕ) where
  unfoldable pub steps_to : ℕ → ℕ → ℕ
  steps_to zero x = zero
  steps_to (suc k) x = cond (eqb x o) zero (suc (steps_to k (f x)))

  steps_more : (k j x : ℕ) → iter f j x ≡ o → j ≤ k → steps_to (suc k) x ≡ steps_to k x
  unfolding steps_to iter
  steps_more zero zero x e l = rw (eq-eqb x o e) refl
  steps_more zero (suc j) x e l = absurd (omega arith)
  steps_more (suc k) zero x e l = rw (eq-eqb x o e) refl
  steps_more (suc k) (suc j) x e l = eq_split x o
      (λ q. rw (eq-eqb x o q) refl)
      (λ ne. rw (ne_eqb x o ne) (ap suc (steps_more k j (f x) e (omega arith))))

  steps_away : (k x : ℕ) → x ≢ o → steps_to (suc k) x ≡ suc (steps_to k (f x))
  unfolding steps_to
  steps_away k x ne = rw (ne_eqb x o ne) refl

  steps_fall : (k j x : ℕ) → x ≢ o → iter f j x ≡ o → j ≤ k → steps_to k (f x) < steps_to k x
  unfolding iter
  steps_fall k zero x ne e l = absurd (ne e)
  steps_fall zero (suc j) x ne e l = absurd (omega arith)
  steps_fall (suc k) (suc j) x ne e l = omega (arith, steps_away k x ne, steps_more k j (f x) e (omega arith))

module _ {rot : List ℕ} {o c : ℕ} {w₀ : List ℕ} (g : Ground rot w₀) (below : o < length rot) (some : 1 ≤ c)
    (blank : (z : ℕ) → z < length rot → vertex_of rot z ≡ vertex_of rot o → get_or w₀ z 0 ≡ 0) where
  abbrev n : ℕ
  n = length rot

  entry : (w : List ℕ) (x : ℕ) → x < n → get_or (region 0 n w) x 0 ≡ get_or w x 0
  entry w x h = rw zero-add at (getD-region 0 n w x h)

  long : length (region 0 n w₀) ≡ n
  long = let r = g.room in length_region 0 n w₀ (omega arith)

  clear : (z : ℕ) → z < n → vertex_of rot z ≡ vertex_of rot o → get_or (region 0 n w₀) z 0 ≡ 0
  clear z h v = entry w₀ z h ∙ blank z h v

  rounding_start : Rounding rot o c w₀ w₀ o
  unfolding vertex_of
  rounding_start = record {
    marks = round_start (next rot) n (next_perm rot g.perm) o below c (λ e. omega arith) (region 0 n w₀) clear long;
    rest = refl;
    kept = refl;
  }

  module _ {w : List ℕ} {x : ℕ} (s : Rounding rot o c w₀ w x) where
    rounding_step : Rounding rot o c w₀ (set w x c) (next rot x)
    unfolding vertex_of
    rounding_step =
        let turn = next_perm rot g.perm in
        let next_Marks = round_step (next rot) n turn o below c (λ e. omega arith) (region 0 n w₀) clear (region 0 n w) x s.marks in
        let one : region 0 n (set w x c) ≡ set (region 0 n w) x c = rw zero-add at (region_set 0 n w x c s.marks.here) in
        record {
          marks = rw one next_Marks;
          rest = drop-set-lt n w x c s.marks.here ∙ s.rest;
          kept = length-set w x c ∙ s.kept;
        }

    rounding_end : get_or w x 0 ≢ 0 → Circled rot o c w₀ w
    rounding_end met = record {
      marks =
          rounded rot (next_perm rot g.perm) o below c (λ e. omega arith) (region 0 n w₀) long clear (region 0 n w) x s.marks
          (λ e. met (sym (entry w x s.marks.here) ∙ e));
      rest = s.rest;
      kept = s.kept;
    }

  -- ---- by steps

  pub around_start : Around rot o c w₀ w₀ (next rot o)
  unfolding iter
  around_start =
      let (q, few, back, first) = first_back n (next rot) (next_perm rot g.perm) o below in
      record { rounding = rounding_step rounding_start; left = q; back = back; soon = few }

  module _ {w : List ℕ} {x : ℕ} (s : Around rot o c w₀ w x) where
    pub around_size : length w ≡ length w₀
    around_size = sym (length-set w o c) ∙ s.rounding.kept

    pub around_end : x ≡ o → Circled rot o c w₀ (set w o c)
    around_end e = rounding_end s.rounding (λ z.
        let q : get_or (set w o c) x 0 ≡ c = ap (λ (y : ℕ). get_or (set w o c) y 0) e ∙ get_or-set_same w o c 0 (omega (arith, g.room, around_size)) in
        omega arith)

    module _ (away : x ≢ o) where
      pub around_falls : steps_to (next rot) o n (next rot x) < steps_to (next rot) o n x
      around_falls = steps_fall (next rot) o n s.left x away s.back (le_of_lt s.soon)

      pub around_step : Around rot o c w₀ (set w x c) (next rot x)
      unfolding iter
      around_step = on s.left s.back s.soon
        where
          on : (j : ℕ) → iter (next rot) j x ≡ o → j < n → Around rot o c w₀ (set w x c) (next rot x)
          on zero e l = absurd (away e)
          on (suc j) e l = record {
            rounding = subst (λ (u : List ℕ). Rounding rot o c w₀ u (next rot x)) (set_comm w o x c c (λ e. away (sym e))) (rounding_step s.rounding);
            left = j;
            back = e;
            soon = omega arith;
          }
