-- The walk of a connected plan meets all darts, and that of any other plan does not.
--
--   is_met p x             x is met, as a test; among-met and met-among tie it to the places
--   connected_met         a connected plan: every dart is met
--   connected_long        so there are as many visits as darts
--   long_connected        a plan with as many visits as darts is connected
use Prim.Native.Nat.{ℕ, ◌<◌}
use native.Mathlib.Omega.{arith}
use mathlib.Core.Path.{◌≡◌, refl, sym, ap, subst, ◌∙◌}
use mathlib.Core.Bool.{Bool, true}
use lib.Dec.{T}
use lib.ListN.{length}
use Rattle.model.specs.Numbers.{elem, is_permutation}
use Rattle.model.specs.Map.{Plan, darts, opposite, next, connected, dart_count_fits}
use Rattle.model.specs.Traversal.{visits}
use Rattle.model.proofs.Booleans.{T_true, true_T}
use Rattle.model.proofs.Permutations.{elem_at, at_elem}
use Rattle.model.proofs.Fitness.{count_even}
use Rattle.orbits.proofs.Tally.{count_inj, count_tight, count_all}
use Rattle.words.specs.Toured.{darts_met, dart_at}
use Rattle.words.proofs.Positions.{length_darts}
use Rattle.traversal.specs.Walked.{Among, Walked}
use Rattle.traversal.proofs.Reach.{connected_from, kept_connected}
use Rattle.traversal.proofs.Walk.{walked, walk_closed, walk_least}

-- ---- the darts met, as a test

abbrev pub is_met : Plan → ℕ → Bool
is_met p x = elem x (darts_met p)

pub among_met : (p : Plan) (x : ℕ) → Among p x → T (is_met p x)
unfolding dart_at
among_met p x (i, h, e) = true_T (is_met p x) (at_elem x (darts_met p) i (subst (λ (n : ℕ). i < n) (sym (length_darts p)) h) e)

pub met_among : (p : Plan) (x : ℕ) → T (is_met p x) → Among p x
unfolding dart_at
met_among p x t =
    let (i, h, e) = elem_at x (darts_met p) (T_true (is_met p x) t) in (i, subst (λ (n : ℕ). i < n) (length_darts p) h, e)

module _ (p : Plan) (fits : dart_count_fits (darts p) ≡ true) (hr : p.root < darts p) (good : is_permutation p.rotation ≡ true) where
  abbrev N : ℕ
  N = darts p

  w : Walked p
  w = walked p fits hr good

  -- ---- connected: all are met

  pub connected_met : connected p.rotation ≡ true → (x : ℕ) → x < N → Among p x
  connected_met e =
      connected_from p.rotation (count_even N fits) good e (Among p) (walk_closed p fits hr good) p.root hr (0, w.ruled.some_met, w.ruled.starts)

  all_long : ((x : ℕ) → x < N → Among p x) → length (visits p) ≡ N
  all_long all =
      let more = count_inj (λ i. true) (λ i. true) N (length (visits p)) (record {
        to = λ x h t. (all x h).0;
        bound = λ x h t. (all x h).1;
        passes = λ x h t. tt;
        inj = λ x y hx hy t u e. sym (all x hx).2 ∙ ap (dart_at p) e ∙ (all y hy).2;
      }) in
      omega (arith, w.few_met, count_all N, count_all (length (visits p)))

  -- ---- all are met: connected

  long_all : length (visits p) ≡ N → (x : ℕ) → x < N → Among p x
  long_all e x h =
      let more = count_inj (λ i. true) (is_met p) (length (visits p)) N (record {
        to = λ i h t. dart_at p i;
        bound = λ i h t. w.dart_bound i h;
        passes = λ i h t. among_met p (dart_at p i) (i, h, refl);
        inj = λ i j hi hj t u f. w.ruled.different i j hi hj f;
      }) in
      met_among p x (count_tight (is_met p) (λ i. true) N (λ i h t. tt) (omega (arith, count_all N, count_all (length (visits p)))) x h tt)

  pub long_connected : length (visits p) ≡ N → connected p.rotation ≡ true
  long_connected e = kept_connected p.rotation (count_even N fits) good
      (λ g turns crosses x y hx hy. same g turns crosses x hx ∙ sym (same g turns crosses y hy))
    where
      same : (g : ℕ → ℕ) → ((d : ℕ) → d < N → g (next p.rotation d) ≡ g d) → ((d : ℕ) → d < N → g (opposite d) ≡ g d)
          → (x : ℕ) → x < N → g x ≡ g p.root
      same g turns crosses x h = walk_least p fits hr good (λ x. g x ≡ g p.root)
          (record { across = λ d h s. crosses d h ∙ s; turn = λ d h s. turns d h ∙ s }) refl x (long_all e x h)

  pub connected_long : connected p.rotation ≡ true → length (visits p) ≡ N
  connected_long e = all_long (connected_met e)
