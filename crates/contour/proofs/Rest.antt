-- What is left of the walk gives the answer.
--
--   left rot root d i w                how many darts the walk from d on meets, i darts being met
--   Started, started                   a walk's area w, and w₂, the same with no dart met and no vertex seen
--   Walking rot root d i w             i darts are met and d comes next: with those that are left they are the darts of the walk
--   begun                              at the root, its vertex seen
--   going_on                           one step that doesn't lead back to the root
--   walked_back, walked_all            the step that leads back to the root ends the walk, and so does the last dart
use mathlib.Core.Path.{◌≡◌, sym, ap, subst, ◌∙◌}
use mathlib.Core.Logic.{◌≢◌}
use mathlib.Core.Bool.{true}
use mathlib.Core.List.{List, []}
use Prim.Native.Nat.{ℕ, suc, ◌+◌, ◌-◌, ◌*◌, ◌≤◌, ◌<◌}
use native.Mathlib.Omega.{arith}
use lib.ListN.{length, get_or, set, replicate, length-set, length-replicate}
use borrow.Author.Tests.{eq-eqb, ne_eqb}
use Rattle.model.specs.Numbers.{is_permutation}
use Rattle.model.specs.Map.{Plan, vertex_of, dart_count_fits}
use Rattle.model.specs.Traversal.{code, letter_at, onward, seen_after, walk, visits}
use Rattle.model.proofs.Fitness.{count_parts}
use Rattle.work.specs.Map.{MET, SEEN}
use Rattle.work.specs.Area.{region, placed}
use Rattle.work.proofs.Regions.{length_placed, region_placed, region_placed_other, region_set, region_set_other}
use Rattle.contour.specs.Steps.{met_in, seen_in, VerticesNamed, letter_in, Visited}
use Rattle.contour.specs.Walked.{Walked}
use Rattle.contour.proofs.Steps.{name_at, name_bound, onward_bound}

abbrev pub left : List ℕ → ℕ → ℕ → ℕ → List ℕ → ℕ
left rot root d i w = length (walk rot root (length rot - i) d (met_in (length rot) w) (seen_in (length rot) w))

pub record Started (rot : List ℕ) (root : ℕ) (w w₂ : List ℕ) : Type 0 where
  pub count : dart_count_fits (length rot) ≡ true
  pub perm : is_permutation rot ≡ true
  pub few : length rot ≤ 8192
  pub inside : root < length rot
  pub room : 3 * length rot ≤ length w₂
  pub names : VerticesNamed rot w₂
  pub bound : get_or w₂ root 0 < length rot
  pub unmet : met_in (length rot) w₂ ≡ replicate (length rot) 0
  pub unseen : seen_in (length rot) w₂ ≡ replicate (length rot) 0

pub record Walking (rot : List ℕ) (root : ℕ) (d i : ℕ) (w : List ℕ) : Type 0 where
  pub inside : d < length rot
  pub room : 3 * length rot ≤ length w
  pub names : VerticesNamed rot w
  pub rest : i + left rot root d i w ≡ length (visits (record { rotation = rot; root = root; outside = 0 }))

-- ---- the area is cleared

pub started : (rot : List ℕ) (root : ℕ) (w w₁ w₂ : List ℕ) → dart_count_fits (length rot) ≡ true → is_permutation rot ≡ true
    → root < length rot → 3 * length rot ≤ length w → VerticesNamed rot w → w₁ ≡ placed (MET * length rot) (replicate (length rot) 0) w
    → w₂ ≡ placed (SEEN * length rot) (replicate (length rot) 0) w₁ → Started rot root w w₂
started rot root w w₁ w₂ count perm inside room named e₁ e₂ =
    let n = length rot in
    let zs : List ℕ = replicate n 0 in
    let z : length zs ≡ n = length-replicate n 0 in
    let k₁ : length w₁ ≡ length w = ap length e₁ ∙ length_placed (MET * n) zs w (omega arith) in
    let k₂ : length w₂ ≡ length w₁ = ap length e₂ ∙ length_placed (SEEN * n) zs w₁ (omega arith) in
    let names : VerticesNamed rot w₂ =
    ap (region 0 n) e₂ ∙ region_placed_other (SEEN * n) zs w₁ (omega arith) 0 _ (λ h. absurd (omega arith))
    ∙ ap (region 0 n) e₁ ∙ region_placed_other (MET * n) zs w (omega arith) 0 _ (λ h. absurd (omega arith)) ∙ named in
    record {
      count = count;
      perm = perm;
      few = (count_parts n count).2;
      inside = inside;
      room = omega arith;
      names = names;
      bound = name_bound rot w₂ names root inside;
      unmet = ap (met_in n) e₂ ∙ region_placed_other (SEEN * n) zs w₁ (omega arith) (MET * n) n (λ h. absurd (omega arith))
          ∙ ap (met_in n) e₁ ∙ region_placed (MET * n) zs w (omega arith) n (sym z);
      unseen = ap (seen_in n) e₂ ∙ region_placed (SEEN * n) zs w₁ (omega arith) n (sym z);
    }

-- ---- the definition of the walk, one step of it

module _ (rot : List ℕ) (root k d e : ℕ) (met seen met' seen' : List ℕ) (on : e ≡ onward rot (letter_at rot met seen d) d) where
  walk_on : met' ≡ set met d (code (letter_at rot met seen d)) → seen' ≡ seen_after rot (letter_at rot met seen d) d seen → (e ≢ root)
      → length (walk rot root (suc k) d met seen) ≡ suc (length (walk rot root k e met' seen'))
  unfolding walk
  walk_on m s ne = rw (m, s, on, ne_eqb _ _ (λ q. ne (on ∙ q)))

  walk_back : e ≡ root → length (walk rot root (suc k) d met seen) ≡ 1
  unfolding walk
  walk_back b = rw (eq-eqb _ _ (sym on ∙ b))

module _ {rot : List ℕ} {root : ℕ} {w w₂ : List ℕ} (s : Started rot root w w₂) where
  abbrev n : ℕ
  n = length rot

  abbrev p : Plan
  p = record { rotation = rot; root = root; outside = 0 }

  -- ---- the start

  pub begun : Walking rot root root 0 (set w₂ (SEEN * n + get_or w₂ root 0) 1)
  unfolding visits
  begun =
      let v = get_or w₂ root 0 in
      let b : v < n = s.bound in
      let w₀ = set w₂ (SEEN * n + v) 1 in
      let met : met_in n w₀ ≡ replicate n 0 = region_set_other (MET * n) n w₂ (SEEN * n + v) 1 (λ _. omega arith) ∙ s.unmet in
      let seen : seen_in n w₀ ≡ set (replicate n 0) (vertex_of rot root) 1 =
      region_set (SEEN * n) n w₂ v 1 b ∙ ap (λ (r : List ℕ). set r v 1) s.unseen
      ∙ ap (λ (x : ℕ). set (replicate n 0) x 1) (name_at rot w₂ s.names root s.inside) in
      let whole : n - 0 ≡ n = omega arith in
      record {
        inside = s.inside;
        room = omega (arith, s.room, length-set w₂ (SEEN * n + v) 1);
        names = region_set_other 0 n w₂ (SEEN * n + v) 1 (λ _. omega arith) ∙ s.names;
        rest = rw (met, seen, whole) (omega arith);
      }

  -- ---- the end

  pub walked_all : {d i : ℕ} {w' : List ℕ} → Walking rot root d i w' → length w' ≡ length w → i ≡ n → Walked p w n w'
  unfolding walk
  walked_all {d} {i} {w'} at kept h =
      let none : n - i ≡ 0 = omega arith in
      let rest = rw none at at.rest in
      record { counted = omega arith; kept = kept }

  -- ---- one step

  module _ {d i : ℕ} {u : List ℕ} (at : Walking rot root d i u) (more : i < n) {e : ℕ} {w' : List ℕ} (v : Visited rot d u e w') where
    spent : n - i ≡ suc (n - (i + 1))
    spent = omega arith

    pub going_on : (e ≢ root) → Walking rot root e (i + 1) w'
    unfolding letter_in
    going_on ne =
        let step : left rot root d i u ≡ suc (left rot root e (i + 1) w') =
        rw spent (walk_on rot root (n - (i + 1)) d e _ _ _ _ v.onwards v.met v.seen ne) in
        record {
          inside = subst (λ (x : ℕ). x < n) (sym v.onwards) (onward_bound rot s.perm s.count (letter_in rot u d) d at.inside);
          room = omega (arith, v.kept, at.room);
          names = v.names ∙ at.names;
          rest = omega (arith, step, at.rest);
        }

    pub walked_back : length w' ≡ length w → e ≡ root → Walked p w (i + 1) w'
    unfolding letter_in
    walked_back kept b =
        let step : left rot root d i u ≡ 1 = rw spent (walk_back rot root (n - (i + 1)) d e _ _ [] [] v.onwards b) in
        record { counted = omega (arith, step, at.rest); kept = kept }
