-- Lists that are made of functions, and permutations as lists: inverse, composition. Assumes nothing.
--
--   of_list f             a list as a function
--   tabulate_perm         a tabulated permutation passes is_permutation
--   length_inverse, inverse_bound, inverse_perm   the inverse of a permutation is a permutation of the same size
--   inverse_left, inverse_right   it undoes the permutation, both ways
--   composed_at, composed_perm   two permutations one after the other are one
use Prim.Native.Nat.{ℕ, ◌<◌}
use native.Mathlib.Omega.{arith}
use mathlib.Core.Path.{◌≡◌, sym, ap, ◌∙◌}
use mathlib.Core.Bool.{true}
use mathlib.Core.List.{List}
use lib.ListN.{length, get_or}
use Rattle.model.specs.Numbers.{is_permutation, position}
use Rattle.model.proofs.Permutations.{position_bound}
use Rattle.orbits.specs.Permutation.{Perm}
use Rattle.model.specs.Numbers.{tabulate}
use Rattle.model.proofs.Tabulated.{length_tabulate, tabulate_at}
use Rattle.orbits.proofs.Inverse.{onto}
use Rattle.orbits.proofs.Maps.{list_perm, perm_list}
use Rattle.renumbering.specs.Isomorphism.{inverse_of, composed}

abbrev pub of_list : List ℕ → ℕ → ℕ
of_list f d = get_or f d 0

-- a permutation, tabulated
pub tabulate_perm : (n : ℕ) (h : ℕ → ℕ) → Perm n h → is_permutation (tabulate h 0 n) ≡ true
tabulate_perm n h perm =
    let same = length_tabulate h 0 n in
    perm_list (tabulate h 0 n) (record {
      bound = λ i hi. let b = perm.bound i (omega arith) in let e = tabulate_at h n i (omega arith) in omega arith;
      inj = λ i j hi hj e. perm.inj i j (omega arith) (omega arith) (sym (tabulate_at h n i (omega arith)) ∙ e ∙ tabulate_at h n j (omega arith));
    })

-- ---- the inverse

module _ (f : List ℕ) (e : is_permutation f ≡ true) where
  position_in : (d : ℕ) → d < length f → (position d f < length f) × (get_or f (position d f) 0 ≡ d)
  position_in d h = let (k, hk, ek) = onto (length f) (of_list f) (list_perm f e) d h in position_bound d f k hk ek

  pub length_inverse : length (inverse_of f) ≡ length f
  unfolding inverse_of
  length_inverse = length_tabulate (λ d. position d f) 0 (length f)

  inverse_at : (d : ℕ) → d < length f → get_or (inverse_of f) d 0 ≡ position d f
  unfolding inverse_of
  inverse_at d h = tabulate_at (λ d. position d f) (length f) d h

  pub inverse_bound : (d : ℕ) → d < length f → get_or (inverse_of f) d 0 < length f
  inverse_bound d h = let b = (position_in d h).0 in omega (arith, inverse_at d h)

  pub inverse_right : (d : ℕ) → d < length f → get_or f (get_or (inverse_of f) d 0) 0 ≡ d
  inverse_right d h = ap (of_list f) (inverse_at d h) ∙ (position_in d h).1

  pub inverse_left : (d : ℕ) → d < length f → get_or (inverse_of f) (get_or f d 0) 0 ≡ d
  inverse_left d h =
      let b = (list_perm f e).bound d h in
      (list_perm f e).inj (get_or (inverse_of f) (get_or f d 0) 0) d (inverse_bound (get_or f d 0) b) h (inverse_right (get_or f d 0) b)

  pub inverse_perm : is_permutation (inverse_of f) ≡ true
  unfolding inverse_of
  inverse_perm = tabulate_perm (length f) (λ d. position d f) (record {
    bound = λ d h. (position_in d h).0;
    inj = λ i j hi hj same. sym (position_in i hi).1 ∙ ap (of_list f) same ∙ (position_in j hj).1;
  })

-- ---- compositions

module _ (f g : List ℕ) (same : length f ≡ length g) (perm-f : is_permutation f ≡ true) (perm-g : is_permutation g ≡ true) where
  pub composed_at : (d : ℕ) → d < length f → get_or (composed f g) d 0 ≡ get_or g (get_or f d 0) 0
  unfolding composed
  composed_at d h = tabulate_at (λ d. get_or g (get_or f d 0) 0) (length f) d h

  pub composed_perm : is_permutation (composed f g) ≡ true
  unfolding composed
  composed_perm =
      let pf = list_perm f perm-f in
      let pg = list_perm g perm-g in
      tabulate_perm (length f) (λ d. get_or g (get_or f d 0) 0) (record {
        bound = λ d h. let b = pf.bound d h in let c = pg.bound (get_or f d 0) (omega arith) in omega arith;
        inj = λ i j hi hj e.
            let bi = pf.bound i hi in
            let bj = pf.bound j hj in
            pf.inj i j hi hj (pg.inj (get_or f i 0) (get_or f j 0) (omega arith) (omega arith) e);
      })
