-- The entries of the standard plan.
--
--   standard_darts      the standard plan has as many darts: passed on from the model
--   standard_entry_lem      the entry at the number of d is the number of the entry at d
use Prim.Native.Nat.{ℕ, zero, suc, ◌<◌}
use native.Mathlib.Nat.{not-suc-le-zero, le_step, lt-suc_self}
use native.Mathlib.Omega.{arith}
use mathlib.Core.Path.{◌≡◌, sym, subst, ◌∙◌}
use mathlib.Core.Bool.{true}
use mathlib.Core.List.{List}
use lib.ListN.{length, get_or, set, replicate, length-replicate}
use lib.Seq.{get_or-set_same, get_or-set_other}
use Rattle.model.specs.Map.{Plan, darts, next, dart_count_fits}
use Rattle.model.specs.Traversal.{standard_numbers, renumbered, standard_rotation, standard_plan}
use Rattle.model.proofs.Standard.{renumbered_length}
pub use Rattle.model.proofs.Standard.{standard_darts}
use Rattle.orbits.proofs.Order.{lt_suc_split}
use Rattle.words.specs.Toured.{Toured}
use Rattle.standard.proofs.Numbering.{numbers_below, numbers_inj}

module _ (ns rot out : List ℕ) where
  renumbered_at : (n d : ℕ) → d < n → get_or ns d 0 < length out → ((c : ℕ) → d < c → c < n → get_or ns d 0 ≡ get_or ns c 0 → ⊥)
      → get_or (renumbered ns rot n out) (get_or ns d 0) 0 ≡ get_or ns (next rot d) 0
  unfolding renumbered
  renumbered_at zero d h b other = absurd (not-suc-le-zero h)
  renumbered_at (suc n) d h b other =
      let so_far : List ℕ = renumbered ns rot n out in
      let room : get_or ns d 0 < length so_far = subst (λ (k : ℕ). get_or ns d 0 < k) (sym (renumbered_length ns rot out n)) b in
      lt_suc_split h
      (λ e. subst (λ (k : ℕ). get_or (set so_far (get_or ns k 0) (get_or ns (next rot k) 0)) (get_or ns d 0) 0 ≡ get_or ns (next rot d) 0) e
      (get_or-set_same so_far (get_or ns d 0) (get_or ns (next rot d) 0) 0 room))
      (λ l.
      get_or-set_other so_far (get_or ns n 0) (get_or ns d 0) (get_or ns (next rot n) 0) 0 (other n l (lt-suc_self n))
      ∙ renumbered_at n d l b (λ c u v. other c u (le_step v)))

module _ (p : Plan) (t : Toured p) (fits : dart_count_fits (darts p) ≡ true) where
  pub standard_entry_lem : (d : ℕ) → d < darts p
      → next (standard_plan p).rotation (get_or (standard_numbers p) d 0) ≡ get_or (standard_numbers p) (next p.rotation d) 0
  unfolding standard_plan standard_rotation next
  standard_entry_lem d h =
      renumbered_at (standard_numbers p) p.rotation (replicate (darts p) 0) (darts p) d h
      (subst (λ (n : ℕ). get_or (standard_numbers p) d 0 < n) (sym (length-replicate (darts p) 0)) (numbers_below p t fits d h))
      (λ c u v e. let same = numbers_inj p t fits d c h v e in omega arith)
