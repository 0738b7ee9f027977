-- The word of a fit plan is valid.
--
--   word_valid      it is, for the family of the kind for which the plan is fit
use Prim.Native.Nat.{ℕ, ◌≤◌, ◌<◌}
use mathlib.Core.Path.{◌≡◌, refl, ap, ◌∙◌}
use mathlib.Core.Bool.{Bool, true, false, not, ◌&&◌}
use mathlib.Core.List.{[]}
use lib.Dec.{eqb}
use Rattle.model.specs.Map.{Plan, darts, dart_count_fits, has_loop, family, takes_loops, degree_refused, fit}
use Rattle.model.specs.Traversal.{second, word}
use Rattle.model.proofs.Booleans.{both}
use Rattle.model.proofs.Fitness.{Fit, fit_parts, loopless}
use Rattle.model.proofs.Heads.{kind_family}
use Rattle.words.specs.Word.{nested, valid}
use Rattle.words.specs.Toured.{letter_of, mate_of, Toured, Bracketed}
use Rattle.words.specs.Entered.{entered_at}
use Rattle.words.proofs.Positions.{word_length}
use Rattle.standard.proofs.Nesting.{word_nested, word_nested_loops}
use Rattle.standard.proofs.DeadEnds.{dead_end_word}

module _ (p : Plan) (t : Toured p) (b : Bracketed p)
    (lower : (j : ℕ) → j < darts p → letter_of p j ≡ second → entered_at p j ≤ entered_at p (mate_of p j))
    (descends : has_loop p.rotation ≡ false → (j : ℕ) → j < darts p → letter_of p j ≡ second → entered_at p j < entered_at p (mate_of p j)) where
  -- with loops where the kind takes them
  nests : (k : ℕ) → Fit k p → nested (takes_loops (family k)) 1 0 [] [] (word p) ≡ true
  nests k parts = go (takes_loops (family k)) refl
    where
      go : (loops : Bool) → takes_loops (family k) ≡ loops → nested loops 1 0 [] [] (word p) ≡ true
      go true e = word_nested_loops p t b parts.count lower
      go false e = word_nested p t b parts.count (descends (loopless (family k) p.rotation parts.loops e))

  pub word_valid : (k : ℕ) → fit k p ≡ true → valid (family k) (word p) ≡ true
  unfolding valid degree_refused
  word_valid k e =
      let parts = fit_parts k p e in
      both (kind_family k parts.kind) (both (ap dart_count_fits (word_length p t) ∙ parts.count) (both (nests k parts)
      (ap (λ (c : Bool). not (eqb (family k) 1 && c)) (dead_end_word p t b parts.count) ∙ ap not parts.degrees)))
