-- The marks of a plan's darts, position by position of its traversal.
--
--   marked_by            they are the marks, if the mark of a dart that is met first tells its edge, and that of any other dart is high
use Prim.Native.Nat.{ℕ, ◌%◌, ◌≤◌, ◌<◌}
use mathlib.Core.Path.{◌≡◌, refl, sym, ap, subst, ◌∙◌}
use mathlib.Core.Bool.{Bool, true, false, not}
use mathlib.Core.List.{List}
use lib.ListN.{length, get_or}
use borrow.Author.Tests.{lt-ltb, le-ltb}
use Rattle.model.specs.Map.{Plan, darts, opposite, dart_count_fits, fit}
use Rattle.model.specs.Traversal.{standard_numbers}
use Rattle.model.proofs.Fitness.{fit_parts}
use Rattle.words.specs.Toured.{Toured, dart_at, pos_of, mate_of}
use Rattle.words.proofs.Positions.{mate_bound, mate_dart, mate_opens}
use Rattle.standard.proofs.Numbering.{opening, rank, opened_number, ended_number}
use Rattle.fit_plans.proofs.FitPlans.{fit_toured}
use Rattle.outer_face.specs.Marks.{number_by, Marked}

module _ (p : Plan) (w : List ℕ) (fits : fit 0x104 p ≡ true) (room : darts p ≤ length w)
    (first : (j : ℕ) → j < darts p → opening p j ≡ true → (get_or w (dart_at p j) 0 < 32768) × (get_or w (dart_at p j) 0 % 8192 ≡ rank p j))
    (rest : (j : ℕ) → j < darts p → opening p j ≡ false → 32768 ≤ get_or w (dart_at p j) 0) where
  t : Toured p
  t = fit_toured 0x104 p fits

  count : dart_count_fits (darts p) ≡ true
  count = (fit_parts 0x104 p fits).count

  number_at : (j : ℕ) → j < darts p → number_by w (dart_at p j) ≡ get_or (standard_numbers p) (dart_at p j) 0
  unfolding number_by
  number_at j h = go (opening p j) refl
    where
      go : (b : Bool) → opening p j ≡ b → number_by w (dart_at p j) ≡ get_or (standard_numbers p) (dart_at p j) 0
      go true o = let (low, edge) = first j h o in rw (lt-ltb _ _ low, edge) (sym (opened_number p t count j h o))
      go false o =
          let i = mate_of p j in
          let (low, edge) = first i (mate_bound p t count j h) (mate_opens p t j h ∙ ap not o) in
          let across : get_or w (opposite (dart_at p j)) 0 % 8192 ≡ rank p i = ap (λ (d : ℕ). get_or w d 0 % 8192) (sym (mate_dart p t count j h)) ∙ edge in
          rw (le-ltb _ _ (rest j h o), across) (sym (ended_number p t count j h o))

  pub marked_by : Marked p w
  marked_by = record {
    fits = fits;
    room = room;
    numbers = λ x h. subst (λ (d : ℕ). number_by w d ≡ get_or (standard_numbers p) d 0) (t.dart_pos x h) (number_at (pos_of p x) (t.pos_bound x h));
  }
