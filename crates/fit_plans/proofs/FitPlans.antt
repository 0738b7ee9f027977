-- What is known of every plan that is fit for a kind.
--
--   fit_toured            its traversal is known position by position
--   fit_bracketed         its tree edges match like brackets along the traversal, and so do the others
--   fit_lower             an edge outside the tree ends at a vertex that was entered no later than the one where it began
--   fit_descends          and before it, if no edge is a loop
--   fit_standard_rotation, fit_valid   its standard rotation is that of its word, and the word is valid
--   fit_nested            the word is nested, loops taken
--   fit_bits, fit_labels  its tree bits and labels are those of its word, if no edge is a loop
--   fit_standard          its standard numbering is a renumbering
--   same_word_renumbering   plans with one word have a renumbering
use Prim.Native.Nat.{ℕ, ◌≤◌, ◌<◌}
use mathlib.Core.Path.{◌≡◌, sym, ap, subst, ◌∙◌}
use mathlib.Core.Bool.{true, false}
use mathlib.Core.List.{List, []}
use Rattle.model.specs.Map.{Plan, darts, vertex_of, has_loop, family, fit}
use Rattle.model.specs.Traversal.{second, word, standard_numbers, standard_rotation, standard_plan}
use Rattle.model.specs.LabelledTree.{tree_bits, labels}
use Rattle.model.specs.Renumbering.{Renumbering}
use Rattle.model.proofs.Fitness.{Fit, fit_parts, loopless_at}
use Rattle.words.specs.Word.{nested, valid, word_bits, word_labels, rotation_of, rooted}
use Rattle.words.specs.Toured.{Toured, Bracketed, letter_of, mate_of, dart_at}
use Rattle.words.specs.Entered.{entered_at}
use Rattle.words.proofs.Positions.{mate_dart}
use Rattle.traversal.proofs.Toured.{walk_toured}
use Rattle.planarity.proofs.Planar.{planar_bracketed}
use Rattle.planarity.proofs.SameVertex.{second_lower, second_descends}
use Rattle.labelling.proofs.Reading.{tree_labels_lem, tree_bits_lem}
use Rattle.standard.proofs.Numbering.{numbers_permutation, numbers_opposite, numbers_root}
use Rattle.standard.proofs.Entries.{standard_entry_lem}
use Rattle.standard.proofs.Linking.{standard_rotation_lem}
use Rattle.standard.proofs.Nesting.{word_nested_loops}
use Rattle.standard.proofs.Valid.{word_valid}
use Rattle.renumbering.specs.Isomorphism.{inverse_of, composed}
use Rattle.renumbering.proofs.Renumberings.{iso_of, with_root, inverse, compose}
use Rattle.renumbering.proofs.Standard.{standard_renumbering}

module _ (k : ℕ) (p : Plan) (fits : fit k p ≡ true) where
  abbrev parts : Fit k p
  parts = fit_parts k p fits

  pub fit_toured : Toured p
  fit_toured = walk_toured p parts.count parts.root parts.entries parts.joined

  pub fit_bracketed : Bracketed p
  fit_bracketed = planar_bracketed p fit_toured parts.count parts.entries parts.flat

  pub fit_lower : (j : ℕ) → j < darts p → letter_of p j ≡ second → entered_at p j ≤ entered_at p (mate_of p j)
  fit_lower = second_lower p fit_toured parts.count parts.entries

  pub fit_standard_rotation : standard_rotation p ≡ rotation_of (word p)
  unfolding standard_plan
  fit_standard_rotation = standard_rotation_lem p fit_toured fit_bracketed parts.count

  module _ (no_loop : has_loop p.rotation ≡ false) where
    pub fit_descends : (j : ℕ) → j < darts p → letter_of p j ≡ second → entered_at p j < entered_at p (mate_of p j)
    fit_descends j h e =
        second_descends p fit_toured parts.count parts.entries j h e
        (λ q. loopless_at p.rotation no_loop (dart_at p j) (fit_toured.dart_bound j h)
        (sym q ∙ ap (vertex_of p.rotation) (mate_dart p fit_toured parts.count j h)))

    pub fit_bits : tree_bits p ≡ word_bits false (word p)
    fit_bits = tree_bits_lem p fit_toured fit_bracketed parts.count parts.entries no_loop

    pub fit_labels : labels p ≡ word_labels (word p)
    fit_labels = tree_labels_lem p fit_toured fit_bracketed parts.count parts.entries no_loop

  pub fit_valid : valid (family k) (word p) ≡ true
  fit_valid = word_valid p fit_toured fit_bracketed fit_lower fit_descends k fits

  pub fit_nested : nested true 1 0 [] [] (word p) ≡ true
  fit_nested = word_nested_loops p fit_toured fit_bracketed parts.count fit_lower

  pub fit_standard : Renumbering p (standard_plan p) (standard_numbers p)
  fit_standard = standard_renumbering p (numbers_permutation p fit_toured parts.count) (numbers_root p fit_toured parts.count)
      (numbers_opposite p fit_toured parts.count) (standard_entry_lem p fit_toured parts.count)

pub same_word_renumbering : (k : ℕ) (p q : Plan) → fit k p ≡ true → fit k q ≡ true → word p ≡ word q → (f : List ℕ) × Renumbering p q f
unfolding standard_plan
same_word_renumbering k p q e f same =
    let a = fit_parts k p e in
    let b = fit_parts k q f in
    let s = rooted (standard_rotation p) in
    let one : standard_rotation q ≡ standard_rotation p = fit_standard_rotation k q f ∙ ap rotation_of (sym same) ∙ sym (fit_standard_rotation k p e) in
    let to : Renumbering p s (standard_numbers p) = with_root (iso_of (fit_standard k p e)) (fit_standard k p e).root_to_root in
    let from : Renumbering q s (standard_numbers q) =
    subst (λ (rot : List ℕ). Renumbering q (rooted rot) (standard_numbers q)) one (with_root (iso_of (fit_standard k q f)) (fit_standard k q f).root_to_root) in (
      composed (standard_numbers p) (inverse_of (standard_numbers q)),
      compose p a.count a.root a.entries s (standard_numbers p) to q (inverse_of (standard_numbers q))
          (inverse q b.count b.root b.entries s (standard_numbers q) from),
    )
