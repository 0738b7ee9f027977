-- Dead ends, read off the word: a vertex of degree one other than the root's is a down right before an up.
--
--   bare_dead_end      a bare leaf is a dead end
--   dead_end_bare      a dead end is a bare leaf
--   dead_end_word      so the word says whether there is one
use Prim.Native.Nat.{ℕ, suc, ◌<◌, zero-le}
use native.Mathlib.Omega.{arith}
use mathlib.Core.Path.{◌≡◌, refl, sym, ap, ◌∙◌}
use mathlib.Core.Logic.{◌≢◌}
use mathlib.Core.Bool.{Bool, true, false, false≢true, true≢false}
use Rattle.model.specs.Map.{Plan, darts, opposite, next, vertex_of, has_dead_end, dart_count_fits}
use Rattle.model.specs.Traversal.{Letter, down, up, first, second, opens, onward, word}
use Rattle.model.proofs.Booleans.{bool_ext}
use Rattle.model.proofs.Fitness.{dead_end_at_lem, at_dead_end}
use Rattle.orbits.proofs.Order.{le_split}
use Rattle.words.specs.Word.{bare_leaf}
use Rattle.words.specs.Toured.{dart_at, letter_of, pos_of, mate_of, fellow, is_tree, matching, Toured, Bracketed}
use Rattle.words.proofs.Letters.{tree_fellow}
use Rattle.words.proofs.Positions.{word_length, opposite_at}
use Rattle.words.proofs.OpenEdges.{part_split, matching_inv, onward_matching}
use Rattle.words.proofs.Leaves.{leaf_mate, leaf_own}
use Rattle.standard.proofs.BareLeaf.{BareAt, bare_at, at_bare}

up_only : (l : Letter) → is_tree l ≡ true → opens l ≡ false → l ≡ up
up_only down u o = absurd (true≢false o)
up_only up u o = refl
up_only first u o = absurd (false≢true u)
up_only second u o = absurd (false≢true u)

module _ (p : Plan) (t : Toured p) (b : Bracketed p) (fits : dart_count_fits (darts p) ≡ true) where
  -- a down leads to a vertex that is not the root's
  pub bare_dead_end : (i : ℕ) → BareAt (word p) i → has_dead_end p ≡ true
  unfolding letter_of
  bare_dead_end i (l, d, u) =
      let h : suc i < darts p = omega (arith, word_length p t) in
      at_dead_end p (opposite (dart_at p i)) (opposite_at p t fits i (omega arith)) (leaf_own p t fits i h d (leaf_mate p t fits b i h d u))
      (λ e. t.new i (omega arith) d 0 zero-le (ap (vertex_of p.rotation) t.starts ∙ sym e))

  -- the dart at i is met right after its opposite: it is the up of a bare leaf
  leaf : (i : ℕ) → i < darts p → is_tree (letter_of p i) ≡ true → suc (mate_of p i) ≡ i → bare_leaf (word p) ≡ true
  unfolding letter_of
  leaf i h u s =
      let e : letter_of p i ≡ up = up_only (letter_of p i) u (closed (opens (letter_of p i)) refl) in
      let d : letter_of p (mate_of p i) ≡ down = t.fellows i h ∙ ap fellow e in
      at_bare (word p) (mate_of p i) (omega (arith, word_length p t), d, ap (letter_of p) s ∙ e)
    where
      closed : (c : Bool) → opens (letter_of p i) ≡ c → opens (letter_of p i) ≡ false
      closed true o = absurd (omega (arith, t.opens_first i h o))
      closed false o = o

  -- the walk goes on to d from the position that d's letter tells; as d is its own entry and not the root, that is the position before d's
  module _ (d : ℕ) (h : d < darts p) (own : next p.rotation d ≡ d) (other : d ≢ p.root) where
    abbrev at : ℕ
    at = pos_of p d

    abbrev before : ℕ
    before = matching is_tree p at

    at_bound : at < darts p
    at_bound = t.pos_bound d h

    before_bound : before < darts p
    before_bound = (matching_inv is_tree tree_fellow p t fits).bound at at_bound

    onto_d : onward p.rotation (letter_of p before) (dart_at p before) ≡ d
    onto_d =
        onward_matching p t fits before before_bound
        ∙ ap (next p.rotation) (ap (dart_at p) ((matching_inv is_tree tree_fellow p t fits).back at at_bound) ∙ t.dart_pos d h) ∙ own

    right_before : suc before ≡ at
    right_before =
        le_split before_bound
        (λ e. absurd (other (sym onto_d ∙ t.closes before e)))
        (λ l. sym (t.pos_dart (suc before) l) ∙ ap (pos_of p) (t.step before l ∙ onto_d))

    pub dead_end_bare : bare_leaf (word p) ≡ true
    dead_end_bare = part_split is_tree p at (λ u m. leaf at at_bound u (ap suc (sym m) ∙ right_before)) (λ u m. absurd (omega (arith, right_before)))

  pub dead_end_word : bare_leaf (word p) ≡ has_dead_end p
  dead_end_word = bool_ext (bare_leaf (word p)) (has_dead_end p)
      (λ e. let (i, k) = bare_at (word p) e in bare_dead_end i k)
      (λ e. let (d, h, own, other) = dead_end_at_lem p e in dead_end_bare d h own (λ r. other (ap (vertex_of p.rotation) r)))
