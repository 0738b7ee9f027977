-- Dead ends, looked for at the ups alone: the dart by which a vertex is left for good.
--
--   NoBareUp p         no up leaves a vertex of degree one
--   no_dead_end_up     then there is no dead end
--   dead_end_up        and where one does, there is one
use Prim.Native.Nat.{ℕ, suc, ◌<◌, zero-le}
use native.Mathlib.Omega.{arith}
use mathlib.Core.Path.{◌≡◌, refl, sym, ap, ◌∙◌}
use mathlib.Core.Bool.{Bool, true, false, true≢false}
use borrow.Author.Tests.{eq-eqb, eqb-true}
use Rattle.model.specs.Map.{Plan, darts, opposite, vertex_of, degree_one, has_dead_end, dart_count_fits}
use Rattle.model.specs.Traversal.{up, word}
use Rattle.model.proofs.Fitness.{at_dead_end}
use Rattle.words.specs.Word.{bare_leaf}
use Rattle.words.specs.Toured.{Toured, Bracketed, dart_at, letter_of, mate_of}
use Rattle.words.proofs.Positions.{word_length, mate_bound, mate_dart, mate_back, mate_letter}
use Rattle.words.proofs.Leaves.{leaf_mate, leaf_own}
use Rattle.standard.proofs.BareLeaf.{BareAt, bare_at}
use Rattle.standard.proofs.DeadEnds.{dead_end_word}

abbrev pub NoBareUp : Plan → Type 0
NoBareUp p = (j : ℕ) → j < darts p → letter_of p j ≡ up → degree_one p.rotation (dart_at p j) ≡ false

module _ (p : Plan) (t : Toured p) (fits : dart_count_fits (darts p) ≡ true) where
  pub dead_end_up : (j : ℕ) → j < darts p → letter_of p j ≡ up → degree_one p.rotation (dart_at p j) ≡ true → has_dead_end p ≡ true
  unfolding degree_one
  dead_end_up j h e one =
      let m = mate_bound p t fits j h in
      let back : dart_at p j ≡ opposite (dart_at p (mate_of p j)) = ap (dart_at p) (sym (mate_back p t fits j h)) ∙ mate_dart p t fits (mate_of p j) m in
      at_dead_end p (dart_at p j) (t.dart_bound j h) (eqb-true _ _ one)
      (λ q. t.new (mate_of p j) m (mate_letter p t j h up e) 0 zero-le
      (ap (vertex_of p.rotation) t.starts ∙ sym q ∙ ap (vertex_of p.rotation) back))

  module _ (b : Bracketed p) where
    -- the up of a bare leaf leaves a vertex of degree one
    bare_degree : (i : ℕ) → BareAt (word p) i
        → (suc i < darts p) × (letter_of p (suc i) ≡ up) × (degree_one p.rotation (dart_at p (suc i)) ≡ true)
    unfolding letter_of degree_one
    bare_degree i (l, d, u) =
        let h : suc i < darts p = omega (arith, word_length p t) in
        let m = leaf_mate p t fits b i h d u in
        let there : opposite (dart_at p i) ≡ dart_at p (suc i) = sym (mate_dart p t fits i (omega arith)) ∙ ap (dart_at p) m in
        (h, u, ap (degree_one p.rotation) (sym there) ∙ eq-eqb _ _ (leaf_own p t fits i h d m))

    pub no_dead_end_up : NoBareUp p → has_dead_end p ≡ false
    no_dead_end_up ups = sym (dead_end_word p t b fits) ∙ go (bare_leaf (word p)) refl
      where
        go : (c : Bool) → bare_leaf (word p) ≡ c → bare_leaf (word p) ≡ false
        go false e = e
        go true e =
            let (i, at) = bare_at (word p) e in
            let (h, u, one) = bare_degree i at in
            absurd (true≢false (sym one ∙ ups (suc i) h u))
