-- All leaves taken: each tree label says whether a second stands right after the edge's end.
--
--   label_ends         the tree label of the edge that ends at position j
--   label_opens        the tree label of the edge that opens at position i
use Prim.Native.Nat.{ℕ, zero, suc, ◌+◌, ◌-◌, ◌/◌, ◌≤◌, ◌<◌}
use native.Mathlib.Nat.{not-suc-le-zero}
use native.Mathlib.Omega.{arith}
use mathlib.Core.Path.{◌≡◌, refl, sym, ap, ap₂, ◌∙◌, subst}
use mathlib.Core.Logic.{◌⊎◌, ⊎_elim}
use mathlib.Core.Bool.{Bool, true, false, ◌&&◌, true≢false}
use mathlib.Core.List.{List}
use lib.Dec.{eqb}
use lib.ListN.{length, get_or, drop}
use lib.Seq.{drop-cons, drop-length}
use borrow.Author.Tests.{eq-eqb, ne_eqb}
use Rattle.model.specs.Numbers.{is_permutation, position}
use Rattle.model.specs.Map.{Plan, darts, edges, opposite, next, dart_count_fits}
use Rattle.model.specs.Traversal.{Letter, down, up, first, second, code, opens, onward, visits}
use Rattle.model.specs.LabelledTree.{Labels, codes, unlabelled, is_upper, gone, before, label_one, remove_cut}
use Rattle.model.specs.LabelledTree.{take_leaf, take_one, take_leaves, tree_labels}
use Rattle.model.proofs.Opposite.{opposite_edge}
use Rattle.orbits.proofs.Order.{le_split}
use Rattle.orbits.proofs.Maps.{position_next}
use Rattle.words.specs.Toured.{Toured, Bracketed, dart_at, letter_of, mate_of, is_chord}
use Rattle.words.proofs.Letters.{fellow_closes, apart}
use Rattle.words.proofs.Positions.{mate_bound, mate_dart, mate_letter, edge_mate, no_visit, visit_dart, visit_letter, opposite_at}
use Rattle.labelling.proofs.Codes.{code_at}
use Rattle.labelling.proofs.Lit.{starts_at, lit, lit_end}
use Rattle.labelling.proofs.Leaves.{edge_at, light_tree, light_cut, Marked, marked_start, marked_other}
use Rattle.labelling.proofs.Leaves.{end_bound, end_letter, marked_up, marked_second, marked_removed}

-- ---- one leaf, with the place before its cut edge given

before_one : (rot cs : List ℕ) (s : Labels) (n d : ℕ) → 0 < n → gone cs s (position d rot) ≡ false → before rot cs s n d ≡ position d rot
unfolding before
before_one rot cs s zero d h e = absurd (not-suc-le-zero h)
before_one rot cs s (suc n) d h e = rw e

light_tree_lem : (cs : List ℕ) (s : Labels) (d : ℕ) → is_upper cs d ≡ false → label_one cs s d ≡ light_tree s (d / 2)
unfolding label_one
light_tree_lem cs s d e = rw e

light_cut_lem : (cs : List ℕ) (s : Labels) (d : ℕ) → is_upper cs d ≡ true → label_one cs s d ≡ light_cut s (d / 2)
unfolding label_one
light_cut_lem cs s d e = rw e

not_gone : (cs : List ℕ) (s : Labels) (d : ℕ) → is_upper cs d ≡ false → gone cs s d ≡ false
unfolding gone
not_gone cs s d e = rw e

still_there : (cs : List ℕ) (s : Labels) (d : ℕ) → get_or s.removed (d / 2) 0 ≡ 0 → gone cs s d ≡ false
unfolding gone
still_there cs s d e = go (is_upper cs d)
  where
    go : (b : Bool) → (b && eqb (get_or s.removed (d / 2) 0) 1) ≡ false
    go true = rw e
    go false = refl

-- ---- the place before a position

module _ (p : Plan) (toured : Toured p) (fits : dart_count_fits (darts p) ≡ true) (perm : is_permutation p.rotation ≡ true) where
  -- the place before a position is that from which the walk went on
  place : (a d : ℕ) → suc a < darts p → d < darts p → onward p.rotation (letter_of p a) (dart_at p a) ≡ next p.rotation d
      → position (dart_at p (suc a)) p.rotation ≡ d
  place a d h hd e = ap (λ (x : ℕ). position x p.rotation) (toured.step a h ∙ e) ∙ position_next p.rotation perm d hd

  place_up : (a : ℕ) → suc a < darts p → letter_of p a ≡ up → position (dart_at p (suc a)) p.rotation ≡ opposite (dart_at p a)
  unfolding onward
  place_up a h e = place a _ h (opposite_at p toured fits a (omega arith)) (ap (λ (l : Letter). onward p.rotation l (dart_at p a)) e)

  place_second : (a : ℕ) → suc a < darts p → letter_of p a ≡ second → position (dart_at p (suc a)) p.rotation ≡ dart_at p a
  unfolding onward
  place_second a h e = place a _ h (toured.dart_bound a (omega arith)) (ap (λ (l : Letter). onward p.rotation l (dart_at p a)) e)

  upper : (j : ℕ) → j < darts p → letter_of p j ≡ second → is_upper (codes p) (dart_at p j) ≡ true
  unfolding is_upper
  upper j h e = eq-eqb _ _ (code_at p toured j h ∙ ap code e)

  not_upper : (j : ℕ) → j < darts p → letter_of p j ≡ down → is_upper (codes p) (dart_at p j) ≡ false
  unfolding is_upper
  not_upper j h e = ne_eqb (get_or (codes p) (dart_at p j) 0) (code second) (λ q. omega (arith, sym (code_at p toured j h ∙ ap code e) ∙ q))

  -- what taking the leaf at i does, where its cut edge ends at suc a
  taken : (i a : ℕ) (s : Labels) (d : ℕ) → i < darts p → mate_of p i ≡ suc a
      → position (dart_at p (suc a)) p.rotation ≡ d → gone (codes p) s d ≡ false
      → take_leaf p.rotation (codes p) s (dart_at p i) ≡ remove_cut (label_one (codes p) s d) (edge_at p (suc a))
  unfolding take_leaf
  taken i a s d h b e g =
      let there : opposite (dart_at p i) ≡ dart_at p (suc a) = sym (mate_dart p toured fits i h) ∙ ap (dart_at p) b in
      let place : position (opposite (dart_at p i)) p.rotation ≡ d = ap (λ (x : ℕ). position x p.rotation) there ∙ e in
      let one = before_one p.rotation (codes p) s (darts p) (opposite (dart_at p i)) (omega arith) (ap (gone (codes p) s) place ∙ g) ∙ place in
      ap₂ (λ (x y : ℕ). remove_cut (label_one (codes p) s x) y) one (sym (edge_mate p toured fits i h) ∙ ap (edge_at p) b)

  -- a leaf at position i whose cut edge ends at position suc a, taken in the state s
  module _ (i a : ℕ) (s : Labels) (h : i < darts p) (f : letter_of p i ≡ first) (b : mate_of p i ≡ suc a) (m : Marked p i i s) where
    leaf_up : letter_of p a ≡ up → Marked p (suc i) (suc i) (take_leaf p.rotation (codes p) s (dart_at p i))
    leaf_up g =
        let end = end_bound p toured fits i a h f b in
        let ha : a < darts p = omega arith in
        let y = opposite (dart_at p a) in
        let low : is_upper (codes p) y ≡ false = subst (λ (d : ℕ). is_upper (codes p) d ≡ false) (mate_dart p toured fits a ha)
        (not_upper (mate_of p a) (mate_bound p toured fits a ha) (mate_letter p toured a ha up g)) in
        let light : label_one (codes p) s y ≡ light_tree s (edge_at p a) = light_tree_lem (codes p) s y low ∙ ap (light_tree s) (opposite_edge (dart_at p a)) in
        let step = taken i a s y h b (place_up a end g) (not_gone (codes p) s y low) ∙ ap (λ (x : Labels). remove_cut x (edge_at p (suc a))) light in
        subst (Marked p (suc i) (suc i)) (sym step)
        (marked_removed p toured fits i a h f b (light_tree s (edge_at p a)) (marked_up p toured fits i a h f b g s m))

    leaf_second : letter_of p a ≡ second → i < mate_of p a → Marked p (suc i) (suc i) (take_leaf p.rotation (codes p) s (dart_at p i))
    leaf_second g late =
        let end = end_bound p toured fits i a h f b in
        let ha : a < darts p = omega arith in
        let y = dart_at p a in
        let present = m.present a ha g (omega arith) in
        let light : label_one (codes p) s y ≡ light_cut s (edge_at p a) = light_cut_lem (codes p) s y (upper a ha g) in
        let step = taken i a s y h b (place_second a end g) (still_there (codes p) s y present)
        ∙ ap (λ (x : Labels). remove_cut x (edge_at p (suc a))) light in
        subst (Marked p (suc i) (suc i)) (sym step)
        (marked_removed p toured fits i a h f b (light_cut s (edge_at p a)) (marked_second p toured fits i a h f b g late s m))

  -- ---- all leaves

  module _ (bracketed : Bracketed p)
      (after : (j : ℕ) → suc j < darts p → letter_of p (suc j) ≡ second → (letter_of p j ≡ up) ⊎ (letter_of p j ≡ second)) where
    -- a second right before the end of the leaf's cut edge ends an edge that opens after the leaf
    nested_after : (i a : ℕ) → i < darts p → letter_of p i ≡ first → mate_of p i ≡ suc a → letter_of p a ≡ second → i < mate_of p a
    nested_after i a h f b g =
        let later = toured.opens_first i h (ap opens f) in
        let near : i ≤ a = omega arith in
        let inside = le_split near (λ q. absurd (omega (arith, apart (letter_of p i) f (ap (letter_of p) q ∙ g)))) (λ (l : i < a). l) in
        (bracketed.chords i a h (ap is_chord f) inside (omega arith) (ap is_chord g)).0

    leaf : (i : ℕ) (s : Labels) → i < darts p → letter_of p i ≡ first → Marked p i i s
        → Marked p (suc i) (suc i) (take_leaf p.rotation (codes p) s (dart_at p i))
    leaf i s h f m =
        let later = toured.opens_first i h (ap opens f) in
        let a = mate_of p i - 1 in
        let b : mate_of p i ≡ suc a = omega arith in
        ⊎_elim (leaf_up i a s h f b m) (λ g. leaf_second i a s h f b m g (nested_after i a h f b g))
        (after a (end_bound p toured fits i a h f b) (end_letter p toured fits i a h f b))

    -- one position, with its letter
    one : (i : ℕ) (s : Labels) → i < darts p → Marked p i i s → (l : Letter) → letter_of p i ≡ l
        → Marked p (suc i) (suc i) (take_one p.rotation (codes p) l (dart_at p i) s)
    unfolding take_one
    one i s h m down e = marked_other p toured fits i s h (λ f. omega (arith, apart (letter_of p i) e f)) m
    one i s h m up e = marked_other p toured fits i s h (λ f. omega (arith, apart (letter_of p i) e f)) m
    one i s h m first e = leaf i s h e m
    one i s h m second e = marked_other p toured fits i s h (λ f. omega (arith, apart (letter_of p i) e f)) m

    -- the k positions from i on
    all : (k i : ℕ) (s : Labels) → i + k ≡ darts p → Marked p i i s
        → Marked p (darts p) (darts p) (take_leaves p.rotation (codes p) (drop i (visits p)) s)
    unfolding take_leaves
    all zero i s e m =
        let len = toured.all_met in
        let q : i ≡ length (visits p) = omega arith in
        rw (q, drop-length) (subst (λ (x : ℕ). Marked p x x s) (omega arith) m)
    all (suc k) i s e m =
        let len = toured.all_met in
        let v = get_or (visits p) i no_visit in
        let next = subst (λ (d : ℕ). Marked p (suc i) (suc i) (take_one p.rotation (codes p) v.letter d s)) (sym (visit_dart p i))
        (one i s (omega arith) m v.letter (sym (visit_letter p i))) in
        rw (drop-cons (visits p) i no_visit (omega arith))
        (all k (suc i) (take_one p.rotation (codes p) v.letter v.dart s) (omega arith) next)

    tree_marked : Marked p (darts p) (darts p) (take_leaves p.rotation (codes p) (visits p) (unlabelled (edges p.rotation)))
    tree_marked = all (darts p) 0 (unlabelled (edges p.rotation)) (omega arith) (marked_start p toured fits)

    pub label_ends : (j : ℕ) → j < darts p → opens (letter_of p j) ≡ false → get_or (tree_labels p) (edge_at p j) 0 ≡ starts_at p (suc j)
    unfolding tree_labels
    label_ends j h o = go (letter_of p j) refl o ∙ lit_end p toured (mate_bound p toured fits) j
      where
        go : (l : Letter) → letter_of p j ≡ l → opens l ≡ false
            → get_or (take_leaves p.rotation (codes p) (visits p) (unlabelled (edges p.rotation))).tree (edge_at p j) 0 ≡ lit p (darts p) j
        go down e o = absurd (true≢false o)
        go up e o = tree_marked.ups j h e
        go first e o = absurd (true≢false o)
        go second e o = tree_marked.leaves j h e (mate_bound p toured fits j h)

    pub label_opens : (i : ℕ) → i < darts p → opens (letter_of p i) ≡ true → get_or (tree_labels p) (edge_at p i) 0 ≡ starts_at p (suc (mate_of p i))
    label_opens i h o =
        ap (λ (e : ℕ). get_or (tree_labels p) e 0) (sym (edge_mate p toured fits i h))
        ∙ label_ends (mate_of p i) (mate_bound p toured fits i h) (ap opens (toured.fellows i h) ∙ fellow_closes (letter_of p i) o)
