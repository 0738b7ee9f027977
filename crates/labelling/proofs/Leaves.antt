-- The leaves taken from left to right, position by position.
--
--   edge_at p j         the edge of the dart at position j
--   light_tree, light_cut        the label 1 is set at a tree edge, or at a cut edge
--   Marked p i k s     s has the labels that the leaves before i give, and the cut edges of the leaves before k are removed
--   marked_start       so it is in the beginning
--   marked_other       a position without a leaf changes nothing
--   end_bound, end_letter      where the cut edge of a leaf ends
--   marked_up, marked_second   step 1 at a leaf: its cut edge ends right after an up, or right after a second
--   marked_removed     steps 2 and 3
use Prim.Native.Nat.{ℕ, suc, ◌/◌, ◌≤◌, ◌<◌}
use native.Mathlib.Nat.{not-suc-le-zero, suc_inj}
use native.Mathlib.Omega.{arith}
use mathlib.Core.Path.{◌≡◌, sym, ap, ◌∙◌, subst}
use mathlib.Core.Logic.{⊎_elim, ◌≢◌}
use mathlib.Core.Bool.{true, false, true≢false}
use mathlib.Core.List.{List}
use lib.ListN.{length, get_or, set, length-set, length-replicate, get_or-replicate}
use lib.Seq.{get_or-set_same, get_or-set_other}
use Rattle.model.specs.Map.{Plan, darts, edges, dart_count_fits}
use Rattle.model.specs.Traversal.{Letter, up, first, second, code, opens}
use Rattle.model.specs.LabelledTree.{Labels, unlabelled, remove_cut}
use Rattle.orbits.proofs.Order.{eq_split, lt_suc_split}
use Rattle.words.specs.Toured.{Toured, dart_at, letter_of, mate_of}
use Rattle.words.proofs.Letters.{fellow_opens, apart}
use Rattle.words.proofs.Positions.{mate_bound, mate_back, mate_letter, edge_inj, edge_bound}
use Rattle.labelling.proofs.Lit.{lit, lit_start, lit_same, lit_now}

-- the edge of the dart at position j
abbrev pub edge_at : Plan → ℕ → ℕ
edge_at p j = dart_at p j / 2

-- the label 1 is set at a tree edge, or at a cut edge
abbrev pub light_tree : Labels → ℕ → Labels
light_tree s e = record { tree = set s.tree e 1; cut = s.cut; removed = s.removed }

abbrev pub light_cut : Labels → ℕ → Labels
light_cut s e = record { tree = s.tree; cut = set s.cut e 1; removed = s.removed }

-- `lit p i j` is the label that the leaves before i give the edge that ends at j: to a tree edge, to a cut edge, and to the edge of a leaf that is
-- taken. The cut edges of leaves not taken yet are present.
pub record Marked (p : Plan) (i k : ℕ) (s : Labels) : Type 0 where
  pub tree_size : length s.tree ≡ edges p.rotation
  pub cut_size : length s.cut ≡ edges p.rotation
  pub ups : (j : ℕ) → j < darts p → letter_of p j ≡ up → get_or s.tree (edge_at p j) 0 ≡ lit p i j
  pub cuts : (j : ℕ) → j < darts p → letter_of p j ≡ second → get_or s.cut (edge_at p j) 0 ≡ lit p i j
  pub leaves : (j : ℕ) → j < darts p → letter_of p j ≡ second → mate_of p j < k → get_or s.tree (edge_at p j) 0 ≡ lit p i j
  pub present : (j : ℕ) → j < darts p → letter_of p j ≡ second → k ≤ mate_of p j → get_or s.removed (edge_at p j) 0 ≡ 0

module _ (p : Plan) (toured : Toured p) (fits : dart_count_fits (darts p) ≡ true) where
  pub marked_start : Marked p 0 0 (unlabelled (edges p.rotation))
  unfolding unlabelled
  marked_start = record {
    tree_size = length-replicate _ _;
    cut_size = length-replicate _ _;
    ups = λ j h e. get_or-replicate (edges p.rotation) _ 0 0 (edge_bound p toured fits j h) ∙ sym (lit_start p j);
    cuts = λ j h e. get_or-replicate (edges p.rotation) _ 0 0 (edge_bound p toured fits j h) ∙ sym (lit_start p j);
    leaves = λ j h e l. absurd (not-suc-le-zero l);
    present = λ j h e l. get_or-replicate (edges p.rotation) _ 0 0 (edge_bound p toured fits j h);
  }

  -- no edge ends at two positions
  edge_apart : (j k : ℕ) → j < darts p → k < darts p → opens (letter_of p j) ≡ false → opens (letter_of p k) ≡ false → j ≢ k → edge_at p j ≢ edge_at p k
  edge_apart j k hj hk oj ok n e =
      ⊎_elim n
      (λ q. true≢false (sym (ap opens (toured.fellows k hk) ∙ fellow_opens (letter_of p k) ok) ∙ ap (λ (x : ℕ). opens (letter_of p x)) (sym q) ∙ oj))
      (edge_inj p toured fits j k hj hk e)

  -- an entry set at an edge's end stands there
  there : (l : List ℕ) (v j k : ℕ) → j ≡ k → k < darts p → length l ≡ edges p.rotation → get_or (set l (edge_at p k) v) (edge_at p j) 0 ≡ v
  there l v j k q hk e =
      ap (λ (x : ℕ). get_or (set l (edge_at p k) v) (edge_at p x) 0) q ∙ get_or-set_same l (edge_at p k) v 0 (rw e (edge_bound p toured fits k hk))

  -- an entry at another edge's end stays
  elsewhere : (l : List ℕ) (v j k : ℕ) → j < darts p → k < darts p → opens (letter_of p j) ≡ false → opens (letter_of p k) ≡ false → j ≢ k
      → get_or (set l (edge_at p k) v) (edge_at p j) 0 ≡ get_or l (edge_at p j) 0
  elsewhere l v j k hj hk oj ok n = get_or-set_other l (edge_at p k) (edge_at p j) v 0 (edge_apart j k hj hk oj ok n)

  pub marked_other : (i : ℕ) (s : Labels) → i < darts p → letter_of p i ≢ first → Marked p i i s → Marked p (suc i) (suc i) s
  marked_other i s h n m =
      let from : (j : ℕ) → j < darts p → letter_of p j ≡ second → mate_of p j ≢ i = λ j hj e q.
      n (ap (letter_of p) (sym q) ∙ mate_letter p toured j hj second e) in
      let same : (j : ℕ) → lit p i j ≡ lit p (suc i) j = λ j. lit_same p toured i j (λ hj e. from (suc j) hj e) in
      record {
        tree_size = m.tree_size;
        cut_size = m.cut_size;
        ups = λ j hj e. m.ups j hj e ∙ same j;
        cuts = λ j hj e. m.cuts j hj e ∙ same j;
        leaves = λ j hj e l. lt_suc_split l (λ q. absurd (from j hj e q)) (λ q. m.leaves j hj e q ∙ same j);
        present = λ j hj e l. m.present j hj e (omega arith);
      }

  -- a leaf at position i whose cut edge ends at position suc a
  module _ (i a : ℕ) (h : i < darts p) (f : letter_of p i ≡ first) (b : mate_of p i ≡ suc a) where
    pub end_bound : suc a < darts p
    end_bound = subst (λ (x : ℕ). x < darts p) b (mate_bound p toured fits i h)

    pub end_letter : letter_of p (suc a) ≡ second
    end_letter = ap (letter_of p) (sym b) ∙ mate_letter p toured i h first f

    end_mate : mate_of p (suc a) ≡ i
    end_mate = ap (mate_of p) (sym b) ∙ mate_back p toured fits i h

    lit_here : lit p (suc i) a ≡ 1
    lit_here = lit_now p toured i a end_bound end_letter end_mate

    lit_else : (j : ℕ) → j ≢ a → lit p i j ≡ lit p (suc i) j
    lit_else j n = lit_same p toured i j (λ hj e q. n (suc_inj (sym (mate_back p toured fits (suc j) hj) ∙ ap (mate_of p) q ∙ b)))

    not_at : (j : ℕ) (l k : Letter) → letter_of p j ≡ l → letter_of p a ≡ k → (code l ≡ code k → ⊥) → j ≢ a
    not_at j l k e g n q = n (ap code (sym e ∙ ap (letter_of p) q ∙ g))

    pub marked_up : letter_of p a ≡ up → (s : Labels) → Marked p i i s → Marked p (suc i) i (light_tree s (edge_at p a))
    marked_up g s m =
        let ha : a < darts p = omega (arith, end_bound) in
        let no : (j : ℕ) → letter_of p j ≡ second → j ≢ a = λ j e. not_at j second up e g (λ z. omega arith) in
        record {
          tree_size = simp length-set m.tree_size;
          cut_size = m.cut_size;
          ups = λ j hj e. eq_split j a
              (λ q. there s.tree 1 j a q ha m.tree_size ∙ sym lit_here ∙ ap (lit p (suc i)) (sym q))
              (λ n. elsewhere s.tree 1 j a hj ha (ap opens e) (ap opens g) n ∙ m.ups j hj e ∙ lit_else j n);
          cuts = λ j hj e. m.cuts j hj e ∙ lit_else j (no j e);
          leaves = λ j hj e l. elsewhere s.tree 1 j a hj ha (ap opens e) (ap opens g) (no j e) ∙ m.leaves j hj e l ∙ lit_else j (no j e);
          present = m.present;
        }

    pub marked_second : letter_of p a ≡ second → i < mate_of p a → (s : Labels) → Marked p i i s → Marked p (suc i) i (light_cut s (edge_at p a))
    marked_second g late s m =
        let ha : a < darts p = omega (arith, end_bound) in
        record {
          tree_size = m.tree_size;
          cut_size = simp length-set m.cut_size;
          ups = λ j hj e. m.ups j hj e ∙ lit_else j (not_at j up second e g (λ z. omega arith));
          cuts = λ j hj e. eq_split j a
              (λ q. there s.cut 1 j a q ha m.cut_size ∙ sym lit_here ∙ ap (lit p (suc i)) (sym q))
              (λ n. elsewhere s.cut 1 j a hj ha (ap opens e) (ap opens g) n ∙ m.cuts j hj e ∙ lit_else j n);
          leaves = λ j hj e l. m.leaves j hj e l ∙ lit_else j (λ q. let z = ap (mate_of p) q in omega arith);
          present = m.present;
        }

    pub marked_removed : (s : Labels) → Marked p (suc i) i s → Marked p (suc i) (suc i) (remove_cut s (edge_at p (suc a)))
    unfolding remove_cut
    marked_removed s m =
        let other : (j : ℕ) → mate_of p j ≢ i → j ≢ suc a = λ j n q. n (ap (mate_of p) q ∙ end_mate) in
        let end = ap opens end_letter in
        record {
          tree_size = simp length-set m.tree_size;
          cut_size = m.cut_size;
          ups = λ j hj e. elsewhere s.tree _ j (suc a) hj end_bound (ap opens e) end
              (λ q. omega (arith, apart (letter_of p j) e (ap (letter_of p) q ∙ end_letter))) ∙ m.ups j hj e;
          cuts = m.cuts;
          leaves = λ j hj e l. eq_split (mate_of p j) i
              (λ q. let r : j ≡ suc a = sym (mate_back p toured fits j hj) ∙ ap (mate_of p) q ∙ b in
              there s.tree _ j (suc a) r end_bound m.tree_size ∙ m.cuts (suc a) end_bound end_letter ∙ ap (lit p (suc i)) (sym r))
              (λ n. elsewhere s.tree _ j (suc a) hj end_bound (ap opens e) end (other j n) ∙ m.leaves j hj e (omega arith));
          present = λ j hj e l. elsewhere s.removed _ j (suc a) hj end_bound (ap opens e) end
              (other j (λ q. omega arith)) ∙ m.present j hj e (omega arith);
        }
