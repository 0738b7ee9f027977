-- One turn in the work area: what is stored is what the machine reads. s is the stage before it, which fits the work area w. Assumes nothing.
--
--   open_top              the edge outside the tree that was opened last is stacked in range
--   tree_top              so is the tree edge
--   closing, rising, leafing, backing, entering   the turns
--   none_passed, more_passed, fewer_passed   no letter is read; more letters are; fewer would do
use Prim.Native.Nat.{ℕ, ◌+◌, ◌-◌, ◌*◌, ◌/◌, ◌%◌, ◌≤◌, ◌<◌}
use native.Mathlib.Numerals.{add-one}
use native.Mathlib.Omega.{arith}
use mathlib.Core.Path.{◌≡◌, refl, ap, subst, ◌∙◌}
use mathlib.Core.Logic.{◌≢◌}
use mathlib.Core.Bool.{true}
use mathlib.Core.List.{List, ◌∷◌}
use lib.ListN.{length, get_or, set, drop, length-set}
use Rattle.model.specs.Numbers.{all_below}
use Rattle.model.specs.LabelledTree.{star}
use Rattle.model.proofs.Below.{below_cons, below_head, below_tail, below_mono}
use Rattle.work.specs.Map.{BELOW, BEGUN, OPENS}
use Rattle.unpacker.specs.Unpacked.{labels_at}
use Rattle.decoder_ends.specs.States.{Stage, Area, area_of, area_at, at, leaf_stage, leaf_area, back_stage, back_area, enter_stage, enter_area, Hangs, Stacked}
use Rattle.decoder_ends.specs.States.{Fits}
use Rattle.decoder_ends.specs.Ends.{Read, Passed}
use Rattle.decoder_ends.proofs.Areas.{entered, pushed_tree, pushed_open, labels_beside, dart_entered, tree_pushed, open_pushed, tree_popped, open_popped}
use Rattle.decoder_ends.proofs.Letters as letters

-- ---- what is stacked stays in range

module _ (a : Area) (s : Stage) (d o p q y : ℕ) where
  stacked_closed : (v x : ℕ) → Stacked (pushed_open v x a) s → Stacked (entered q y a) (at s.edges s.here d o p)
  stacked_closed v x h = record {
    hangs = h.hangs;
    here_in = h.here_in;
    below_in = h.below_in;
    begun_in = below_tail (2 * s.edges + 2) v a.begun h.begun_in;
    opens_in = below_tail (2 * s.edges) x a.opens h.opens_in;
  }

  stacked_risen : (v : ℕ) → Stacked (pushed_tree v a) s → Stacked (entered q y a) (at s.edges v d o p)
  unfolding Hangs
  stacked_risen v h = record {
    hangs = h.hangs.1;
    here_in = below_head (2 * s.edges + 2) v a.below h.below_in;
    below_in = below_tail (2 * s.edges + 2) v a.below h.below_in;
    begun_in = h.begun_in;
    opens_in = h.opens_in;
  }

  module _ (h : Stacked a s) where
    names_below_lem : (xs : List ℕ) → all_below (2 * s.edges + 2) xs ≡ true → all_below (2 * (s.edges + 1) + 2) xs ≡ true
    names_below_lem xs = below_mono (2 * s.edges + 2) (2 * (s.edges + 1) + 2) (omega arith) xs

    opens_below : all_below (2 * (s.edges + 1)) a.opens ≡ true
    opens_below = below_mono (2 * s.edges) (2 * (s.edges + 1)) (omega arith) a.opens h.opens_in

    stacked_leafed : (r z : ℕ) → Stacked (entered r z (entered q y a)) (at (s.edges + 1) s.here d o p)
    stacked_leafed r z = let i = h.here_in in record {
      hangs = h.hangs;
      here_in = omega arith;
      below_in = names_below_lem a.below h.below_in;
      begun_in = names_below_lem a.begun h.begun_in;
      opens_in = opens_below;
    }

    stacked_backed : (l : ℕ) → l < 2 → Stacked (pushed_open s.here (2 * s.edges + l) (entered q y a)) (at (s.edges + 1) s.here d o p)
    stacked_backed l g = let i = h.here_in in record {
      hangs = h.hangs;
      here_in = omega arith;
      below_in = names_below_lem a.below h.below_in;
      begun_in = below_cons (2 * (s.edges + 1) + 2) s.here a.begun (omega arith) (names_below_lem a.begun h.begun_in);
      opens_in = below_cons (2 * (s.edges + 1)) (2 * s.edges + l) a.opens (omega arith) opens_below;
    }

    stacked_entered : (l : ℕ) → l < 2 → Stacked (pushed_tree s.here (entered q y a)) (at (s.edges + 1) (2 * s.edges + l + 2) d o p)
    unfolding Hangs
    stacked_entered l g = let i = h.here_in in record {
      hangs = (omega arith, h.hangs);
      here_in = omega arith;
      below_in = below_cons (2 * (s.edges + 1) + 2) s.here a.below (omega arith) (names_below_lem a.below h.below_in);
      begun_in = names_below_lem a.begun h.begun_in;
      opens_in = opens_below;
    }

-- ---- the turns

module _ (m : ℕ) (w : List ℕ) (s : Stage) (f : Fits m w s) where
  abbrev e : ℕ
  e = s.edges

  -- the area before the turn and after it
  passed : (bs ls : List ℕ) (p l k : ℕ) (t : Stage) (j i : ℕ) (w' : List ℕ) (a b : Area) → area_at m w s ≡ a → area_at m w' t ≡ b
      → Read p bs ls a s l k t j i b → Stacked b t → t.edges ≤ m → t.depth + t.opens ≤ t.edges → t.place < 2 * m → length w' ≡ length w
      → labels_at m w' ≡ labels_at m w → Passed p m bs ls w s l k t j i w'
  passed bs ls p l k t j i w' a b x y r g n₁ n₂ n₃ kept same = record {
    read = rw (x, y) r;
    fits = record {
      few_edges = f.few_edges;
      room = let h = f.room in omega arith;
      edges_in = n₁;
      few_open = n₂;
      place_in = n₃;
      stacked = rw y g;
    };
    kept = kept;
    labels_kept = same;
  }

  -- ---- an edge ends

  module _ (some : 0 < s.opens) where
    abbrev top : ℕ
    top = s.opens - 1

    -- what is stacked of the last edge, and its vertex
    abbrev x : ℕ
    x = get_or w (OPENS * (2 * m) + top) 0

    abbrev v : ℕ
    v = get_or w (BEGUN * (2 * m) + top) 0

    abbrev rest : Area
    rest = area_of m w s.depth top

    popped : area_at m w s ≡ pushed_open v x rest
    popped = open_popped m w s.depth s.opens some

    pub begun_is : (area_at m w s).begun ≡ v ∷ rest.begun
    begun_is = ap (λ (a : Area). a.begun) popped

    still : Stacked (pushed_open v x rest) s
    still = subst (λ (a : Area). Stacked a s) popped f.stacked

    pub open_top : x < 2 * e
    open_top = below_head (2 * e) x rest.opens still.opens_in

    pub closing : s.here < v → (y : ℕ) → y ≡ 2 * (x / 2) + 1 → (bs ls : List ℕ) (k : ℕ)
        → Passed 1 m bs ls w s 1 k (at e s.here s.depth top y) (x % 2) k (set w s.place y)
    closing l y q bs ls k =
        let i = open_top in let g = f.edges_in in let h = f.few_open in let c = f.place_in in
        passed bs ls 1 1 k _ (x % 2) k _ _ _ popped (dart_entered m w s.depth top s.place y c)
        (rw q (letters.closing bs ls rest s s.depth top k v x still l))
        (stacked_closed rest s s.depth top y s.place y v x still)
        g (omega arith) (omega arith) (length-set w s.place y) (labels_beside m w s.place y (omega arith))

  module _ (some : 0 < s.depth) where
    abbrev below_top : ℕ
    below_top = s.depth - 1

    -- the vertex that the present one hangs from
    abbrev u : ℕ
    u = get_or w (BELOW * (2 * m) + below_top) 0

    abbrev others : Area
    others = area_of m w below_top s.opens

    risen_from : area_at m w s ≡ pushed_tree u others
    risen_from = tree_popped m w s.depth s.opens some

    hung : Stacked (pushed_tree u others) s
    hung = subst (λ (a : Area). Stacked a s) risen_from f.stacked

    pub tree_top : 2 ≤ s.here
    unfolding Hangs
    tree_top = hung.hangs.0

    pub rising : (p y : ℕ) → p ≡ 2 * (s.here / 2 - 1) → y ≡ p + 1 → (j : ℕ) → j ≡ s.here % 2 → (bs ls : List ℕ) (k : ℕ)
        → drop k bs ≡ 0 ∷ drop (k + 1) bs
        → Passed 1 m bs ls w s 0 k (at e u below_top s.opens p) j (k + 1) (set w s.place y)
    rising p y q r j z bs ls k b =
        let t = tree_top in let i = f.stacked.here_in in let g = f.edges_in in let h = f.few_open in let c = f.place_in in
        let dart : y ≡ 2 * (s.here / 2 - 1) + 1 = omega arith in
        passed bs ls 1 0 k _ j (k + 1) _ _ _ risen_from (dart_entered m w below_top s.opens s.place y c)
        (rw (dart, q, z) (letters.rising bs ls others s below_top s.opens k u hung b))
        (stacked_risen others s below_top s.opens p s.place y u hung)
        g (omega arith) (omega arith) (length-set w s.place y) (labels_beside m w s.place y (omega arith))

  -- ---- an edge begins

  -- a bit c that is not 0 is read, a bit b and a label y follow
  module _ (bs ls : List ℕ) (k c b y : ℕ) (z : c ≢ 0) (i : e < m) (g : drop k bs ≡ c ∷ b ∷ drop (k + 2) bs) (q : drop e ls ≡ y ∷ drop (e + 1) ls) where
    abbrev dart : List ℕ
    dart = set w s.place (2 * e)

    dart_long : length dart ≡ length w
    dart_long = length-set w s.place (2 * e)

    dart_beside : labels_at m dart ≡ labels_at m w
    dart_beside = let c = f.place_in in labels_beside m w s.place (2 * e) (omega arith)

    dart_in : (d o : ℕ) → area_of m dart d o ≡ entered s.place (2 * e) (area_of m w d o)
    dart_in d o = dart_entered m w d o s.place (2 * e) f.place_in

    pub leafing : y ≡ star → Passed 1 m bs ls w s 0 k (leaf_stage s) b (k + 2) (leaf_area w s)
    leafing h =
        let n = f.few_open in
        passed bs ls 1 0 k _ b (k + 2) _ _ _ refl
        (dart_entered m dart s.depth s.opens (2 * e + 1) (2 * e + 1) (omega arith)
        ∙ ap (entered (2 * e + 1) (2 * e + 1)) (dart_in s.depth s.opens))
        (letters.leafing bs ls (area_at m w s) s k c z f.stacked b y g q s.depth s.opens h)
        (stacked_leafed (area_at m w s) s s.depth s.opens (2 * e) s.place (2 * e) f.stacked (2 * e + 1) (2 * e + 1))
        (omega arith) (omega arith) (omega arith) (length-set dart (2 * e + 1) (2 * e + 1) ∙ dart_long)
        (labels_beside m dart (2 * e + 1) (2 * e + 1) (omega arith) ∙ dart_beside)

    module _ (h : y ≢ star) (small : y < 3) where
      pub backing : b ≡ 0 → Passed 1 m bs ls w s 0 k (back_stage s) 0 (k + 2) (back_area m w s y)
      backing t =
          let n = f.few_open in let room = f.room in let long = dart_long in
          let i₁ = BEGUN * (2 * m) + s.opens in let i₂ = OPENS * (2 * m) + s.opens in
          passed bs ls 1 0 k _ 0 (k + 2) _ _ _ refl
          (rw (add-one s.opens) (open_pushed m dart s.depth s.opens (omega arith) (omega arith) s.here (2 * e + y))
          ∙ ap (pushed_open s.here (2 * e + y)) (dart_in s.depth s.opens))
          (letters.backing bs ls (area_at m w s) s k c z f.stacked b y g q s.depth (s.opens + 1) h small t)
          (stacked_backed (area_at m w s) s s.depth (s.opens + 1) (2 * e) s.place (2 * e) f.stacked y (omega arith))
          (omega arith) (omega arith) (omega arith) (simp length-set refl)
          (labels_beside m (set dart i₁ s.here) i₂ (2 * e + y) (omega arith) ∙ labels_beside m dart i₁ s.here (omega arith) ∙ dart_beside)

      pub entering : b ≢ 0 → drop (k + 1) bs ≡ b ∷ drop (k + 2) bs
          → Passed 1 m bs ls w s 0 k (enter_stage s y) 0 (k + 1) (enter_area m w s)
      entering t r =
          let n = f.few_open in let room = f.room in let long = dart_long in
          let i₁ = BELOW * (2 * m) + s.depth in
          passed bs ls 1 0 k _ 0 (k + 1) _ _ _ refl
          (rw (add-one s.depth) (tree_pushed m dart s.depth s.opens (omega arith) (omega arith) s.here)
          ∙ ap (pushed_tree s.here) (dart_in s.depth s.opens))
          (letters.entering bs ls (area_at m w s) s k c z f.stacked b y g q (s.depth + 1) s.opens h small t r)
          (stacked_entered (area_at m w s) s (s.depth + 1) s.opens (2 * e + 1) s.place (2 * e) f.stacked y (omega arith))
          (omega arith) (omega arith) (omega arith) (simp length-set refl)
          (labels_beside m dart i₁ s.here (omega arith) ∙ dart_beside)

-- ---- letters one after the other

module _ (m : ℕ) (bs ls w : List ℕ) (s : Stage) (l k : ℕ) where
  pub none_passed : Fits m w s → Passed 0 m bs ls w s l k s l k w
  none_passed f = record { read = letters.none_read bs ls (area_at m w s) s l k; fits = f; kept = refl; labels_kept = refl }

  module _ (p : ℕ) (t : Stage) (j i : ℕ) (w' : List ℕ) (x : Passed p m bs ls w s l k t j i w') where
    pub fewer_passed : (q : ℕ) → q ≤ p → Passed q m bs ls w s l k t j i w'
    fewer_passed q h = record {
      read = letters.fewer bs ls (area_at m w s) s p l k t j i (area_at m w' t) x.read q h;
      fits = x.fits;
      kept = x.kept;
      labels_kept = x.labels_kept;
    }

    pub more_passed : (q : ℕ) (u : Stage) (n r : ℕ) (w'' : List ℕ) → Passed q m bs ls w' t j i u n r w'' → Passed (p + q) m bs ls w s l k u n r w''
    more_passed q u n r w'' y = record {
      read = letters.more_read bs ls (area_at m w s) s p l k t j i (area_at m w' t) x.read q u n r (area_at m w'' u) y.read;
      fits = y.fits;
      kept = y.kept ∙ x.kept;
      labels_kept = y.labels_kept ∙ x.labels_kept;
    }
