-- Every connected map has a tour: a set of edges can be found, edge by edge, whose tour goes through all the darts in one cycle. Assumes nothing.
--
--   Connected N σ α    what σ and α keep is the same everywhere
--   tour               a tour of one cycle numbers the darts
--   Edges tree         a set of edges, whole, whose tour is a permutation and has both darts of each edge of the set in one cycle
--   Spanning, spanned  such a set with one cycle; a connected map has it
use Prim.Native.Nat.{ℕ, zero, suc, ◌≤◌, ◌<◌}
use native.Mathlib.Nat.{lt-suc_self}
use native.Mathlib.Decide.{ℕ_discrete}
use native.Mathlib.Omega.{arith}
use mathlib.Core.Path.{◌≡◌, refl, sym, ap, ap₂, ◌∙◌}
use mathlib.Core.Logic.{⊎_elim}
use mathlib.Core.Bool.{Bool, true, false, cond, ◌||◌, or-true}
use lib.Dec.{eqb, eqb→eq}
use borrow.Author.Tests.{eq-eqb, ne_eqb}
use Rattle.model.specs.Numbers.{count, least, is_least, cycles}
use Rattle.orbits.specs.Permutation.{Perm, swap}
use Rattle.orbits.specs.Chord.{Involution}
use Rattle.orbits.specs.Tour.{tour_next, Tour}
use Rattle.orbits.proofs.Order.{eq_split, eq→eqb, find_below}
use Rattle.orbits.proofs.Tally.{count_inj, count_except}
use Rattle.orbits.proofs.Cycle.{least_step, least_bound, least_idem, least_ext, perm_ext}
use Rattle.orbits.proofs.Transversal.{cycles_ext}
use Rattle.orbits.proofs.Merge.{swap_perm, merge, swap_a, swap_b, swap_split, joined, together}
use Rattle.orbits.proofs.Number.{dart, pos, dart_bound, pos_bound, dart_pos, pos_dart, pos_step}

-- what σ and α keep is the same everywhere
abbrev pub Connected : (N : ℕ) (σ α : ℕ → ℕ) → Type 0
Connected N σ α = (g : ℕ → ℕ) → ((d : ℕ) → d < N → g (σ d) ≡ g d) → ((d : ℕ) → d < N → g (α d) ≡ g d) → (d e : ℕ) → d < N → e < N → g d ≡ g e

dec_not : {A : Type 0} → Dec A → Dec (A → ⊥)
dec_not (yes a) = no (λ f. f a)
dec_not (no f) = yes f

module _ (N : ℕ) (σ α : ℕ → ℕ) (turn : Perm N σ) (cross : Involution N α) where
  -- ---- a tour of one cycle numbers the darts

  module _ (tree : ℕ → Bool) (whole : (d : ℕ) → d < N → tree (α d) ≡ tree d) (perm : Perm N (tour_next σ α tree))
      (single : cycles (tour_next σ α tree) N ≡ 1) (r : ℕ) (hr : r < N) where
    pub tour : Tour N σ α tree (pos N (tour_next σ α tree) perm single r hr) (dart N (tour_next σ α tree) perm single r hr)
    tour = record {
      turn = turn;
      cross = cross;
      whole = whole;
      pos_bound = pos_bound N (tour_next σ α tree) perm single r hr;
      dart_bound = dart_bound N (tour_next σ α tree) perm single r hr;
      dart_pos = dart_pos N (tour_next σ α tree) perm single r hr;
      pos_dart = pos_dart N (tour_next σ α tree) perm single r hr;
      step = pos_step N (tour_next σ α tree) perm single r hr;
    }

  -- ---- one edge more

  onward_in : (tree : ℕ → Bool) (d : ℕ) → tree d ≡ true → tour_next σ α tree d ≡ σ (α d)
  onward_in tree d e = ap (λ (c : Bool). cond c (σ (α d)) (σ d)) e

  onward_out : (tree : ℕ → Bool) (d : ℕ) → tree d ≡ false → tour_next σ α tree d ≡ σ d
  onward_out tree d e = ap (λ (c : Bool). cond c (σ (α d)) (σ d)) e

  -- the edge of a joins the tree
  abbrev more : (ℕ → Bool) → ℕ → ℕ → Bool
  more tree a d = eqb d a || (eqb d (α a) || tree d)

  more_a : (tree : ℕ → Bool) (a d : ℕ) → d ≡ a → more tree a d ≡ true
  more_a tree a d e = ap (λ (b : Bool). b || (eqb d (α a) || tree d)) (eq-eqb d a e)

  more_b : (tree : ℕ → Bool) (a d : ℕ) → d ≡ α a → more tree a d ≡ true
  more_b tree a d e = ap (λ (b : Bool). eqb d a || (b || tree d)) (eq-eqb d (α a) e) ∙ or-true (eqb d a)

  more_other : (tree : ℕ → Bool) (a d : ℕ) → (d ≡ a → ⊥) → (d ≡ α a → ⊥) → more tree a d ≡ tree d
  more_other tree a d n k = ap₂ (λ (b c : Bool). b || (c || tree d)) (ne_eqb d a n) (ne_eqb d (α a) k)

  -- a set of edges, whole, whose tour is a permutation and has both darts of each edge of the set in one cycle
  pub record Edges (tree : ℕ → Bool) : Type 0 where
    pub whole : (d : ℕ) → d < N → tree (α d) ≡ tree d
    pub perm : Perm N (tour_next σ α tree)
    pub inner : (d : ℕ) → d < N → tree d ≡ true → least (tour_next σ α tree) N (α d) ≡ least (tour_next σ α tree) N d

  module _ (tree : ℕ → Bool) (g : Edges tree) where
    abbrev τ : ℕ → ℕ
    τ = tour_next σ α tree

    -- the turn about a vertex is a step of the tour, from d or from the other dart of its edge
    turn_tour : (b : Bool) (d : ℕ) → d < N → tree d ≡ b → σ d ≡ τ (cond b (α d) d)
    turn_tour true d h e =
        ap σ (sym (cross.back d h)) ∙ ap (λ (b : Bool). cond b (σ (α (α d))) (σ (α d))) (sym (g.whole d h ∙ e))
    turn_tour false d h e = ap (λ (b : Bool). cond b (σ (α d)) (σ d)) (sym e)

    -- a tour that has both darts of each edge in one cycle has one label
    one_label : Connected N σ α → ((d : ℕ) → d < N → least τ N (α d) ≡ least τ N d) → (d e : ℕ) → d < N → e < N → least τ N d ≡ least τ N e
    one_label connected all = connected (least τ N) (λ d h. at (tree d) d h refl) all
      where
        at : (b : Bool) (d : ℕ) → d < N → tree d ≡ b → least τ N (σ d) ≡ least τ N d
        at true d h e = ap (least τ N) (turn_tour true d h e) ∙ least_step N τ g.perm (α d) (cross.bound d h) ∙ all d h
        at false d h e = ap (least τ N) (turn_tour false d h e) ∙ least_step N τ g.perm d h

    -- and so one cycle at most
    one_cycle : ((d e : ℕ) → d < N → e < N → least τ N d ≡ least τ N e) → cycles τ N ≤ 1
    unfolding cycles count
    one_cycle same = count_inj (is_least τ N) (λ i. true) N 1 (record {
      to = λ y h t. zero;
      bound = λ y h t. lt-suc_self zero;
      passes = λ y h t. tt;
      inj = λ x y hx hy t u e. sym (eqb→eq (least τ N x) x t) ∙ same x y hx hy ∙ eqb→eq (least τ N y) y u;
    })

    -- ---- an edge whose darts lie in different cycles is added

    module _ (a : ℕ) (ha : a < N) (apart : least τ N (α a) ≡ least τ N a → ⊥) where
      outside : (c : Bool) → tree a ≡ c → tree a ≡ false
      outside true e = absurd (apart (g.inner a ha e))
      outside false e = e

      added : (d : ℕ) → d < N → tour_next σ α (more tree a) d ≡ τ (swap a (α a) d)
      added d h =
          let out : tree a ≡ false = outside (tree a) refl in
          swap_split a (α a) d
          (λ e. onward_in (more tree a) d (more_a tree a d e) ∙ ap (λ (x : ℕ). σ (α x)) e
          ∙ sym (ap (λ (x : ℕ). τ (swap a (α a) x)) e ∙ ap τ (swap_a a (α a)) ∙ onward_out tree (α a) (g.whole a ha ∙ out)))
          (λ e. onward_in (more tree a) d (more_b tree a d e) ∙ ap (λ (x : ℕ). σ (α x)) e ∙ ap σ (cross.back a ha)
          ∙ sym (ap (λ (x : ℕ). τ (swap a (α a) x)) e ∙ ap τ (swap_b a (α a)) ∙ onward_out tree a out))
          (λ n k e. ap (λ (c : Bool). cond c (σ (α d)) (σ d)) (more_other tree a d n k) ∙ sym (ap τ e))

      hb : α a < N
      hb = cross.bound a ha

      apart' : least τ N a ≡ least τ N (α a) → ⊥
      apart' e = apart (sym e)

      -- the tour with the edge, as the tour without it after an exchange
      abbrev τ' : ℕ → ℕ
      τ' = tour_next σ α (more tree a)

      abbrev ρ : ℕ → ℕ
      ρ x = τ (swap a (α a) x)

      ρ-perm : Perm N ρ
      ρ-perm = swap_perm N τ g.perm a (α a) ha hb

      labels : (x : ℕ) → x < N → least τ' N x ≡ least ρ N x
      labels = least_ext N ρ ρ-perm τ' added N

      more_whole : (d : ℕ) → d < N → more tree a (α d) ≡ more tree a d
      more_whole d h =
          eq_split d a (λ e. more_b tree a (α d) (ap α e) ∙ sym (more_a tree a d e)) (λ n.
          eq_split d (α a) (λ e. more_a tree a (α d) (ap α e ∙ cross.back a ha) ∙ sym (more_b tree a d e)) (λ k.
          more_other tree a (α d) (λ e. k (sym (cross.back d h) ∙ ap α e)) (λ e. n (sym (cross.back d h) ∙ ap α e ∙ cross.back a ha))
          ∙ g.whole d h ∙ sym (more_other tree a d n k)))

      ends : least τ' N (α a) ≡ least τ' N a
      ends = labels (α a) hb ∙ sym (joined N τ g.perm a (α a) ha hb apart') ∙ sym (labels a ha)

      more_inner : (d : ℕ) → d < N → more tree a d ≡ true → least τ' N (α d) ≡ least τ' N d
      more_inner d h t =
          eq_split d a (λ e. ap (λ (x : ℕ). least τ' N (α x)) e ∙ ends ∙ ap (least τ' N) (sym e)) (λ n.
          eq_split d (α a) (λ e. ap (λ (x : ℕ). least τ' N (α x)) e ∙ ap (least τ' N) (cross.back a ha) ∙ sym ends ∙ ap (least τ' N) (sym e)) (λ k.
          let had : tree d ≡ true = sym (more_other tree a d n k) ∙ t in
          labels (α d) (cross.bound d h)
          ∙ together N τ g.perm a (α a) ha hb apart' (α d) d (cross.bound d h) h (g.inner d h had)
          ∙ sym (labels d h)))

      more_edges : Edges (more tree a)
      more_edges = record { whole = more_whole; perm = perm_ext N ρ ρ-perm τ' added; inner = more_inner }

      fewer : suc (cycles τ' N) ≡ cycles τ N
      fewer =
          ap suc (sym (cycles_ext N ρ τ' ρ-perm more_edges.perm added)) ∙ merge N τ g.perm a (α a) ha hb apart'

    -- there is a cycle, where there is a dart
    some_cycle : zero < N → zero < cycles τ N
    unfolding cycles
    some_cycle h =
        let own = eq→eqb (least τ N (least τ N zero)) (least τ N zero) (least_idem N τ g.perm zero h) in
        omega (arith, count_except (is_least τ N) (least τ N zero) N (least_bound N τ g.perm zero h) own)

  -- ---- edges are added until there is one cycle

  pub record Spanning : Type 0 where
    pub tree : ℕ → Bool
    pub edges : Edges tree
    pub single : cycles (tour_next σ α tree) N ≡ 1

  grow : Connected N σ α → zero < N → (n : ℕ) (tree : ℕ → Bool) → Edges tree → cycles (tour_next σ α tree) N ≤ suc n → Spanning
  grow connected h zero tree g l = record { tree = tree; edges = g; single = omega (arith, some_cycle tree g h) }
  grow connected h (suc n) tree g l =
      let L : ℕ → ℕ = least (tour_next σ α tree) N in
      ⊎_elim
      (λ f. grow connected h n (more tree f.0) (more_edges tree g f.0 f.1 f.2) (omega (arith, fewer tree g f.0 f.1 f.2)))
      (λ none.
      let all : (d : ℕ) → d < N → L (α d) ≡ L d = λ d k. eq_split (L (α d)) (L d) (λ e. e) (λ m. absurd (none d k m)) in
      record { tree = tree; edges = g; single = omega (arith, some_cycle tree g h, one_cycle tree g (one_label tree g connected all)) })
      (find_below (λ d. L (α d) ≡ L d → ⊥) (λ d. dec_not (ℕ_discrete (L (α d)) (L d))) N)

  no_edges : Edges (λ d. false)
  no_edges = record { whole = λ d h. refl; perm = turn; inner = λ d h e. let z : ◌≡◌ {A = ℕ} 0 1 = cc in absurd (omega arith) }

  pub spanned : Connected N σ α → zero < N → Spanning
  spanned connected h = grow connected h (cycles σ N) (λ d. false) no_edges (omega arith)
