-- Naming in ascending order gives each cycle the name of its least dart. f is a permutation below n, and d a dart that is its own least.
--
--   length_names           there are as many names below d as darts
--   Naming                 the names b while the cycle of d is followed: k of its darts are named, x is the next
--   naming_start, naming_step, naming_end   before the first step, one step, and back at d
--   naming_here, naming_few   x is a dart, and not every dart is named
--   naming_size            back at d, as many steps were made as the cycle has darts
--   names_none, names_skip, names_all       no name yet; d is no least dart, so its turn changes nothing; all names
--   unnamed_least, named_other              d is its own least if it has no name at its turn, and not if it has one
use mathlib.Core.Path.{◌≡◌, refl, sym, ap, ◌∙◌, subst}
use mathlib.Core.Logic.{◌≢◌}
use mathlib.Core.List.{List}
use Prim.Native.Nat.{ℕ, suc, ◌+◌, ◌-◌, ◌≤◌, ◌<◌}
use native.Mathlib.Nat.{zero-add}
use native.Mathlib.Numerals.{add-one}
use native.Mathlib.Omega.{arith}
use lib.ListN.{length, get_or, set, replicate, length-set, length-replicate, get_or-replicate}
use lib.Seq.{get_or-set_same, get_or-set_other}
use borrow.Author.Tests.{lt-ltb, le-ltb}
use Rattle.model.specs.Numbers.{iter, least, cycle_size}
use Rattle.orbits.specs.Permutation.{Perm}
use Rattle.orbits.proofs.Order.{lt_or_le, le_split, lt_suc_split, eq_split}
use Rattle.orbits.proofs.Cycle.{least_le, least_iter, least_idem, iter_out, iter_bound, on_iter, same_reach}
use Rattle.orbits.proofs.Sizes.{size_le, size_is, size_above}
use Rattle.model.specs.Numbers.{tabulate}
use Rattle.model.proofs.Tabulated.{length_tabulate, tabulate_at, is_tabulate, tabulate_ext}
use Rattle.following.specs.Half.{unnamed, name_below, names_below}

-- ---- names below d

module _ (f : ℕ → ℕ) (n : ℕ) where
  name_in : (d x : ℕ) → least f n x < d → name_below f n d x ≡ least f n x
  unfolding name_below
  name_in d x h = simp (lt-ltb _ _ h)

  name_out : (d x : ℕ) → d ≤ least f n x → name_below f n d x ≡ unnamed
  unfolding name_below
  name_out d x h = simp (le-ltb _ _ h)

  getD-names : (d x : ℕ) → x < n → get_or (names_below f n d) x 0 ≡ name_below f n d x
  unfolding names_below
  getD-names d x h = tabulate_at (name_below f n d) n x h

  pub length_names : (d : ℕ) → length (names_below f n d) ≡ n
  unfolding names_below
  length_names d = length_tabulate (name_below f n d) 0 n

  is_names : (d : ℕ) (b : List ℕ) → length b ≡ n → ((z : ℕ) → z < n → get_or b z 0 ≡ name_below f n d z) → b ≡ names_below f n d
  unfolding names_below
  is_names d b size e = is_tabulate (name_below f n d) 0 n b size (λ z h. e z h ∙ ap (name_below f n d) (sym (zero-add z)))

  pub names_none : replicate n unnamed ≡ names_below f n 0
  names_none = is_names 0 (replicate n unnamed) (length-replicate n unnamed)
      (λ z h. get_or-replicate n z unnamed 0 h ∙ sym (name_out 0 z (omega arith)))

  -- only the cycle of d gets its name at d's turn
  name_more : (d z : ℕ) → least f n z ≢ d → name_below f n d z ≡ name_below f n (suc d) z
  name_more d z ne = lt_or_le (least f n z) d
      (λ h. name_in d z h ∙ sym (name_in (suc d) z (omega arith)))
      (λ h. name_out d z h ∙ sym (name_out (suc d) z (omega arith)))

-- ---- the cycle of d is followed: its first k darts have the name d, x is the next, the others are as before; d is not met again before

pub record Naming (f : ℕ → ℕ) (n d : ℕ) (b : List ℕ) (x k : ℕ) : Type 0 where
  pub size : length b ≡ n
  pub next : x ≡ iter f k d
  pub first : (j : ℕ) → 0 < j → j < k → iter f j d ≢ d
  pub named : (j : ℕ) → j < k → get_or b (iter f j d) 0 ≡ d
  pub kept : (z : ℕ) → z < n → ((j : ℕ) → j < k → iter f j d ≢ z) → get_or b z 0 ≡ name_below f n d z

module _ (f : ℕ → ℕ) (n : ℕ) (perm : Perm n f) (small : n ≤ 8192) (d : ℕ) (below : d < n) where
  pub naming_start : Naming f n d (names_below f n d) d 0
  unfolding iter
  naming_start = record {
    size = length_names f n d;
    next = refl;
    first = λ j h l. absurd (omega arith);
    named = λ j h. absurd (omega arith);
    kept = λ z h out. getD-names f n d z h;
  }

  module _ (b : List ℕ) (x k : ℕ) (s : Naming f n d b x k) where
    pub naming_here : x < n
    naming_here = subst (λ (y : ℕ). y < n) (sym s.next) (iter_bound n f perm k d below)

    there : x < length b
    there = subst (λ (l : ℕ). x < l) (sym s.size) naming_here

    -- before x is named: either it is the first dart, or d is not met again
    module _ (new : 0 < k → x ≢ d) where
      -- d is not met again up to here
      not_back : (j : ℕ) → 0 < j → j ≤ k → iter f j d ≢ d
      not_back j h l = le_split l (λ e q. new (omega arith) (s.next ∙ ap (λ (i : ℕ). iter f i d) (sym e) ∙ q)) (s.first j h)

      pub naming_few : k < n
      naming_few = omega (arith, size_above n f perm d below k not_back, size_le f n d)

      pub naming_step : Naming f n d (set b x d) (f x) (k + 1)
      naming_step = record {
        size = length-set b x d ∙ s.size;
        next = ap f s.next ∙ sym (iter_out f k d) ∙ ap (λ (i : ℕ). iter f i d) (sym (add-one k));
        first = λ j h l. not_back j h (omega arith);
        named = λ j h. eq_split (iter f j d) x
            (λ e. ap (λ (z : ℕ). get_or (set b x d) z 0) e ∙ get_or-set_same b x d 0 there)
            (λ ne. get_or-set_other b x (iter f j d) d 0 ne ∙ lt_suc_split (subst (λ (i : ℕ). j < i) (add-one k) h)
            (λ e. absurd (ne (ap (λ (i : ℕ). iter f i d) e ∙ sym s.next))) (s.named j));
        kept = λ z h out.
            get_or-set_other b x z d 0 (λ e. out k (omega arith) (sym s.next ∙ sym e)) ∙ s.kept z h (λ j l. out j (omega arith));
      }

    -- back at d: the whole cycle is named
    module _ (own : least f n d ≡ d) (some : 0 < k) (back : x ≡ d) where
      round : iter f k d ≡ d
      round = sym s.next ∙ back

      pub naming_size : k ≡ cycle_size f n d
      naming_size = size_is n f perm d below k some round s.first

      all_named : (z : ℕ) → z < n → least f n z ≡ d → get_or b z 0 ≡ d
      all_named z h e =
          let (q, more) : (q : ℕ) × (k ≡ suc q) = (k - 1, omega arith) in
          let (j, reach) = same_reach n f perm d z h (own ∙ sym e) in
          let (r, low, on) = on_iter f q d (ap (λ (i : ℕ). iter f i d) (sym more) ∙ round) j in
          ap (λ (y : ℕ). get_or b y 0) (sym reach ∙ sym on) ∙ s.named r (omega arith)

      pub naming_end : b ≡ names_below f n (suc d)
      naming_end = is_names f n (suc d) b s.size (λ z h. eq_split (least f n z) d
          (λ e. all_named z h e ∙ sym (name_in f n (suc d) z (omega arith) ∙ e))
          (λ ne. s.kept z h (λ j l e. ne (ap (least f n) (sym e) ∙ least_iter n f perm j d below ∙ own)) ∙ name_more f n d z ne))

  -- the turn of a dart that is not its own least changes nothing
  pub names_skip : least f n d ≢ d → names_below f n d ≡ names_below f n (suc d)
  names_skip other = is_names f n (suc d) (names_below f n d) (length_names f n d) (λ z h.
      getD-names f n d z h ∙ name_more f n d z (λ e. other (ap (least f n) (sym e) ∙ least_idem n f perm z h ∙ e)))

  -- the entry of d at its turn tells whether it is its own least
  pub unnamed_least : get_or (names_below f n d) d 0 ≡ unnamed → least f n d ≡ d
  unnamed_least e = lt_or_le (least f n d) d
      (λ h. let i = getD-names f n d d below ∙ name_in f n d d h in absurd (omega arith))
      (λ h. omega (arith, least_le f n d))

  pub named_other : get_or (names_below f n d) d 0 ≢ unnamed → least f n d ≢ d
  named_other named e = named (getD-names f n d d below ∙ name_out f n d d (omega arith))

-- at the end every dart has its name
pub names_all : (f : ℕ → ℕ) (n : ℕ) → names_below f n n ≡ tabulate (least f n) 0 n
unfolding names_below
names_all f n = tabulate_ext (name_below f n n) (least f n) 0 n (λ i h. name_in f n n (0 + i) (omega (arith, least_le f n (0 + i))))
