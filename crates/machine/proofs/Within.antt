-- The vertices that a state names, kept turn by turn.
--
--   Within s           the present vertex, those that it hangs from and those where edges are open are among the n that are entered
--   starts_within      so at the start
--   within_close, within_up, within_star, within_back, within_tree   and after each kind of turn
use Prim.Native.Nat.{ℕ, suc, ◌<◌}
use native.Mathlib.Nat.{le_step, lt-suc_self}
use native.Mathlib.Omega.{arith}
use mathlib.Core.Path.{◌≡◌, refl}
use mathlib.Core.Bool.{true}
use mathlib.Core.List.{List, ◌∷◌}
use Rattle.model.specs.Numbers.{all_below}
use Rattle.model.proofs.Below.{below_cons, below_mono}
use Rattle.words.specs.Word.{Machine, start, closed, risen, leafed, backed, entered}
use Rattle.machine.proofs.Bounds.{all_part}

pub record Within (s : Machine) : Type 0 where
  pub here_in : s.here < s.n
  pub below_in : all_below s.n s.below ≡ true
  pub opens_in : all_below s.n s.opens ≡ true

pub starts_within : (bits labels : List ℕ) → Within (start bits labels)
unfolding start all_below
starts_within bits labels = record { here_in = omega arith; below_in = refl; opens_in = refl }

module _ (s : Machine) (i : Within s) where
  pub within_close : (o : ℕ) (os : List ℕ) → s.opens ≡ o ∷ os → Within (closed s os)
  within_close o os e = record { here_in = i.here_in; below_in = i.below_in; opens_in = (all_part s.n s.opens o os e i.opens_in).1 }

  pub within_up : (v : ℕ) (vs bs : List ℕ) → s.below ≡ v ∷ vs → Within (risen s v vs bs)
  within_up v vs bs e =
      let p = all_part s.n s.below v vs e i.below_in in record { here_in = p.0; below_in = p.1; opens_in = i.opens_in }

  one_more : (xs : List ℕ) → all_below s.n xs ≡ true → all_below (suc s.n) xs ≡ true
  one_more xs h = below_mono s.n (suc s.n) (omega arith) xs h

  module _ (l : ℕ) (bs ls : List ℕ) where
    pub within_star : Within (leafed s l bs ls)
    within_star = record { here_in = le_step i.here_in; below_in = one_more s.below i.below_in; opens_in = one_more s.opens i.opens_in }

    pub within_back : Within (backed s l bs ls)
    within_back = record {
      here_in = i.here_in;
      below_in = i.below_in;
      opens_in = below_cons s.n s.here s.opens i.here_in i.opens_in;
    }

    pub within_tree : Within (entered s l bs ls)
    within_tree = record {
      here_in = lt-suc_self s.n;
      below_in = below_cons (suc s.n) s.here s.below (le_step i.here_in) (one_more s.below i.below_in);
      opens_in = one_more s.opens i.opens_in;
    }
