-- The range of a state's bits and labels, kept turn by turn.
--
--   Held s             the bits and labels of the state s are in range, and it has one label for each open edge
--   starts_held        so at the start
--   held_close, held_up, held_star, held_back, held_tree   and after each kind of turn
--   bit_one            a bit that is not 0 is 1
use Prim.Native.Nat.{ℕ, suc, ◌<◌}
use native.Mathlib.Omega.{arith}
use mathlib.Core.Path.{◌≡◌, refl, ap, ◌∙◌}
use mathlib.Core.Logic.{◌≢◌}
use mathlib.Core.Bool.{true}
use mathlib.Core.List.{List, ◌∷◌}
use lib.ListN.{length}
use Rattle.model.specs.Numbers.{all_below}
use Rattle.model.specs.LabelledTree.{star}
use Rattle.model.proofs.Below.{below_cons}
use Rattle.words.specs.Word.{Machine, start, closed, risen, leafed, backed, entered}
use Rattle.machine.proofs.Bounds.{all_part, head_below, tail_below}
use Rattle.machine.proofs.Lengths.{length_tail}

pub record Held (s : Machine) : Type 0 where
  pub bits_low : all_below 2 s.bits ≡ true
  pub labels_low : all_below 3 s.labels ≡ true
  pub ups_low : all_below 2 s.ups ≡ true
  pub seconds_low : all_below 2 s.seconds ≡ true
  pub label_low : s.label < 2
  pub ups_match : length s.ups ≡ length s.below
  pub seconds_match : length s.seconds ≡ length s.opens

-- ---- the state after a turn

module _ (s : Machine) (k : Held s) where
  pub held_close : (o : ℕ) (os : List ℕ) → s.opens ≡ o ∷ os → Held (closed s os)
  held_close o os e = record {
    bits_low = k.bits_low;
    labels_low = k.labels_low;
    ups_low = k.ups_low;
    seconds_low = tail_below 2 s.seconds k.seconds_low;
    label_low = head_below 2 s.seconds (omega arith) k.seconds_low;
    ups_match = k.ups_match;
    seconds_match = length_tail s.seconds (length os) (k.seconds_match ∙ ap length e);
  }

  pub held_up : (v : ℕ) (vs bs : List ℕ) → s.bits ≡ 0 ∷ bs → s.below ≡ v ∷ vs → Held (risen s v vs bs)
  held_up v vs bs e q = record {
    bits_low = (all_part 2 s.bits 0 bs e k.bits_low).1;
    labels_low = k.labels_low;
    ups_low = tail_below 2 s.ups k.ups_low;
    seconds_low = k.seconds_low;
    label_low = head_below 2 s.ups (omega arith) k.ups_low;
    ups_match = length_tail s.ups (length vs) (k.ups_match ∙ ap length q);
    seconds_match = k.seconds_match;
  }

  module _ (b l c : ℕ) (bs ls : List ℕ) (e : s.bits ≡ b ∷ c ∷ bs) (q : s.labels ≡ l ∷ ls) where
    rest_low : all_below 2 (c ∷ bs) ≡ true
    rest_low = (all_part 2 s.bits b (c ∷ bs) e k.bits_low).1

    labels_rest : all_below 3 ls ≡ true
    labels_rest = (all_part 3 s.labels l ls q k.labels_low).1

    label_rest : l ≢ star → l < 2
    label_rest h = let j = (all_part 3 s.labels l ls q k.labels_low).0 in omega arith

    pub bit_one : b ≢ 0 → b ≡ 1
    bit_one z = let j = (all_part 2 s.bits b (c ∷ bs) e k.bits_low).0 in omega arith

    pub held_star : Held (leafed s c bs ls)
    held_star = let j = all_part 2 (c ∷ bs) c bs refl rest_low in record {
      bits_low = j.1;
      labels_low = labels_rest;
      ups_low = k.ups_low;
      seconds_low = k.seconds_low;
      label_low = j.0;
      ups_match = k.ups_match;
      seconds_match = k.seconds_match;
    }

    pub held_back : l ≢ star → Held (backed s l bs ls)
    held_back h = record {
      bits_low = (all_part 2 (c ∷ bs) c bs refl rest_low).1;
      labels_low = labels_rest;
      ups_low = k.ups_low;
      seconds_low = below_cons 2 l s.seconds (label_rest h) k.seconds_low;
      label_low = omega arith;
      ups_match = k.ups_match;
      seconds_match = ap suc k.seconds_match;
    }

    pub held_tree : l ≢ star → Held (entered s l (c ∷ bs) ls)
    held_tree h = record {
      bits_low = rest_low;
      labels_low = labels_rest;
      ups_low = below_cons 2 l s.ups (label_rest h) k.ups_low;
      seconds_low = k.seconds_low;
      label_low = omega arith;
      ups_match = ap suc k.ups_match;
      seconds_match = k.seconds_match;
    }

pub starts_held : (bits labels : List ℕ) → all_below 2 bits ≡ true → all_below 3 labels ≡ true → Held (start bits labels)
unfolding start all_below
starts_held bits labels h l = record {
  bits_low = h;
  labels_low = l;
  ups_low = refl;
  seconds_low = refl;
  label_low = omega arith;
  ups_match = refl;
  seconds_match = refl;
}
