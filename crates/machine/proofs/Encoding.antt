-- The machine reads a word from its tree bits and labels (`decode_encode`), from any state on its way through the word (`encoded`).
--
--   Onward s ls w      a turn from s gives the letters ls and leaves w to be read
--   on_up, on_second, on_star, on_back, on_tree   it does so, for each letter and for a leaf
--   encoded            the machine reads the word that is still to be read
--   starts_reading     at the start a word is to be read from its own bits and labels
--   decode_encode      and it is read
use Prim.Native.Nat.{ℕ, suc, ◌≤◌, ◌<◌, zero-le}
use native.Mathlib.Nat.{le_refl}
use native.Mathlib.Omega.{arith}
use mathlib.Core.Path.{◌≡◌, refl, sym, ap, ◌∙◌}
use mathlib.Core.Logic.{◌≢◌}
use mathlib.Core.Bool.{Bool, true, false, cond, false≢true}
use mathlib.Core.List.{List, [], ◌∷◌}
use lib.ListN.{length}
use Rattle.model.specs.Numbers.{all_below}
use Rattle.model.specs.Traversal.{Letter, down, up, first, second}
use Rattle.model.specs.LabelledTree.{star}
use Rattle.model.proofs.Below.{below_head}
use Rattle.words.specs.Word.{nested, starts_up, starts_second, head, tail, ends_one, ends, word_labels, word_bits, found, after, Machine, goes, turn, start, decode_word, closed, risen, leafed, backed, entered}
use Rattle.machine.specs.Reading.{ToRead, run}
use Rattle.machine.proofs.Bounds.{head_below, ups_below, seconds_below}
use Rattle.machine.proofs.Nesting.{nest_end, nest_up, nest_second, no_second, bits_on}
use Rattle.machine.proofs.Lengths.{head_tail, no_entries, ups_count, seconds_count}
use Rattle.machine.proofs.Turns.{turn_close, turn_up, turn_star, turn_back, turn_tree, turn_done}
use Rattle.machine.proofs.Within.{Within, starts_within, within_close, within_up, within_star, within_back, within_tree}
use Rattle.machine.proofs.Runs.{run_goes, run_done, decode_word_run}

pub record Onward (s : Machine) (ls w : List Letter) : Type 0 where
  pub next : Machine
  pub turns : turn s ≡ goes ls next
  pub within : Within next
  pub reads : ToRead next w

-- ---- small facts

not_one : (x : ℕ) → x ≡ 0 → x ≢ 1
not_one x e q = omega arith

no_star : (x : ℕ) → x < 2 → x ≢ star
no_star x h e = omega arith

head_low : (n : ℕ) (xs : List ℕ) → all_below n xs ≡ true → head xs ≤ n
head_low n [] e = zero-le
head_low n (x ∷ xs) e = let h = below_head n x xs e in omega arith

-- ---- each letter

module _ (s : Machine) (w : List Letter) (i : Within s) where
  pub on_up : ToRead s (up ∷ w) → Onward s (up ∷ []) w
  unfolding ends ends_one starts_second word_bits
  on_up r =
      let z = nest_up s.n s.here s.below s.opens w r.nests in
      record {
        next = risen s z.0 z.1 (word_bits false w);
        turns = turn_up s z.0 z.1 (word_bits false w) (not_one s.label r.label_is) r.bits_are z.2;
        within = within_up s i z.0 z.1 (word_bits false w) z.2;
        reads = record {
          nests = z.3;
          ups_are = ap tail r.ups_are;
          seconds_are = r.seconds_are;
          label_is = ap head r.ups_are;
          bits_are = refl;
          labels_are = r.labels_are;
        };
      }

  pub on_second : ToRead s (second ∷ w) → Onward s (second ∷ []) w
  unfolding ends ends_one starts_second word_bits
  on_second r =
      let z = nest_second s.n s.here s.below s.opens w r.nests in
      record {
        next = closed s z.1;
        turns = turn_close s z.0 z.1 r.label_is z.2 z.3;
        within = within_close s i z.0 z.1 z.2;
        reads = record {
          nests = z.4;
          ups_are = r.ups_are;
          seconds_are = ap tail r.seconds_are;
          label_is = ap head r.seconds_are;
          bits_are = r.bits_are;
          labels_are = r.labels_are;
        };
      }

  pub on_star : ToRead s (down ∷ up ∷ w) → Onward s (down ∷ up ∷ []) w
  unfolding nested ends ends_one starts_up starts_second word_bits
  on_star r =
      record {
        next = leafed s (starts_second w) (word_bits false w) (ends w).labels;
        turns = turn_star s 1 star (starts_second w) (word_bits false w) (ends w).labels (not_one s.label r.label_is) r.bits_are
            (λ e. omega arith) r.labels_are refl;
        within = within_star s i (starts_second w) (word_bits false w) (ends w).labels;
        reads = record {
          nests = r.nests;
          ups_are = r.ups_are;
          seconds_are = r.seconds_are;
          label_is = refl;
          bits_are = refl;
          labels_are = refl;
        };
      }

  pub on_back : ToRead s (first ∷ w) → Onward s (first ∷ []) w
  unfolding nested ends ends_one starts_second word_bits
  on_back r =
      let e : nested false s.n s.here s.below (s.here ∷ s.opens) w ≡ true = r.nests in
      let l = head (ends w).seconds in
      record {
        next = backed s l (word_bits false w) (ends w).labels;
        turns = turn_back s 1 l 0 (word_bits false w) (ends w).labels (not_one s.label r.label_is) r.bits_are
            (λ e. omega arith) r.labels_are (no_star l (head_below 2 (ends w).seconds (omega arith) (seconds_below w))) refl;
        within = within_back s i l (word_bits false w) (ends w).labels;
        reads = record {
          nests = e;
          ups_are = r.ups_are;
          seconds_are = ap (λ (xs : List ℕ). l ∷ xs) r.seconds_are
              ∙ head_tail (ends w).seconds (length s.opens) (seconds_count s.n s.here s.below (s.here ∷ s.opens) w e);
          label_is = sym (no_second s.n s.here s.below (s.here ∷ s.opens) w (le_refl s.here) e);
          bits_are = refl;
          labels_are = refl;
        };
      }

  pub on_tree : starts_up w ≡ false → ToRead s (down ∷ w) → Onward s (down ∷ []) w
  unfolding nested ends ends_one starts_second word_bits
  on_tree u r =
      let e : nested false (suc s.n) s.n (s.here ∷ s.below) s.opens w ≡ true = r.nests in
      let z = no_second (suc s.n) s.n (s.here ∷ s.below) s.opens w (head_low s.n s.opens i.opens_in) e in
      let g = bits_on (suc s.n) s.n s.here s.below s.opens w e u z in
      let l = head (ends w).ups in
      let q : s.labels ≡ l ∷ (ends w).labels = r.labels_are ∙ ap (λ (b : Bool). cond b star l ∷ (ends w).labels) u in
      record {
        next = entered s l (1 ∷ g.0) (ends w).labels;
        turns = turn_tree s 1 l 1 g.0 (ends w).labels (not_one s.label r.label_is)
            (r.bits_are ∙ ap (λ (xs : List ℕ). 1 ∷ xs) g.1) (λ e. omega arith)
            q (no_star l (head_below 2 (ends w).ups (omega arith) (ups_below w))) (λ e. omega arith);
        within = within_tree s i l (1 ∷ g.0) (ends w).labels;
        reads = record {
          nests = e;
          ups_are = ap (λ (xs : List ℕ). l ∷ xs) r.ups_are
              ∙ head_tail (ends w).ups (length s.below) (ups_count (suc s.n) s.n (s.here ∷ s.below) s.opens w e);
          seconds_are = r.seconds_are;
          label_is = sym z;
          bits_are = sym g.2;
          labels_are = refl;
        };
      }

-- ---- the whole word

reads_on : (s : Machine) (ls w : List Letter) (o : Onward s ls w) → run o.next ≡ found w → run s ≡ after ls (found w)
reads_on s ls w o e = run_goes s o.next ls o.turns ∙ ap (after ls) e

pub encoded : (s : Machine) (w : List Letter) → Within s → ToRead s w → run s ≡ found w
unfolding nested starts_up ends starts_second word_bits
encoded s [] i r =
    let z = nest_end s.n s.here s.below s.opens r.nests in
    run_done s (turn_done s (not_one s.label r.label_is) r.bits_are z.0 z.1 r.labels_are)
encoded s (down ∷ []) i r = absurd (false≢true r.nests)
encoded s (down ∷ down ∷ w) i r =
    let o = on_tree s (down ∷ w) i refl r in reads_on s (down ∷ []) (down ∷ w) o (encoded o.next (down ∷ w) o.within o.reads)
encoded s (down ∷ up ∷ w) i r = let o = on_star s w i r in reads_on s (down ∷ up ∷ []) w o (encoded o.next w o.within o.reads)
encoded s (down ∷ first ∷ w) i r =
    let o = on_tree s (first ∷ w) i refl r in reads_on s (down ∷ []) (first ∷ w) o (encoded o.next (first ∷ w) o.within o.reads)
encoded s (down ∷ second ∷ w) i r =
    let o = on_tree s (second ∷ w) i refl r in reads_on s (down ∷ []) (second ∷ w) o (encoded o.next (second ∷ w) o.within o.reads)
encoded s (up ∷ w) i r = let o = on_up s w i r in reads_on s (up ∷ []) w o (encoded o.next w o.within o.reads)
encoded s (first ∷ w) i r = let o = on_back s w i r in reads_on s (first ∷ []) w o (encoded o.next w o.within o.reads)
encoded s (second ∷ w) i r = let o = on_second s w i r in reads_on s (second ∷ []) w o (encoded o.next w o.within o.reads)

pub starts_reading : (w : List Letter) → nested false 1 0 [] [] w ≡ true → ToRead (start (word_bits false w) (word_labels w)) w
unfolding start word_labels
starts_reading w e = record {
  nests = e;
  ups_are = sym (no_entries (ends w).ups (ups_count 1 0 [] [] w e));
  seconds_are = sym (no_entries (ends w).seconds (seconds_count 1 0 [] [] w e));
  label_is = sym (no_second 1 0 [] [] w zero-le e);
  bits_are = refl;
  labels_are = refl;
}

pub decode_encode : (w : List Letter) → nested false 1 0 [] [] w ≡ true → decode_word (word_bits false w) (word_labels w) ≡ found w
decode_encode w nests =
    let s = start (word_bits false w) (word_labels w) in
    decode_word_run (word_bits false w) (word_labels w)
    ∙ encoded s w (starts_within (word_bits false w) (word_labels w)) (starts_reading w nests)
