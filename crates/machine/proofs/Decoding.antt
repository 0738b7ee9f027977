-- What the machine reads is a valid word, and the bits and labels are those of that word (`encode_decode`).
--
--   from_close, from_up, from_star, from_back, from_tree, from_done   before a turn its letters are to be read, and then what is to be read after it
--   decoded            a word that is read was to be read
--   decoded_bits, decoded_labels, decoded_length, decoded_valid   so from the start, part by part
--   encode_decode      the parts together, for a record with m edges
use Prim.Native.Nat.{ℕ, zero, suc, ◌*◌, ◌<◌}
use native.Mathlib.Omega.{arith}
use mathlib.Core.Path.{◌≡◌, refl, sym, ap, ap₂, ◌∙◌, subst}
use mathlib.Core.Logic.{◌≢◌}
use mathlib.Core.Bool.{Bool, true, false, cond}
use mathlib.Core.List.{List, [], ◌∷◌, ◌++◌}
use lib.ListN.{length}
use Rattle.model.specs.Numbers.{all_below}
use Rattle.model.specs.Map.{is_family, takes_loops, dart_count_fits}
use Rattle.model.specs.Traversal.{Letter, down, up, first, second}
use Rattle.model.specs.LabelledTree.{star}
use Rattle.model.specs.Record.{label_base}
use Rattle.words.specs.Word.{nested, starts_up, valid, starts_second, head, tail, ends_one, ends, word_labels, word_bits, Found, found, none, after, Machine, goes, turn, follow, decode, start, decode_word, closed, risen, leafed, backed, entered}
use Rattle.words.proofs.Found.{word_in, none_found}
use Rattle.words.proofs.Validity.{valid_of}
use Rattle.machine.specs.Reading.{ToRead}
use Rattle.machine.proofs.Sizes.{bound_three, bound_two}
use Rattle.machine.proofs.Bounds.{plain_labels}
use Rattle.machine.proofs.Nesting.{second_nests, not_up, bits_after}
use Rattle.machine.proofs.Lengths.{no_entries, head_tail, bits_count}
use Rattle.machine.proofs.Held.{Held, bit_one, held_close, held_up, held_star, held_back, held_tree, starts_held}
use Rattle.machine.proofs.Turns.{Step, closes, rises, leafs, backs, enters, finishes, halts, step, turn_close, turn_up, turn_star, turn_back, turn_tree, turn_done}

-- ---- the word before a turn

cons_is : {x y : ℕ} {xs ys : List ℕ} → x ≡ y → xs ≡ ys → x ∷ xs ≡ y ∷ ys
cons_is e q = ap₂ (λ (x : ℕ) (xs : List ℕ). x ∷ xs) e q

module _ (s : Machine) (k : Held s) where
  zero_label : s.label ≢ 1 → s.label ≡ 0
  zero_label t = let h = k.label_low in omega arith

  pub from_close : (w : List Letter) (o : ℕ) (os : List ℕ) → s.label ≡ 1 → s.opens ≡ o ∷ os → s.here < o → ToRead (closed s os) w
      → ToRead s (second ∷ w)
  unfolding ends ends_one starts_second word_bits
  from_close w o os t e h r = record {
    nests = rw e (second_nests s.n s.here s.below o os w h r.nests);
    ups_are = r.ups_are;
    seconds_are = sym (head_tail s.seconds (length os) (k.seconds_match ∙ ap length e)) ∙ cons_is r.label_is r.seconds_are;
    label_is = t;
    bits_are = r.bits_are;
    labels_are = r.labels_are;
  }

  pub from_up : (w : List Letter) (v : ℕ) (vs bs : List ℕ) → s.label ≢ 1 → s.bits ≡ 0 ∷ bs → s.below ≡ v ∷ vs → ToRead (risen s v vs bs) w
      → ToRead s (up ∷ w)
  unfolding nested ends ends_one starts_second word_bits
  from_up w v vs bs t e q r = record {
    nests = rw q r.nests;
    ups_are = sym (head_tail s.ups (length vs) (k.ups_match ∙ ap length q)) ∙ cons_is r.label_is r.ups_are;
    seconds_are = r.seconds_are;
    label_is = zero_label t;
    bits_are = e ∙ cons_is refl r.bits_are;
    labels_are = r.labels_are;
  }

  pub from_done : s.label ≢ 1 → s.bits ≡ [] → s.below ≡ [] → s.opens ≡ [] → s.labels ≡ [] → ToRead s []
  unfolding nested ends starts_second word_bits
  from_done t e p q r = record {
    nests = rw (p, q);
    ups_are = no_entries s.ups (k.ups_match ∙ ap length p);
    seconds_are = no_entries s.seconds (k.seconds_match ∙ ap length q);
    label_is = zero_label t;
    bits_are = e;
    labels_are = r;
  }

  module _ (w : List Letter) (b l c : ℕ) (bs ls : List ℕ) (t : s.label ≢ 1) (e : s.bits ≡ b ∷ c ∷ bs) (z : b ≢ 0) (q : s.labels ≡ l ∷ ls) where
    one_bit : s.bits ≡ 1 ∷ c ∷ bs
    one_bit = e ∙ ap (λ (x : ℕ). x ∷ c ∷ bs) (bit_one s k b l c bs ls e q z)

    pub from_star : l ≡ star → ToRead (leafed s c bs ls) w → ToRead s (down ∷ up ∷ w)
    unfolding nested ends ends_one starts_up starts_second word_bits
    from_star h r = record {
      nests = r.nests;
      ups_are = r.ups_are;
      seconds_are = r.seconds_are;
      label_is = zero_label t;
      bits_are = one_bit ∙ cons_is refl (cons_is r.label_is r.bits_are);
      labels_are = q ∙ cons_is h r.labels_are;
    }

    pub from_back : c ≡ 0 → ToRead (backed s l bs ls) w → ToRead s (first ∷ w)
    unfolding nested ends ends_one starts_second word_bits
    from_back h r = record {
      nests = r.nests;
      ups_are = r.ups_are;
      seconds_are = ap tail r.seconds_are;
      label_is = zero_label t;
      bits_are = one_bit ∙ cons_is refl (cons_is h r.bits_are);
      labels_are = q ∙ cons_is (ap head r.seconds_are) r.labels_are;
    }

    pub from_tree : c ≢ 0 → ToRead (entered s l (c ∷ bs) ls) w → ToRead s (down ∷ w)
    unfolding nested ends ends_one starts_second word_bits
    from_tree h r =
        let u = not_up w c bs h r.bits_are in
        record {
          nests = r.nests;
          ups_are = ap tail r.ups_are;
          seconds_are = r.seconds_are;
          label_is = zero_label t;
          bits_are = one_bit ∙ cons_is refl (r.bits_are ∙ bits_after w u);
          labels_are = q ∙ cons_is (ap head r.ups_are) r.labels_are
              ∙ ap (λ (x : Bool). cond x star (head (ends w).ups) ∷ (ends w).labels) (sym u);
        }

-- ---- the whole word

before_after : (l : Letter) (ls : List Letter) (r : Found) (w : List Letter) → after (l ∷ ls) r ≡ found w
    → (v : List Letter) × (r ≡ found v) × (l ∷ ls ++ v ≡ w)
before_after l ls none w e = none_found w e
before_after l ls (found v) w e = (v, refl, ap word_in e)

pub decoded : (f : ℕ) (s : Machine) (w : List Letter) → Held s → decode f s ≡ found w → ToRead s w
unfolding decode
decoded zero s w k e = none_found w e
decoded (suc f) s w k e = go (step s) (λ t v. decoded f t v)
  where
    back : (l : Letter) (ls : List Letter) (t : Machine) → ((t : Machine) (v : List Letter) → Held t → decode f t ≡ found v → ToRead t v)
        → turn s ≡ goes (l ∷ ls) t → Held t → ((v : List Letter) → ToRead t v → ToRead s (l ∷ ls ++ v)) → ToRead s w
    back l ls t ih q h from =
        let z = before_after l ls (decode f t) w (sym (ap (follow (decode f)) q) ∙ e) in subst (ToRead s) z.2 (from z.0 (ih t z.0 h z.1))

    go : Step s → ((t : Machine) (v : List Letter) → Held t → decode f t ≡ found v → ToRead t v) → ToRead s w
    go (closes o os t q h) ih =
        back second [] (closed s os) ih (turn_close s o os t q h) (held_close s k o os q) (λ v. from_close s k v o os t q h)
    go (rises v vs bs t q p) ih =
        back up [] (risen s v vs bs) ih (turn_up s v vs bs t q p) (held_up s k v vs bs q p) (λ x. from_up s k x v vs bs t q p)
    go (leafs b l c bs ls t q z p h) ih =
        back down (up ∷ []) (leafed s c bs ls) ih (turn_star s b l c bs ls t q z p h) (held_star s k b l c bs ls q p)
        (λ x. from_star s k x b l c bs ls t q z p h)
    go (backs b l c bs ls t q z p h j) ih =
        back first [] (backed s l bs ls) ih (turn_back s b l c bs ls t q z p h j) (held_back s k b l c bs ls q p h)
        (λ x. from_back s k x b l c bs ls t q z p j)
    go (enters b l c bs ls t q z p h j) ih =
        back down [] (entered s l (c ∷ bs) ls) ih (turn_tree s b l c bs ls t q z p h j) (held_tree s k b l c bs ls q p h)
        (λ x. from_tree s k x b l c bs ls t q z p j)
    go (finishes t q p x y) ih =
        subst (ToRead s) (ap word_in (sym (ap (follow (decode f)) (turn_done s t q p x y)) ∙ e)) (from_done s k t q p x y)
    go (halts q) ih = none_found w (sym (ap (follow (decode f)) q) ∙ e)

module _ (k : ℕ) (bits labels : List ℕ) (w : List Letter) (low : all_below 2 bits ≡ true) (bound : all_below (label_base k) labels ≡ true)
    (e : decode_word bits labels ≡ found w) where
  from_start : ToRead (start bits labels) w
  unfolding decode_word
  from_start = decoded (suc (length bits)) (start bits labels) w (starts_held bits labels low (bound_three k labels bound)) e

  pub decoded_bits : word_bits false w ≡ bits
  unfolding start
  decoded_bits = sym from_start.bits_are

  pub decoded_labels : word_labels w ≡ labels
  unfolding start word_labels
  decoded_labels = sym from_start.labels_are

  decoded_nests : nested false 1 0 [] [] w ≡ true
  unfolding start
  decoded_nests = from_start.nests

  pub decoded_length : length w ≡ length bits
  decoded_length = let h = bits_count 1 0 [] [] w decoded_nests in let q = ap length decoded_bits in omega arith

  pub decoded_valid : is_family k ≡ true → takes_loops k ≡ false → dart_count_fits (length bits) ≡ true → valid k w ≡ true
  decoded_valid kind strict fits = valid_of k w kind (rw decoded_length fits) (rw strict decoded_nests)
      (λ t. plain_labels w (rw decoded_labels (bound_two k labels bound t)))

pub encode_decode : (k : ℕ) (bits labels : List ℕ) (w : List Letter) → is_family k ≡ true → takes_loops k ≡ false → (m : ℕ) → dart_count_fits (2 * m) ≡ true
    → length bits ≡ 2 * m → length labels ≡ m → all_below 2 bits ≡ true → all_below (label_base k) labels ≡ true
    → decode_word bits labels ≡ found w
    → (valid k w ≡ true) × (word_bits false w ≡ bits) × (word_labels w ≡ labels) × (length w ≡ 2 * m)
encode_decode k bits labels w kind strict m fits n _ low bound e = (
  decoded_valid k bits labels w low bound e kind strict (rw n fits),
  decoded_bits k bits labels w low bound e,
  decoded_labels k bits labels w low bound e,
  decoded_length k bits labels w low bound e ∙ n,
)
