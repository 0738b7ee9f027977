-- The sizes of a payload, by kind, and where its bits and labels stand. Assumes nothing.
--
--   bit_count, bit_place  the tree bits of a payload that has room for them: how many, and where they stand among all bits
--   bits_room             a payload has room for its tree bits
--   KindOne, one          the sizes in kind 1
--   KindTwo, two          the sizes in kind 2
--   of_kind, labels_of_kind, labels_own   the sizes and the labels, by the kind's number
--   label_one_lem             where a label of kind 1 stands among all bits
--   labels_two            the labels of kind 2 are the first of those in the groups
--   labels_small          every label is below 3
--   labels_in_one, labels_in_two, labels_in_same   where the labels stand, by the family
use Prim.Native.Nat.{ℕ, ◌+◌, ◌*◌, ◌/◌, ◌≤◌, ◌<◌}
use native.Mathlib.Omega.{arith}
use mathlib.Core.Path.{◌≡◌, refl, sym, ap, ◌∙◌, subst}
use mathlib.Core.Logic.{◌≢◌}
use mathlib.Core.Bool.{Bool, true, false, cond}
use mathlib.Core.List.{List}
use lib.Dec.{eqb}
use lib.ListN.{length, get_or, take, drop}
use lib.Seq.{length-take-le, get_or-take, get_or-drop}
use borrow.Author.Tests.{ne_eqb}
use Rattle.model.specs.Numbers.{all_below}
use Rattle.model.specs.Record.{bytes_for, payload_length}
use Rattle.model.proofs.Below.{below_mono, below_take, below_drop}
use Rattle.packing.specs.Unpack.{bits, groups}
use Rattle.packing.specs.Payload.{has_labels, Sized, payload_bits, payload_labels}
use Rattle.packing.specs.Groups.{groups_from, undone, values_of}
use Rattle.packing.proofs.Groups.{undone_other, undone_back}
use Rattle.packing.proofs.Labelled.{labelled_cases}
use Rattle.packing.proofs.Packed.{length_bits, bits_below, unpack_below}
use Rattle.packing.proofs.Payload.{unpayload_parts}
use Rattle.unpacker.specs.Unpacked.{labels_at, labels_in}

-- ---- tree bits

module _ (ps : List ℕ) (m : ℕ) where
  pub bit_count : 2 * m ≤ 8 * length ps → length (payload_bits m ps) ≡ 2 * m
  unfolding payload_bits
  bit_count h = length-take-le (2 * m) (bits ps) (let e = length_bits ps in omega arith)

  pub bit_place : (i : ℕ) → i < 2 * m → get_or (bits ps) i 0 ≡ get_or (payload_bits m ps) i 0
  unfolding payload_bits
  bit_place i h = sym (get_or-take (2 * m) (bits ps) i 0 h)

-- ---- sizes

pub record KindOne (ps : List ℕ) (m : ℕ) : Type 0 where
  pub few_edges : m ≤ 4096
  pub some_edge : 1 ≤ m
  pub bytes : length ps ≡ (3 * m + 7) / 8
  pub label_count : length (payload_labels 1 m ps) ≡ m

pub record KindTwo (ps : List ℕ) (m : ℕ) : Type 0 where
  pub few_edges : m ≤ 4096
  pub some_edge : 1 ≤ m
  pub bytes : length ps ≡ (2 * m + 7) / 8 + (m + 4) / 5

module _ (ps : List ℕ) (m : ℕ) where
  pub one : Sized 1 m ps → KindOne ps m
  unfolding payload_length has_labels
  one h =
      let l = h.long refl in
      record {
        few_edges = h.few_edges;
        some_edge = h.some_edge;
        bytes = omega arith;
        label_count = (unpayload_parts 1 m ps refl (omega arith)).label_count;
      }

  pub two : Sized 2 m ps → KindTwo ps m
  unfolding payload_length
  two h = let l = h.long refl in record { few_edges = h.few_edges; some_edge = h.some_edge; bytes = omega arith }

  pub bits_room : (k : ℕ) → has_labels k ≡ true → Sized k m ps → 2 * m ≤ 8 * length ps
  bits_room k has h =
      labelled_cases (λ (j : ℕ). Sized j m ps → 2 * m ≤ 8 * length ps)
      (λ g. let z = one g in omega arith) (λ g. let z = two g in omega arith) k has h

  pub of_kind : (k j : ℕ) → k ≡ j → Sized k m ps → Sized j m ps
  of_kind k j e h = subst (λ (i : ℕ). Sized i m ps) e h

  pub labels_of_kind : (inv : List ℕ) (k j : ℕ) → k ≡ j → payload_labels j m (undone inv j m ps) ≡ payload_labels k m (undone inv k m ps)
  labels_of_kind inv k j e = ap (λ (i : ℕ). payload_labels i m (undone inv i m ps)) (sym e)

  -- nothing is undone in kind 1
  pub labels_own : (inv : List ℕ) → payload_labels 1 m ps ≡ payload_labels 1 m (undone inv 1 m ps)
  labels_own inv = ap (payload_labels 1 m) (sym (undone_other inv ps 1 m (λ two. omega arith) (λ three. omega arith)))

  -- ---- labels

  pub label_one_lem : (i : ℕ) → i < m → get_or (bits ps) (2 * m + i) 0 ≡ get_or (payload_labels 1 m ps) i 0
  unfolding payload_labels
  label_one_lem i h = sym (get_or-take m (drop (2 * m) (bits ps)) i 0 h ∙ get_or-drop (2 * m) (bits ps) i 0)

  pub labels_two : (inv : List ℕ) → Sized 2 m ps → take m (groups (drop ((2 * m + 7) / 8) (values_of inv ps))) ≡ payload_labels 2 m (undone inv 2 m ps)
  unfolding payload_labels groups_from
  labels_two inv s = ap (λ (vs : List ℕ). take m (groups vs)) (sym (undone_back inv ps 2 m s))

-- ---- where they stand

module _ (f m : ℕ) (ps w : List ℕ) where
  pub labels_in_one : f ≡ 1 → labels_in f m ps w ≡ payload_labels 1 m ps
  unfolding labels_in
  labels_in_one e = rw e

  pub labels_in_two : f ≢ 1 → labels_in f m ps w ≡ labels_at m w
  unfolding labels_in
  labels_in_two n = rw (ne_eqb f 1 n)

  pub labels_in_same : (w' : List ℕ) → labels_at m w' ≡ labels_at m w → labels_in f m ps w' ≡ labels_in f m ps w
  unfolding labels_in
  labels_in_same w' e = rw e

  pub labels_small : all_below 3 (payload_labels f m ps) ≡ true
  unfolding payload_labels groups
  labels_small = go (eqb f 1)
    where
      go : (b : Bool) → all_below 3 (cond b (take m (drop (2 * m) (bits ps))) (take m (groups (drop (bytes_for (2 * m) 8) ps)))) ≡ true
      go true = below_mono 2 3 (omega arith) _ (below_take 2 m _ (below_drop 2 (2 * m) (bits ps) (bits_below ps)))
      go false = below_take 3 m _ (unpack_below 3 5 (omega arith) _ (drop (bytes_for (2 * m) 8) ps))
