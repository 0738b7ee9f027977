-- A payload made of tree bits and labels, and taken apart again. Assumes nothing.
--
--   payload_length_lem       the head's six bytes more are a record
--   payload_bytes        all its entries are bytes
--   payload_bits_lem, payload_labels_lem   the tree bits and the labels come back
--   payload_clean_lem        its padding and fill are 0
--   Parts k m bs ls      bits and labels in the right number and below their bases
--   unpayload_parts      such are taken out of any payload of the right length
--   payload_unpayload    a clean payload is made of the bits and labels that are taken out of it
use Prim.Native.Nat.{ℕ, ◌+◌, ◌-◌, ◌*◌}
use native.Mathlib.Omega.{arith}
use mathlib.Core.Path.{◌≡◌, sym, ap, ◌∙◌}
use mathlib.Core.Bool.{true, ◌&&◌}
use mathlib.Core.List.{List, ◌++◌, append_assoc}
use lib.ListN.{length, take, drop, replicate, length-append, length-drop, take-append-drop}
use lib.Seq.{take_at, drop_at, take-add, length-take-le, take-append-le}
use Rattle.model.specs.Numbers.{all_below}
use Rattle.model.specs.Record.{pack, bytes_for, payload_length, label_base}
use Rattle.model.proofs.Booleans.{and_left, and_right, both}
use Rattle.model.proofs.Below.{below_append, below_take, below_drop, below_mono}
use Rattle.packing.specs.Unpack.{bits, groups}
use Rattle.packing.specs.Payload.{has_labels, value_payload, blank_from, payload_bits, payload_labels, payload_clean}
use Rattle.packing.proofs.Packed.{pack_length, pack_below, unpack_append, length_unpack, unpack_below, unpack_packed, blank_past, pack_front}
use Rattle.packing.proofs.Labelled.{labelled_cases}

pub payload_length_lem : (k m : ℕ) (bs ls : List ℕ) → has_labels k ≡ true → length (value_payload k m bs ls) ≡ payload_length k m
unfolding value_payload payload_length
payload_length_lem k m bs ls =
    labelled_cases (λ (x : ℕ). length (value_payload x m bs ls) ≡ payload_length x m)
    (rw (pack_length 2 8 (bytes_for (3 * m) 8) (bs ++ ls)) (omega arith))
    (rw (
      length-append (pack 2 8 (bytes_for (2 * m) 8) bs) (pack 3 5 (bytes_for m 5) ls),
      pack_length 2 8 (bytes_for (2 * m) 8) bs,
      pack_length 3 5 (bytes_for m 5) ls,
    ) (omega arith)) k

pub record Parts (k m : ℕ) (bs ls : List ℕ) : Type 0 where
  pub bit_count : length bs ≡ 2 * m
  pub bits_fit : all_below 2 bs ≡ true
  pub label_count : length ls ≡ m
  pub labels_fit : all_below (label_base k) ls ≡ true

-- ---- kind 1: one run of bits

module _ (m : ℕ) (bs ls : List ℕ) (p : Parts 1 m bs ls) where
  one_length : length (bs ++ ls) ≡ 3 * m
  one_length = length-append bs ls ∙ (let e = p.bit_count in let f = p.label_count in omega arith)

  one_below : all_below 2 (bs ++ ls) ≡ true
  unfolding label_base
  one_below = below_append 2 bs ls p.bits_fit p.labels_fit

  one_bits : bits (value_payload 1 m bs ls) ≡ bs ++ (ls ++ replicate (bytes_for (3 * m) 8 * 8 - length (bs ++ ls)) 0)
  unfolding value_payload bits
  one_bits =
      unpack_packed 2 8 (omega arith) (bytes_for (3 * m) 8) (bs ++ ls) one_below (let e = one_length in omega arith)
      ∙ append_assoc bs ls _

  one_payload_bits : payload_bits m (value_payload 1 m bs ls) ≡ bs
  unfolding payload_bits
  one_payload_bits = rw one_bits (take_at bs _ (2 * m) p.bit_count)

  one_labels : payload_labels 1 m (value_payload 1 m bs ls) ≡ ls
  unfolding payload_labels
  one_labels =
      rw (one_bits, drop_at bs (ls ++ replicate (bytes_for (3 * m) 8 * 8 - length (bs ++ ls)) 0) (2 * m) p.bit_count) (take_at ls _ m p.label_count)

  one_clean : payload_clean 1 m (value_payload 1 m bs ls) ≡ true
  unfolding payload_clean value_payload bits
  one_clean = blank_past 2 8 (omega arith) (bytes_for (3 * m) 8) (bs ++ ls) (3 * m) one_length one_below (omega arith)

  one_bytes : all_below 256 (value_payload 1 m bs ls) ≡ true
  unfolding value_payload
  one_bytes = pack_below 2 8 (omega arith) (bytes_for (3 * m) 8) (bs ++ ls) one_below

-- ---- kind 2: bits, then groups

module _ (m : ℕ) (bs ls : List ℕ) (p : Parts 2 m bs ls) where
  abbrev two_front : List ℕ
  two_front = pack 2 8 (bytes_for (2 * m) 8) bs

  abbrev two_back : List ℕ
  two_back = pack 3 5 (bytes_for m 5) ls

  two_cut : length two_front ≡ bytes_for (2 * m) 8
  two_cut = pack_length 2 8 (bytes_for (2 * m) 8) bs

  two_labels_below : all_below 3 ls ≡ true
  unfolding label_base
  two_labels_below = p.labels_fit

  two_payload_bits : payload_bits m (value_payload 2 m bs ls) ≡ bs
  unfolding payload_bits value_payload bits
  two_payload_bits =
      rw (
        unpack_append 2 8 two_front two_back,
        unpack_packed 2 8 (omega arith) (bytes_for (2 * m) 8) bs p.bits_fit (let e = p.bit_count in omega arith),
        append_assoc bs (replicate (bytes_for (2 * m) 8 * 8 - length bs) 0) (bits two_back),
      ) (take_at bs _ (2 * m) p.bit_count)

  two_labels : payload_labels 2 m (value_payload 2 m bs ls) ≡ ls
  unfolding payload_labels value_payload groups
  two_labels =
      rw (
        drop_at two_front two_back (bytes_for (2 * m) 8) two_cut,
        unpack_packed 3 5 (omega arith) (bytes_for m 5) ls two_labels_below (let e = p.label_count in omega arith),
      ) (take_at ls _ m p.label_count)

  two_clean : payload_clean 2 m (value_payload 2 m bs ls) ≡ true
  unfolding payload_clean value_payload bits groups
  two_clean =
      rw (take_at two_front two_back (bytes_for (2 * m) 8) two_cut, drop_at two_front two_back (bytes_for (2 * m) 8) two_cut)
      (both (blank_past 2 8 (omega arith) (bytes_for (2 * m) 8) bs (2 * m) p.bit_count p.bits_fit (omega arith))
      (both (pack_below 3 5 (omega arith) (bytes_for m 5) ls two_labels_below)
      (blank_past 3 5 (omega arith) (bytes_for m 5) ls m p.label_count two_labels_below (omega arith))))

  two_bytes : all_below 256 (value_payload 2 m bs ls) ≡ true
  unfolding value_payload
  two_bytes =
      below_append 256 two_front two_back (pack_below 2 8 (omega arith) (bytes_for (2 * m) 8) bs p.bits_fit)
      (below_mono 243 256 (omega arith) two_back (pack_below 3 5 (omega arith) (bytes_for m 5) ls two_labels_below))

-- ---- both kinds

module _ (k m : ℕ) (bs ls : List ℕ) (kind : has_labels k ≡ true) where
  pub payload_bits_lem : Parts k m bs ls → payload_bits m (value_payload k m bs ls) ≡ bs
  payload_bits_lem =
      labelled_cases (λ (x : ℕ). Parts x m bs ls → payload_bits m (value_payload x m bs ls) ≡ bs) (one_payload_bits m bs ls) (two_payload_bits m bs ls) k kind

  pub payload_labels_lem : Parts k m bs ls → payload_labels k m (value_payload k m bs ls) ≡ ls
  payload_labels_lem =
      labelled_cases (λ (x : ℕ). Parts x m bs ls → payload_labels x m (value_payload x m bs ls) ≡ ls) (one_labels m bs ls) (two_labels m bs ls) k kind

  pub payload_clean_lem : Parts k m bs ls → payload_clean k m (value_payload k m bs ls) ≡ true
  payload_clean_lem =
      labelled_cases (λ (x : ℕ). Parts x m bs ls → payload_clean x m (value_payload x m bs ls) ≡ true) (one_clean m bs ls) (two_clean m bs ls) k kind

  pub payload_bytes : Parts k m bs ls → all_below 256 (value_payload k m bs ls) ≡ true
  payload_bytes =
      labelled_cases (λ (x : ℕ). Parts x m bs ls → all_below 256 (value_payload x m bs ls) ≡ true) (one_bytes m bs ls) (two_bytes m bs ls) k kind

-- ---- any payload of the right length

module _ (m : ℕ) (ps : List ℕ) where
  one_parts : length ps ≡ payload_length 1 m → Parts 1 m (payload_bits m ps) (payload_labels 1 m ps)
  unfolding payload_bits payload_labels payload_length label_base bits
  one_parts q =
      let u = length_unpack 2 8 (length ps) ps in
      let d = length-drop (2 * m) (bits ps) in
      record {
        bit_count = length-take-le (2 * m) (bits ps) (omega arith);
        bits_fit = below_take 2 (2 * m) (bits ps) (unpack_below 2 8 (omega arith) (length ps) ps);
        label_count = length-take-le m (drop (2 * m) (bits ps)) (omega arith);
        labels_fit = below_take 2 m (drop (2 * m) (bits ps)) (below_drop 2 (2 * m) (bits ps) (unpack_below 2 8 (omega arith) (length ps) ps));
      }

  two_parts : length ps ≡ payload_length 2 m → Parts 2 m (payload_bits m ps) (payload_labels 2 m ps)
  unfolding payload_bits payload_labels payload_length label_base bits groups
  two_parts q =
      let u = length_unpack 2 8 (length ps) ps in
      let gs = drop (bytes_for (2 * m) 8) ps in
      let d = length-drop (bytes_for (2 * m) 8) ps in
      let v = length_unpack 3 5 (length gs) gs in
      record {
        bit_count = length-take-le (2 * m) (bits ps) (omega arith);
        bits_fit = below_take 2 (2 * m) (bits ps) (unpack_below 2 8 (omega arith) (length ps) ps);
        label_count = length-take-le m (groups gs) (omega arith);
        labels_fit = below_take 3 m (groups gs) (unpack_below 3 5 (omega arith) (length gs) gs);
      }

  one_again : length ps ≡ payload_length 1 m → all_below 256 ps ≡ true → payload_clean 1 m ps ≡ true
      → value_payload 1 m (payload_bits m ps) (payload_labels 1 m ps) ≡ ps
  unfolding value_payload payload_bits payload_labels payload_clean payload_length bits
  one_again q e z =
      let t : 2 * m + m ≡ 3 * m = omega arith in
      rw (← take-add (2 * m) m (bits ps), t) (pack_front 2 8 (omega arith) (bytes_for (3 * m) 8) (3 * m) ps e (omega arith) z)

  -- the bytes of the tree bits, and the groups
  abbrev front : List ℕ
  front = take (bytes_for (2 * m) 8) ps

  abbrev back : List ℕ
  back = drop (bytes_for (2 * m) 8) ps

  module _ (q : length ps ≡ payload_length 2 m) where
    front_count : length front ≡ bytes_for (2 * m) 8
    unfolding payload_length
    front_count = length-take-le (bytes_for (2 * m) 8) ps (omega arith)

    back_count : length back ≡ bytes_for m 5
    unfolding payload_length
    back_count = length-drop (bytes_for (2 * m) 8) ps ∙ omega arith

    -- the tree bits stand in the front
    front_bits : payload_bits m ps ≡ take (2 * m) (bits front)
    unfolding payload_bits bits
    front_bits =
        let l = length_unpack 2 8 (length front) front in
        let c = front_count in
        ap (λ (xs : List ℕ). take (2 * m) (bits xs)) (sym (take-append-drop (bytes_for (2 * m) 8) ps))
        ∙ ap (take (2 * m)) (unpack_append 2 8 front back) ∙ take-append-le (2 * m) (bits front) (bits back) (omega arith)

    two_again : all_below 256 ps ≡ true → payload_clean 2 m ps ≡ true → value_payload 2 m (payload_bits m ps) (payload_labels 2 m ps) ≡ ps
    unfolding value_payload payload_labels payload_clean bits groups
    two_again e z =
        let tail = all_below 243 back && blank_from m (groups back) in
        let z₁ = and_left (blank_from (2 * m) (bits front)) tail z in
        let z₂ = and_right (blank_from (2 * m) (bits front)) tail z in
        let below = and_left (all_below 243 back) (blank_from m (groups back)) z₂ in
        let blank = and_right (all_below 243 back) (blank_from m (groups back)) z₂ in
        rw (
          front_bits,
          pack_front 2 8 (omega arith) (bytes_for (2 * m) 8) (2 * m) front (below_take 256 (bytes_for (2 * m) 8) ps e) front_count z₁,
          pack_front 3 5 (omega arith) (bytes_for m 5) m back below back_count blank,
        ) (take-append-drop (bytes_for (2 * m) 8) ps)

module _ (k m : ℕ) (ps : List ℕ) (kind : has_labels k ≡ true) where
  pub unpayload_parts : length ps ≡ payload_length k m → Parts k m (payload_bits m ps) (payload_labels k m ps)
  unpayload_parts =
      labelled_cases (λ (x : ℕ). length ps ≡ payload_length x m → Parts x m (payload_bits m ps) (payload_labels x m ps))
      (one_parts m ps) (two_parts m ps) k kind

  pub payload_unpayload : length ps ≡ payload_length k m → all_below 256 ps ≡ true → payload_clean k m ps ≡ true
      → value_payload k m (payload_bits m ps) (payload_labels k m ps) ≡ ps
  payload_unpayload =
      labelled_cases (λ (x : ℕ). length ps ≡ payload_length x m → all_below 256 ps ≡ true → payload_clean x m ps ≡ true
      → value_payload x m (payload_bits m ps) (payload_labels x m ps) ≡ ps) (one_again m ps) (two_again m ps) k kind
