-- The payload of a record, by its groups.
--
--   part_length, part_placed   how long a part is, and what is left when it is written
--   run                    the entries of a part of the work area
--   plain_asked, plain_placed   what one run of tree bits and labels asks for, and what it leaves
--   parts_asked, parts_placed   the same of bits and digits
--   starred_asked, starred_placed   where these are tree bits and labels
--   plain_payload, starred_payload, plain_room, starred_room   the payload and its room, by family
use Rattle.std.proofs.Common.{◌≡◌, ◌≢◌, ℕ, ◌+◌, ◌-◌, ◌*◌, ◌/◌, ◌^◌, ◌≤◌, true, List, ◌++◌, length, take, drop, sym, ap, ◌∙◌, arith, length-drop, length-append, lit≤, eq-eqb, ne_eqb}
use Rattle.std.proofs.Math.Seq.{drop-drop, length-take-le}
use borrow.Rule.Slice.PartMut.{put_mid}
use Rattle.model.specs.Numbers.{all_below}
use Rattle.model.specs.Record.{pack, bytes_for, label_base}
use Rattle.model.proofs.Below.{below_append}
use Rattle.packing.specs.Payload.{has_labels, value_payload}
use Rattle.packing.proofs.Packed.{pack_length}
use Rattle.packing.proofs.Labelled.{labelled_two}
use Rattle.packing.proofs.Payload.{payload_length_lem}
use Rattle.model.proofs.Heads.{family_one, family_two}
use Rattle.work.specs.Map.{BITS, LABELS}
use Rattle.work.specs.Area.{region, placed}
use Rattle.work.specs.Letters.{work_bits, work_labels}
use Rattle.work.proofs.Regions.{region_split}

-- ---- parts

-- the k entries from place at on
abbrev pub part : ℕ → ℕ → List ℕ → List ℕ
part at k xs = take (at + k - at) (drop at xs)

pub part_length : (at k : ℕ) (xs : List ℕ) → at + k ≤ length xs → length (part at k xs) ≡ k
part_length at k xs h =
    let e : at + k - at ≡ k = omega arith in
    let l : k ≤ length (drop at xs) = let d = length-drop at xs in omega arith in
    rw e (length-take-le k (drop at xs) l)

pub part_placed : (at k : ℕ) (ys xs : List ℕ) → length ys ≡ k → put_mid at (at + k - at) xs ys ≡ placed at ys xs
unfolding placed
part_placed at k ys xs h =
    let e : at + k - at ≡ length ys = omega arith in rw e (ap (λ (zs : List ℕ). take at xs ++ (ys ++ zs)) (drop-drop (length ys) at xs))

pub run : (a k : ℕ) (w : List ℕ) → part a k w ≡ region a k w
unfolding region
run a k w = let e : a + k - a ≡ k = omega arith in rw e

-- ---- payloads

module _ (m : ℕ) (w : List ℕ) where
  abbrev n : ℕ
  n = 2 * m

  -- tree bits and labels are one run
  abbrev both : List ℕ
  both = take (LABELS * n + m - BITS * n) (drop (BITS * n) w)

  one_run : both ≡ work_bits n w ++ work_labels n w
  unfolding region work_bits work_labels
  one_run =
      let e : LABELS * n + m - BITS * n ≡ n + n / 2 = omega arith in
      let f : LABELS * n ≡ BITS * n + n = omega arith in
      rw (e, f) (region_split (BITS * n) n (n / 2) w)

  module _ (at : ℕ) (out : List ℕ) (few : m ≤ 4096) where
    module _ (count : ℕ) (e : count ≡ bytes_for (3 * m) 8) (room : at + bytes_for (3 * m) 8 ≤ length out) where
      pub plain_asked : all_below 2 (work_bits n w) ≡ true → all_below 2 (work_labels n w) ≡ true
          → (1 ≤ 2) × (2 ^ 8 ≤ 256) × (all_below 2 both ≡ true) × (length (part at count out) * 8 ≤ 2 ^ 20)
      plain_asked a b =
          let l = part_length at count out (omega arith) in (lit≤ tt, lit≤ tt, rw one_run (below_append 2 _ _ a b), omega arith)

      pub plain_placed : (new : List ℕ) → new ≡ pack 2 8 (length (part at count out)) both
          → put_mid at (at + count - at) out new ≡ placed at (value_payload 1 m (work_bits n w) (work_labels n w)) out
      unfolding value_payload
      plain_placed new p =
          let l = part_length at count out (omega arith) in
          let q : new ≡ pack 2 8 (bytes_for (3 * m) 8) (work_bits n w ++ work_labels n w) = p ∙ rw (l, e, one_run) in
          part_placed at count new out (ap length q ∙ pack_length 2 8 (bytes_for (3 * m) 8) _ ∙ sym e) ∙ ap (λ (xs : List ℕ). placed at xs out) q

-- what is asked where bits from place a on and digits from place b on, so many of each, go to a part of the output
abbrev pub Asked : ℕ → ℕ → ℕ → ℕ → List ℕ → ℕ → ℕ → List ℕ → Type 0
Asked a k b l w at size out =
    (length (part a k w) ≤ 2 ^ 14) × (length (part b l w) ≤ 2 ^ 14)
    × (length (part at size out) ≡ bytes_for (length (part a k w)) 8 + bytes_for (length (part b l w)) 5)
    × (all_below 2 (part a k w) ≡ true) × (all_below 3 (part b l w) ≡ true)

-- and what is there then
abbrev pub Packed : ℕ → ℕ → ℕ → ℕ → List ℕ → List ℕ → Type 0
Packed a k b l w new = new ≡ pack 2 8 (bytes_for (length (part a k w)) 8) (part a k w) ++ pack 3 5 (bytes_for (length (part b l w)) 5) (part b l w)

module _ (a k b l : ℕ) (w : List ℕ) (there : a + k ≤ length w) (there' : b + l ≤ length w) (at size : ℕ) (out : List ℕ)
    (e : size ≡ bytes_for k 8 + bytes_for l 5) (room : at + size ≤ length out) where
  long : (length (part a k w) ≡ k) × (length (part b l w) ≡ l)
  long = (part_length a k w there, part_length b l w there')

  pub parts_asked : k ≤ 2 ^ 14 → l ≤ 2 ^ 14 → all_below 2 (region a k w) ≡ true → all_below 3 (region b l w) ≡ true → Asked a k b l w at size out
  parts_asked few few' low low' =
      let (x, y) = long in
      let z = part_length at size out room in
      (omega arith, omega arith, rw (x, y, z) e, rw (run a k w) low, rw (run b l w) low')

  pub parts_placed : (new : List ℕ) → Packed a k b l w new
      → put_mid at (at + size - at) out new ≡ placed at (pack 2 8 (bytes_for k 8) (region a k w) ++ pack 3 5 (bytes_for l 5) (region b l w)) out
  parts_placed new p =
      let (x, y) = long in
      let q = rw (x, y, run a k w, run b l w) at p in
      let f = pack_length 2 8 (bytes_for k 8) (region a k w) in
      let g = pack_length 3 5 (bytes_for l 5) (region b l w) in
      let h = length-append (pack 2 8 (bytes_for k 8) (region a k w)) (pack 3 5 (bytes_for l 5) (region b l w)) in
      part_placed at size new out (ap length q ∙ omega arith) ∙ ap (λ (xs : List ℕ). placed at xs out) q

module _ (m : ℕ) (w : List ℕ) (few : m ≤ 4096) (wide : 32 * m ≤ length w) (at x y : ℕ) (out : List ℕ) (e : x ≡ bytes_for (2 * m) 8) (f : y ≡ bytes_for m 5)
    (room : at + bytes_for (2 * m) 8 + bytes_for m 5 ≤ length out) where
  labels : region (LABELS * (2 * m)) m w ≡ work_labels (2 * m) w
  unfolding work_labels
  labels = let h : m ≡ 2 * m / 2 = omega arith in ap (λ (k : ℕ). region (LABELS * (2 * m)) k w) h

  pub starred_asked : all_below 2 (work_bits (2 * m) w) ≡ true → all_below 3 (work_labels (2 * m) w) ≡ true
      → Asked (BITS * (2 * m)) (2 * m) (LABELS * (2 * m)) m w at (x + y) out
  unfolding work_bits
  starred_asked low low' = parts_asked _ _ _ _ w (omega arith) (omega arith) at (x + y) out (omega arith) (omega arith) (omega arith) (omega arith) low (rw labels low')

  pub starred_placed : (new : List ℕ) → Packed (BITS * (2 * m)) (2 * m) (LABELS * (2 * m)) m w new
      → put_mid at (at + (x + y) - at) out new ≡ placed at (value_payload 2 m (work_bits (2 * m) w) (work_labels (2 * m) w)) out
  unfolding value_payload work_bits
  starred_placed new p = parts_placed _ _ _ _ w (omega arith) (omega arith) at (x + y) out (omega arith) (omega arith) new p ∙ rw labels

-- ---- by family

module _ (k m at room : ℕ) (bits labels : List ℕ) (has : has_labels k ≡ true) (fits : at + length (value_payload k m bits labels) ≤ room)
    (small : all_below (label_base k) labels ≡ true) where
  pub plain_room : k ≡ 1 → (at + bytes_for (3 * m) 8 ≤ room) × (all_below 2 labels ≡ true)
  unfolding label_base
  plain_room e = let a = payload_length_lem k m bits labels has in let b = family_one k m e in (omega arith, rw (eq-eqb k 1 e) at small)

  pub starred_room : k ≢ 1 → (at + bytes_for (2 * m) 8 + bytes_for m 5 ≤ room) × (all_below 3 labels ≡ true)
  unfolding label_base
  starred_room d = let a = payload_length_lem k m bits labels has in let b = family_two k m (labelled_two k has d) in (omega arith, rw (ne_eqb k 1 d) at small)

module _ (k m at : ℕ) (bits labels out out' : List ℕ) where
  pub plain_payload : k ≡ 1 → out' ≡ placed at (value_payload 1 m bits labels) out → out' ≡ placed at (value_payload k m bits labels) out
  plain_payload e p = rw e p

  pub starred_payload : k ≢ 1 → out' ≡ placed at (value_payload 2 m bits labels) out → out' ≡ placed at (value_payload k m bits labels) out
  unfolding value_payload
  starred_payload d p = rw (ne_eqb k 1 d) p
