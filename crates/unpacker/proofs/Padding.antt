-- Whether a payload is as it is laid out: padding bits and fill labels are 0, every group's byte stands for a value. Assumes nothing.
--
--   length_labels         how many labels the bytes from a place on hold
--   places_below          the entries from a place on are all below a bound, place by place
--   clean_parts, clean_one, clean_two   what makes a payload of kind 1, and of kind 2, clean
use Prim.Native.Nat.{ℕ, ◌+◌, ◌-◌, ◌*◌, ◌/◌, ◌≤◌, ◌<◌}
use native.Mathlib.Omega.{arith}
use mathlib.Core.Path.{◌≡◌, refl, sym, ap}
use mathlib.Core.Logic.{◌≢◌}
use mathlib.Core.Bool.{Bool, true, false, ◌&&◌}
use mathlib.Core.List.{List}
use lib.ListN.{length, get_or, take, drop, length-drop}
use lib.Seq.{take_all, get_or-drop}
use Rattle.std.specs.Bool.{MatchBool}
use Rattle.std.specs.List.{range_with_len, AllWithin, HoldsAt}
use Rattle.std.proofs.lemmas.List.FromFn.{length-range_with_len, get_or-range_with_len}
use Rattle.model.specs.Numbers.{all_below}
use Rattle.model.proofs.Permutations.{below_all, all_below_lem}
use Rattle.packing.specs.Unpack.{bits, groups}
use Rattle.packing.specs.Payload.{has_labels, Sized, payload_clean}
use Rattle.packing.specs.Groups.{groups_from, undone, values_of}
use Rattle.packing.proofs.Groups.{undone_other, undone_front, undone_back}
use Rattle.packing.proofs.Labelled.{labelled_two}
use Rattle.packing.proofs.Packed.{length_unpack, length_bits, bits_take}
use Rattle.unpacker.proofs.Payload.{two, of_kind}

-- ---- bits and labels of bytes

pub length_labels : (s : List ℕ) (from : ℕ) → length (groups (drop from s)) ≡ 5 * (length s - from)
unfolding groups
length_labels s from = let e = length_unpack 3 5 (length (drop from s)) (drop from s) in let d = length-drop from s in omega arith

-- the places from `from` on, as many as are left of xs, are tried one by one, where entry k of xs is g k: r says whether all are below n
pub places_below : (n from : ℕ) (xs : List ℕ) (g : ℕ → ℕ) → ((k : ℕ) → k < length xs → get_or xs k 0 ≡ g k) → (r : Bool) → let ks = range_with_len from (length xs - from) in
    MatchBool r (AllWithin (λ k. g k < n) ks 0 (length ks)) ((i : ℕ) × (i < length ks) × HoldsAt (λ k. n ≤ g k) ks i) → r ≡ all_below n (drop from xs)
places_below n from xs g same r h = go r h
  where
    j : ℕ
    j = length xs - from

    at : (i : ℕ) → i < j → get_or (drop from xs) i 0 ≡ g (get_or (range_with_len from j) i 0)
    at i l = rw (get_or-drop from xs i 0, get_or-range_with_len from j i 0 l) (same (from + i) (omega arith))

    go : (r : Bool) → MatchBool r (AllWithin (λ k. g k < n) (range_with_len from j) 0 (length (range_with_len from j)))
        ((i : ℕ) × (i < length (range_with_len from j)) × HoldsAt (λ k. n ≤ g k) (range_with_len from j) i) → r ≡ all_below n (drop from xs)
    go true h =
        let l = length-range_with_len from j in let d = length-drop from xs in
        sym (all_below_lem n (drop from xs) (λ i b. rw (at i (omega arith)) (h i 0 (omega arith) (omega arith))))
    go false (i, b, h) =
        let l = length-range_with_len from j in let d = length-drop from xs in
        not_small (all_below n (drop from xs)) (λ e. let s = below_all n (drop from xs) e i (omega arith) in let q = h 0 in let a = at i (omega arith) in omega arith)
      where
        not_small : (b : Bool) → (b ≡ true → ⊥) → false ≡ b
        not_small true f = absurd (f refl)
        not_small false f = refl

-- ---- clean payloads

-- kind 2: the padding bits of the payload ps, the groups and the fill labels of its values vs
abbrev pub clean_parts : ℕ → List ℕ → List ℕ → Bool
clean_parts m ps vs =
    all_below 1 (drop (2 * m) (take (8 * ((2 * m + 7) / 8)) (bits ps)))
    && (all_below 243 (drop ((2 * m + 7) / 8) vs) && all_below 1 (drop m (groups (drop ((2 * m + 7) / 8) vs))))

module _ (inv : List ℕ) (k m : ℕ) (ps : List ℕ) where
  pub clean_one : k ≡ 1 → all_below 1 (drop (3 * m) (take (8 * length ps) (bits ps))) ≡ payload_clean k m (undone inv k m ps)
  unfolding payload_clean
  clean_one e =
      let l = length_bits ps in
      rw (undone_other inv ps k m (λ two. omega arith) (λ three. omega arith), e)
      (ap (λ (ds : List ℕ). all_below 1 (drop (3 * m) ds)) (take_all (8 * length ps) (bits ps) (omega arith)))

  pub clean_two : has_labels k ≡ true → Sized k m ps → k ≢ 1 → payload_clean k m (undone inv k m ps) ≡ clean_parts m ps (values_of inv ps)
  unfolding payload_clean groups_from
  clean_two has h e =
      let is = labelled_two k has e in
      let s = of_kind ps m k 2 is h in
      let z = two ps m s in
      rw (is, undone_front inv ps 2 m s, undone_back inv ps 2 m s, bits_take ((2 * m + 7) / 8) ps (omega arith))
