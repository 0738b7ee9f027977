-- Reading codewords looks at their own bits alone: where they end, and what stands in front of and behind that end. Assumes nothing.
--
--   codes_below           each codeword is below 4
--   codes_fit             codewords have no more bits than there are
--   codes_prefix, codes_same   the same codewords are read from their own bits, whatever follows; and from any bits that begin so
--   codes_bytes_fit, codes_bytes   their bytes stand in the payload, and they are read from any bytes that begin with these
--   code_bytes_bound       the codewords end within the payload
--   read_codes_same, code_bytes_same   as many bytes, the same up to that end: the same codewords, and the same end
--   types_code_bytes       in the payload of types the codewords end where the bits of the types do
--   types_front, types_back   before it stand the bits, behind it the digits
--   types_values          behind it are values of groups
--   mesh_payload_lem          under a table, the payload of types with a byte for each value behind it
use Prim.Native.Nat.{ℕ, zero, suc, ◌*◌, ◌-◌, ◌/◌, ◌≤◌}
use native.Mathlib.Omega.{arith}
use mathlib.Core.Path.{◌≡◌, refl, sym, ap, ◌∙◌}
use mathlib.Core.Bool.{true}
use mathlib.Core.List.{List, [], ◌∷◌, ◌++◌, map}
use lib.ListN.{length, take, drop, take-append-drop}
use lib.Seq.{take_all, take_at, drop_at, take-take}
use Rattle.model.specs.declared.Table.{Table}
use Rattle.model.specs.Numbers.{all_below}
use Rattle.model.specs.Mesh.{type_bits, type_digits}
use Rattle.model.specs.Groups.{byte_for}
use Rattle.model.specs.Record.{pack, bytes_for, mesh_payload}
use Rattle.model.proofs.Below.{below_cons, below_head, below_tail}
use Rattle.packing.specs.Unpack.{bits}
use Rattle.packing.specs.Types.{all_types, types_payload, Codes, coded, short, more, read_codes, codes_end, code_bytes}
use Rattle.packing.proofs.Packed.{pack_length, pack_below, length_bits, bits_take}
use Rattle.packing.proofs.Types.{type_digits_below, none_coded, more_coded}
use Rattle.packing.proofs.TypesPayload.{codes_payload}

-- ---- in bits

pub codes_fit : (n : ℕ) (bs ss : List ℕ) (c : ℕ) → read_codes n bs ≡ coded ss c → c ≤ length bs
unfolding read_codes
codes_fit zero bs ss c e = let u : c ≡ 0 = cc in omega arith
codes_fit (suc n) [] ss c e = absurd (none_coded ss c e)
codes_fit (suc n) (zero ∷ []) ss c e = absurd (none_coded ss c e)
codes_fit (suc n) (zero ∷ b ∷ bs) ss c e =
    let (us, d, r, s, u) = more_coded (suc b) 2 (read_codes n bs) ss c e in
    let ih = codes_fit n bs us d r in
    omega arith
codes_fit (suc n) (suc a ∷ bs) ss c e =
    let (us, d, r, s, u) = more_coded 3 1 (read_codes n bs) ss c e in
    let ih = codes_fit n bs us d r in
    omega arith

pub codes_below : (n : ℕ) (bs ss : List ℕ) (c : ℕ) → all_below 2 bs ≡ true → read_codes n bs ≡ coded ss c → all_below 4 ss ≡ true
unfolding read_codes all_below
codes_below zero bs ss c b e = let s : ss ≡ [] = cc in ap (all_below 4) s
codes_below (suc n) [] ss c b e = absurd (none_coded ss c e)
codes_below (suc n) (zero ∷ []) ss c b e = absurd (none_coded ss c e)
codes_below (suc n) (zero ∷ x ∷ bs) ss c b e =
    let (us, d, r, s, u) = more_coded (suc x) 2 (read_codes n bs) ss c e in
    let b' = below_tail 2 0 (x ∷ bs) b in
    let h = below_head 2 x bs b' in
    ap (all_below 4) s ∙ below_cons 4 (suc x) us (omega arith) (codes_below n bs us d (below_tail 2 x bs b') r)
codes_below (suc n) (suc a ∷ bs) ss c b e =
    let (us, d, r, s, u) = more_coded 3 1 (read_codes n bs) ss c e in
    ap (all_below 4) s ∙ below_cons 4 3 us (omega arith) (codes_below n bs us d (below_tail 2 (suc a) bs b) r)

pub codes_prefix : (n : ℕ) (bs cs ss : List ℕ) (c : ℕ) → read_codes n bs ≡ coded ss c → read_codes n (take c bs ++ cs) ≡ coded ss c
unfolding read_codes
codes_prefix zero bs cs ss c e = e
codes_prefix (suc n) [] cs ss c e = absurd (none_coded ss c e)
codes_prefix (suc n) (zero ∷ []) cs ss c e = absurd (none_coded ss c e)
codes_prefix (suc n) (zero ∷ b ∷ bs) cs ss c e =
    let (us, d, r, s, u) = more_coded (suc b) 2 (read_codes n bs) ss c e in
    let p : c ≡ suc (suc d) = omega arith in
    rw p (ap (more (suc b) 2) (codes_prefix n bs cs us d r ∙ sym r) ∙ e ∙ ap (coded ss) p)
codes_prefix (suc n) (suc a ∷ bs) cs ss c e =
    let (us, d, r, s, u) = more_coded 3 1 (read_codes n bs) ss c e in
    let p : c ≡ suc d = omega arith in
    rw p (ap (more 3 1) (codes_prefix n bs cs us d r ∙ sym r) ∙ e ∙ ap (coded ss) p)

pub codes_same : (n : ℕ) (bs cs ss : List ℕ) (c : ℕ) → take c cs ≡ take c bs → read_codes n bs ≡ coded ss c → read_codes n cs ≡ coded ss c
codes_same n bs cs ss c t e =
    ap (read_codes n) (sym (take-append-drop c cs)) ∙ ap (λ (xs : List ℕ). read_codes n (xs ++ drop c cs)) t ∙ codes_prefix n bs (drop c cs) ss c e

-- ---- in bytes

module _ (n : ℕ) (ps : List ℕ) (ss : List ℕ) (c : ℕ) (e : read_codes n (bits ps) ≡ coded ss c) where
  pub codes_bytes_fit : bytes_for c 8 ≤ length ps
  codes_bytes_fit = let f = codes_fit n (bits ps) ss c e in let l = length_bits ps in omega arith

  pub codes_bytes : (qs : List ℕ) → bytes_for c 8 ≤ length qs → take (bytes_for c 8) qs ≡ take (bytes_for c 8) ps → read_codes n (bits qs) ≡ coded ss c
  codes_bytes qs h t = codes_same n (bits ps) (bits qs) ss c (front qs h ∙ ap (λ (xs : List ℕ). take c (bits xs)) t ∙ sym (front ps codes_bytes_fit)) e
    where
      front : (xs : List ℕ) → bytes_for c 8 ≤ length xs → take c (bits xs) ≡ take c (bits (take (bytes_for c 8) xs))
      front xs k = sym (take-take c (8 * bytes_for c 8) (bits xs) (omega arith)) ∙ ap (take c) (bits_take (bytes_for c 8) xs k)

module _ (m : ℕ) (ps : List ℕ) where
  abbrev count : ℕ
  count = 2 * (m / 3) - 1

  pub code_bytes_bound : code_bytes m ps ≤ length ps
  unfolding code_bytes
  code_bytes_bound = go (read_codes count (bits ps)) refl
    where
      go : (r : Codes) → read_codes count (bits ps) ≡ r → codes_end r (length ps) ≤ length ps
      go (coded ss c) e = codes_bytes_fit count ps ss c e
      go short e = omega arith

  module _ (qs : List ℕ) (long : length qs ≡ length ps) (same : take (code_bytes m ps) qs ≡ take (code_bytes m ps) ps) where
    pub read_codes_same : read_codes count (bits qs) ≡ read_codes count (bits ps)
    unfolding code_bytes
    read_codes_same = go (read_codes count (bits ps)) refl same
      where
        go : (r : Codes) → read_codes count (bits ps) ≡ r → take (codes_end r (length ps)) qs ≡ take (codes_end r (length ps)) ps → read_codes count (bits qs) ≡ r
        go (coded ss c) e t = let f = codes_bytes_fit count ps ss c e in codes_bytes count ps ss c e qs (omega arith) t
        go short e t =
            ap (λ (xs : List ℕ). read_codes count (bits xs)) (sym (take_all (length ps) qs (omega arith)) ∙ t ∙ take_all (length ps) ps (omega arith)) ∙ e

    pub code_bytes_same : code_bytes m qs ≡ code_bytes m ps
    unfolding code_bytes
    code_bytes_same = rw (read_codes_same, long)

-- ---- in the payload of types

module _ (m : ℕ) (ts : List ℕ) (ok : all_types ts ≡ true) (many : length ts ≡ 2 * (m / 3) - 1) where
  abbrev here : ℕ
  here = bytes_for (length (type_bits ts)) 8

  abbrev front : List ℕ
  front = pack 2 8 here (type_bits ts)

  abbrev back : List ℕ
  back = pack 3 5 (bytes_for (length (type_digits ts)) 5) (type_digits ts)

  cut : length front ≡ here
  cut = pack_length 2 8 here (type_bits ts)

  pub types_code_bytes : code_bytes m (types_payload ts) ≡ bytes_for (length (type_bits ts)) 8
  unfolding code_bytes
  types_code_bytes = rw (sym many, codes_payload ts ok)

  pub types_front : take (code_bytes m (types_payload ts)) (types_payload ts) ≡ pack 2 8 (bytes_for (length (type_bits ts)) 8) (type_bits ts)
  unfolding types_payload
  types_front = ap (λ (k : ℕ). take k (types_payload ts)) types_code_bytes ∙ take_at front back here cut

  pub types_back : drop (code_bytes m (types_payload ts)) (types_payload ts) ≡ pack 3 5 (bytes_for (length (type_digits ts)) 5) (type_digits ts)
  unfolding types_payload
  types_back = ap (λ (k : ℕ). drop k (types_payload ts)) types_code_bytes ∙ drop_at front back here cut

  pub types_values : all_below 243 (drop (code_bytes m (types_payload ts)) (types_payload ts)) ≡ true
  types_values =
      ap (all_below 243) types_back ∙ pack_below 3 5 (omega arith) (bytes_for (length (type_digits ts)) 5) (type_digits ts) (type_digits_below ts ok)

  pub mesh_payload_lem : (t : Table) → let n = code_bytes m (types_payload ts) in
      mesh_payload t ts ≡ take n (types_payload ts) ++ map (byte_for t) (drop n (types_payload ts))
  unfolding mesh_payload
  mesh_payload_lem t = rw (types_front, types_back)
