-- The payload of a list of types is read back, and a payload that is read is that of its types. Assumes nothing.
--
--   codes_payload     its codewords are read, with the bits that they have
--   payload_read      the types come back
--   types_payload_bytes   the payload is made of bytes
--   Clean, clean_parts_lem   what makes a payload clean
--   Found, typed_found   what is known of bytes that are read: their codewords, and the types that these are with their digits
--   Made, read_payload   they are the payload of the types that come out, as many as the mesh has nodes below the start
use Prim.Native.Nat.{ℕ, ◌+◌, ◌*◌, ◌-◌, ◌/◌, ◌%◌}
use native.Mathlib.Omega.{arith}
use mathlib.Core.Path.{◌≡◌, refl, sym, ap, ◌∙◌}
use mathlib.Core.Bool.{Bool, true, false, ◌&&◌, cond}
use mathlib.Core.List.{List, ◌++◌, append_assoc}
use lib.Dec.{eqb}
use lib.ListN.{length, take, drop, replicate, length-append, length-drop, take-append-drop}
use lib.Seq.{take_at, drop_at, length-take-le, take-append-le}
use borrow.Author.Tests.{eqb-true, eq-eqb}
use Rattle.model.specs.Numbers.{all_below}
use Rattle.model.specs.Mesh.{type_bits, type_digits}
use Rattle.model.specs.Record.{pack, bytes_for}
use Rattle.model.proofs.Booleans.{and_left, and_right, both}
use Rattle.model.proofs.Below.{below_append, below_take, below_mono}
use Rattle.packing.specs.Unpack.{unpack, bits, groups}
use Rattle.packing.specs.Payload.{blank_from}
use Rattle.packing.specs.Types.{all_types, types_payload, Codes, coded, short, read_codes, with_digits, typed, untyped, clean, types_from, types_in}
use Rattle.packing.proofs.Packed.{pack_length, pack_below, unpack_append, length_unpack, unpack_below, unpack_packed, blank_past, pack_front, bits_below}
use Rattle.packing.proofs.Types.{shapes, type_bits_below, type_digits_below, shapes_digits, shapes_again, shapes_read, Coded, codes_read}
use Rattle.packing.proofs.Types.{with_bits, with_length, with_digits_lem, with_types}

-- ---- written, then read

module _ (ts : List ℕ) (ok : all_types ts ≡ true) where
  abbrev bs : List ℕ
  bs = type_bits ts

  abbrev ds : List ℕ
  ds = type_digits ts

  abbrev n : ℕ
  n = bytes_for (length bs) 8

  abbrev front : List ℕ
  front = pack 2 8 n bs

  abbrev back : List ℕ
  back = pack 3 5 (bytes_for (length ds) 5) ds

  cut : length front ≡ n
  cut = pack_length 2 8 n bs

  pub codes_payload : read_codes (length ts) (bits (types_payload ts)) ≡ coded (shapes ts) (length (type_bits ts))
  unfolding bits types_payload
  codes_payload =
      rw (
        unpack_append 2 8 front back,
        unpack_packed 2 8 (omega arith) n bs (type_bits_below ts) (omega arith),
        append_assoc bs (replicate (n * 8 - length bs) 0) (unpack 2 8 (length back) back),
      ) (shapes_read ts ok _)

  digits_payload : take (length ds) (groups (drop n (front ++ back))) ≡ ds
  unfolding groups
  digits_payload =
      rw (
        drop_at front back n cut,
        unpack_packed 3 5 (omega arith) (bytes_for (length ds) 5) ds (type_digits_below ts ok) (omega arith),
      ) (take_at ds _ (length ds) refl)

  clean_payload : clean (front ++ back) (length bs) (length ds) ≡ true
  unfolding clean bits groups
  clean_payload =
      let k = pack_length 3 5 (bytes_for (length ds) 5) ds in
      let c = cut in
      let e = length-append front back in
      both (eq-eqb (length (front ++ back)) (n + bytes_for (length ds) 5) (omega arith))
      (rw (take_at front back n cut, drop_at front back n cut)
      (both (blank_past 2 8 (omega arith) n bs (length bs) refl (type_bits_below ts) (omega arith))
      (both (pack_below 3 5 (omega arith) (bytes_for (length ds) 5) ds (type_digits_below ts ok))
      (blank_past 3 5 (omega arith) (bytes_for (length ds) 5) ds (length ds) refl (type_digits_below ts ok) (omega arith)))))

  pub types_payload_bytes : all_below 256 (types_payload ts) ≡ true
  unfolding types_payload
  types_payload_bytes =
      below_append 256 front back (pack_below 2 8 (omega arith) n bs (type_bits_below ts))
      (below_mono 243 256 (omega arith) back (pack_below 3 5 (omega arith) (bytes_for (length ds) 5) ds (type_digits_below ts ok)))

  from_codes : types_from (types_payload ts) (coded (shapes ts) (length bs)) ≡ typed ts
  unfolding types_from types_payload
  from_codes = rw (shapes_digits ts, clean_payload, digits_payload, shapes_again ts)

  pub payload_read : (m : ℕ) → m % 3 ≡ 0 → length ts ≡ 2 * (m / 3) - 1 → types_in m (types_payload ts) ≡ typed ts
  unfolding types_in
  payload_read m e l = rw (eq-eqb (m % 3) 0 e, sym l, codes_payload) from_codes

-- ---- read, then written

-- c bits and l digits in ps, and nothing beside them
pub record Clean (ps : List ℕ) (c l : ℕ) : Type 0 where
  pub long : length ps ≡ bytes_for c 8 + bytes_for l 5
  pub padding : blank_from c (bits (take (bytes_for c 8) ps)) ≡ true
  pub values : all_below 243 (drop (bytes_for c 8) ps) ≡ true
  pub fill : blank_from l (groups (drop (bytes_for c 8) ps)) ≡ true

pub clean_parts_lem : (ps : List ℕ) (c l : ℕ) → clean ps c l ≡ true → Clean ps c l
unfolding clean
clean_parts_lem ps c l z =
    let p₁ = eqb (length ps) (bytes_for c 8 + bytes_for l 5) in
    let p₂ = blank_from c (bits (take (bytes_for c 8) ps)) in
    let p₃ = all_below 243 (drop (bytes_for c 8) ps) in
    let p₄ = blank_from l (groups (drop (bytes_for c 8) ps)) in
    let z₂ = and_right p₁ (p₂ && (p₃ && p₄)) z in
    let z₃ = and_right p₂ (p₃ && p₄) z₂ in
    record {
      long = eqb-true (length ps) (bytes_for c 8 + bytes_for l 5) (and_left p₁ (p₂ && (p₃ && p₄)) z);
      padding = and_left p₂ (p₃ && p₄) z₂;
      values = and_left p₃ p₄ z₃;
      fill = and_right p₃ p₄ z₃;
    }

-- the codewords behind the types ts that are read from ps, and how many bits they have
pub record Found (m : ℕ) (ps ts : List ℕ) : Type 0 where
  pub thirds : m % 3 ≡ 0
  pub codewords : List ℕ
  pub used : ℕ
  pub codes : read_codes (2 * (m / 3) - 1) (bits ps) ≡ coded codewords used
  pub parts : Clean ps used (length (type_digits codewords))
  pub together : with_digits codewords (take (length (type_digits codewords)) (groups (drop (bytes_for used 8) ps))) ≡ ts

pub typed_found : (m : ℕ) (ps ts : List ℕ) → types_in m ps ≡ typed ts → Found m ps ts
unfolding types_in types_from
typed_found m ps ts e = go (eqb (m % 3) 0) refl e
  where
    k : ℕ
    k = 2 * (m / 3) - 1

    none : untyped ≡ typed ts → ⊥
    none q = let y : ◌≡◌ {A = ℕ} 0 1 = cc in omega arith

    ended : (ss : List ℕ) (c : ℕ) → m % 3 ≡ 0 → read_codes k (bits ps) ≡ coded ss c → (x : Bool) → clean ps c (length (type_digits ss)) ≡ x
        → cond x (typed (with_digits ss (take (length (type_digits ss)) (groups (drop (bytes_for c 8) ps))))) untyped ≡ typed ts → Found m ps ts
    ended ss c d r true z q =
        record { thirds = d; codewords = ss; used = c; codes = r; parts = clean_parts_lem ps c (length (type_digits ss)) z; together = cc }
    ended ss c d r false z q = absurd (none q)

    codes_of_lem : (r : Codes) → m % 3 ≡ 0 → read_codes k (bits ps) ≡ r → types_from ps r ≡ typed ts → Found m ps ts
    codes_of_lem (coded ss c) d r q = ended ss c d r (clean ps c (length (type_digits ss))) refl q
    codes_of_lem short d r q = absurd (none q)

    go : (x : Bool) → eqb (m % 3) 0 ≡ x → cond x (types_from ps (read_codes k (bits ps))) untyped ≡ typed ts → Found m ps ts
    go true d q = codes_of_lem (read_codes k (bits ps)) (eqb-true (m % 3) 0 d) refl q
    go false d q = absurd (none q)

module _ (ps : List ℕ) (bytes : all_below 256 ps ≡ true) (k : ℕ) (ss : List ℕ) (c : ℕ) (i : Coded k (bits ps) ss c) where
  abbrev l : ℕ
  l = length (type_digits ss)

  abbrev n' : ℕ
  n' = bytes_for c 8

  abbrev fore : List ℕ
  fore = take n' ps

  abbrev rear : List ℕ
  rear = drop n' ps

  abbrev found_digits : List ℕ
  found_digits = take l (groups rear)

  made : Clean ps c l → (all_types (with_digits ss found_digits) ≡ true) × (types_payload (with_digits ss found_digits) ≡ ps)
  unfolding types_payload bits groups
  made z =
      let long = z.long in
      let fore_long : length fore ≡ n' = length-take-le n' ps (omega arith) in
      let rear_long : length rear ≡ bytes_for l 5 = length-drop n' ps ∙ omega arith in
      let u = length_unpack 2 8 (length fore) fore in
      let v = length_unpack 3 5 (length rear) rear in
      let many : length found_digits ≡ l = length-take-le l (groups rear) (omega arith) in
      let used = i.used in
      let bits_are : type_bits ss ≡ take c (bits fore) =
      sym (take_at (type_bits ss) i.rest c (sym used)) ∙ ap (take c) (sym i.stands)
      ∙ ap (λ (xs : List ℕ). take c (bits xs)) (sym (take-append-drop n' ps))
      ∙ ap (take c) (unpack_append 2 8 fore rear) ∙ take-append-le c (bits fore) (bits rear) (omega arith) in
      let below : all_below 3 found_digits ≡ true = below_take 3 l (groups rear) (unpack_below 3 5 (omega arith) (length rear) rear) in
      let first_part : pack 2 8 n' (type_bits ss) ≡ fore = ap (pack 2 8 n') bits_are
      ∙ pack_front 2 8 (omega arith) n' c fore (below_take 256 n' ps bytes) fore_long z.padding in
      let second-part = pack_front 3 5 (omega arith) (bytes_for l 5) l rear z.values rear_long z.fill in (
        with_types ss found_digits i.proper below,
        rw (with_bits ss found_digits, with_digits_lem ss found_digits many, sym used, many, first_part, second-part) (take-append-drop n' ps),
      )

pub record Made (m : ℕ) (ps ts : List ℕ) : Type 0 where
  pub thirds : m % 3 ≡ 0
  pub many : length ts ≡ 2 * (m / 3) - 1
  pub proper : all_types ts ≡ true
  pub payload : types_payload ts ≡ ps

pub read_payload : (m : ℕ) (ps ts : List ℕ) → all_below 256 ps ≡ true → types_in m ps ≡ typed ts → Made m ps ts
read_payload m ps ts b e =
    let f = typed_found m ps ts e in
    let k = 2 * (m / 3) - 1 in
    let i = codes_read k (bits ps) f.codewords f.used (bits_below ps) f.codes in
    let (p, s) = made ps b k f.codewords f.used i f.parts in
    record {
      thirds = f.thirds;
      many = ap length (sym f.together) ∙ with_length f.codewords _ ∙ i.many;
      proper = ap all_types (sym f.together) ∙ p;
      payload = ap types_payload (sym f.together) ∙ s;
    }
