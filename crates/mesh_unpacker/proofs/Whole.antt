-- A payload taken apart: whether it is as laid out, and its types. Assumes nothing.
--
--   clean_parts, clean_parts_lem   what makes a payload whose codewords have c bits and want l digits clean
--   clean_room            a clean payload is as long as its codewords and digits want it
--   typed_other, typed_short, typed_unclean, typed_clean   the answer where m is no multiple of 3, where the bits run out, and where the payload is not clean
--                         or is, and digits are added
use Prim.Native.Nat.{ℕ, ◌+◌, ◌*◌, ◌-◌, ◌/◌, ◌%◌, ◌≤◌}
use native.Mathlib.Omega.{arith}
use mathlib.Core.Path.{◌≡◌, refl, sym, ap, ◌∙◌}
use mathlib.Core.Logic.{◌≢◌}
use mathlib.Core.Bool.{Bool, true, false, ◌&&◌}
use mathlib.Core.List.{List}
use lib.Dec.{eqb}
use lib.ListN.{length, take, drop, length-append, take-append-drop}
use lib.Seq.{take_at, drop_at, length-take-le}
use borrow.Author.Tests.{eqb-true, eq-eqb, ne_eqb}
use Rattle.model.specs.Numbers.{all_below}
use Rattle.model.specs.Mesh.{type_digits}
use Rattle.model.specs.Record.{bytes_for}
use Rattle.model.proofs.Booleans.{and_left}
use Rattle.packing.specs.Unpack.{bits, groups}
use Rattle.packing.specs.Types.{coded, short, read_codes, code_bytes, with_digits, clean, types_from, types_in}
use Rattle.packing.specs.Groups.{groups_from, on_groups, undone, values_of}
use Rattle.packing.proofs.Packed.{bits_take}
use Rattle.packing.proofs.Groups.{values_length, values_drop, undone_codes}
use Rattle.unpacker.proofs.Padding.{length_labels}
use Rattle.work.specs.Map.{TYPES}
use Rattle.work.specs.Area.{region}
use Rattle.work.proofs.Regions.{length_region}
use Rattle.mesh_unpacker.specs.Reading.{values_from, Typed}
use Rattle.mesh_unpacker.proofs.Digits.{with_take}

-- ---- clean

abbrev pub clean_parts : List ℕ → List ℕ → ℕ → ℕ → Bool
clean_parts inv ps c l =
    let n = (c + 7) / 8 in
    let vs = drop n (values_of inv ps) in
    eqb (length ps) (n + (l + 4) / 5) && (all_below 1 (drop c (take (8 * n) (bits ps))) && (all_below 243 vs && all_below 1 (drop l (groups vs))))

module _ (inv ps : List ℕ) (c l : ℕ) (fits : c ≤ 8 * length ps) where
  abbrev from : ℕ
  from = (c + 7) / 8

  front_long : length (take from ps) ≡ from
  front_long = length-take-le from ps (omega arith)

  back_values : drop from (values_from from inv ps) ≡ drop from (values_of inv ps)
  unfolding values_from
  back_values = drop_at (take from ps) (values_of inv (drop from ps)) from front_long ∙ values_drop inv ps from

  front_same : take from (values_from from inv ps) ≡ take from ps
  unfolding values_from
  front_same = take_at (take from ps) (values_of inv (drop from ps)) from front_long

  same_length : length (values_from from inv ps) ≡ length ps
  unfolding values_from
  same_length =
      length-append (take from ps) (values_of inv (drop from ps)) ∙ ap (λ (k : ℕ). length (take from ps) + k) (values_length inv (drop from ps))
      ∙ sym (length-append (take from ps) (drop from ps)) ∙ ap length (take-append-drop from ps)

  pub clean_parts_lem : clean (values_from from inv ps) c l ≡ clean_parts inv ps c l
  unfolding clean
  clean_parts_lem = rw (same_length, front_same, back_values, bits_take from ps (omega arith))

  pub clean_room : clean (values_from from inv ps) c l ≡ true → length ps ≡ from + (l + 4) / 5
  clean_room e = eqb-true (length ps) (from + (l + 4) / 5) (and_left (eqb (length ps) (from + (l + 4) / 5)) _ (sym clean_parts_lem ∙ e))

-- ---- the whole

module _ (inv : List ℕ) (m : ℕ) (ps w : List ℕ) where
  pub typed_other : m % 3 ≢ 0 → Typed (types_in m (undone inv 3 m ps)) m false w w
  unfolding Typed types_in
  typed_other d = rw (ne_eqb (m % 3) 0 d) (refl, refl)

  module _ (thirds : m % 3 ≡ 0) where
    pub typed_short : (w' : List ℕ) → length w' ≡ length w → read_codes (2 * (m / 3) - 1) (bits ps) ≡ short
        → Typed (types_in m (undone inv 3 m ps)) m false w w'
    unfolding Typed types_in types_from
    typed_short w' k e = rw (eq-eqb (m % 3) 0 thirds, undone_codes inv ps m, e) (refl, k)

    module _ (ss : List ℕ) (c l : ℕ) (e : read_codes (2 * (m / 3) - 1) (bits ps) ≡ coded ss c) (d : l ≡ length (type_digits ss)) (fits : c ≤ 8 * length ps) where
      abbrev vs : List ℕ
      vs = values_from (bytes_for c 8) inv ps

      values_are : undone inv 3 m ps ≡ vs
      unfolding undone on_groups groups_from code_bytes values_from values_of
      values_are = rw e

      codes_are : read_codes (2 * (m / 3) - 1) (bits vs) ≡ coded ss c
      codes_are = ap (λ (qs : List ℕ). read_codes (2 * (m / 3) - 1) (bits qs)) (sym values_are) ∙ undone_codes inv ps m ∙ e

      pub typed_unclean : (w' : List ℕ) → length w' ≡ length w → clean vs c l ≡ false → Typed (types_in m (undone inv 3 m ps)) m false w w'
      unfolding Typed types_in types_from
      typed_unclean w' k z = rw (values_are, eq-eqb (m % 3) 0 thirds, codes_are, sym d, z) (refl, k)

      pub typed_clean : (w' : List ℕ) → length w' ≡ length w → clean vs c l ≡ true → TYPES * (2 * m) + (2 * (m / 3) - 1) ≤ length w
          → region (TYPES * (2 * m)) (2 * (m / 3) - 1) w' ≡ with_digits ss (groups (drop (bytes_for c 8) (values_of inv ps)))
          → Typed (types_in m (undone inv 3 m ps)) m true w w'
      unfolding Typed types_in types_from
      typed_clean w' k z room q =
          let n = 2 * (m / 3) - 1 in
          let ds = groups (drop (bytes_for c 8) (values_of inv ps)) in
          let long = clean_room inv ps c l fits z in
          let count = length_labels (values_of inv ps) (bytes_for c 8) in
          let vl = values_length inv ps in
          let all : with_digits ss (take l (groups (drop (bytes_for c 8) vs))) ≡ with_digits ss ds =
          ap (λ (xs : List ℕ). with_digits ss (take l (groups xs))) (back_values inv ps c l fits)
          ∙ ap (λ (i : ℕ). with_digits ss (take i ds)) d ∙ with_take ss ds (omega arith) in
          rw (values_are, eq-eqb (m % 3) 0 thirds, codes_are, sym d, z, all)
          (record {
            read = refl;
            thirds = thirds;
            many = ap length (sym q) ∙ length_region (TYPES * (2 * m)) n w' (omega arith);
            stand = q;
            kept = k;
          })
