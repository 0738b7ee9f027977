-- The pass over the types, one by one.
--
--   put_two, put_one       the bits of type 1 or 2; the bit of another type, and its digit
--   Coding n count w₀ i s w   the first i types are put
--   start_coding, next_coding, end_coding   before the first, one more, after the last
--   type_here              the next type is one, and has its places
use Prim.Native.Nat.{ℕ, zero, suc, ◌+◌, ◌-◌, ◌*◌, ◌≤◌, ◌<◌}
use native.Mathlib.Nat.{not-suc-le-zero, le_of_suc-le-suc, le_refl}
use native.Mathlib.Omega.{arith}
use native.Mathlib.Numerals.{add-one}
use mathlib.Core.Path.{◌≡◌, refl, sym, ap, ◌∙◌, subst}
use mathlib.Core.Bool.{true, false≢true}
use mathlib.Core.List.{List, [], ◌∷◌, ◌++◌, append-nil, append_assoc}
use lib.ListN.{length, get_or, set, drop, length-set}
use lib.Seq.{drop-cons, drop-length}
use Rattle.model.specs.Mesh.{code_a, type_bits, digit_of, type_digits}
use Rattle.model.proofs.Booleans.{and_right}
use Rattle.packing.specs.Types.{is_type, all_types}
use Rattle.work.specs.Map.{TYPES, BITS, LABELS}
use Rattle.work.specs.Area.{region}
use Rattle.work.proofs.Regions.{length_region, getD-region, region_set_other, region_push}
use Rattle.mesh_encoder.specs.declared.Sizes.{Sizes}
use Rattle.mesh_encoder.specs.Encoded.{CodesOf}
use Rattle.mesh_encoder.specs.Passes.{Put}

-- ---- one type

code_two : (t : ℕ) → 1 ≤ t → t < 3 → code_a t ≡ 0 ∷ (t - 1) ∷ []
unfolding code_a
code_two zero o h = absurd (not-suc-le-zero o)
code_two (suc zero) o h = refl
code_two (suc (suc zero)) o h = refl
code_two (suc (suc (suc n))) o h = absurd (omega arith)

no_digit : (t : ℕ) → t < 3 → digit_of t ≡ []
unfolding digit_of
no_digit zero h = refl
no_digit (suc zero) h = refl
no_digit (suc (suc zero)) h = refl
no_digit (suc (suc (suc n))) h = absurd (omega arith)

code_one : (t : ℕ) → 3 ≤ t → (code_a t ≡ 1 ∷ []) × (digit_of t ≡ (t - 3) ∷ [])
unfolding code_a digit_of
code_one t h = let e : t ≡ suc (suc (suc (t - 3))) = omega arith in (ap code_a e, ap digit_of e)

module _ (n t : ℕ) (s : Sizes) (w : List ℕ) (room : 16 * n ≤ length w) (more : s.bits + 2 ≤ n) where
  abbrev b : ℕ
  b = BITS * n + s.bits

  pub put_two : 1 ≤ t → t < 3 → Put n t s w (record { bits = s.bits + 2; digits = s.digits }) (set (set w b 0) (b + 1) (t - 1))
  put_two o h =
      let w₁ = set w b 0 in
      let y = t - 1 in
      let l = length-set w b 0 in
      let l₂ = length-set w₁ (b + 1) y in
      let e : s.bits + 2 ≡ s.bits + 1 + 1 = omega arith in
      let f : b + 1 ≡ BITS * n + (s.bits + 1) = omega arith in
      record {
        bits =
            rw (e, f, region_push (BITS * n) (s.bits + 1) y w₁ (omega arith), region_push (BITS * n) s.bits 0 w (omega arith), code_two t o h)
            (append_assoc (region (BITS * n) s.bits w) (0 ∷ []) (y ∷ []));
        digits = rw (
          no_digit t h,
          append-nil,
          region_set_other (LABELS * n) s.digits w₁ (b + 1) y (λ k. absurd (omega arith)),
          region_set_other (LABELS * n) s.digits w b 0 (λ k. absurd (omega arith)),
        );
        few_bits = le_refl (s.bits + 2);
        few_digits = omega arith;
        types = λ k z. rw (
          region_set_other (TYPES * n) k w₁ (b + 1) y (λ z'. omega arith),
          region_set_other (TYPES * n) k w b 0 (λ z'. omega arith),
        );
        kept = l₂ ∙ l;
      }

  pub put_one : s.digits + 1 ≤ n → 3 ≤ t
      → Put n t s w (record { bits = s.bits + 1; digits = s.digits + 1 }) (set (set w b 1) (LABELS * n + s.digits) (t - 3))
  put_one some h =
      let w₁ = set w b 1 in
      let p = LABELS * n + s.digits in
      let y = t - 3 in
      let l = length-set w b 1 in
      let l₂ = length-set w₁ p y in
      let e = code_one t h in
      record {
        bits = rw (
          region_set_other (BITS * n) (s.bits + 1) w₁ p y (λ k. omega arith),
          region_push (BITS * n) s.bits 1 w (omega arith),
          e.0,
        );
        digits = rw (
          region_push (LABELS * n) s.digits y w₁ (omega arith),
          region_set_other (LABELS * n) s.digits w b 1 (λ k. absurd (omega arith)),
          e.1,
        );
        few_bits = omega arith;
        few_digits = le_refl (s.digits + 1);
        types = λ k z. rw (
          region_set_other (TYPES * n) k w₁ p y (λ z'. omega arith),
          region_set_other (TYPES * n) k w b 1 (λ z'. omega arith),
        );
        kept = l₂ ∙ l;
      }

-- ---- all types

pub record Coding (n count : ℕ) (w₀ : List ℕ) (i : ℕ) (s : Sizes) (w : List ℕ) : Type 0 where
  pub place : i ≤ count
  pub few_bits : s.bits ≤ 2 * i
  pub few_digits : s.digits ≤ i
  pub types : region (TYPES * n) count w ≡ region (TYPES * n) count w₀
  pub bits : region (BITS * n) s.bits w ++ type_bits (drop i (region (TYPES * n) count w₀)) ≡ type_bits (region (TYPES * n) count w₀)
  pub digits : region (LABELS * n) s.digits w ++ type_digits (drop i (region (TYPES * n) count w₀)) ≡ type_digits (region (TYPES * n) count w₀)
  pub kept : length w ≡ length w₀

some_type : (ts : List ℕ) → all_types ts ≡ true → (i : ℕ) → i < length ts → 1 ≤ get_or ts i 0
unfolding all_types is_type
some_type [] e i h = absurd (not-suc-le-zero h)
some_type (zero ∷ ts) e zero h = absurd (false≢true e)
some_type (suc t ∷ ts) e zero h = omega arith
some_type (t ∷ ts) e (suc i) h = some_type ts (and_right (is_type t) (all_types ts) e) i (le_of_suc-le-suc h)

module _ (n count : ℕ) (w₀ : List ℕ) (room : 16 * n ≤ length w₀) (half : 2 * count ≤ n) where
  abbrev ts : List ℕ
  ts = region (TYPES * n) count w₀

  long : length ts ≡ count
  long = length_region (TYPES * n) count w₀ (omega arith)

  pub start_coding : Coding n count w₀ 0 (record { bits = 0; digits = 0 }) w₀
  unfolding region
  start_coding = record { place = omega arith; few_bits = le_refl 0; few_digits = le_refl 0; types = refl; bits = refl; digits = refl; kept = refl }

  module _ (i : ℕ) (s : Sizes) (w : List ℕ) (at : Coding n count w₀ i s w) where
    module _ (h : i < count) where
      abbrev t : ℕ
      t = get_or w (TYPES * n + i) 0

      entry : get_or ts i 0 ≡ t
      entry = rw (← at.types) (getD-region (TYPES * n) count w i h)

      pub type_here : all_types ts ≡ true → (s.bits + 2 ≤ n) × (s.digits + 1 ≤ n) × (1 ≤ t)
      type_here e =
          let few = at.few_bits in
          let fewer = at.few_digits in
          (omega arith, omega arith, subst (λ (x : ℕ). 1 ≤ x) entry (some_type ts e i (let l = long in omega arith)))

      here : drop i ts ≡ t ∷ drop (i + 1) ts
      here = let l = long in rw (add-one, ← entry) (drop-cons ts i 0 (omega arith))

      pub next_coding : (r : Sizes) (w' : List ℕ) → Put n t s w r w' → Coding n count w₀ (i + 1) r w'
      unfolding type_bits type_digits
      next_coding r w' put =
          let a = at.few_bits in
          let b = at.few_digits in
          let c = put.few_bits in
          let d = put.few_digits in
          record {
            place = omega arith;
            few_bits = omega arith;
            few_digits = omega arith;
            types = put.types count (omega arith) ∙ at.types;
            bits =
                rw put.bits (append_assoc (region (BITS * n) s.bits w) (code_a t) (type_bits (drop (i + 1) ts)))
                ∙ rw here at at.bits;
            digits =
                rw put.digits (append_assoc (region (LABELS * n) s.digits w) (digit_of t) (type_digits (drop (i + 1) ts)))
                ∙ rw here at at.digits;
            kept = put.kept ∙ at.kept;
          }

    pub end_coding : i ≡ count → CodesOf n ts w₀ s w
    unfolding type_bits type_digits
    end_coding done =
        let all : i ≡ length ts = done ∙ sym long in
        let none : drop i ts ≡ [] = ap (λ (k : ℕ). drop k ts) all ∙ drop-length ts in
        let few = at.few_bits in
        let fewer = at.few_digits in
        let size = at.kept in
        let bits_are = rw (none, append-nil) at at.bits in
        let digits_are = rw (none, append-nil) at at.digits in
        record {
          bit_count = sym (length_region (BITS * n) s.bits w (omega arith)) ∙ ap length bits_are;
          digit_count = sym (length_region (LABELS * n) s.digits w (omega arith)) ∙ ap length digits_are;
          bits_fit = omega arith;
          digits_fit = omega arith;
          bits = bits_are;
          digits = digits_are;
          kept = size;
        }
