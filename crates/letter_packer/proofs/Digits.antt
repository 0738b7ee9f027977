-- Letters as digits to the base 4, position by position, and the bytes that they make. Assumes nothing.
--
--   Entry n w i x        x is the code of the letter at position i: one more than its digit, which is small
--   entry                the entries of the word are such
--   four_is, two_is      the byte of four letters, and of the last two
--   full_more            one byte more
--   payload_even, payload_odd   the full bytes are the payload, or the last two letters follow
use Prim.Native.Nat.{ℕ, zero, suc, ◌+◌, ◌-◌, ◌*◌, ◌/◌, ◌%◌, ◌≤◌, ◌<◌}
use native.Mathlib.Nat.{not-suc-le-zero, le_of_suc-le-suc}
use native.Mathlib.Omega.{arith}
use native.Mathlib.Numerals.{add-one}
use mathlib.Core.Path.{◌≡◌, refl, sym, ap, ◌∙◌}
use mathlib.Core.List.{List, [], ◌∷◌, map}
use lib.ListN.{length, get_or, set, drop, length-drop, length-map}
use lib.Seq.{get_or-drop}
use Rattle.model.specs.Traversal.{Letter, down, up, first, second, code}
use Rattle.model.specs.Record.{digits_from, digits, pack, bytes_for}
use Rattle.model.proofs.Fitness.{below_all}
use Rattle.packing.specs.Letters.{letter_digit, letters_payload}
use Rattle.packing.proofs.Packed.{pack_length, pack_more}
use Rattle.packing.proofs.Letters.{digits_small}
use Rattle.work.specs.Map.{LETTERS}
use Rattle.work.specs.Area.{placed}
use Rattle.work.specs.Letters.{letters_in, Coded}
use Rattle.work.proofs.Regions.{getD-region, placed_snoc}
use Rattle.work.proofs.Letters.{length_letters}
use Rattle.letter_packer.specs.Digits.{digits_at}

-- ---- codes and digits

code_digit : (l : Letter) → code l ≡ suc (letter_digit l)
unfolding letter_digit
code_digit down = refl
code_digit up = refl
code_digit first = refl
code_digit second = refl

code_at : (v : List Letter) (i : ℕ) → i < length v → get_or (map code v) i 0 ≡ suc (get_or (map letter_digit v) i 0)
code_at [] i h = absurd (not-suc-le-zero h)
code_at (l ∷ v) zero h = code_digit l
code_at (l ∷ v) (suc i) h = code_at v i (le_of_suc-le-suc h)

-- ---- entries of the word

abbrev pub Entry : ℕ → List ℕ → ℕ → ℕ → Type 0
Entry n w i x = (x ≡ suc (get_or (digits_at 0 n w) i 0)) × (x ≤ 4)

module _ (n : ℕ) (w : List ℕ) (room : 16 * n ≤ length w) (coded : Coded n w) where
  abbrev ds : List ℕ
  ds = map letter_digit (letters_in n w)

  length_ds : length ds ≡ n
  length_ds = length-map (letters_in n w) letter_digit ∙ length_letters n w (omega arith)

  pub entry : (i : ℕ) → i < n → Entry n w i (get_or w (LETTERS * n + i) 0)
  unfolding digits_at
  entry i h =
      let l = length_letters n w (omega arith) in
      let e = sym (getD-region (LETTERS * n) n w i h) ∙ ap (λ (xs : List ℕ). get_or xs i 0) coded ∙ code_at (letters_in n w) i (omega arith) in
      let s = below_all 4 ds (digits_small (letters_in n w)) i (let m = length_ds in omega arith) in
      (e, omega arith)

-- ---- bytes

-- the number that four digits make, and two with none behind them
four_digits : (xs : List ℕ) → 4 ≤ length xs → digits 4 4 xs ≡ 64 * get_or xs 0 0 + 16 * get_or xs 1 0 + 4 * get_or xs 2 0 + get_or xs 3 0
unfolding digits_from
four_digits [] h = absurd (omega arith)
four_digits (a ∷ []) h = absurd (omega arith)
four_digits (a ∷ b ∷ []) h = absurd (omega arith)
four_digits (a ∷ b ∷ c ∷ []) h = absurd (omega arith)
four_digits (a ∷ b ∷ c ∷ d ∷ xs) h = omega arith

two_digits : (xs : List ℕ) → length xs ≡ 2 → digits 4 4 xs ≡ 64 * get_or xs 0 0 + 16 * get_or xs 1 0
unfolding digits_from
two_digits [] h = absurd (omega arith)
two_digits (a ∷ []) h = absurd (omega arith)
two_digits (a ∷ b ∷ []) h = omega arith
two_digits (a ∷ b ∷ c ∷ xs) h = absurd (omega arith)

module _ (n : ℕ) (w : List ℕ) (room : 16 * n ≤ length w) (coded : Coded n w) (i : ℕ) where
  from : (j k : ℕ) → k ≡ i + j → get_or (digits_at i n w) j 0 ≡ get_or (digits_at 0 n w) k 0
  unfolding digits_at
  from j k q = rw q (get_or-drop i (map letter_digit (letters_in n w)) j 0)

  left : length (digits_at i n w) ≡ n - i
  unfolding digits_at
  left = length-drop i (map letter_digit (letters_in n w)) ∙ ap (λ (k : ℕ). k - i) (length_ds n w room coded)

  abbrev at : ℕ → ℕ
  at k = get_or (digits_at 0 n w) k 0

  pub four_is : i + 4 ≤ n → 64 * at i + 16 * at (i + 1) + 4 * at (i + 2) + at (i + 3) ≡ digits 4 4 (digits_at i n w)
  four_is h =
      let l = left in
      let e = four_digits (digits_at i n w) (omega arith) in
      let a = from 0 i (omega arith) in let b = from 1 (i + 1) refl in let c = from 2 (i + 2) refl in let d = from 3 (i + 3) refl in omega arith

  pub two_is : i + 2 ≡ n → 64 * at i + 16 * at (i + 1) ≡ digits 4 4 (digits_at i n w)
  two_is h =
      let l = left in
      let e = two_digits (digits_at i n w) (omega arith) in
      let a = from 0 i (omega arith) in let b = from 1 (i + 1) refl in omega arith

-- ---- the payload

module _ (at m : ℕ) (w out : List ℕ) where
  abbrev digits_all : List ℕ
  digits_all = digits_at 0 (2 * m) w

  drop_at : (i : ℕ) → digits_at i (2 * m) w ≡ drop i digits_all
  unfolding digits_at
  drop_at i = refl

  pub full_more : (i x : ℕ) (mid : List ℕ) → at + i < length out → x ≡ digits 4 4 (digits_at (4 * i) (2 * m) w)
      → mid ≡ placed at (pack 4 4 i digits_all) out → set mid (at + i) x ≡ placed at (pack 4 4 (i + 1) digits_all) out
  full_more i x mid h d p =
      let l = pack_length 4 4 i digits_all in
      let e : 4 * i ≡ i * 4 = omega arith in
      rw (
        p,
        add-one i,
        pack_more 4 4 i digits_all,
        ← e,
        ← drop_at (4 * i),
        ← d,
        ← placed_snoc at (pack 4 4 i digits_all) out x (omega arith),
        l,
      )

  module _ (room : 32 * m ≤ length w) where
    payload_is : letters_payload (letters_in (2 * m) w) ≡ pack 4 4 (bytes_for (2 * m) 4) digits_all
    unfolding letters_payload digits_at
    payload_is = rw (length_letters (2 * m) w (omega arith))

    pub payload_even : m % 2 ≡ 0 → (out' : List ℕ) → out' ≡ placed at (pack 4 4 (m / 2) digits_all) out
        → out' ≡ placed at (letters_payload (letters_in (2 * m) w)) out
    payload_even e out' p = let q : m / 2 ≡ bytes_for (2 * m) 4 = omega arith in p ∙ rw (payload_is, q)

    pub payload_odd : (m % 2 ≡ 0 → ⊥) → (x : ℕ) (mid : List ℕ) → at + m / 2 < length out → x ≡ digits 4 4 (digits_at (2 * m - 2) (2 * m) w)
        → mid ≡ placed at (pack 4 4 (m / 2) digits_all) out → set mid (at + m / 2) x ≡ placed at (letters_payload (letters_in (2 * m) w)) out
    payload_odd o x mid h d p =
        let q : m / 2 + 1 ≡ bytes_for (2 * m) 4 = omega arith in
        let e : 4 * (m / 2) ≡ 2 * m - 2 = omega arith in
        full_more (m / 2) x mid h (rw e d) p ∙ rw (payload_is, q)
