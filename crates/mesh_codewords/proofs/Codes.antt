-- Codewords read one by one: those that are read and those that are left are those of the specification. Assumes nothing.
--
--   head_none, head_one, head_last, head_two   the codeword from place c on, by bits; head_below, head_fits   it is below 4, and its bits are there
--   digits_append, digits_count   the digits of codewords, part by part; one has one or none
--   head_pair             the codeword from place c on, by two bits
--   reading_start, reading_on   none is read; one more is
--   reading_short, reading_end   what is handed back where the bits run out, and after the last codeword
use Prim.Native.Nat.{ℕ, zero, suc, ◌+◌, ◌*◌, ◌-◌, ◌/◌, ◌≤◌, ◌<◌}
use native.Mathlib.Nat.{zero-add, add-zero, sub-zero, add_assoc}
use native.Mathlib.Omega.{arith}
use mathlib.Core.Path.{◌≡◌, refl, sym, ap, ◌∙◌}
use mathlib.Core.Logic.{◌≢◌}
use mathlib.Core.Bool.{true}
use mathlib.Core.List.{List, [], ◌∷◌, ◌++◌, append-nil, append_assoc}
use Rattle.std.specs.Prelude.{Some, None}
use lib.ListN.{length, get_or, set, drop, length-append, length-drop, length-set, drop_of_length-le}
use lib.Seq.{drop-cons, drop-drop}
use borrow.Author.Tests.{lt-ltb, le-ltb}
use Rattle.model.specs.Numbers.{all_below}
use Rattle.model.specs.Mesh.{digit_of, type_digits}
use Rattle.model.proofs.Below.{below_head, below_tail, below_drop}
use Rattle.model.proofs.Permutations.{below_all}
use Rattle.packing.specs.Types.{Codes, coded, short, more, read_codes}
use Rattle.orbits.proofs.Order.{lt_or_le}
use Rattle.work.specs.Area.{region}
use Rattle.work.proofs.Regions.{region_push}
use Rattle.mesh_codewords.specs.Reading.{code_head, code_of, after, Reading, CodesRead}

-- ---- one codeword

one_bit : (x : ℕ) (xs : List ℕ) → x ≢ 0 → code_head (x ∷ xs) ≡ Some 3
unfolding code_head
one_bit zero xs d = absurd (d refl)
one_bit (suc x) xs d = refl

module _ (bs : List ℕ) (c : ℕ) where
  pub head_none : length bs ≤ c → code_head (drop c bs) ≡ None
  unfolding code_head
  head_none h = rw (drop_of_length-le bs h)

  module _ (h : c < length bs) where
    pub head_one : get_or bs c 0 ≢ 0 → code_head (drop c bs) ≡ Some 3
    head_one d = rw (drop-cons bs c 0 h) (one_bit _ _ d)

    pub head_last : get_or bs c 0 ≡ 0 → length bs ≤ c + 1 → code_head (drop c bs) ≡ None
    unfolding code_head
    head_last z l = rw (drop-cons bs c 0 h, z, drop_of_length-le bs {i = suc c} (omega arith))

    pub head_two : get_or bs c 0 ≡ 0 → c + 1 < length bs → code_head (drop c bs) ≡ Some (get_or bs (c + 1) 0 + 1)
    unfolding code_head
    head_two z l = let n : c + 1 ≡ suc c = omega arith in rw (n, drop-cons bs c 0 h, z, drop-cons bs (suc c) 0 (omega arith)) (ap Some (omega arith))

    pub head_pair : all_below 2 bs ≡ true → c + 1 < length bs → (x : ℕ) → x ≡ 2 * get_or bs c 0 + get_or bs (c + 1) 0 → code_head (drop c bs) ≡ Some (code_of x)
    unfolding code_of
    head_pair b l x e =
        let low = below_all 2 bs b (c + 1) l in
        lt_or_le x 2
        (λ h. head_two (omega arith) l ∙ rw (lt-ltb x 2 h) (ap Some (omega arith)))
        (λ h. head_one (λ z. omega arith) ∙ rw (le-ltb x 2 h) refl)

pub head_below : (xs : List ℕ) (t : ℕ) → all_below 2 xs ≡ true → code_head xs ≡ Some t → t < 4
unfolding code_head
head_below [] t e q = cc
head_below (zero ∷ []) t e q = cc
head_below (zero ∷ b ∷ bs) t e q = let s : suc b ≡ t = cc in let h = below_head 2 b bs (below_tail 2 0 (b ∷ bs) e) in omega arith
head_below (suc a ∷ bs) t e q = let s : 3 ≡ t = cc in omega arith

pub head_fits : (xs : List ℕ) (t : ℕ) → code_head xs ≡ Some t → 2 - t / 3 ≤ length xs
unfolding code_head
head_fits [] t q = cc
head_fits (zero ∷ []) t q = cc
head_fits (zero ∷ b ∷ bs) t q = omega arith
head_fits (suc a ∷ bs) t q = let s : 3 ≡ t = cc in omega arith

head_short : (n : ℕ) (xs : List ℕ) → code_head xs ≡ None → read_codes (suc n) xs ≡ short
unfolding code_head read_codes
head_short n [] z = refl
head_short n (zero ∷ []) z = refl
head_short n (zero ∷ b ∷ bs) z = cc
head_short n (suc a ∷ bs) z = cc

head_more : (n : ℕ) (xs : List ℕ) (t : ℕ) → all_below 2 xs ≡ true → code_head xs ≡ Some t
    → read_codes (suc n) xs ≡ more t (2 - t / 3) (read_codes n (drop (2 - t / 3) xs))
unfolding code_head read_codes
head_more n [] t e q = cc
head_more n (zero ∷ []) t e q = cc
head_more n (zero ∷ b ∷ bs) t e q =
    let s : suc b ≡ t = cc in
    let h = below_head 2 b bs (below_tail 2 0 (b ∷ bs) e) in let two : 2 - suc b / 3 ≡ 2 = omega arith in rw (← s, two)
head_more n (suc a ∷ bs) t e q = let s : 3 ≡ t = cc in rw (← s)

-- ---- digits

pub digits_append : (ss us : List ℕ) → type_digits (ss ++ us) ≡ type_digits ss ++ type_digits us
unfolding type_digits
digits_append [] us = refl
digits_append (s ∷ ss) us = rw (digits_append ss us) (sym (append_assoc (digit_of s) (type_digits ss) (type_digits us)))

pub digits_count : (t : ℕ) → t < 4 → length (digit_of t) ≡ t / 3
unfolding digit_of
digits_count zero h = refl
digits_count (suc zero) h = refl
digits_count (suc (suc zero)) h = refl
digits_count (suc (suc (suc n))) h = omega arith

digits_snoc : (ss : List ℕ) (t : ℕ) → t < 4 → length (type_digits (ss ++ (t ∷ []))) ≡ length (type_digits ss) + t / 3
unfolding type_digits
digits_snoc ss t h =
    let e = digits_count t h in
    let f = length-append (type_digits ss) (digit_of t) in
    ap length (digits_append ss (t ∷ []) ∙ ap (λ (x : List ℕ). type_digits ss ++ x) (append-nil (digit_of t))) ∙ omega arith

-- ---- one after the other

after_more : (ss : List ℕ) (c t k : ℕ) (cs : Codes) → after ss c (more t k cs) ≡ after (ss ++ (t ∷ [])) (c + k) cs
after_more ss c t k (coded us d) = rw (append_assoc ss (t ∷ []) us, add_assoc c k d)
after_more ss c t k short = refl

after_none : (cs : Codes) → after [] 0 cs ≡ cs
after_none (coded us d) = rw (zero-add d)
after_none short = refl

module _ (bs : List ℕ) (n a : ℕ) (w₀ : List ℕ) where
  pub reading_start : Reading bs n a w₀ w₀ 0 0 0
  unfolding region type_digits
  reading_start = record {
    some = omega arith;
    fits = omega arith;
    digits = refl;
    few = omega arith;
    left = rw (sub-zero n) (after_none (read_codes n bs));
    kept = refl;
  }

  module _ (w : List ℕ) (c l i : ℕ) (x : Reading bs n a w₀ w c l i) where
    pub reading_on : all_below 2 bs ≡ true → a + n ≤ length w₀ → i < n → (t : ℕ) → code_head (drop c bs) ≡ Some t
        → Reading bs n a w₀ (set w (a + i) t) (c + (2 - t / 3)) (l + t / 3) (i + 1)
    reading_on b room h t q =
        let xs = drop c bs in
        let k = x.kept in
        let below = below_drop 2 c bs b in
        let low = head_below xs t below q in
        let len = length-drop c bs in
        let bits-there = head_fits xs t q in
        let dig = x.digits in
        let few = x.few in
        let fit = x.fits in
        let stored = region_push a i t w (omega arith) in
        let one : n - i ≡ suc (n - (i + 1)) = omega arith in
        record {
          some = omega arith;
          fits = omega arith;
          digits = ap (λ (y : ℕ). y + t / 3) dig ∙ sym (digits_snoc (region a i w) t (omega arith)) ∙ ap (λ (y : List ℕ). length (type_digits y)) (sym stored);
          few = omega arith;
          left =
              ap (λ (y : List ℕ). after y (c + (2 - t / 3)) (read_codes (n - (i + 1)) (drop (c + (2 - t / 3)) bs))) stored
              ∙ sym (after_more (region a i w) c t (2 - t / 3) (read_codes (n - (i + 1)) (drop (c + (2 - t / 3)) bs)))
              ∙ ap (λ (y : List ℕ). after (region a i w) c (more t (2 - t / 3) (read_codes (n - (i + 1)) y))) (sym (drop-drop (2 - t / 3) c bs))
              ∙ ap (after (region a i w) c) (sym (head_more (n - (i + 1)) xs t below q))
              ∙ ap (λ (y : ℕ). after (region a i w) c (read_codes y xs)) (sym one)
              ∙ x.left;
          kept = length-set w (a + i) t ∙ k;
        }

    pub reading_short : i < n → code_head (drop c bs) ≡ None → CodesRead (read_codes n bs) a n None w
    unfolding CodesRead
    reading_short h z =
        let one : n - i ≡ suc (n - (i + 1)) = omega arith in
        sym x.left ∙ ap (λ (y : ℕ). after (region a i w) c (read_codes y (drop c bs))) one
        ∙ ap (after (region a i w) c) (head_short (n - (i + 1)) (drop c bs) z)

    pub reading_end : n ≤ i → CodesRead (read_codes n bs) a n (Some record { bits = c; digits = l }) w
    unfolding CodesRead read_codes
    reading_end h =
        let s = x.some in
        let all : i ≡ n = omega arith in
        let none : n - i ≡ 0 = omega arith in (
          sym x.left ∙ ap (λ (y : ℕ). after (region a i w) c (read_codes y (drop c bs))) none
              ∙ rw (append-nil (region a i w), add-zero c) (ap (λ (y : ℕ). coded (region a y w) c) all),
          x.digits ∙ ap (λ (y : ℕ). length (type_digits (region a y w))) all,
        )
