-- Codewords and digits of lists of types, put together and taken apart. Assumes nothing.
--
--   shapes ts             the codewords of types: 3 for any of 3 to 5
--   type_bits_below, type_digits_below   bits are below 2 and digits below 3
--   shapes_read           the codewords are read from the bits of types, whatever follows
--   shapes_digits, shapes_again   they have as many digits, and with these they are the types
--   more_coded, none_coded   codewords that are read with one more before them; none are read where bits run out
--   Coded, codes_read     codewords that are read stand in the bits
--   with_bits, with_length, with_digits_lem, with_types   with digits they are as many types, which have these bits and digits
use Prim.Native.Nat.{ℕ, zero, suc, ◌+◌}
use native.Mathlib.Nat.{suc_inj}
use native.Mathlib.Omega.{arith}
use mathlib.Core.Path.{◌≡◌, refl, sym, ap, ◌∙◌}
use mathlib.Core.Bool.{true, false≢true}
use mathlib.Core.List.{List, [], ◌∷◌, ◌++◌, append_assoc}
use lib.Dec.{ltb}
use lib.ListN.{length, length-append}
use borrow.Author.Tests.{lt-ltb}
use Rattle.model.specs.Numbers.{all_below}
use Rattle.model.specs.Mesh.{code_a, type_bits, digit_of, type_digits}
use Rattle.model.proofs.Booleans.{and_left, and_right, both}
use Rattle.model.proofs.Below.{below_head, below_tail}
use Rattle.packing.specs.Types.{is_type, all_types, Codes, coded, short, more, read_codes, with_digits}

-- ---- types

unfoldable pub shape : ℕ → ℕ
shape zero = 0
shape (suc zero) = 1
shape (suc (suc zero)) = 2
shape (suc (suc (suc n))) = 3

unfoldable pub shapes : List ℕ → List ℕ
shapes [] = []
shapes (t ∷ ts) = shape t ∷ shapes ts

pub type_bits_below : (ts : List ℕ) → all_below 2 (type_bits ts) ≡ true
unfolding type_bits all_below code_a
type_bits_below [] = refl
type_bits_below (zero ∷ ts) = type_bits_below ts
type_bits_below (suc zero ∷ ts) = type_bits_below ts
type_bits_below (suc (suc zero) ∷ ts) = type_bits_below ts
type_bits_below (suc (suc (suc n)) ∷ ts) = type_bits_below ts

pub type_digits_below : (ts : List ℕ) → all_types ts ≡ true → all_below 3 (type_digits ts) ≡ true
unfolding type_digits all_below digit_of all_types is_type
type_digits_below [] e = refl
type_digits_below (zero ∷ ts) e = absurd (false≢true e)
type_digits_below (suc zero ∷ ts) e = type_digits_below ts e
type_digits_below (suc (suc zero) ∷ ts) e = type_digits_below ts e
type_digits_below (suc (suc (suc n)) ∷ ts) e = both (and_left (ltb n 3) (all_types ts) e) (type_digits_below ts (and_right (ltb n 3) (all_types ts) e))

pub shapes_digits : (ts : List ℕ) → length (type_digits (shapes ts)) ≡ length (type_digits ts)
unfolding type_digits digit_of shapes shape
shapes_digits [] = refl
shapes_digits (zero ∷ ts) = shapes_digits ts
shapes_digits (suc zero ∷ ts) = shapes_digits ts
shapes_digits (suc (suc zero) ∷ ts) = shapes_digits ts
shapes_digits (suc (suc (suc n)) ∷ ts) = ap suc (shapes_digits ts)

pub shapes_again : (ts : List ℕ) → with_digits (shapes ts) (type_digits ts) ≡ ts
unfolding type_digits digit_of shapes shape with_digits
shapes_again [] = refl
shapes_again (zero ∷ ts) = ap (λ (x : List ℕ). 0 ∷ x) (shapes_again ts)
shapes_again (suc zero ∷ ts) = ap (λ (x : List ℕ). 1 ∷ x) (shapes_again ts)
shapes_again (suc (suc zero) ∷ ts) = ap (λ (x : List ℕ). 2 ∷ x) (shapes_again ts)
shapes_again (suc (suc (suc n)) ∷ ts) = ap (λ (x : List ℕ). suc (suc (suc n)) ∷ x) (shapes_again ts)

pub shapes_read : (ts : List ℕ) → all_types ts ≡ true → (rest : List ℕ) → read_codes (length ts) (type_bits ts ++ rest) ≡ coded (shapes ts) (length (type_bits ts))
unfolding read_codes type_bits code_a shapes shape all_types is_type
shapes_read [] e rest = refl
shapes_read (zero ∷ ts) e rest = absurd (false≢true e)
shapes_read (suc zero ∷ ts) e rest = ap (more 1 2) (shapes_read ts e rest) ∙ ap (coded (1 ∷ shapes ts)) (omega arith)
shapes_read (suc (suc zero) ∷ ts) e rest = ap (more 2 2) (shapes_read ts e rest) ∙ ap (coded (2 ∷ shapes ts)) (omega arith)
shapes_read (suc (suc (suc n)) ∷ ts) e rest =
    ap (more 3 1) (shapes_read ts (and_right (ltb n 3) (all_types ts) e) rest) ∙ ap (coded (3 ∷ shapes ts)) (omega arith)

-- ---- codewords

-- codewords ss of c bits at the head of bs
pub record Coded (n : ℕ) (bs ss : List ℕ) (c : ℕ) : Type 0 where
  pub many : length ss ≡ n
  pub used : c ≡ length (type_bits ss)
  pub rest : List ℕ
  pub stands : bs ≡ type_bits ss ++ rest
  pub proper : all_types ss ≡ true

pub none_coded : (ss : List ℕ) (c : ℕ) → short ≡ coded ss c → ⊥
none_coded ss c e = let z : ◌≡◌ {A = ℕ} 0 1 = cc in omega arith

pub more_coded : (t k : ℕ) (r : Codes) (ss : List ℕ) (c : ℕ) → more t k r ≡ coded ss c
    → (us : List ℕ) × (d : ℕ) × (r ≡ coded us d) × (ss ≡ t ∷ us) × (c ≡ k + d)
more_coded t k (coded us d) ss c e = (us, d, refl, cc, cc)
more_coded t k short ss c e = absurd (none_coded ss c e)

-- a codeword more, at the head of bits
one_more : (t n : ℕ) (bs us ss : List ℕ) (k c d : ℕ) → k ≡ length (code_a t) → is_type t ≡ true → ss ≡ t ∷ us → c ≡ k + d → Coded n bs us d
    → Coded (suc n) (code_a t ++ bs) ss c
unfolding type_bits all_types
one_more t n bs us ss k c d l p s u i = record {
  many = ap length s ∙ ap suc i.many;
  used = let v = i.used in let w = length-append (code_a t) (type_bits us) in u ∙ omega arith ∙ ap (λ (x : List ℕ). length (type_bits x)) (sym s);
  rest = i.rest;
  stands =
      ap (λ (x : List ℕ). code_a t ++ x) i.stands ∙ sym (append_assoc (code_a t) (type_bits us) i.rest)
      ∙ ap (λ (x : List ℕ). type_bits x ++ i.rest) (sym s);
  proper = ap all_types s ∙ both p i.proper;
}

pub codes_read : (n : ℕ) (bs ss : List ℕ) (c : ℕ) → all_below 2 bs ≡ true → read_codes n bs ≡ coded ss c → Coded n bs ss c
unfolding read_codes type_bits code_a all_types is_type
codes_read zero bs ss c b e =
    let s : ss ≡ [] = cc in
    let u : c ≡ 0 = cc in
    record {
      many = ap length s;
      used = u ∙ ap (λ (x : List ℕ). length (type_bits x)) (sym s);
      rest = bs;
      stands = ap (λ (x : List ℕ). type_bits x ++ bs) (sym s);
      proper = ap all_types s;
    }
codes_read (suc n) [] ss c b e = absurd (none_coded ss c e)
codes_read (suc n) (zero ∷ []) ss c b e = absurd (none_coded ss c e)
codes_read (suc n) (zero ∷ zero ∷ bs) ss c b e =
    let (us, d, r, s, u) = more_coded 1 2 (read_codes n bs) ss c e in
    one_more 1 n bs us ss 2 c d refl refl s u (codes_read n bs us d (below_tail 2 0 bs (below_tail 2 0 (0 ∷ bs) b)) r)
codes_read (suc n) (zero ∷ suc zero ∷ bs) ss c b e =
    let (us, d, r, s, u) = more_coded 2 2 (read_codes n bs) ss c e in
    one_more 2 n bs us ss 2 c d refl refl s u (codes_read n bs us d (below_tail 2 1 bs (below_tail 2 0 (1 ∷ bs) b)) r)
codes_read (suc n) (zero ∷ suc (suc a) ∷ bs) ss c b e =
    absurd (omega (arith, below_head 2 (suc (suc a)) bs (below_tail 2 0 (suc (suc a) ∷ bs) b)))
codes_read (suc n) (suc zero ∷ bs) ss c b e =
    let (us, d, r, s, u) = more_coded 3 1 (read_codes n bs) ss c e in
    one_more 3 n bs us ss 1 c d refl refl s u (codes_read n bs us d (below_tail 2 1 bs b) r)
codes_read (suc n) (suc (suc a) ∷ bs) ss c b e = absurd (omega (arith, below_head 2 (suc (suc a)) bs b))

-- ---- codewords with digits

pub with_bits : (ss ds : List ℕ) → type_bits (with_digits ss ds) ≡ type_bits ss
unfolding type_bits code_a with_digits
with_bits [] ds = refl
with_bits (zero ∷ ss) ds = with_bits ss ds
with_bits (suc zero ∷ ss) ds = ap (λ (x : List ℕ). 0 ∷ 0 ∷ x) (with_bits ss ds)
with_bits (suc (suc zero) ∷ ss) ds = ap (λ (x : List ℕ). 0 ∷ 1 ∷ x) (with_bits ss ds)
with_bits (suc (suc (suc n)) ∷ ss) [] = ap (λ (x : List ℕ). 1 ∷ x) (with_bits ss [])
with_bits (suc (suc (suc n)) ∷ ss) (d ∷ ds) = ap (λ (x : List ℕ). 1 ∷ x) (with_bits ss ds)

pub with_length : (ss ds : List ℕ) → length (with_digits ss ds) ≡ length ss
unfolding with_digits
with_length [] ds = refl
with_length (zero ∷ ss) ds = ap suc (with_length ss ds)
with_length (suc zero ∷ ss) ds = ap suc (with_length ss ds)
with_length (suc (suc zero) ∷ ss) ds = ap suc (with_length ss ds)
with_length (suc (suc (suc n)) ∷ ss) [] = ap suc (with_length ss [])
with_length (suc (suc (suc n)) ∷ ss) (d ∷ ds) = ap suc (with_length ss ds)

pub with_digits_lem : (ss ds : List ℕ) → length ds ≡ length (type_digits ss) → type_digits (with_digits ss ds) ≡ ds
unfolding type_digits digit_of with_digits
with_digits_lem [] [] l = refl
with_digits_lem [] (d ∷ ds) l = absurd (omega arith)
with_digits_lem (zero ∷ ss) ds l = with_digits_lem ss ds l
with_digits_lem (suc zero ∷ ss) ds l = with_digits_lem ss ds l
with_digits_lem (suc (suc zero) ∷ ss) ds l = with_digits_lem ss ds l
with_digits_lem (suc (suc (suc n)) ∷ ss) [] l = absurd (omega arith)
with_digits_lem (suc (suc (suc n)) ∷ ss) (d ∷ ds) l = ap (λ (x : List ℕ). d ∷ x) (with_digits_lem ss ds (suc_inj l))

pub with_types : (ss ds : List ℕ) → all_types ss ≡ true → all_below 3 ds ≡ true → all_types (with_digits ss ds) ≡ true
unfolding all_types is_type with_digits
with_types [] ds e b = refl
with_types (zero ∷ ss) ds e b = absurd (false≢true e)
with_types (suc zero ∷ ss) ds e b = with_types ss ds e b
with_types (suc (suc zero) ∷ ss) ds e b = with_types ss ds e b
with_types (suc (suc (suc n)) ∷ ss) [] e b = with_types ss [] (and_right (ltb n 3) (all_types ss) e) b
with_types (suc (suc (suc n)) ∷ ss) (d ∷ ds) e b =
    both (lt-ltb d 3 (below_head 3 d ds b)) (with_types ss ds (and_right (ltb n 3) (all_types ss) e) (below_tail 3 d ds b))
