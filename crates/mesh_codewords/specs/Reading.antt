-- Codewords read from bits.
--
--   code_head bs           the codeword at the head of the bits bs, 3 for any of types 3 to 5; none where they run out
--   code_of x              the codeword that begins with the two bits that make x
--   after ss c cs         the codewords ss of c bits, before cs
--   Reading bs n a w₀ w c l i   i of n codewords in bs are read: they stand in w from place a on, have c bits and want l digits; w₀ is as long
--   CodesRead cs a n r w  what reading n codewords hands back, by cases, where cs are those of the specification: they stand in w from place a on, their bits and
--                         digits are counted
use Rattle.std.specs.Prelude.{ℕ, zero, suc, ◌+◌, ◌-◌, ◌≤◌, ◌≡◌, cond, Option, Some, None, List, [], ◌∷◌, ◌++◌, ltb, length, drop}
use Rattle.model.specs.Mesh.{type_digits}
use Rattle.packing.specs.Types.{Codes, coded, short, read_codes}
use Rattle.work.specs.Area.{region}
use Rattle.mesh_codewords.specs.declared.Counts.{Counts}

unfoldable pub code_head : List ℕ → Option ℕ
code_head [] = None
code_head (zero ∷ []) = None
code_head (zero ∷ b ∷ bs) = Some (suc b)
code_head (suc a ∷ bs) = Some 3

unfoldable pub code_of : ℕ → ℕ
code_of x = cond (ltb x 2) (x + 1) 3

abbrev pub after : List ℕ → ℕ → Codes → Codes
after ss c (coded us d) = coded (ss ++ us) (c + d)
after ss c short = short

pub record Reading (bs : List ℕ) (n a : ℕ) (w₀ w : List ℕ) (c l i : ℕ) : Type 0 where
  pub some : i ≤ n
  pub fits : c ≤ length bs
  pub digits : l ≡ length (type_digits (region a i w))
  pub few : l ≤ i
  pub left : after (region a i w) c (read_codes (n - i) (drop c bs)) ≡ read_codes n bs
  pub kept : length w ≡ length w₀

unfoldable pub CodesRead : Codes → ℕ → ℕ → Option Counts → List ℕ → Type 0
CodesRead cs a n (Some r) w = (cs ≡ coded (region a n w) r.bits) × (r.digits ≡ length (type_digits (region a n w)))
CodesRead cs a n None w = cs ≡ short
