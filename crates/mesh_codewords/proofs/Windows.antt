-- Codewords read from eight bytes: as many as these hold whatever they are.
--
--   code_short, code_long   the codeword of two bits; code_digits   it has a digit where the first bit is 1
--   Among                 codewords are read up to i of those that end before `end`; the eight bytes begin with byte q
--   among_on              one more is read
--   among_few             the place of the next bit within the bytes
use Prim.Native.Nat.{ℕ, ◌+◌, ◌-◌, ◌*◌, ◌/◌, ◌%◌, ◌^◌, ◌≤◌, ◌<◌}
use native.Mathlib.Omega.{arith}
use mathlib.Core.Path.{◌≡◌, sym, ap, ◌∙◌, subst}
use Rattle.std.specs.Prelude.{Some}
use mathlib.Core.List.{List}
use lib.ListN.{length, get_or, set, drop}
use borrow.Author.Tests.{lt-ltb, le-ltb}
use Rattle.model.specs.Record.{digits}
use Rattle.orbits.proofs.Order.{lt_or_le}
use Rattle.packing.specs.Unpack.{bits}
use Rattle.packing.proofs.Packed.{length_bits, bits_below}
use Rattle.bit_window.proofs.Numbers.{window_pair}
use Rattle.mesh_codewords.specs.Reading.{code_of, Reading}
use Rattle.mesh_codewords.proofs.Codes.{head_pair, reading_on}

module _ (x : ℕ) where
  pub code_short : x < 2 → code_of x ≡ x + 1
  unfolding code_of
  code_short h = rw (lt-ltb x 2 h)

  pub code_long : 2 ≤ x → code_of x ≡ 3
  unfolding code_of
  code_long h = rw (le-ltb x 2 h)

  code_digits : x < 4 → code_of x / 3 ≡ x / 2
  code_digits low = lt_or_le x 2 (λ h. let e = code_short h in omega arith) (λ h. let e = code_long h in omega arith)

pub record Among (ps : List ℕ) (n a : ℕ) (w₀ w : List ℕ) (q end c l i : ℕ) : Type 0 where
  pub reading : Reading (bits ps) n a w₀ w c l i
  pub from : 8 * q ≤ c
  pub to : c + 2 * (end - i) ≤ 8 * q + 63
  pub within : i ≤ end

module _ (ps : List ℕ) (n a : ℕ) (w₀ w : List ℕ) (q end c l i : ℕ) (s : Among ps n a w₀ w q end c l i) (h : i < end) where
  pub among_few : c - 8 * q < 63
  among_few = omega (arith, s.to)

  module _ (room : q + 8 ≤ length ps) (space : a + n ≤ length w₀) (inside : end ≤ n) (x : ℕ)
      (window : x ≡ digits 2 64 (drop (8 * q) (bits ps))) (pair : ℕ) (is : pair ≡ x / 2 ^ (62 - (c - 8 * q)) % 4) where
    abbrev bs : List ℕ
    bs = bits ps

    all : length bs ≡ 8 * length ps
    all = length_bits ps

    two : pair ≡ 2 * get_or bs c 0 + get_or bs (c + 1) 0
    two =
        let k = c - 8 * q in
        let e : 8 * q + k ≡ c = omega (arith, s.from) in
        is ∙ ap (λ (y : ℕ). y / 2 ^ (62 - k) % 4) window ∙ window_pair ps q room k among_few ∙ ap (λ (j : ℕ). 2 * get_or bs j 0 + get_or bs (j + 1) 0) e

    pub among_on : (t : ℕ) → t ≡ code_of pair → Among ps n a w₀ (set w (a + i) t) q end (c + (2 - pair / 2)) (l + pair / 2) (i + 1)
    among_on t e =
        let low : pair < 4 = omega (arith, is) in
        let same : t / 3 ≡ pair / 2 = ap (λ (y : ℕ). y / 3) e ∙ code_digits pair low in
        let head = head_pair bs c (omega (arith, all, s.to)) (bits_below ps) (omega (arith, all, s.to)) pair two in
        record {
          reading = subst (λ (d : ℕ). Reading bs n a w₀ (set w (a + i) t) (c + (2 - d)) (l + d) (i + 1)) same
              (reading_on bs n a w₀ w c l i s.reading (bits_below ps) space (omega arith) t (head ∙ ap Some (sym e)));
          from = omega (arith, s.from);
          to = omega (arith, s.to);
          within = omega arith;
        }
