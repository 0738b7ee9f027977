-- Bytes of zeros have bits of zeros.
--
--   zero_bits            the bits of n zero bytes
use Prim.Native.Nat.{ℕ, zero, suc, ◌*◌}
use native.Mathlib.Omega.{arith}
use mathlib.Core.Path.{◌≡◌, refl, sym, ap, ◌∙◌}
use mathlib.Core.List.{List, ◌∷◌}
use lib.ListN.{replicate, length-replicate}
use Rattle.packing.specs.Unpack.{digits_of, unpack, bits}

-- the same entry eight times in front
eight : ℕ → List ℕ → List ℕ
eight x l = x ∷ x ∷ x ∷ x ∷ x ∷ x ∷ x ∷ x ∷ l

unpacked : (n : ℕ) → unpack 2 8 n (replicate n 0) ≡ replicate (8 * n) 0
unfolding unpack digits_of eight
unpacked zero = refl
unpacked (suc n) =
    let e : 8 * suc n ≡ suc (suc (suc (suc (suc (suc (suc (suc (8 * n)))))))) = omega arith in
    ap (eight 0) (unpacked n) ∙ sym (ap (λ (k : ℕ). replicate k 0) e)

pub zero_bits : (n : ℕ) → bits (replicate n 0) ≡ replicate (8 * n) 0
unfolding bits
zero_bits n = ap (λ (k : ℕ). unpack 2 8 k (replicate n 0)) (length-replicate n 0) ∙ unpacked n
