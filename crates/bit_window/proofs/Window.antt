-- Windows on bits. Assumes nothing.
--
--   holds_less            a window holds any fewer bits
--   holds_next            and the others when it is moved on
--   holds_moved           moved on by some bits at once
--   bit_in_byte           a bit by its byte; past the end both are 0
--   holds_bit, holds_byte   a bit and a byte in front of a window
--   joined_bytes          eight bytes as one number, the first the highest
--   holds_bytes           eight bytes are a window
--   chunk_joined, holds_chunk   so is a part of eight bytes, read at once
use Prim.Native.Nat.{ℕ, zero, suc, ◌+◌, ◌-◌, ◌*◌, ◌/◌, ◌%◌, ◌^◌, ◌≤◌, ◌<◌}
use native.Mathlib.Nat.{not-suc-le-zero, le_of_suc-le-suc, pow-suc, mul_assoc, zero-div}
use native.Mathlib.Decide.{dec_lt}
use native.Mathlib.Omega.{arith}
use mathlib.Core.Path.{◌≡◌, refl, sym, ap, ◌∙◌, subst}
use mathlib.Core.List.{List, [], ◌∷◌}
use Rattle.std.specs.Int.{w64, from_be_bytes}
use lib.ListN.{length, get_or, get_or-eq_default, take, drop}
use lib.Seq.{get_or-drop, get_or-take}
use Rattle.packing.specs.Unpack.{unpack, bits}
use Rattle.packing.proofs.Digits.{digits_of_at}
use Rattle.packing.proofs.Packed.{length_bits}
use Rattle.packing.proofs.Place.{unpack_at}
use Rattle.bit_window.specs.Window.{shifted, Holds}

module _ (bs : List ℕ) where
  pub holds_less : (word k n i : ℕ) → i ≤ n → Holds bs word k n → Holds bs word k i
  unfolding Holds
  holds_less word k n zero h x = tt
  holds_less word k zero (suc i) h x = absurd (not-suc-le-zero h)
  holds_less word k (suc n) (suc i) h (e, x) = (e, holds_less (shifted word) (k + 1) n i (le_of_suc-le-suc h) x)

  pub holds_next : (word k n : ℕ) → Holds bs word k n → Holds bs (shifted word) (k + 1) (n - 1)
  unfolding Holds
  holds_next word k zero x = tt
  holds_next word k (suc n) (e, x) = let q : suc n - 1 ≡ n = omega arith in subst (Holds bs (shifted word) (k + 1)) (sym q) x

  -- ---- in front of a window

  holds_bit : (word k n t u : ℕ) → word ≡ t * 2 ^ 63 + u → u < 2 ^ 63 → t ≡ get_or bs k 0 → Holds bs (2 * u) (k + 1) n → Holds bs word k (suc n)
  unfolding Holds
  holds_bit word k n t u e h b x =
      let top : word / 2 ^ 63 ≡ t = omega arith in
      let rest : 2 * u ≡ shifted word = omega arith in
      (top ∙ b, subst (λ (v : ℕ). Holds bs v (k + 1) n) rest x)

  -- the bits from place k on are those of the byte b
  abbrev ByteAt : ℕ → ℕ → Type 0
  ByteAt k b = (j : ℕ) → j < 8 → b / 2 ^ (7 - j) % 2 ≡ get_or bs (k + j) 0

  holds_byte : (k n b r word : ℕ) → ByteAt k b → b < 256 → r < 2 ^ 56 → word ≡ b * 2 ^ 56 + r → Holds bs (r * 256) (k + 8) n
      → Holds bs word k (suc (suc (suc (suc (suc (suc (suc (suc n))))))))
  holds_byte k n b r word at h l e x =
      let u₀ = b % 128 * 2 ^ 56 + r * 1 in let u₁ = b % 64 * 2 ^ 57 + r * 2 in
      let u₂ = b % 32 * 2 ^ 58 + r * 4 in let u₃ = b % 16 * 2 ^ 59 + r * 8 in
      let u₄ = b % 8 * 2 ^ 60 + r * 16 in let u₅ = b % 4 * 2 ^ 61 + r * 32 in
      let u₆ = b % 2 * 2 ^ 62 + r * 64 in let u₇ = r * 128 in
      let k₁ = k + 1 in let k₂ = k₁ + 1 in let k₃ = k₂ + 1 in let k₄ = k₃ + 1 in
      let k₅ = k₄ + 1 in let k₆ = k₅ + 1 in let k₇ = k₆ + 1 in let k₈ = k₇ + 1 in
      let n₁ = suc n in let n₂ = suc n₁ in let n₃ = suc n₂ in let n₄ = suc n₃ in let n₅ = suc n₄ in let n₆ = suc n₅ in let n₇ = suc n₆ in
      let final : r * 256 ≡ 2 * u₇ = omega arith in
      let far : k + 8 ≡ k₈ = omega arith in
      holds_bit word k n₇ (b / 128 % 2) u₀ (omega arith) (omega arith) (bit 0 k (omega arith) (omega arith))
      (holds_bit (2 * u₀) k₁ n₆ (b / 64 % 2) u₁ (omega arith) (omega arith) (bit 1 k₁ (omega arith) (omega arith))
      (holds_bit (2 * u₁) k₂ n₅ (b / 32 % 2) u₂ (omega arith) (omega arith) (bit 2 k₂ (omega arith) (omega arith))
      (holds_bit (2 * u₂) k₃ n₄ (b / 16 % 2) u₃ (omega arith) (omega arith) (bit 3 k₃ (omega arith) (omega arith))
      (holds_bit (2 * u₃) k₄ n₃ (b / 8 % 2) u₄ (omega arith) (omega arith) (bit 4 k₄ (omega arith) (omega arith))
      (holds_bit (2 * u₄) k₅ n₂ (b / 4 % 2) u₅ (omega arith) (omega arith) (bit 5 k₅ (omega arith) (omega arith))
      (holds_bit (2 * u₅) k₆ n₁ (b / 2 % 2) u₆ (omega arith) (omega arith) (bit 6 k₆ (omega arith) (omega arith))
      (holds_bit (2 * u₆) k₇ n (b / 1 % 2) u₇ (omega arith) (omega arith) (bit 7 k₇ (omega arith) (omega arith))
      (subst (λ (v : ℕ). Holds bs v k₈ n) final (subst (λ (p : ℕ). Holds bs (r * 256) p n) far x)))))))))
    where
      bit : (j p : ℕ) → j < 8 → k + j ≡ p → b / 2 ^ (7 - j) % 2 ≡ get_or bs p 0
      bit j p i q = at j i ∙ ap (λ (v : ℕ). get_or bs v 0) q

  holds_moved : (word k n j : ℕ) → word < 2 ^ 64 → Holds bs word k n → Holds bs (word * 2 ^ j % 2 ^ 64) (k + j) (n - j)
  holds_moved word k n zero h x =
      let e : word ≡ word * 2 ^ 0 % 2 ^ 64 = omega arith in let p : k ≡ k + 0 = omega arith in let c : n ≡ n - 0 = omega arith in
      subst (λ (v : ℕ). Holds bs v (k + 0) (n - 0)) e (subst (λ (v : ℕ). Holds bs word v (n - 0)) p (subst (Holds bs word k) c x))
  holds_moved word k n (suc j) h x =
      let y = holds_next (word * 2 ^ j % 2 ^ 64) (k + j) (n - j) (holds_moved word k n j h x) in
      let e : shifted (word * 2 ^ j % 2 ^ 64) ≡ word * 2 ^ suc j % 2 ^ 64 = twice (word * 2 ^ j) (word * 2 ^ suc j) (power word j) in
      let p : k + j + 1 ≡ k + suc j = omega arith in let c : n - j - 1 ≡ n - suc j = omega arith in
      subst (λ (v : ℕ). Holds bs v (k + suc j) (n - suc j)) e
      (subst (λ (v : ℕ). Holds bs (shifted (word * 2 ^ j % 2 ^ 64)) v (n - suc j)) p (subst (Holds bs (shifted (word * 2 ^ j % 2 ^ 64)) (k + j + 1)) c y))
    where
      power : (x j : ℕ) → x * 2 ^ suc j ≡ x * 2 ^ j * 2
      power x j = rw (pow-suc 2 j) (sym (mul_assoc x (2 ^ j) 2))

      twice : (x y : ℕ) → y ≡ x * 2 → (x % 2 ^ 64) * 2 % 2 ^ 64 ≡ y % 2 ^ 64
      twice x y q = omega arith

-- ---- the bytes of a list

bit_in_byte : (s : List ℕ) (q j : ℕ) → j < 8 → get_or s q 0 / 2 ^ (7 - j) % 2 ≡ get_or (bits s) (8 * q + j) 0
unfolding bits
bit_in_byte s q j h = elim (dec_lt q (length s)) [
  | yes l ↦ (
      let p : q * 8 + j ≡ 8 * q + j = omega arith in let e : 8 - suc j ≡ 7 - j = omega arith in
      ap (λ (v : ℕ). get_or s q 0 / 2 ^ v % 2) (sym e) ∙ sym (digits_of_at 2 8 (get_or s q 0) j h) ∙ sym (unpack_at 2 8 (length s) s q j l h)
      ∙ ap (λ (v : ℕ). get_or (unpack 2 8 (length s) s) v 0) p
      )
  | no l ↦ (
      let n = length_bits s in
      rw (get_or-eq_default s 0 {n = q} (omega arith)) (rw (zero-div (2 ^ (7 - j))) refl)
      ∙ sym (get_or-eq_default (bits s) 0 {n = 8 * q + j} (omega arith))
      )
]

abbrev pub joined_bytes : ℕ → ℕ → ℕ → ℕ → ℕ → ℕ → ℕ → ℕ → ℕ
joined_bytes a b c d e f g h = from_be_bytes w64 (a ∷ b ∷ c ∷ d ∷ e ∷ f ∷ g ∷ h ∷ [])

-- the byte at place q, below 256
abbrev pub Byte : List ℕ → ℕ → ℕ → Type 0
Byte s q b = (b ≡ get_or s q 0) × (b < 256)

module _ (s : List ℕ) (q : ℕ) where
  byte_at : (i b k : ℕ) → Byte s (q + i) b → 8 * (q + i) ≡ k → ByteAt (bits s) k b
  byte_at i b k h e j l =
      rw h.0 (bit_in_byte s (q + i) j l) ∙ ap (λ (v : ℕ). get_or (bits s) (v + j) 0) e

  module _ (a b c d e f g h : ℕ) (at_a : Byte s q a) (at_b : Byte s (q + 1) b) (at_c : Byte s (q + 2) c) (at-d : Byte s (q + 3) d)
      (at-e : Byte s (q + 4) e) (at_f : Byte s (q + 5) f) (at_g : Byte s (q + 6) g) (at-h : Byte s (q + 7) h) where
    abbrev joined : ℕ
    joined = joined_bytes a b c d e f g h

    pub holds_bytes : (word : ℕ) → word ≡ joined → Holds (bits s) word (8 * q) 64
    unfolding Holds
    holds_bytes word is =
        let bs = bits s in
        let a₁ = at_a.1 in let b₁ = at_b.1 in let c₁ = at_c.1 in let d₁ = at-d.1 in
        let e₁ = at-e.1 in let f₁ = at_f.1 in let g₁ = at_g.1 in let h₁ = at-h.1 in
        let z : q ≡ q + 0 = omega arith in
        let at_a₀ : Byte s (q + 0) a = subst (λ (v : ℕ). Byte s v a) z at_a in
        let k₀ = 8 * q in let k₁ = k₀ + 8 in let k₂ = k₁ + 8 in let k₃ = k₂ + 8 in let k₄ = k₃ + 8 in let k₅ = k₄ + 8 in let k₆ = k₅ + 8 in let k₇ = k₆ + 8 in
        let r₀ = b * 2 ^ 48 + c * 2 ^ 40 + d * 2 ^ 32 + e * 2 ^ 24 + f * 2 ^ 16 + g * 2 ^ 8 + h * 2 ^ 0 in
        let r₁ = c * 2 ^ 48 + d * 2 ^ 40 + e * 2 ^ 32 + f * 2 ^ 24 + g * 2 ^ 16 + h * 2 ^ 8 in
        let r₂ = d * 2 ^ 48 + e * 2 ^ 40 + f * 2 ^ 32 + g * 2 ^ 24 + h * 2 ^ 16 in
        let r₃ = e * 2 ^ 48 + f * 2 ^ 40 + g * 2 ^ 32 + h * 2 ^ 24 in
        let r₄ = f * 2 ^ 48 + g * 2 ^ 40 + h * 2 ^ 32 in
        let r₅ = g * 2 ^ 48 + h * 2 ^ 40 in
        let r₆ = h * 2 ^ 48 in
        holds_byte bs k₀ 56 a r₀ word (byte_at 0 a k₀ at_a₀ (omega arith)) a₁ (omega arith) (omega arith)
        (holds_byte bs k₁ 48 b r₁ (r₀ * 256) (byte_at 1 b k₁ at_b (omega arith)) b₁ (omega arith) (omega arith)
        (holds_byte bs k₂ 40 c r₂ (r₁ * 256) (byte_at 2 c k₂ at_c (omega arith)) c₁ (omega arith) (omega arith)
        (holds_byte bs k₃ 32 d r₃ (r₂ * 256) (byte_at 3 d k₃ at-d (omega arith)) d₁ (omega arith) (omega arith)
        (holds_byte bs k₄ 24 e r₄ (r₃ * 256) (byte_at 4 e k₄ at-e (omega arith)) e₁ (omega arith) (omega arith)
        (holds_byte bs k₅ 16 f r₅ (r₄ * 256) (byte_at 5 f k₅ at_f (omega arith)) f₁ (omega arith) (omega arith)
        (holds_byte bs k₆ 8 g r₆ (r₅ * 256) (byte_at 6 g k₆ at_g (omega arith)) g₁ (omega arith) (omega arith)
        (holds_byte bs k₇ 0 h 0 (r₆ * 256) (byte_at 7 h k₇ at-h (omega arith)) h₁ (omega arith) (omega arith)
        tt)))))))

module _ (s whole : List ℕ) (q : ℕ) (is : whole ≡ take (q + 8 - q) (drop q s)) (low : (k : ℕ) → get_or s k 0 < 256) where
  chunk_at : (k : ℕ) → k < 8 → get_or whole k 0 ≡ get_or s (q + k) 0
  chunk_at k h = ap (λ (xs : List ℕ). get_or xs k 0) is ∙ get_or-take (q + 8 - q) (drop q s) k 0 (omega arith) ∙ get_or-drop q s k 0

  pub chunk_joined : from_be_bytes w64 whole
      ≡ joined_bytes (get_or s q 0) (get_or s (q + 1) 0) (get_or s (q + 2) 0) (get_or s (q + 3) 0) (get_or s (q + 4) 0) (get_or s (q + 5) 0) (get_or s (q + 6) 0) (get_or s (q + 7) 0)
  chunk_joined =
      let z : get_or whole 0 0 ≡ get_or s q 0 = chunk_at 0 (omega arith) ∙ ap (λ (k : ℕ). get_or s k 0) (omega arith) in
      let a = chunk_at 1 (omega arith) in let b = chunk_at 2 (omega arith) in let c = chunk_at 3 (omega arith) in let d = chunk_at 4 (omega arith) in
      let e = chunk_at 5 (omega arith) in let f = chunk_at 6 (omega arith) in let g = chunk_at 7 (omega arith) in
      omega arith

  pub holds_chunk : (word : ℕ) → word ≡ from_be_bytes w64 whole → Holds (bits s) word (8 * q) 64
  holds_chunk word e =
      holds_bytes s q _ _ _ _ _ _ _ _ (refl, low q) (refl, low (q + 1)) (refl, low (q + 2)) (refl, low (q + 3))
      (refl, low (q + 4)) (refl, low (q + 5)) (refl, low (q + 6)) (refl, low (q + 7)) word (e ∙ chunk_joined)

-- the window from bit k on
pub holds_from : (bs : List ℕ) (word k : ℕ) → word < 2 ^ 64 → Holds bs word (8 * (k / 8)) 64 → Holds bs (word * 2 ^ (k % 8) % 2 ^ 64) k 57
holds_from bs word k h x =
    let e : 8 * (k / 8) + k % 8 ≡ k = omega arith in
    holds_less bs (word * 2 ^ (k % 8) % 2 ^ 64) k (64 - k % 8) 57 (omega arith)
    (subst (λ (v : ℕ). Holds bs (word * 2 ^ (k % 8) % 2 ^ 64) v (64 - k % 8)) e (holds_moved bs word (8 * (k / 8)) 64 (k % 8) h x))
