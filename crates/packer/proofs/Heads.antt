-- What stands before a payload. Assumes nothing.
--
--   fields_placed      three numbers, one after the other
--   head_stores, head_plain   the outside behind them, in a kind that stores it; nothing in another
--   head-stores-length the head of such a kind has eight bytes
--   head_payload       head and payload are a record, at the front of the output
use Prim.Native.Nat.{ℕ, ◌+◌, ◌≤◌}
use native.Mathlib.Omega.{arith}
use mathlib.Core.Path.{◌≡◌, sym, ◌∙◌}
use mathlib.Core.Bool.{true, false}
use mathlib.Core.List.{List, ◌++◌}
use lib.ListN.{length, length-append}
use Rattle.model.specs.Map.{stores_outside}
use Rattle.model.specs.Record.{le16, head_length, headed}
use Rattle.model.specs.Calls.{front}
use Rattle.packing.specs.Payload.{extra_bytes}
use Rattle.packing.proofs.Headed.{extra_length}
use Rattle.work.specs.Area.{placed}
use Rattle.work.proofs.Regions.{placed_next, front_placed}
use Rattle.packer.specs.Packed.{Headed}

pub fields_placed : (l k m : ℕ) (out out₁ out₂ out₃ : List ℕ) → 6 ≤ length out
    → out₁ ≡ placed 0 (le16 l) out → out₂ ≡ placed 2 (le16 k) out₁ → out₃ ≡ placed 4 (le16 m) out₂ → out₃ ≡ placed 0 (le16 l ++ (le16 k ++ le16 m)) out
unfolding le16
fields_placed l k m out out₁ out₂ out₃ h p q r =
    rw (r, q, p, placed_next 0 (le16 l) (le16 k) out (omega arith)) (placed_next 0 (le16 l ++ le16 k) (le16 m) out (omega arith))

module _ (k m x total : ℕ) (out mid : List ℕ) (p : mid ≡ placed 0 (le16 total ++ (le16 k ++ le16 m)) out) where
  pub head_stores : stores_outside k ≡ true → 8 ≤ length out → (out' : List ℕ) → out' ≡ placed 6 (le16 x) mid → Headed total k m x out 8 out'
  unfolding extra_bytes head_length le16
  head_stores e h out' q = record {
    begins = rw e;
    filled = rw (q, p, e) (placed_next 0 (le16 total ++ (le16 k ++ le16 m)) (le16 x) out (omega arith));
  }

  pub head_plain : stores_outside k ≡ false → Headed total k m x out 6 mid
  unfolding extra_bytes head_length le16
  head_plain e = record { begins = rw e; filled = rw (p, e) }

pub head_stores_length : (k : ℕ) → stores_outside k ≡ true → head_length k ≡ 8
unfolding head_length
head_stores_length k e = rw e

-- the length of three fields and more
six : (a b c : ℕ) (xs : List ℕ) → length (le16 a ++ (le16 b ++ (le16 c ++ xs))) ≡ 6 + length xs
unfolding le16
six a b c xs = omega arith

pub head_payload : (k m x total at : ℕ) (ps out mid out' : List ℕ) → total ≡ head_length k + length ps → head_length k + length ps ≤ length out
    → Headed total k m x out at mid → out' ≡ placed at ps mid → out' ≡ front (headed k m (extra_bytes k x ++ ps)) out
unfolding headed le16
head_payload k m x total at ps out mid out' t l h q =
    let head = le16 total ++ (le16 k ++ (le16 m ++ extra_bytes k x)) in
    let e = extra_length k x in
    let a = length-append (extra_bytes k x) ps in
    let n : length head ≡ head_length k = six total k m (extra_bytes k x) ∙ e in
    let whole : total ≡ 6 + length (extra_bytes k x ++ ps) = omega arith in
    let from : at ≡ 0 + length head = h.begins ∙ sym n ∙ omega arith in
    q ∙ rw (h.filled, from) (placed_next 0 head ps out (omega arith)) ∙ front_placed (head ++ ps) out ∙ rw whole
