-- What a turn hands back, and the ends after it. Assumes nothing.
--
--   turned_to             a turn that goes on
--   slid_same, slid_label, slid_both, slid_past   the bits in sight: the cursor stays, a label is read, a label and a bit are, and after
--                         a bit that was read before
--   step_goes             a turn that goes on, and the ends after it
use Prim.Native.Nat.{ℕ, ◌+◌, ◌-◌, ◌<◌}
use native.Mathlib.Omega.{arith}
use mathlib.Core.Path.{◌≡◌, sym, ap, ◌∙◌, subst}
use mathlib.Core.List.{List}
use Rattle.packing.specs.Payload.{payload_bits}
use Rattle.unpacker.specs.Unpacked.{labels_in}
use Rattle.bit_cursor.specs.declared.Cursor.{Cursor}
use Rattle.bit_cursor.specs.declared.Next.{Next}
use Rattle.bit_cursor.specs.Cursors.{Sees, past_bit, past_label, next_bit}
use Rattle.bit_cursor.proofs.Cursors.{sees_less, sees_past}
use Rattle.std.specs.Prelude.{Option, Some, None}
use Rattle.decoder_ends.specs.declared.State.{State}
use Rattle.decoder_ends.specs.declared.Ending.{Ending}
use Rattle.decoder_ends.specs.States.{Stage, stage}
use Rattle.decoder_ends.specs.Ends.{Passed, Ended}
use Rattle.decoder_ends.proofs.Moves.{more_passed}
use Rattle.decoder_turns.specs.declared.Outcome.{Outcome}
use Rattle.decoder_turns.specs.Turns.{Slid, Turned, Stepped}

-- ---- what is handed back

abbrev pub goes : State → ℕ → Cursor → Option Outcome
goes t j d = Some (record { state = t; label = j; cursor = d })

module _ (q m : ℕ) (bs ls w : List ℕ) (e : ℕ) (s : State) (k : ℕ) where
  -- n labels and i bits are read after the turn, u and v are the stage and the work area
  pub turned_to : (t : State) (j : ℕ) (d : Cursor) (w' : List ℕ) (n i : ℕ) (u : Stage) (v : List ℕ) → d.labels ≡ n → d.bits ≡ i → stage n t ≡ u → w' ≡ v
      → j < q → Passed 1 m bs ls w (stage e s) 0 k u j i v → Turned q m bs ls w e s k (goes t j d) w'
  turned_to t j d w' n i u v p r x z l y = (
    l,
    subst (λ (h : Stage). Passed 1 m bs ls w (stage e s) 0 k h j d.bits w') (sym (ap (λ (h : ℕ). stage h t) p ∙ x))
        (subst (λ (h : ℕ). Passed 1 m bs ls w (stage e s) 0 k u j h w') (sym r) (subst (Passed 1 m bs ls w (stage e s) 0 k u j i) (sym z) y)),
  )

-- ---- the bits in sight

module _ (bs : List ℕ) (c : Cursor) where
  -- those that c sees are still seen by d
  abbrev pub still_seen : Cursor → Type 0
  still_seen d = (n : ℕ) → Sees bs c n → Sees bs d (c.bits + n - d.bits)

  pub slid_same : still_seen c
  slid_same n h = let e : n ≡ c.bits + n - c.bits = omega arith in subst (Sees bs c) e h

  -- d is the cursor past a label
  module _ (d : Cursor) (p : d ≡ past_label c) where
    pub slid_label : still_seen d
    slid_label = rw p slid_same

    pub slid_both : (x : Next) → x ≡ next_bit d → still_seen x.cursor
    slid_both x q =
        subst (λ (z : Next). still_seen z.cursor) (sym (q ∙ ap next_bit p))
        (λ n h. let e : n - 1 ≡ c.bits + n - (c.bits + 1) = omega arith in subst (Sees bs (past_bit c)) e (sees_past bs c n h))

  pub slid_past : (r : Option Outcome) → Slid bs (past_bit c) r → Slid bs c r
  slid_past (Some t) x = λ n h.
      sees_less bs t.cursor (c.bits + 1 + (n - 1) - t.cursor.bits) (c.bits + n - t.cursor.bits) (omega arith) (x (n - 1) (sees_past bs c n h))
  slid_past None x = x

-- ---- a turn that goes on, and ends after it

module _ (f m : ℕ) (ps w : List ℕ) (s : State) (c : Cursor) (t : Outcome) (w' : List ℕ) (x : Stepped 2 f m ps w s c (Some t) w') where
  abbrev bs : List ℕ
  bs = payload_bits m ps

  abbrev ls : List ℕ
  ls = labels_in f m ps w

  abbrev d : Cursor
  d = t.cursor

  abbrev S : Stage
  S = stage c.labels s

  abbrev T : Stage
  T = stage d.labels t.state

  pub step_goes : (w'' : List ℕ) (u : Ending) → Ended 0 1 m w' t.state t.label (Some u) w'' → Stepped 1 f m ps w s c (goes u.state u.label d) w''
  step_goes w'' u y =
      let z = y d.labels x.0.1.fits bs ls d.bits in
      ((z.0, more_passed m bs ls w S 0 c.bits 1 T t.label d.bits w' x.0.1 0 (stage d.labels u.state) u.label d.bits w'' z.1), x.1)
