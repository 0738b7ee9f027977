-- What a turn of the machine in the code does, in the terms of the reading machine: bs and ls are its bits and labels, of which k and e are read before it.
--
--   Slid bs c r              the bits that the cursor c sees are still seen by that of the outcome r, if there is one
--   Turned                   what a turn comes to; the label then is below q
--   Risen                    the same where a bit 0 was read up to the cursor c, whichever bits and labels there are
--   Descended                the same for the payload ps of family f, where a bit that is not 0 was read up to c
--   Stepped                  the same, where the bits are read from c on
use Rattle.std.specs.Prelude.{ℕ, ◌+◌, ◌-◌, ◌<◌, ◌≡◌, ◌≢◌, List, ◌∷◌, get_or, drop, Option, MatchOption, ⊤}
use Rattle.words.specs.Word.{none}
use Rattle.machine.specs.Reading.{run}
use Rattle.packing.specs.Unpack.{bits}
use Rattle.packing.specs.Payload.{payload_bits}
use Rattle.unpacker.specs.Unpacked.{labels_in}
use Rattle.bit_cursor.specs.declared.Cursor.{Cursor}
use Rattle.bit_cursor.specs.Cursors.{Sees}
use Rattle.decoder_ends.specs.declared.State.{State}
use Rattle.decoder_ends.specs.States.{stage, machine_at}
use Rattle.decoder_ends.specs.Ends.{Passed}
use Rattle.decoder_turns.specs.declared.Outcome.{Outcome}

abbrev pub Slid : List ℕ → Cursor → Option Outcome → Type 0
Slid bs c r = MatchOption r ⊤ (λ t. (n : ℕ) → Sees bs c n → Sees bs t.cursor (c.bits + n - t.cursor.bits))

-- no edge of label 1 has ended before
abbrev pub Turned : ℕ → ℕ → List ℕ → List ℕ → List ℕ → ℕ → State → ℕ → Option Outcome → List ℕ → Type 0
Turned q m bs ls w e s k r w' =
    MatchOption r (run (machine_at m bs ls w (stage e s) 0 k) ≡ none)
    (λ t. (t.label < q) × Passed 1 m bs ls w (stage e s) 0 k (stage t.cursor.labels t.state) t.label t.cursor.bits w')

abbrev pub Risen : ℕ → List ℕ → State → Cursor → Option Outcome → List ℕ → Type 0
Risen m w s c r w' =
    ((bs ls : List ℕ) (k : ℕ) → c.bits ≡ k + 1 → drop k bs ≡ 0 ∷ drop (k + 1) bs → Turned 2 m bs ls w c.labels s k r w')
    × ((bs : List ℕ) → Slid bs c r)

abbrev pub Descended : ℕ → ℕ → List ℕ → List ℕ → State → Cursor → Option Outcome → List ℕ → Type 0
Descended f m ps w s c r w' =
    ((k : ℕ) → c.bits ≡ k + 1 → get_or (payload_bits m ps) k 0 ≢ 0 → Turned 2 m (payload_bits m ps) (labels_in f m ps w) w c.labels s k r w')
    × Slid (bits ps) c r

abbrev pub Stepped : ℕ → ℕ → ℕ → List ℕ → List ℕ → State → Cursor → Option Outcome → List ℕ → Type 0
Stepped q f m ps w s c r w' = Turned q m (payload_bits m ps) (labels_in f m ps w) w c.labels s c.bits r w' × Slid (bits ps) c r
