-- The turns that read from one word of the cursor. Assumes nothing.
--
--   Stretching            what the loop over a word keeps; the word is left at bit `end`
--   stretching_start, stretching_asks, stretching_on, stretching_less, stretching_end, stretching_stuck   at its start, in a turn, at its end
use Prim.Native.Nat.{ℕ, ◌+◌, ◌-◌, ◌*◌, ◌≤◌, ◌<◌}
use native.Mathlib.Omega.{arith}
use mathlib.Core.Path.{◌≡◌, subst}
use mathlib.Core.List.{List}
use lib.ListN.{length}
use Rattle.packing.specs.Unpack.{bits}
use Rattle.packing.specs.Payload.{payload_bits}
use Rattle.unpacker.specs.Unpacked.{labels_in}
use Rattle.unpacker.proofs.Payload.{labels_in_same}
use Rattle.bit_cursor.specs.declared.Cursor.{Cursor}
use Rattle.bit_cursor.specs.Cursors.{Labelled, Sees}
use Rattle.bit_cursor.proofs.Cursors.{sees_less, labelled_kept}
use Rattle.std.specs.Prelude.{Option, Some, None}
use Rattle.decoder_ends.specs.declared.State.{State}
use Rattle.decoder_turns.specs.declared.Outcome.{Outcome}
use Rattle.decoder_ends.specs.States.{Stage, stage, Fits}
use Rattle.decoder_ends.specs.Ends.{Passed}
use Rattle.decoder_turns.specs.Turns.{Turned, Stepped}
use Rattle.decoder_ends.proofs.Moves.{none_passed, fewer_passed, more_passed}
use Rattle.decoder_ends.proofs.Runs.{passed_less, passed_stuck}

-- w₀ is the work area and S the stage where it begins, at bit k
pub record Stretching (f m : ℕ) (ps w₀ : List ℕ) (S : Stage) (k end : ℕ) (w : List ℕ) (s : State) (c : Cursor) : Type 0 where
  pub passes : Passed 0 m (payload_bits m ps) (labels_in f m ps w₀) w₀ S 0 k (stage c.labels s) 0 c.bits w
  pub sees : Sees (bits ps) c (end + 1 - c.bits)
  pub inside : c.bits < end
  pub in_bits : end ≤ 2 * m

-- the cursor d is c with its word filled
pub stretching_start : (f m : ℕ) (ps w : List ℕ) (s : State) (end : ℕ) (c d : Cursor) → d.bits ≡ c.bits → d.labels ≡ c.labels → Fits m w (stage c.labels s)
    → Sees (bits ps) d 57 → c.bits < end → end ≤ c.bits + 56 → end ≤ 2 * m → Stretching f m ps w (stage c.labels s) c.bits end w s d
stretching_start f m ps w s end c d p q g h i j n = record {
  passes = rw (p, q) (none_passed m (payload_bits m ps) (labels_in f m ps w) w (stage c.labels s) 0 c.bits g);
  sees = sees_less (bits ps) d 57 (end + 1 - d.bits) (omega arith) h;
  inside = omega arith;
  in_bits = n;
}

module _ (f m : ℕ) (ps w₀ : List ℕ) (e₀ : ℕ) (s₀ : State) (k end : ℕ) where
  abbrev S : Stage
  S = stage e₀ s₀

  abbrev all_bits : List ℕ
  all_bits = payload_bits m ps

  abbrev all_labels : List ℕ
  all_labels = labels_in f m ps w₀

  module _ (w : List ℕ) (s : State) (c : Cursor) (x : Stretching f m ps w₀ S k end w s c) where
    pub stretching_asks : Labelled f m ps w₀ → (Labelled f m ps w × Fits m w (stage c.labels s)) × (Sees (bits ps) c 2 × (c.bits < 2 * m))
    stretching_asks g =
        let i = x.inside in let n = x.in_bits in (
          (labelled_kept f m ps w₀ w x.passes.labels_kept g, x.passes.fits),
          (sees_less (bits ps) c (end + 1 - c.bits) 2 (omega arith) x.sees, omega arith),
        )

    -- a step, under the labels in the work area w₀
    stepped : (r : Option Outcome) (w' : List ℕ) → Stepped 1 f m ps w s c r w' → Turned 1 m all_bits all_labels w c.labels s c.bits r w'
    stepped r w' y =
        subst (λ (ls : List ℕ). Turned 1 m all_bits ls w c.labels s c.bits r w') (labels_in_same f m ps w₀ w x.passes.labels_kept) y.0

    pub stretching_stuck : (w' : List ℕ) → Stepped 1 f m ps w s c None w' → Turned 1 m all_bits all_labels w₀ e₀ s₀ k None w'
    stretching_stuck w' y =
        passed_stuck 0 m all_bits all_labels w₀ S 0 k (stage c.labels s) 0 c.bits w x.passes (stepped None w' y)

    module _ (t : Outcome) (w' : List ℕ) (y : Stepped 1 f m ps w s c (Some t) w') where
      abbrev T : Stage
      T = stage t.cursor.labels t.state

      gone_on : (t.label < 1) × Passed 1 m all_bits all_labels w (stage c.labels s) 0 c.bits T t.label t.cursor.bits w'
      gone_on = stepped (Some t) w' y

      pub stretching_less : length all_bits - t.cursor.bits + t.state.opens < length all_bits - c.bits + s.opens
      stretching_less =
          let z = passed_less 1 m all_bits all_labels w (stage c.labels s) 0 c.bits T t.label t.cursor.bits w' gone_on.1 in omega arith

      so_far : Passed 1 m all_bits all_labels w₀ S 0 k T t.label t.cursor.bits w'
      so_far = more_passed m all_bits all_labels w₀ S 0 k 0 (stage c.labels s) 0 c.bits w x.passes 1 T t.label t.cursor.bits w' gone_on.1

      pub stretching_end : Turned 1 m all_bits all_labels w₀ e₀ s₀ k (Some t) w'
      stretching_end = (gone_on.0, so_far)

      pub stretching_on : t.cursor.bits < end → Stretching f m ps w₀ S k end w' t.state t.cursor
      stretching_on h =
          let i = x.inside in let z = gone_on.0 in let no_label : t.label ≡ 0 = omega arith in
          let n : c.bits + (end + 1 - c.bits) - t.cursor.bits ≡ end + 1 - t.cursor.bits = omega arith in
          record {
            passes = subst (λ (j : ℕ). Passed 0 m all_bits all_labels w₀ S 0 k T j t.cursor.bits w') no_label
                (fewer_passed m all_bits all_labels w₀ S 0 k 1 T t.label t.cursor.bits w' so_far 0 (omega arith));
            sees = subst (Sees (bits ps) t.cursor) n (y.1 (end + 1 - c.bits) x.sees);
            inside = h;
            in_bits = x.in_bits;
          }
