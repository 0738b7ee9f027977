-- A bit that is not 0 was read, the k-th, up to the cursor c: what begins. Assumes nothing.
--
--   label_fits            a label is below 3
--   no_second, no_more    no bit is left after it; no label is left
--   to_leaf, to_back, to_tree   a leaf, an edge outside the tree, a tree edge
use Prim.Native.Nat.{ℕ, ◌+◌, ◌*◌, ◌/◌, ◌^◌, ◌≤◌, ◌<◌}
use native.Mathlib.Omega.{arith}
use mathlib.Core.Path.{◌≡◌, refl, ap, ◌∙◌}
use mathlib.Core.Logic.{◌≢◌}
use mathlib.Core.List.{List, ◌∷◌}
use lib.ListN.{length, get_or, drop, drop_of_length-le}
use Rattle.model.specs.LabelledTree.{star}
use Rattle.model.proofs.Below.{below_take}
use Rattle.model.proofs.Permutations.{below_all}
use Rattle.packing.specs.Unpack.{bits}
use Rattle.packing.specs.Payload.{payload_bits}
use Rattle.packing.proofs.Packed.{bits_below}
use Rattle.unpacker.specs.Unpacked.{labels_in}
use Rattle.unpacker.proofs.Payload.{bit_count}
use Rattle.bit_cursor.specs.declared.Cursor.{Cursor}
use Rattle.bit_cursor.specs.declared.Next.{Next}
use Rattle.bit_cursor.specs.Cursors.{Labelled, Sees, past_label, next_bit, next_label}
use Rattle.bit_cursor.proofs.Cursors.{sees_tree_bit}
use Rattle.std.specs.Prelude.{None}
use Rattle.decoder_ends.specs.declared.State.{State}
use Rattle.decoder_ends.specs.States.{stage, area_at, leaf_stage, leaf_area, back_stage, back_area, enter_stage, enter_area, Fits}
use Rattle.decoder_ends.proofs.Letters.{no_bit, no_label}
use Rattle.decoder_ends.proofs.Moves.{leafing, backing, entering}
use Rattle.decoder_turns.specs.Turns.{Turned}
use Rattle.decoder_turns.proofs.Lists.{one_next, two_next, last_next}
use Rattle.decoder_turns.proofs.Steps.{goes, turned_to}

module _ (f m : ℕ) (ps w : List ℕ) (s : State) (c : Cursor) (g : Labelled f m ps w) (fits : Fits m w (stage c.labels s)) (h : Sees (bits ps) c 1)
    (i : c.bits ≤ 2 * m) where
  abbrev bs : List ℕ
  bs = payload_bits m ps

  abbrev ls : List ℕ
  ls = labels_in f m ps w

  abbrev e : ℕ
  e = c.labels

  size : length bs ≡ 2 * m
  size = bit_count ps m g.bits_room

  label_is : (x : Next) → x ≡ next_label ls c → x.value ≡ get_or ls e 0
  label_is x p = ap (λ (z : Next). z.value) p

  pub label_fits : e < m → (x : Next) → x ≡ next_label ls c → x.value < 3
  label_fits l x p = let z = g.label_count in rw (label_is x p) (below_all 3 ls g.labels_small e (omega arith))

  module _ (k : ℕ) (after : c.bits ≡ k + 1) (one : get_or bs k 0 ≢ 0) where
    pub no_second : 2 * m ≤ c.bits → Turned 2 m bs ls w e s k None w
    no_second l = let z = size in no_bit bs ls (area_at m w (stage e s)) (stage e s) k _ one (last_next bs k (omega arith) (omega arith))

    module _ (j : c.bits < 2 * m) where
      -- the second bit
      second : c.word / 2 ^ 63 ≡ get_or bs (k + 1) 0
      second = sees_tree_bit ps m c h j ∙ ap (λ (n : ℕ). get_or bs n 0) after

      pub no_more : m ≤ e → Turned 2 m bs ls w e s k None w
      no_more l =
          let z = size in let n = g.label_count in
          no_label bs ls (area_at m w (stage e s)) (stage e s) k _ one _ _ (two_next bs k _ _ (omega arith) refl second)
          (drop_of_length-le ls {i = e} (omega arith))

      -- x is the next label and y the bit after it
      module _ (l : e < m) (x : Next) (p : x ≡ next_label ls c) (y : Next) (q : y ≡ next_bit x.cursor) where
        next_is : y ≡ next_bit (past_label c)
        next_is = q ∙ ap (λ (z : Next). next_bit z.cursor) p

        bit_is : y.value ≡ get_or bs (k + 1) 0
        bit_is = ap (λ (z : Next). z.value) next_is ∙ second

        bit_small : y.value < 2
        unfolding payload_bits
        bit_small = let z = size in rw bit_is (below_all 2 bs (below_take 2 (2 * m) (bits ps) (bits_below ps)) (k + 1) (omega arith))

        both : drop k bs ≡ get_or bs k 0 ∷ y.value ∷ drop (k + 2) bs
        both = let z = size in two_next bs k _ _ (omega arith) refl bit_is

        next_label_lem : drop e ls ≡ x.value ∷ drop (e + 1) ls
        next_label_lem = let z = g.label_count in one_next ls e _ (omega arith) (label_is x p)

        bits_read : y.cursor.bits ≡ k + 2
        bits_read = ap (λ (z : Next). z.cursor.bits) next_is ∙ omega arith

        labels_read : y.cursor.labels ≡ e + 1
        labels_read = ap (λ (z : Next). z.cursor.labels) next_is

        module _ (t : State) (w' : List ℕ) where
          pub to_leaf : x.value ≡ star → stage (e + 1) t ≡ leaf_stage (stage e s) → w' ≡ leaf_area w (stage e s)
              → Turned 2 m bs ls w e s k (goes t y.value y.cursor) w'
          to_leaf z r u =
              turned_to 2 m bs ls w e s k t _ y.cursor w' _ _ _ _ labels_read bits_read r u bit_small
              (leafing m w (stage e s) fits bs ls k _ _ _ one l both next_label_lem z)

          module _ (z : x.value ≢ star) where
            pub to_back : y.value ≡ 0 → stage (e + 1) t ≡ back_stage (stage e s) → w' ≡ back_area m w (stage e s) x.value
                → Turned 2 m bs ls w e s k (goes t 0 y.cursor) w'
            to_back o r u =
                turned_to 2 m bs ls w e s k t 0 y.cursor w' _ _ _ _ labels_read bits_read r u (omega arith)
                (backing m w (stage e s) fits bs ls k _ _ _ one l both next_label_lem z (label_fits l x p) o)

            pub to_tree : y.value ≢ 0 → stage (e + 1) t ≡ enter_stage (stage e s) x.value → w' ≡ enter_area m w (stage e s)
                → Turned 2 m bs ls w e s k (goes t 0 x.cursor) w'
            to_tree o r u =
                let n = size in let d : k + 1 + 1 ≡ k + 2 = omega arith in
                turned_to 2 m bs ls w e s k t 0 x.cursor w' _ _ _ _ (ap (λ (v : Next). v.cursor.labels) p)
                (ap (λ (v : Next). v.cursor.bits) p ∙ after) r u (omega arith)
                (entering m w (stage e s) fits bs ls k _ _ _ one l both next_label_lem z (label_fits l x p) o
                (one_next bs (k + 1) _ (omega arith) bit_is ∙ ap (λ (v : ℕ). y.value ∷ drop v bs) d))
