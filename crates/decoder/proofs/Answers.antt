-- The loop over words of the cursor, and what the payload comes to: the letters read so far and the run from here give the word, and the darts entered so far and those to
-- come its rotation. Assumes nothing.
--
--   Running               what the loop keeps, at the cursor c
--   running_start, running_asks, running_on, running_less   at its start, in a turn
--   answer_stuck          the answer where the machine is stuck
--   answer_end            the answer where all bits are read
--   Prepared, prepared    what the loop begins with
--   answer_unclean, answer_clean   the answer for the payload
use Prim.Native.Nat.{ℕ, ◌+◌, ◌-◌, ◌*◌, ◌≤◌, ◌<◌}
use native.Mathlib.Omega.{arith}
use native.Mathlib.Decide.{ℕ_discrete}
use mathlib.Core.Path.{◌≡◌, refl, sym, ap, ◌∙◌, subst}
use mathlib.Core.Bool.{Bool, true, false, true≢false, false≢true}
use mathlib.Core.List.{List, [], ◌∷◌, append-nil}
use lib.ListN.{length, set, drop, replicate, length-drop, drop_of_length-le}
use Rattle.model.specs.Numbers.{all_below}
use Rattle.model.specs.Traversal.{Letter}
use Rattle.packing.specs.Payload.{has_labels, Sized, payload_bits, payload_labels, payload_clean}
use Rattle.packing.specs.Groups.{undone}
use Rattle.packing.proofs.Groups.{undone_bits}
use Rattle.words.specs.Word.{Found, found, none, after, done, turn, start, head, word_darts, rotation_of, decode_word}
use Rattle.words.proofs.Found.{word_in}
use Rattle.machine.specs.Reading.{run}
use Rattle.machine.proofs.Runs.{turn_none, run_done, decode_word_run}
use Rattle.naming.proofs.Named.{run_raised}
use Rattle.work.specs.Map.{LABELS}
use Rattle.work.specs.Area.{region, placed, stack}
use Rattle.work.proofs.Regions.{length_region}
use Rattle.coding.specs.Payloads.{decode_labelled}
use Rattle.unpacker.specs.Unpacked.{labels_in}
use Rattle.unpacker.proofs.Payload.{one, of_kind, bits_room, bit_count, labels_small, labels_in_one, labels_in_two, labels_in_same}
use Rattle.bit_cursor.specs.declared.Cursor.{Cursor}
use Rattle.bit_cursor.specs.Cursors.{Labelled}
use Rattle.bit_cursor.proofs.Cursors.{labelled_kept}
use Rattle.builder.specs.Decoded.{Answered}
use Rattle.builder.proofs.Linking.{linked_end, linked_whole}
use Rattle.builder.proofs.Whole.{blank_area}
use Rattle.std.specs.Prelude.{Option, Some, None}
use Rattle.decoder_ends.specs.declared.State.{State}
use Rattle.decoder_turns.specs.declared.Outcome.{Outcome}
use Rattle.decoder_ends.specs.States.{Stage, stage, Area, area_of, area_at, trees_of, ups_of, edges_of, labels_of, machine_of, machine_at, outcome_of, outcome_at, first_stage}
use Rattle.decoder_ends.specs.States.{Hangs, Fits}
use Rattle.decoder_ends.specs.Ends.{Passed, Finished}
use Rattle.decoder_turns.specs.Turns.{Turned}
use Rattle.decoder_ends.proofs.Areas.{below_long, begun_long, below_none, begun_none, dart_entered}
use Rattle.decoder_ends.proofs.Letters.{something_left, finishing}
use Rattle.decoder_ends.proofs.Moves.{none_passed, fewer_passed, more_passed}
use Rattle.decoder_ends.proofs.Runs.{left_is, passed_less, passed_stuck}
use Rattle.decoder.proofs.Openings.{first_dart_lem}

-- ---- the start

fits_start : (m : ℕ) (w : List ℕ) → 1 ≤ m → m ≤ 4096 → 32 * m ≤ length w → Fits m w first_stage
unfolding area_of stack all_below Hangs
fits_start m w g h r = record {
  few_edges = h;
  room = r;
  edges_in = omega arith;
  few_open = omega arith;
  place_in = omega arith;
  stacked = record { hangs = tt; here_in = omega arith; below_in = refl; begun_in = refl; opens_in = refl };
}

run_start : (m : ℕ) (bs ls w : List ℕ) → run (machine_at m bs ls w first_stage 0 0) ≡ run (start bs ls)
unfolding machine_of area_of stack start ups_of labels_of all_below
run_start m bs ls w = run_raised 2 (start bs ls) (record { here_in = omega arith; below_in = refl; opens_in = refl }) (omega arith)

only_these : (xs : List Letter) → after xs (found []) ≡ found xs
only_these [] = refl
only_these (x ∷ xs) = ap (λ (r : List Letter). found (x ∷ r)) (append-nil xs)

-- ---- the loop

-- w₀ is the work area at the start
pub record Running (f m : ℕ) (ps w₀ w : List ℕ) (s : State) (c : Cursor) : Type 0 where
  pub passes : Passed 0 m (payload_bits m ps) (labels_in f m ps w₀) w₀ first_stage 0 0 (stage c.labels s) 0 c.bits w
  pub more : c.bits < 2 * m

module _ (f m : ℕ) (ps w₀ : List ℕ) where
  abbrev bs : List ℕ
  bs = payload_bits m ps

  abbrev ls : List ℕ
  ls = labels_in f m ps w₀

  pub running_start : 1 ≤ m → m ≤ 4096 → 32 * m ≤ length w₀ → (s : State) (c : Cursor) → stage c.labels s ≡ first_stage → c.bits ≡ 0
      → Running f m ps w₀ w₀ s c
  running_start g h r s c p q = record {
    passes = subst (λ (k : ℕ). Passed 0 m bs ls w₀ first_stage 0 0 (stage c.labels s) 0 k w₀) (sym q)
        (subst (λ (z : Stage). Passed 0 m bs ls w₀ first_stage 0 0 z 0 0 w₀) (sym p) (none_passed m bs ls w₀ first_stage 0 0 (fits_start m w₀ g h r)));
    more = omega arith;
  }

  answer_none : (w : List ℕ) → run (machine_at m bs ls w₀ first_stage 0 0) ≡ none → Answered (decode_word bs ls) (2 * m) false w
  answer_none w e = record {
    word_found = λ q. absurd (false≢true q);
    none_found = λ q. decode_word_run bs ls ∙ sym (run_start m bs ls w₀) ∙ e;
  }

  module _ (w : List ℕ) (s : State) (c : Cursor) (x : Running f m ps w₀ w s c) where
    abbrev S : Stage
    S = stage c.labels s

    pub running_asks : Labelled f m ps w₀ → Labelled f m ps w × Fits m w S × (c.bits < 2 * m)
    running_asks g = (labelled_kept f m ps w₀ w x.passes.labels_kept g, x.passes.fits, x.more)

    -- a stretch, under the labels in the work area w₀
    stretched : (r : Option Outcome) (w' : List ℕ) → Turned 1 m bs (labels_in f m ps w) w c.labels s c.bits r w'
        → Turned 1 m bs ls w c.labels s c.bits r w'
    stretched r w' = subst (λ (zs : List ℕ). Turned 1 m bs zs w c.labels s c.bits r w') (labels_in_same f m ps w₀ w x.passes.labels_kept)

    pub answer_stuck : (w' : List ℕ) → Turned 1 m bs (labels_in f m ps w) w c.labels s c.bits None w' → Answered (decode_word bs ls) (2 * m) false w'
    answer_stuck w' y = answer_none w' (passed_stuck 0 m bs ls w₀ first_stage 0 0 S 0 c.bits w x.passes (stretched None w' y))

    module _ (t : Outcome) (w' : List ℕ) (y : Turned 1 m bs (labels_in f m ps w) w c.labels s c.bits (Some t) w') where
      abbrev T : Stage
      T = stage t.cursor.labels t.state

      gone : (t.label < 1) × Passed 1 m bs ls w S 0 c.bits T t.label t.cursor.bits w'
      gone = stretched (Some t) w' y

      pub running_less : length bs - t.cursor.bits + t.state.opens < length bs - c.bits + s.opens
      running_less = let z = passed_less 1 m bs ls w S 0 c.bits T t.label t.cursor.bits w' gone.1 in omega arith

      pub so_far : Passed 0 m bs ls w₀ first_stage 0 0 T 0 t.cursor.bits w'
      so_far =
          let z = gone.0 in let zero_left : t.label ≡ 0 = omega arith in
          subst (λ (j : ℕ). Passed 0 m bs ls w₀ first_stage 0 0 T j t.cursor.bits w') zero_left
          (fewer_passed m bs ls w₀ first_stage 0 0 1 T t.label t.cursor.bits w'
          (more_passed m bs ls w₀ first_stage 0 0 0 S 0 c.bits w x.passes 1 T t.label t.cursor.bits w' gone.1) 0 (omega arith))

      pub running_on : t.cursor.bits < 2 * m → Running f m ps w₀ w' t.state t.cursor
      running_on h = record { passes = so_far; more = h }

  -- ---- the end

  -- all bits are read
  module _ (w : List ℕ) (s : Stage) (k : ℕ) (x : Passed 0 m bs ls w₀ first_stage 0 0 s 0 k w) (g : Labelled f m ps w₀) (all : 2 * m ≤ k) where
    size : length bs ≡ 2 * m
    size = bit_count ps m g.bits_room

    no_bits : drop k bs ≡ []
    no_bits = let z = size in drop_of_length-le bs {i = k} (omega arith)

    stops : 0 < s.depth + s.opens + (m - s.edges) → run (machine_at m bs ls w s 0 k) ≡ none
    stops h =
        let a = below_long m w s.depth s.opens in let b = begun_long m w s.depth s.opens in
        let c = length-drop s.edges ls in let n = g.label_count in
        something_left bs ls (area_at m w s) s k no_bits (omega arith)

    module _ (clear : region 0 (2 * m) w₀ ≡ replicate (2 * m) 0) (w' : List ℕ)
        (h : (s.depth ≡ 0) × (s.opens ≡ 0) × (m ≤ s.edges) × (w' ≡ set w s.place 0)) where
      v : List Letter
      v = x.read.letters

      is_done : turn (machine_at m bs ls w s 0 k) ≡ done
      is_done =
          let n = g.label_count in let l = h.2 in
          finishing bs ls (area_at m w s) s k no_bits (below_none m w s.depth s.opens h.0) (begun_none m w s.depth s.opens h.1)
          (drop_of_length-le ls {i = s.edges} (omega arith))

      whole : run (start bs ls) ≡ found v
      unfolding v
      whole = sym (run_start m bs ls w₀) ∙ x.read.answer ∙ ap (after v) (run_done (machine_at m bs ls w s 0 k) is_done) ∙ only_these v

      -- all 2m letters are read
      all_read : length v ≡ 2 * m
      unfolding v
      all_read =
          let p = x.read.paced in let z = turn_none (machine_at m bs ls w s 0 k) is_done in
          let a = left_is m bs ls w₀ first_stage 0 0 in let n = size in omega arith

      begun : head (word_darts 0 [] [] v) ≡ 0
      unfolding start
      begun = ap (λ (r : Found). head (word_darts 0 [] [] (word_in r))) (sym whole) ∙ first_dart_lem (start bs ls) (λ q. absurd (omega (arith, q))) refl

      plan_built : region 0 (2 * m) w' ≡ rotation_of v
      unfolding v area_of outcome_of word_darts trees_of edges_of stack
      plan_built =
          ap (region 0 (2 * m)) h.3
          ∙ ap (λ (a : Area). a.rotation) (dart_entered m w s.depth s.opens s.place 0 x.fits.place_in)
          ∙ sym (linked_end s.place (region 0 (2 * m) w))
          ∙ x.read.built [] ∙ ap (outcome_at m w₀ first_stage) (append-nil v) ∙ rw clear (linked_whole (2 * m) v all_read begun)

      found_word : Answered (decode_word bs ls) (2 * m) true w'
      found_word = record { word_found = λ q. (v, decode_word_run bs ls ∙ whole, plan_built); none_found = λ q. absurd (true≢false q) }

    pub answer_end : region 0 (2 * m) w₀ ≡ replicate (2 * m) 0 → (b : Bool) (w' : List ℕ) → Finished m w s b w' → Answered (decode_word bs ls) (2 * m) b w'
    answer_end clear true w' z = found_word clear w' (z.ends refl)
    answer_end clear false w' z = answer_none w' (passed_stuck 0 m bs ls w₀ first_stage 0 0 s 0 k w x (stops (z.goes_on refl)))

-- ---- the payload

-- the payload ps, undone by the inverse inv, is clean, its labels are where they belong, and the rotation is cleared
pub record Prepared (inv : List ℕ) (k m : ℕ) (ps w : List ℕ) : Type 0 where
  pub clean : payload_clean k m (undone inv k m ps) ≡ true
  pub labelled : Labelled k m ps w
  pub labels_are : labels_in k m ps w ≡ payload_labels k m (undone inv k m ps)
  pub room : 32 * m ≤ length w
  pub blank : region 0 (2 * m) w ≡ replicate (2 * m) 0

label_count : (k m : ℕ) (ps w : List ℕ) → Sized k m ps → 32 * m ≤ length w → length (labels_in k m ps w) ≡ m
label_count k m ps w h r = elim (ℕ_discrete k 1) [
  | yes e ↦ ap length (labels_in_one k m ps w e) ∙ (one ps m (of_kind ps m k 1 e h)).label_count
  | no e ↦ ap length (labels_in_two k m ps w e) ∙ length_region (LABELS * (2 * m)) m w (omega arith)
]

module _ (inv : List ℕ) (k m : ℕ) (ps : List ℕ) where
  abbrev vs : List ℕ
  vs = undone inv k m ps

  pub prepared : has_labels k ≡ true → Sized k m ps → payload_clean k m vs ≡ true → (w w' : List ℕ) → 32 * m ≤ length w
      → labels_in k m ps w ≡ payload_labels k m vs → w' ≡ placed 0 (replicate (2 * m) 0) w → Prepared inv k m ps w'
  prepared has h e w w' r l f =
      let (room, blank, same) = blank_area m w w' r f in
      let labels = labels_in_same k m ps w w' (same (LABELS * (2 * m)) m (omega arith)) ∙ l in
      record {
        clean = e;
        labelled = record {
          has = has;
          sized = h;
          bits_room = bits_room ps m k has h;
          label_count = label_count k m ps w' h room;
          labels_small = rw labels (labels_small k m vs w);
        };
        labels_are = labels;
        room = room;
        blank = blank;
      }

  pub answer_unclean : (n : ℕ) (w : List ℕ) → payload_clean k m vs ≡ false → Answered (decode_labelled k m vs) n false w
  unfolding decode_labelled
  answer_unclean n w e = record { word_found = λ f. absurd (false≢true f); none_found = λ f. rw e }

  pub answer_clean : (n : ℕ) (w : List ℕ) (b : Bool) (w' : List ℕ) → Prepared inv k m ps w
      → Answered (decode_word (payload_bits m ps) (labels_in k m ps w)) n b w' → Answered (decode_labelled k m vs) n b w'
  unfolding decode_labelled
  answer_clean n w b w' p a = rw (p.clean, ← p.labels_are, undone_bits k m ps inv p.labelled.sized p.labelled.has) a
