-- One turn of the machine in the code's terms: which area and stage it leads to. s is the stage before it, in the area a. Assumes nothing.
--
--   low                   the names are lower than that of the next vertex
--   none_read, more_read, fewer   no letter is read; more letters are read; fewer would do
--   closing, early, empty   an edge of label 1 has ended: another ends too, or cannot
--   rising, at_root       the next bit is 0
--   leafing, backing, entering   the next bit is not 0: what begins
--   no_bit, no_label      the next bit is not 0, and a bit or a label is missing
--   open-left, label_left, finishing   no bit is left
use Prim.Native.Nat.{ℕ, ◌+◌, ◌-◌, ◌*◌, ◌/◌, ◌%◌, ◌≤◌, ◌<◌}
use native.Mathlib.Numerals.{add-one}
use native.Mathlib.Omega.{arith}
use mathlib.Core.Path.{◌≡◌, refl, sym, ap, subst, ◌∙◌}
use mathlib.Core.Logic.{◌≢◌}
use mathlib.Core.List.{List, [], ◌∷◌, ◌++◌, append_assoc}
use lib.ListN.{length, set, drop, length-append}
use Rattle.model.specs.Traversal.{Letter, down, up, first, second}
use Rattle.model.specs.LabelledTree.{star}
use Rattle.model.proofs.Opposite.{opposite_even, opposite_odd}
use Rattle.words.specs.Word.{Machine, none, after, goes, done, turn, word_darts, place_of}
use Rattle.machine.specs.Reading.{left, run}
use Rattle.machine.proofs.Turns.{turn_close, stuck_none, stuck_early, turn_up, stuck_root, turn_done, stuck_left}
use Rattle.machine.proofs.Turns.{turn_star, turn_back, turn_tree, stuck_bit, stuck_label}
use Rattle.machine.proofs.Runs.{after_after, run_stuck}
use Rattle.naming.specs.Named.{enters_at, Low}
use Rattle.naming.proofs.Named.{reads_on, reads_paced}
use Rattle.builder.proofs.Linking.{linked_step}
use Rattle.decoder_ends.specs.States.{Stage, Area, trees_of, ups_of, edges_of, labels_of, machine_of, outcome_of, at, Stacked}
use Rattle.decoder_ends.specs.Ends.{Read}
use Rattle.decoder_ends.proofs.Areas.{entered, pushed_tree, pushed_open}

module _ (bs ls : List ℕ) (a : Area) (s : Stage) where
  pub low : (l k : ℕ) → Stacked a s → Low (machine_of bs ls a s l k)
  unfolding machine_of
  low l k x = record { here_in = x.here_in; below_in = x.below_in; opens_in = x.begun_in }

  -- ---- letters one after the other

  pub none_read : (l k : ℕ) → Read 0 bs ls a s l k s l k a
  none_read l k = record { letters = []; some = omega arith; answer = refl; paced = omega arith; built = λ v. refl }

  module _ (p l k : ℕ) (t : Stage) (j i : ℕ) (b : Area) (x : Read p bs ls a s l k t j i b) where
    pub fewer : (q : ℕ) → q ≤ p → Read q bs ls a s l k t j i b
    fewer q h = let y = x.some in
        record { letters = x.letters; some = omega arith; answer = x.answer; paced = x.paced; built = x.built }

    pub more_read : (q : ℕ) (u : Stage) (n r : ℕ) (c : Area) → Read q bs ls b t j i u n r c → Read (p + q) bs ls a s l k u n r c
    more_read q u n r c y =
        let e = length-append x.letters y.letters in
        let g = x.some in let h = y.some in let c₁ = x.paced in let c₂ = y.paced in
        record {
          letters = x.letters ++ y.letters;
          some = omega arith;
          answer = x.answer ∙ ap (after x.letters) y.answer ∙ after_after x.letters y.letters _;
          paced = omega arith;
          built = λ v. y.built v ∙ x.built (y.letters ++ v) ∙ ap (outcome_of a s) (sym (append_assoc x.letters y.letters v));
        }

  -- a turn of the machine, where the next vertex is named n
  read_turn : (l k : ℕ) (t : Stage) (j i : ℕ) (b : Area) → Stacked a s → (n : ℕ) (r : Machine) (v : List Letter) → 2 * s.edges + 2 ≤ n
      → turn (enters_at n (machine_of bs ls a s l k)) ≡ goes v r → r.n ≤ 2 * t.edges + 2 → enters_at (2 * t.edges + 2) r ≡ machine_of bs ls b t j i
      → ((u : List Letter) → outcome_of b t u ≡ outcome_of a s (v ++ u)) → Read 1 bs ls a s l k t j i b
  unfolding machine_of
  read_turn l k t j i b x n r v h e g q z =
      let c = reads_paced n (2 * t.edges + 2) (machine_of bs ls a s l k) r v (low l k x) h e g in
      record {
        letters = v;
        some = c.1;
        answer = reads_on n (2 * t.edges + 2) (machine_of bs ls a s l k) r v (low l k x) h e g ∙ ap (λ (y : Machine). after v (run y)) q;
        paced = subst (λ (y : Machine). length v + left y ≡ left (machine_of bs ls a s l k)) q c.0;
        built = z;
      }

  -- ---- an edge of label 1 has ended

  pub empty : (k : ℕ) → a.begun ≡ [] → run (machine_of bs ls a s 1 k) ≡ none
  unfolding machine_of
  empty k e = run_stuck (machine_of bs ls a s 1 k) (stuck_none (machine_of bs ls a s 1 k) refl e)

  pub early : (k v : ℕ) (vs : List ℕ) → a.begun ≡ v ∷ vs → v ≤ s.here → run (machine_of bs ls a s 1 k) ≡ none
  unfolding machine_of
  early k v vs e h = run_stuck (machine_of bs ls a s 1 k) (stuck_early (machine_of bs ls a s 1 k) v vs refl e h)

  -- ---- the next bit is 0

  module _ (k : ℕ) (z : drop k bs ≡ 0 ∷ drop (k + 1) bs) where
    pub at_root : a.below ≡ [] → run (machine_of bs ls a s 0 k) ≡ none
    unfolding machine_of
    at_root e = let y = machine_of bs ls a s 0 k in run_stuck y (stuck_root y (drop (k + 1) bs) (λ q. absurd (omega (arith, q))) z e)

  -- ---- the next bit is not 0

  module _ (k c : ℕ) (z : c ≢ 0) where
    pub no_bit : drop k bs ≡ c ∷ [] → run (machine_of bs ls a s 0 k) ≡ none
    unfolding machine_of
    no_bit e = let y = machine_of bs ls a s 0 k in run_stuck y (stuck_bit y c (λ q. absurd (omega (arith, q))) e z)

    pub no_label : (b : ℕ) (rest : List ℕ) → drop k bs ≡ c ∷ b ∷ rest → drop s.edges ls ≡ [] → run (machine_of bs ls a s 0 k) ≡ none
    unfolding machine_of
    no_label b rest e q = let y = machine_of bs ls a s 0 k in run_stuck y (stuck_label y c b rest (λ i. absurd (omega (arith, i))) e z q)

    -- a bit b and a label y follow
    module _ (x : Stacked a s) (b y : ℕ) (e : drop k bs ≡ c ∷ b ∷ drop (k + 2) bs) (q : drop s.edges ls ≡ y ∷ drop (s.edges + 1) ls) (d o : ℕ) where
      abbrev n : ℕ
      n = s.edges

      abbrev with_dart : Area
      with_dart = entered s.place (2 * n) a

      pub leafing : y ≡ star → Read 1 bs ls a s 0 k (at (n + 1) s.here d o (2 * n)) b (k + 2) (entered (2 * n + 1) (2 * n + 1) with_dart)
      unfolding machine_of outcome_of word_darts place_of
      leafing h =
          read_turn 0 k _ b (k + 2) (entered (2 * n + 1) (2 * n + 1) with_dart) x (2 * n + 2) _ (down ∷ up ∷ []) (omega arith)
          (turn_star (enters_at (2 * n + 2) (machine_of bs ls a s 0 k)) c y b _ _ (λ i. absurd (omega (arith, i))) e z q h) (omega arith) refl
          (λ v. rw (add-one n)
          (linked_step (2 * n + 1) (2 * n) up v (2 * n + 1) _ (set a.rotation s.place (2 * n)) (sym (opposite_odd n))
          ∙ linked_step s.place (2 * n + 1) down (up ∷ v) (2 * n) _ a.rotation (sym (opposite_even n))))

      module _ (h : y ≢ star) (small : y < 3) where
        pub backing : b ≡ 0 → Read 1 bs ls a s 0 k (at (n + 1) s.here d o (2 * n)) 0 (k + 2) (pushed_open s.here (2 * n + y) with_dart)
        unfolding machine_of outcome_of word_darts place_of labels_of edges_of
        backing f =
            let p : (2 * n + y) % 2 ≡ y = omega arith in let r : (2 * n + y) / 2 ≡ n = omega arith in
            read_turn 0 k _ 0 (k + 2) (pushed_open s.here (2 * n + y) with_dart) x (2 * n + 2) _ (first ∷ []) (omega arith)
            (turn_back (enters_at (2 * n + 2) (machine_of bs ls a s 0 k)) c y b _ _ (λ i. absurd (omega (arith, i))) e z q h f) (omega arith)
            (rw p)
            (λ v. rw (r, add-one n) (linked_step s.place (2 * n) first v (2 * n) _ a.rotation refl))

        pub entering : b ≢ 0 → drop (k + 1) bs ≡ b ∷ drop (k + 2) bs
            → Read 1 bs ls a s 0 k (at (n + 1) (2 * n + y + 2) d o (2 * n + 1)) 0 (k + 1) (pushed_tree s.here with_dart)
        unfolding machine_of outcome_of word_darts place_of ups_of trees_of
        entering f g =
            let p : (2 * n + y + 2) % 2 ≡ y = omega arith in let r : (2 * n + y + 2) / 2 - 1 ≡ n = omega arith in
            read_turn 0 k _ 0 (k + 1) (pushed_tree s.here with_dart) x (2 * n + y + 2) _ (down ∷ []) (omega arith)
            (turn_tree (enters_at (2 * n + y + 2) (machine_of bs ls a s 0 k)) c y b _ _ (λ i. absurd (omega (arith, i))) e z q h f) (omega arith)
            (rw (p, g))
            (λ v. rw (r, add-one n) (linked_step s.place (2 * n + 1) down v (2 * n) _ a.rotation (sym (opposite_even n))))

  -- ---- no bit is left

  module _ (k : ℕ) (z : drop k bs ≡ []) where
    pub something_left : 0 < length a.below + (length a.begun + length (drop s.edges ls)) → run (machine_of bs ls a s 0 k) ≡ none
    unfolding machine_of
    something_left h = let y = machine_of bs ls a s 0 k in run_stuck y (stuck_left y (λ q. absurd (omega (arith, q))) z h)

    pub finishing : a.below ≡ [] → a.begun ≡ [] → drop s.edges ls ≡ [] → turn (machine_of bs ls a s 0 k) ≡ done
    unfolding machine_of
    finishing p q r = turn_done (machine_of bs ls a s 0 k) (λ i. absurd (omega (arith, i))) z p q r

-- ---- an edge ends

module _ (bs ls : List ℕ) (a : Area) (s : Stage) (d o k : ℕ) where
  pub closing : (v x : ℕ) → Stacked (pushed_open v x a) s → s.here < v
      → Read 1 bs ls (pushed_open v x a) s 1 k (at s.edges s.here d o (2 * (x / 2) + 1)) (x % 2) k (entered s.place (2 * (x / 2) + 1) a)
  unfolding machine_of outcome_of word_darts place_of labels_of edges_of
  closing v x h l =
      read_turn bs ls (pushed_open v x a) s 1 k _ (x % 2) k _ h (2 * s.edges + 2) _ (second ∷ []) (omega arith)
      (turn_close (enters_at (2 * s.edges + 2) (machine_of bs ls (pushed_open v x a) s 1 k)) v a.begun refl refl l) (omega arith) refl
      (λ u. linked_step s.place _ second u (2 * (x / 2) + 1) _ a.rotation refl)

  pub rising : (v : ℕ) → Stacked (pushed_tree v a) s → drop k bs ≡ 0 ∷ drop (k + 1) bs
      → Read 1 bs ls (pushed_tree v a) s 0 k (at s.edges v d o (2 * (s.here / 2 - 1))) (s.here % 2) (k + 1)
      (entered s.place (2 * (s.here / 2 - 1) + 1) a)
  unfolding machine_of outcome_of word_darts place_of ups_of trees_of
  rising v h z =
      read_turn bs ls (pushed_tree v a) s 0 k _ (s.here % 2) (k + 1) _ h (2 * s.edges + 2) _ (up ∷ []) (omega arith)
      (turn_up (enters_at (2 * s.edges + 2) (machine_of bs ls (pushed_tree v a) s 0 k)) v a.below (drop (k + 1) bs) (λ q. absurd (omega (arith, q))) z refl)
      (omega arith) refl
      (λ u. linked_step s.place _ up u (2 * (s.here / 2 - 1) + 1) _ a.rotation (sym (opposite_odd (s.here / 2 - 1))))
