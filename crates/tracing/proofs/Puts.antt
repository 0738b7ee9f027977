-- What is put at each letter is what belongs there: its code, or its tree bits and the label of the edge that ends.
--
--   puts_none            before the first position
--   puts_same            what stands from 2n on is kept
--   puts_down, puts_first, puts_up, puts_second   one position more; t tree bits are put before it
use mathlib.Core.Path.{◌≡◌, refl, sym, ap, ap₂, ◌∙◌, subst}
use mathlib.Core.Logic.{◌≢◌}
use mathlib.Core.Bool.{Bool, true, false, cond}
use mathlib.Core.List.{List, [], ◌∷◌, ◌++◌, append-nil, append_assoc}
use Prim.Native.Nat.{ℕ, suc, ◌+◌, ◌*◌, ◌/◌, ◌≤◌, ◌<◌}
use native.Mathlib.Omega.{arith}
use lib.ListN.{length, get_or, set, drop, length-set}
use lib.Seq.{get_or-set_same, get_or-set_other}
use borrow.Author.Tests.{eq-eqb, ne_eqb}
use Rattle.model.specs.Map.{Plan, darts, degree_one, dart_count_fits}
use Rattle.model.specs.Traversal.{Letter, down, up, first, second, code, opens, word}
use Rattle.model.specs.LabelledTree.{star}
use Rattle.orbits.proofs.Order.{eq_split, lt_suc_split}
use Rattle.words.specs.Word.{starts_second}
use Rattle.words.specs.Position.{opened}
use Rattle.words.specs.Toured.{Toured, dart_at, letter_of, mate_of}
use Rattle.traversal.specs.Steps.{letter_after}
use Rattle.forward.specs.Bits.{bits_by, bits_at, bits_to}
use Rattle.forward.specs.Labels.{label_by, label_at, Written}
use Rattle.forward.proofs.Labels.{written_none, written_opens, written_ends, place_bound}
use Rattle.work.specs.Map.{LETTERS, BITS, LABELS}
use Rattle.work.specs.Area.{region}
use Rattle.work.specs.Letters.{work_labels}
use Rattle.work.proofs.Regions.{length_region, region_set, region_set_other, region_push}
use Rattle.trace_puts.specs.Putting.{down_put, first_put, up_put, second_put}
use Rattle.tracing.specs.Tracing.{Put}
use Rattle.tracing.proofs.Places.{above_region, above_at}

module _ (family : ℕ) (p : Plan) (count : dart_count_fits (darts p) ≡ true) where
  abbrev n : ℕ
  n = darts p

  abbrev ℓ : ℕ → Letter
  ℓ = letter_after p.rotation p.root

  pub puts_none : (w : List ℕ) → 16 * n ≤ length w → Put family p 0 0 w
  unfolding bits_to work_labels region
  puts_none w room = record {
    letters = λ f j h. absurd (omega arith);
    bits = λ f t. refl;
    labels = λ f t. written_none p (work_labels n w) (length_region (LABELS * n) (n / 2) w (omega arith));
  }

  pub puts_same : (k t : ℕ) (w w' : List ℕ) → drop (2 * n) w' ≡ drop (2 * n) w → Put family p k t w → Put family p k t w'
  unfolding work_labels
  puts_same k t w w' same put = record {
    letters = λ f j h. above_at (2 * n) w w' same (LETTERS * n + j) (omega arith) ∙ put.letters f j h;
    bits = λ f u. above_region (2 * n) w w' same (BITS * n) t (omega arith) ∙ put.bits f u;
    labels = λ f u. subst (Written p k) (sym (above_region (2 * n) w w' same (LABELS * n) (n / 2) (omega arith))) (put.labels f u);
  }

  -- ---- one position more

  module _ (k t : ℕ) (w : List ℕ) (put : Put family p k t w) (room : 16 * n ≤ length w) (here : k < n) (l : Letter) (is : ℓ k ≡ l)
      (same : Toured p → letter_of p k ≡ l) where
    -- the code of the letter
    letters_on : (c : ℕ) → code l ≡ c → (j : ℕ) → j < suc k → family ≡ 4 → get_or (set w (LETTERS * n + k) c) (LETTERS * n + j) 0 ≡ code (ℓ j)
    letters_on c e j h f = lt_suc_split h
        (λ q. ap (λ (i : ℕ). get_or (set w (LETTERS * n + k) c) (LETTERS * n + i) 0) q
        ∙ get_or-set_same w (LETTERS * n + k) c 0 (omega arith) ∙ sym e ∙ ap code (sym is) ∙ ap (λ (i : ℕ). code (ℓ i)) (sym q))
        (λ g. get_or-set_other w (LETTERS * n + k) (LETTERS * n + j) c 0 (λ q. omega arith) ∙ put.letters f j g)

    -- the tree bits, where xs are those of the letter
    bits_on : (xs : List ℕ) (w' : List ℕ) (t' : ℕ) → (Toured p → region (BITS * n) t' w' ≡ region (BITS * n) t w ++ xs) → (Toured p → bits_by p k l ≡ xs)
        → family ≢ 4 → Toured p → region (BITS * n) t' w' ≡ bits_to p (suc k)
    unfolding bits_to bits_at
    bits_on xs w' t' e by f u =
        e u ∙ ap (λ (ys : List ℕ). ys ++ xs) (put.bits f u) ∙ ap (λ (ys : List ℕ). bits_to p k ++ ys) (sym (ap (bits_by p k) (same u) ∙ by u))

    -- no edge ends
    labels_on : (w' : List ℕ) → opens l ≡ true → (Toured p → region (LABELS * n) (n / 2) w' ≡ region (LABELS * n) (n / 2) w)
        → family ≢ 4 → Toured p → Written p (suc k) (work_labels n w')
    unfolding work_labels
    labels_on w' o e f u =
        subst (Written p (suc k)) (sym (e u)) (written_opens p k (work_labels n w) (ap opens (same u) ∙ o) (put.labels f u))

    -- edge e ends, and v is its label
    labels_end : (w' : List ℕ) (e v : ℕ) → opens l ≡ false → (Toured p → e ≡ opened (letter_of p) (mate_of p k)) → (Toured p → label_by p k l ≡ v)
        → (Toured p → region (LABELS * n) (n / 2) w' ≡ region (LABELS * n) (n / 2) (set w (LABELS * n + e) v))
        → family ≢ 4 → Toured p → Written p (suc k) (work_labels n w')
    unfolding work_labels label_at
    labels_end w' e v o at is-label kept f u =
        let closes : opens (letter_of p k) ≡ false = ap opens (same u) ∙ o in
        let inside : e < n / 2 = subst (λ (x : ℕ). x < n / 2) (sym (at u)) (place_bound p u count k here closes) in
        let value : label_at p k ≡ v = ap (label_by p k) (same u) ∙ is-label u in
        subst (Written p (suc k))
        (sym (kept u ∙ region_set (LABELS * n) (n / 2) w e v inside
        ∙ ap₂ (λ (x y : ℕ). set (work_labels n w) x y) (at u) (sym value)))
        (written_ends p u count k (work_labels n w) here closes (put.labels f u))

    one : (u : List ℕ) (v : ℕ) → length u ≡ length w → (t < 2 * n) → region (BITS * n) (suc t) (set u (BITS * n + t) v) ≡ region (BITS * n) t u ++ (v ∷ [])
    one u v e h = let s : suc t ≡ t + 1 = omega arith in rw s (region_push (BITS * n) t v u (omega arith))

    module _ (few : t < 2 * n) where
      pub puts_down : l ≡ down → (Toured p → suc t ≤ n) → Put family p (suc k) (suc t) (down_put n family k t w)
      unfolding down_put bits_by
      puts_down e fits = eq_split family 4
          (λ f. rw (eq-eqb family 4 f) (record {
            letters = λ g j h. letters_on 1 (ap code e) j h g;
            bits = λ g. absurd (g f);
            labels = λ g. absurd (g f);
          }))
          (λ f. rw (ne_eqb family 4 f) (record {
            letters = λ g. absurd (f g);
            bits = bits_on (1 ∷ []) (set w (BITS * n + t) 1) (suc t) (λ u. one w 1 refl few) (λ u. ap (bits_by p k) e);
            labels = labels_on (set w (BITS * n + t) 1) (ap opens e)
                (λ u. let z = fits u in region_set_other (LABELS * n) (n / 2) w (BITS * n + t) 1 (λ q. absurd (omega arith)));
          }))

      pub puts_first : l ≡ first → (Toured p → suc (suc t) ≤ n) → Put family p (suc k) (suc (suc t)) (first_put n family k t w)
      unfolding first_put bits_by
      puts_first e fits = eq_split family 4
          (λ f. rw (eq-eqb family 4 f) (record {
            letters = λ g j h. letters_on 3 (ap code e) j h g;
            bits = λ g. absurd (g f);
            labels = λ g. absurd (g f);
          }))
          (λ f. rw (ne_eqb family 4 f) (record {
            letters = λ g. absurd (f g);
            bits = bits_on (1 ∷ 0 ∷ []) (set (set w (BITS * n + t) 1) (BITS * n + t + 1) 0) (suc (suc t)) (λ u. two) (λ u. ap (bits_by p k) e);
            labels = labels_on (set (set w (BITS * n + t) 1) (BITS * n + t + 1) 0) (ap opens e)
                (λ u. let z = fits u in region_set_other (LABELS * n) (n / 2) (set w (BITS * n + t) 1) (BITS * n + t + 1) 0 (λ q. absurd (omega arith))
                ∙ region_set_other (LABELS * n) (n / 2) w (BITS * n + t) 1 (λ q. absurd (omega arith)));
          }))
        where
          two : region (BITS * n) (suc (suc t)) (set (set w (BITS * n + t) 1) (BITS * n + t + 1) 0) ≡ region (BITS * n) t w ++ (1 ∷ 0 ∷ [])
          two =
              let s : suc (suc t) ≡ suc t + 1 = omega arith in
              let x : BITS * n + t + 1 ≡ BITS * n + suc t = omega arith in
              rw (s, x) (region_push (BITS * n) (suc t) 0 (set w (BITS * n + t) 1) (omega (arith, length-set w (BITS * n + t) 1)))
              ∙ ap (λ (ys : List ℕ). ys ++ (0 ∷ [])) (one w 1 refl few) ∙ append_assoc (region (BITS * n) t w) (1 ∷ []) (0 ∷ [])

      pub puts_up : (f : ℕ) (leaf : Bool) (s : ℕ) → l ≡ up → (Toured p → suc t ≤ n) → (Toured p → f ≡ opened (letter_of p) (mate_of p k))
          → (Toured p → degree_one p.rotation (dart_at p k) ≡ leaf) → (Toured p → starts_second (drop (suc k) (word p)) ≡ s)
          → Put family p (suc k) (suc t) (up_put n family k t f leaf s w)
      unfolding up_put bits_by label_by
      puts_up f leaf s e fits at bare next = eq_split family 4
          (λ q. rw (eq-eqb family 4 q) (record {
            letters = λ g j h. letters_on 2 (ap code e) j h g;
            bits = λ g. absurd (g q);
            labels = λ g. absurd (g q);
          }))
          (λ q. rw (ne_eqb family 4 q) (record {
            letters = λ g. absurd (q g);
            bits = bits_on (cond leaf s 0 ∷ []) _ (suc t)
                (λ u. let z = fits u in one (set w (LABELS * n + f) (cond leaf star s)) (cond leaf s 0) (length-set w (LABELS * n + f) (cond leaf star s)) few
                ∙ ap (λ (ys : List ℕ). ys ++ (cond leaf s 0 ∷ []))
                (region_set_other (BITS * n) t w (LABELS * n + f) (cond leaf star s) (λ _. omega arith)))
                (λ u. ap (bits_by p k) e ∙ ap₂ (λ (b : Bool) (x : ℕ). cond b x 0 ∷ []) (bare u) (next u));
            labels = labels_end _ f (cond leaf star s) (ap opens e) at
                (λ u. ap (label_by p k) e ∙ ap₂ (λ (b : Bool) (x : ℕ). cond b star x) (bare u) (next u))
                (λ u. let z = fits u in region_set_other (LABELS * n) (n / 2) (set w (LABELS * n + f) (cond leaf star s)) (BITS * n + t) (cond leaf s 0)
                (λ q. absurd (omega arith)));
          }))

    pub puts_second : (f s : ℕ) → l ≡ second → (Toured p → t ≤ n) → (Toured p → f ≡ opened (letter_of p) (mate_of p k))
        → (Toured p → starts_second (drop (suc k) (word p)) ≡ s) → Put family p (suc k) t (second_put n family k f s w)
    unfolding second_put bits_by label_by
    puts_second f s e fits at next = eq_split family 4
        (λ q. rw (eq-eqb family 4 q) (record {
          letters = λ g j h. letters_on 4 (ap code e) j h g;
          bits = λ g. absurd (g q);
          labels = λ g. absurd (g q);
        }))
        (λ q. rw (ne_eqb family 4 q) (record {
          letters = λ g. absurd (q g);
          bits = bits_on [] _ t
              (λ u. let z = fits u in region_set_other (BITS * n) t w (LABELS * n + f) s (λ _. omega arith) ∙ sym (append-nil (region (BITS * n) t w)))
              (λ u. ap (bits_by p k) e);
          labels = labels_end _ f s (ap opens e) at (λ u. ap (label_by p k) e ∙ next u) (λ u. refl);
        }))
