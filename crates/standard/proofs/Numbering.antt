-- The standard numbering of a toured plan: a permutation that sends opposite darts to opposite darts and the root to 0. The numbers of an edge are
-- twice the number of edges opened before it, and one more.
--
--   opening p i            the letter at i opens an edge
--   rank p i               how many edges are opened before i; rank-opens, rank-stays, past one letter
--   opened_number, ended_number    the number of the dart at a position, by whether it opens its edge or ends it
--   other_number           the number of the opposite of a dart that opens its edge
--   numbered               so the positions of the traversal are numbered as `Numbered` says
--   numbers_opposite       opposite darts have opposite numbers
--   numbers_root           the root has number 0
--   numbers_below, numbers_inj, numbers_permutation    the numbers are those below the dart count, each once
--   numbers_onto           the dart of each number
use Prim.Native.Nat.{ℕ, zero, suc, ◌+◌, ◌*◌, ◌/◌, ◌≤◌, ◌<◌}
use native.Mathlib.Omega.{arith}
use mathlib.Core.Path.{◌≡◌, refl, sym, ap, subst, ◌∙◌}
use mathlib.Core.Logic.{⊎_elim}
use mathlib.Core.Bool.{Bool, true, false, not, cond, true≢false}
use mathlib.Core.List.{List, [], ◌∷◌}
use lib.ListN.{length, get_or, set, drop, replicate, length-set, length-replicate, length-drop}
use lib.Seq.{drop-cons, get_or-drop, get_or-set_same, get_or-set_other}
use Rattle.model.specs.Numbers.{tick, count, is_permutation}
use Rattle.model.specs.Map.{Plan, darts, opposite, dart_count_fits}
use Rattle.model.specs.Traversal.{Visit, opens, visits, number, standard_numbers}
use Rattle.model.proofs.Fitness.{count_positive}
use Rattle.model.proofs.Opposite.{opposite_opposite, opposite_edge}
use Rattle.model.proofs.Permutations.{permutation_of}
use Rattle.model.proofs.Standard.{standard_size}
use Rattle.orbits.specs.Permutation.{Perm}
use Rattle.orbits.proofs.Inverse.{onto}
use Rattle.words.specs.Toured.{dart_at, letter_of, pos_of, mate_of, Toured}
use Rattle.words.specs.Position.{opened}
use Rattle.words.proofs.Positions.{no_visit, visit_dart, visit_letter, mate_dart, mate_bound, mate_opens, mate_inv, opposite_at, edge_inj}
use Rattle.words.proofs.Numbered.{Numbered, numbered_mate, numbered_perm, numbered_zero}

-- ---- the numbering as a fold over visits

abbrev entered : ℕ → ℕ → List ℕ → List ℕ
entered d e ns = set (set ns d (2 * e)) (opposite d) (2 * e + 1)

entered_length : (d e : ℕ) (ns : List ℕ) → length (entered d e ns) ≡ length ns
entered_length d e ns = length-set (set ns d (2 * e)) (opposite d) (2 * e + 1) ∙ length-set ns d (2 * e)

number_opens : (v : Visit) (vs : List Visit) (e : ℕ) (ns : List ℕ) → opens v.letter ≡ true
    → number (v ∷ vs) e ns ≡ number vs (suc e) (entered v.dart e ns)
unfolding number
number_opens v vs e ns h = ap (λ (b : Bool). cond b (number vs (suc e) (entered v.dart e ns)) (number vs e ns)) h

number_skips : (v : Visit) (vs : List Visit) (e : ℕ) (ns : List ℕ) → opens v.letter ≡ false → number (v ∷ vs) e ns ≡ number vs e ns
unfolding number
number_skips v vs e ns h = ap (λ (b : Bool). cond b (number vs (suc e) (entered v.dart e ns)) (number vs e ns)) h

-- a dart of another edge keeps its number
entered_other : (d e : ℕ) (ns : List ℕ) (x : ℕ) → (x / 2 ≡ d / 2 → ⊥) → get_or (entered d e ns) x 0 ≡ get_or ns x 0
entered_other d e ns x n =
    get_or-set_other (set ns d (2 * e)) (opposite d) x (2 * e + 1) 0 (λ q. n (ap (λ (y : ℕ). y / 2) q ∙ opposite_edge d))
    ∙ get_or-set_other ns d x (2 * e) 0 (λ q. n (ap (λ (y : ℕ). y / 2) q))

-- the edge of x is not opened in vs
abbrev Unopened : List Visit → ℕ → Type 0
Unopened vs x = (k : ℕ) → k < length vs → opens (get_or vs k no_visit).letter ≡ true → x / 2 ≡ (get_or vs k no_visit).dart / 2 → ⊥

number_past : (vs : List Visit) (e : ℕ) (ns : List ℕ) (x : ℕ) → Unopened vs x → get_or (number vs e ns) x 0 ≡ get_or ns x 0
unfolding number
number_past [] e ns x h = refl
number_past (v ∷ vs) e ns x h =
    let rest : Unopened vs x = λ k l. h (suc k) (omega arith) in
    go (opens v.letter) refl (number_past vs (suc e) (entered v.dart e ns) x rest) (number_past vs e ns x rest)
  where
    go : (b : Bool) → opens v.letter ≡ b → get_or (number vs (suc e) (entered v.dart e ns)) x 0 ≡ get_or (entered v.dart e ns) x 0
        → get_or (number vs e ns) x 0 ≡ get_or ns x 0 → get_or (number (v ∷ vs) e ns) x 0 ≡ get_or ns x 0
    go true o ih ih' = ap (λ (l : List ℕ). get_or l x 0) (number_opens v vs e ns o) ∙ ih ∙ entered_other v.dart e ns x (h 0 (omega arith) o)
    go false o ih ih' = ap (λ (l : List ℕ). get_or l x 0) (number_skips v vs e ns o) ∙ ih'

-- the two darts of the edge that is entered
entered_first : (d e : ℕ) (ns : List ℕ) → d < length ns → get_or (entered d e ns) d 0 ≡ 2 * e
unfolding opposite
entered_first d e ns h =
    get_or-set_other (set ns d (2 * e)) (opposite d) d (2 * e + 1) 0 (λ q. omega arith) ∙ get_or-set_same ns d (2 * e) 0 h

entered_second : (d e : ℕ) (ns : List ℕ) → opposite d < length ns → get_or (entered d e ns) (opposite d) 0 ≡ 2 * e + 1
entered_second d e ns h =
    get_or-set_same (set ns d (2 * e)) (opposite d) (2 * e + 1) 0 (subst (λ (n : ℕ). opposite d < n) (sym (length-set ns d (2 * e))) h)

-- ---- along the positions

abbrev pub opening : Plan → ℕ → Bool
opening p i = opens (letter_of p i)

abbrev pub rank : Plan → ℕ → ℕ
rank p i = opened (letter_of p) i

pub rank_opens : (p : Plan) (i : ℕ) → opening p i ≡ true → rank p (suc i) ≡ suc (rank p i)
unfolding opened count
rank_opens p i e = ap (λ (b : Bool). tick b (count (opening p) i)) e

pub rank_stays : (p : Plan) (i : ℕ) → opening p i ≡ false → rank p (suc i) ≡ rank p i
unfolding opened count
rank_stays p i e = ap (λ (b : Bool). tick b (count (opening p) i)) e

-- before position i some numbers ms are given, and what is left goes on from them
abbrev Part : Plan → ℕ → Type 0
Part p i = (ms : List ℕ) × (length ms ≡ darts p) × (standard_numbers p ≡ number (drop i (visits p)) (rank p i) ms)

module _ (p : Plan) (t : Toured p) (fits : dart_count_fits (darts p) ≡ true) where
  abbrev at : ℕ → Visit
  at i = get_or (visits p) i no_visit

  -- two openings of one edge are one
  one_edge : (i j : ℕ) → i < darts p → j < darts p → opening p i ≡ true → opening p j ≡ true → dart_at p i / 2 ≡ dart_at p j / 2 → i ≡ j
  one_edge i j hi hj u v e =
      ⊎_elim (λ q. q) (λ m. absurd (true≢false (sym u ∙ ap (opening p) m ∙ mate_opens p t j hj ∙ ap not v))) (edge_inj p t fits i j hi hj e)

  left : (i : ℕ) → i < darts p → drop i (visits p) ≡ at i ∷ drop (suc i) (visits p)
  left i h = drop-cons (visits p) i no_visit (omega (arith, t.all_met))

  number_step : (i : ℕ) → i < darts p → opening p i ≡ true → (ms : List ℕ)
      → number (drop i (visits p)) (rank p i) ms ≡ number (drop (suc i) (visits p)) (rank p (suc i)) (entered (dart_at p i) (rank p i) ms)
  number_step i h o ms =
      ap (λ (vs : List Visit). number vs (rank p i) ms) (left i h)
      ∙ number_opens (at i) (drop (suc i) (visits p)) (rank p i) ms (ap opens (visit_letter p i) ∙ o)
      ∙ rw (visit_dart p i, rank_opens p i o)

  part : (i : ℕ) → i ≤ darts p → Part p i
  unfolding standard_numbers opened count
  part zero h = (replicate (darts p) 0, length-replicate (darts p) 0, refl)
  part (suc i) h = go (opening p i) refl (part i (omega arith))
    where
      go : (b : Bool) → opening p i ≡ b → Part p i → Part p (suc i)
      go true o (ms, l, e) = (entered (dart_at p i) (rank p i) ms, entered_length (dart_at p i) (rank p i) ms ∙ l, e ∙ number_step i h o ms)
      go false o (ms, l, e) = (
        ms,
        l,
        e ∙ ap (λ (vs : List Visit). number vs (rank p i) ms) (left i h)
            ∙ number_skips (at i) (drop (suc i) (visits p)) (rank p i) ms (ap opens (visit_letter p i) ∙ o)
            ∙ ap (λ (r : ℕ). number (drop (suc i) (visits p)) r ms) (sym (rank_stays p i o)),
      )

  -- what is opened later is another edge
  later : (i : ℕ) → i < darts p → opening p i ≡ true → (x : ℕ) → x / 2 ≡ dart_at p i / 2 → Unopened (drop (suc i) (visits p)) x
  later i h o x e k l u f =
      let j : ℕ = suc i + k in
      let same : get_or (drop (suc i) (visits p)) k no_visit ≡ at j = get_or-drop (suc i) (visits p) k no_visit in
      let hj : j < darts p = omega (arith, length-drop (suc i) (visits p), t.all_met) in
      let v : opening p j ≡ true = ap opens (sym (visit_letter p j) ∙ ap (λ (v : Visit). v.letter) (sym same)) ∙ u in
      let d : (get_or (drop (suc i) (visits p)) k no_visit).dart ≡ dart_at p j = ap (λ (v : Visit). v.dart) same ∙ visit_dart p j in
      let q : i ≡ j = one_edge i j h hj o v (sym e ∙ f ∙ ap (λ (y : ℕ). y / 2) d) in
      omega arith

  -- the numbers of an edge are those that it gets when it is opened
  given : (i : ℕ) → i < darts p → opening p i ≡ true → (ms : List ℕ) × (length ms ≡ darts p)
      × ((x : ℕ) → x / 2 ≡ dart_at p i / 2 → get_or (standard_numbers p) x 0 ≡ get_or (entered (dart_at p i) (rank p i) ms) x 0)
  given i h o =
      let (ms, l, e) = part i (omega arith) in (
        ms,
        l,
        λ x f.
            ap (λ (ns : List ℕ). get_or ns x 0) (e ∙ number_step i h o ms)
            ∙ number_past (drop (suc i) (visits p)) (rank p (suc i)) (entered (dart_at p i) (rank p i) ms) x (later i h o x f),
      )

  abbrev number_of : ℕ → ℕ
  number_of d = get_or (standard_numbers p) d 0

  pub opened_number : (i : ℕ) → i < darts p → opening p i ≡ true → number_of (dart_at p i) ≡ 2 * rank p i
  opened_number i h o =
      let (ms, l, e) = given i h o in
      let b = t.dart_bound i h in
      e (dart_at p i) refl ∙ entered_first (dart_at p i) (rank p i) ms (omega arith)

  pub other_number : (i : ℕ) → i < darts p → opening p i ≡ true → number_of (opposite (dart_at p i)) ≡ 2 * rank p i + 1
  other_number i h o =
      let (ms, l, e) = given i h o in
      let b = opposite_at p t fits i h in
      e (opposite (dart_at p i)) (opposite_edge (dart_at p i)) ∙ entered_second (dart_at p i) (rank p i) ms (omega arith)

  pub ended_number : (i : ℕ) → i < darts p → opening p i ≡ false → number_of (dart_at p i) ≡ 2 * rank p (mate_of p i) + 1
  ended_number i h o =
      ap number_of (sym (opposite_opposite (dart_at p i)) ∙ ap opposite (sym (mate_dart p t fits i h)))
      ∙ other_number (mate_of p i) (mate_bound p t fits i h) (mate_opens p t i h ∙ ap not o)

  -- ---- by darts

  pub numbered : Numbered (letter_of p) (darts p) (mate_of p) (λ i. number_of (dart_at p i))
  numbered = record { inv = mate_inv p t fits; fellows = t.fellows; later = t.opens_first; begins = opened_number; ends = ended_number }

  perm : Perm (darts p) (λ i. number_of (dart_at p i))
  perm = numbered_perm (letter_of p) (darts p) (mate_of p) (λ i. number_of (dart_at p i)) numbered

  pub numbers_opposite : (d : ℕ) → d < darts p → get_or (standard_numbers p) (opposite d) 0 ≡ opposite (get_or (standard_numbers p) d 0)
  numbers_opposite d h =
      let i = pos_of p d in
      let hi = t.pos_bound d h in
      ap number_of (ap opposite (sym (t.dart_pos d h)) ∙ sym (mate_dart p t fits i hi))
      ∙ numbered_mate (letter_of p) (darts p) (mate_of p) (λ i. number_of (dart_at p i)) numbered i hi
      ∙ ap (λ (e : ℕ). opposite (number_of e)) (t.dart_pos d h)

  pub numbers_below : (d : ℕ) → d < darts p → get_or (standard_numbers p) d 0 < darts p
  numbers_below d h = subst (λ (e : ℕ). number_of e < darts p) (t.dart_pos d h) (perm.bound (pos_of p d) (t.pos_bound d h))

  pub numbers_inj : (c d : ℕ) → c < darts p → d < darts p → get_or (standard_numbers p) c 0 ≡ get_or (standard_numbers p) d 0 → c ≡ d
  numbers_inj c d hc hd same =
      sym (t.dart_pos c hc)
      ∙ ap (dart_at p) (perm.inj (pos_of p c) (pos_of p d) (t.pos_bound c hc) (t.pos_bound d hd)
      (ap number_of (t.dart_pos c hc) ∙ same ∙ ap number_of (sym (t.dart_pos d hd))))
      ∙ t.dart_pos d hd

  pub numbers_permutation : is_permutation (standard_numbers p) ≡ true
  numbers_permutation = permutation_of (standard_numbers p)
      (λ k l. let h = standard_size p in subst (λ (n : ℕ). number_of k < n) (sym h) (numbers_below k (omega arith)))
      (λ i j hi hj e. let h = standard_size p in numbers_inj i j (omega arith) (omega arith) e)

  pub numbers_onto : (y : ℕ) → y < darts p → (d : ℕ) × (d < darts p) × (get_or (standard_numbers p) d 0 ≡ y)
  numbers_onto = onto (darts p) number_of (record { bound = numbers_below; inj = numbers_inj })

  pub numbers_root : get_or (standard_numbers p) p.root 0 ≡ 0
  numbers_root =
      ap number_of (sym t.starts)
      ∙ numbered_zero (letter_of p) (darts p) (mate_of p) (λ i. number_of (dart_at p i)) numbered (count_positive (darts p) fits)
