-- The rotation that is built from a balanced word w: N letters, ℓ i the letter and x i the dart at position i.
--
--   place              where the dart after position i is entered
--   turn               the entry at the dart x (τ i) is the dart at the position after i, round the circle
--   step               the same before the last position
--   pos                the position of a dart
--   pos_bound, dart_pos, pos_dart   it is the inverse of x
--   next_perm          it is a permutation of the darts
--   rotation_listed    and passes the test for one
use Prim.Native.Nat.{ℕ, zero, suc, ◌≤◌, ◌<◌}
use native.Mathlib.Nat.{le_refl, le_of_lt, le_of_eq}
use native.Mathlib.Omega.{arith}
use mathlib.Core.Path.{◌≡◌, refl, sym, ap, ap₂, subst, ◌∙◌}
use mathlib.Core.Logic.{⊎_elim}
use mathlib.Core.Bool.{true, false}
use mathlib.Core.List.{List, []}
use lib.ListN.{length, get_or, set, drop, get_or-eq_default}
use lib.Seq.{drop-cons, drop-length}
use Rattle.model.specs.Numbers.{is_permutation}
use Rattle.model.specs.Map.{opposite, next}
use Rattle.model.specs.Traversal.{Letter, down, up, first, second}
use Rattle.orbits.specs.Permutation.{Perm}
use Rattle.orbits.specs.Chord.{φ}
use Rattle.orbits.specs.Chord as Chord
use Rattle.orbits.proofs.Chord.{next_cases, φ-perm, μ-inj}
use Rattle.orbits.proofs.Maps.{perm_list}
use Rattle.orbits.proofs.Inverse.{inverse, inverse_bound, back_there, there_back}
use Rattle.words.specs.Word.{word_darts, place_of, link, rotation_of, head}
use Rattle.words.specs.Toured.{is_tree}
use Rattle.words.specs.Brackets.{letter}
use Rattle.words.specs.Position.{dart_no, Balance}
use Rattle.words.proofs.Plans.{rotation_length}
use Rattle.words.proofs.Lists.{filled, filled_at, head_drop}
use Rattle.words.proofs.WordDarts.{length_word_darts, word_darts_at}
use Rattle.words.proofs.Mates.{τ, τ-inv, τ-tree, τ-chord}
use Rattle.words.proofs.Darts.{dart_perm, dart_mate, dart_zero}

module _ (w : List Letter) (b : Balance (letter w) (length w)) where
  abbrev N : ℕ
  N = length w

  abbrev ℓ : ℕ → Letter
  ℓ = letter w

  abbrev x : ℕ → ℕ
  x = dart_no ℓ

  abbrev t : ℕ → ℕ
  t = τ ℓ N b

  abbrev xs : List ℕ
  xs = word_darts 0 [] [] w

  -- where the dart after position i is entered
  abbrev q : ℕ → ℕ
  q i = x (t i)

  -- and that dart
  abbrev y : ℕ → ℕ
  y i = get_or xs (suc i) 0

  pub place : (i : ℕ) → i < N → place_of (ℓ i) (x i) ≡ q i
  unfolding place_of
  place i h = go (ℓ i) refl
    where
      tree : is_tree (ℓ i) ≡ true → opposite (x i) ≡ q i
      tree e = sym (dart_mate ℓ N b i h) ∙ ap x (sym (τ-tree ℓ N b i e))

      chord : is_tree (ℓ i) ≡ false → x i ≡ q i
      chord e = ap x (sym (τ-chord ℓ N b i h e))

      go : (l : Letter) → ℓ i ≡ l → place_of l (x i) ≡ q i
      go down e = tree (ap is_tree e)
      go up e = tree (ap is_tree e)
      go first e = chord (ap is_tree e)
      go second e = chord (ap is_tree e)

  linked : (i : ℕ) → i ≤ N → link (drop i w) (drop i xs) (filled N q y i) ≡ rotation_of w
  unfolding link rotation_of filled
  linked zero h = refl
  linked (suc i) h =
      let ih = linked i (le_of_lt h) in
      let l = drop-cons w i second h in
      let d = drop-cons xs i 0 (rw length_word_darts h) in
      let p : place_of (ℓ i) (get_or xs i 0) ≡ q i = ap (place_of (ℓ i)) (word_darts_at w i h) ∙ place i h in
      let v : head (drop (suc i) xs) ≡ y i = head_drop xs (suc i) in
      sym (ap₂ (λ (a c : ℕ). link (drop (suc i) w) (drop (suc i) xs) (set (filled N q y i) a c)) p v) ∙ rw (l, d) at ih

  rotation_is : rotation_of w ≡ filled N q y N
  unfolding link
  rotation_is = sym (linked N (le_refl N)) ∙ ap (λ (v : List Letter). link v (drop N xs) (filled N q y N)) (drop-length w)

  place_perm : Perm N q
  place_perm = record {
    bound = λ i h. (dart_perm ℓ N b).bound (t i) ((τ-inv ℓ N b).bound i h);
    inj = λ i j hi hj e. μ-inj N t (τ-inv ℓ N b) i j hi hj ((dart_perm ℓ N b).inj (t i) (t j) ((τ-inv ℓ N b).bound i hi) ((τ-inv ℓ N b).bound j hj) e);
  }

  after : (i : ℕ) → i < N → y i ≡ x (Chord.next N i)
  after i h =
      ⊎_elim
      (λ k. word_darts_at w (suc i) k.0 ∙ ap x (sym k.1))
      (λ k. get_or-eq_default xs 0 (le_of_eq (length_word_darts 0 [] [] w ∙ sym k.0)) ∙ sym (dart_zero ℓ N b (omega arith)) ∙ ap x (sym k.1))
      (next_cases N i h)

  pub turn : (i : ℕ) → i < N → next (rotation_of w) (q i) ≡ x (Chord.next N i)
  unfolding next
  turn i h = ap (λ (r : List ℕ). get_or r (q i) 0) rotation_is ∙ filled_at N q y place_perm N (le_refl N) i h ∙ after i h

  pub step : (i : ℕ) → suc i < N → x (suc i) ≡ next (rotation_of w) (q i)
  step i h =
      let on : Chord.next N i ≡ suc i = ⊎_elim (λ k. k.1) (λ k. absurd (omega arith)) (next_cases N i (le_of_lt h)) in
      ap x (sym on) ∙ sym (turn i (le_of_lt h))

  -- ---- by positions

  pub pos : ℕ → ℕ
  pos d = inverse N x (dart_perm ℓ N b) d

  pub pos_bound : (d : ℕ) → d < N → pos d < N
  unfolding pos
  pos_bound = inverse_bound N x (dart_perm ℓ N b)

  pub dart_pos : (d : ℕ) → d < N → x (pos d) ≡ d
  unfolding pos
  dart_pos = back_there N x (dart_perm ℓ N b)

  pub pos_dart : (i : ℕ) → i < N → pos (x i) ≡ i
  unfolding pos
  pos_dart = there_back N x (dart_perm ℓ N b)

  next_pos : (d : ℕ) → d < N → next (rotation_of w) d ≡ x (φ t N (pos d))
  unfolding φ
  next_pos d h =
      let i = pos d in
      let hi : i < N = pos_bound d h in
      ap (next (rotation_of w)) (sym (dart_pos d h) ∙ ap x (sym ((τ-inv ℓ N b).back i hi))) ∙ turn (t i) ((τ-inv ℓ N b).bound i hi)

  pub next_perm : Perm N (next (rotation_of w))
  next_perm = record {
    bound = λ d h. subst (λ (z : ℕ). z < N) (sym (next_pos d h)) (X.bound (φ t N (pos d)) (F.bound (pos d) (pos_bound d h)));
    inj = inj;
  }
    where
      X : Perm N x
      X = dart_perm ℓ N b

      F : Perm N (φ t N)
      F = φ-perm N t (τ-inv ℓ N b)

      inj : (d e : ℕ) → d < N → e < N → next (rotation_of w) d ≡ next (rotation_of w) e → d ≡ e
      inj d e hd he q =
          let same : x (φ t N (pos d)) ≡ x (φ t N (pos e)) = sym (next_pos d hd) ∙ q ∙ next_pos e he in
          let u = X.inj _ _ (F.bound (pos d) (pos_bound d hd)) (F.bound (pos e) (pos_bound e he)) same in
          let v = F.inj (pos d) (pos e) (pos_bound d hd) (pos_bound e he) u in
          sym (dart_pos d hd) ∙ ap x v ∙ dart_pos e he

  pub rotation_listed : is_permutation (rotation_of w) ≡ true
  unfolding next
  rotation_listed = perm_list (rotation_of w) (subst (λ (n : ℕ). Perm n (next (rotation_of w))) (sym (rotation_length w)) next_perm)
