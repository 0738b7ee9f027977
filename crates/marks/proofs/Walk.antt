-- The marks along the walk, until it is back at the root: a dart has a mark exactly when its vertex is seen, and the next letter is read off the mark of
-- the opposite.
--
--   known                 the opposite of the dart to come is not met, or met as down or first
--   new_here, seen_now    that dart is not met, and its vertex is seen
--   marks_start           the round of the root's vertex
--   marks_up, marks_second, marks_first, marks_down   one step
--   read_down, read_first, read_up, read_second   the letter to come
use mathlib.Core.Path.{◌≡◌, refl, sym, ap, ◌∙◌, subst}
use mathlib.Core.Logic.{◌⊎◌, inl, inr, ⊎_elim, ◌≢◌}
use mathlib.Core.List.{List}
use Prim.Native.Nat.{ℕ, zero, suc, ◌≤◌, ◌<◌}
use native.Mathlib.Nat.{le_refl}
use native.Mathlib.Omega.{arith}
use lib.ListN.{length, get_or, set, replicate, length-set, length-replicate}
use lib.Seq.{get_or-set_same, get_or-set_other}
use Rattle.model.specs.Map.{opposite, next, vertex_of}
use Rattle.model.specs.Traversal.{Letter, down, up, first, second, code, seen_after}
use Rattle.model.proofs.Opposite.{opposite_opposite}
use Rattle.orbits.specs.Permutation.{Perm}
use Rattle.orbits.specs.Chord.{Involution}
use Rattle.orbits.proofs.Order.{eq_split}
use Rattle.orbits.proofs.Cycle.{least_bound}
use Rattle.traversal.specs.Steps.{at, start, step, letter, dart, letter_after, mark, seen_mark}
use Rattle.traversal.proofs.Marks.{zeros_at}
use Rattle.traversal.proofs.Steps.{Case, new, old, back, noted, case, down_case, code_some, mark_met, dart_bound, across_bound, seen_here}
use Rattle.traversal.proofs.Follow.{Away, Followed, follows, away_less, unmarked}
use Rattle.marks.specs.Marks.{Stands, Rounded}
use Rattle.marks.proofs.Stands.{Known, letter_down, letter_first, letter_up, letter_second, stands_pass, stands_first, stands_down}

module _ (rot : List ℕ) (r : ℕ) (turn : Perm (length rot) (next rot)) (cross : Involution (length rot) opposite) (hr : r < length rot) where
  abbrev D : ℕ → ℕ
  D = dart rot r

  abbrev M : ℕ → ℕ → ℕ
  M = mark rot r

  abbrev l : ℕ → Letter
  l = letter_after rot r

  abbrev Out : ℕ → Type 0
  Out = Away rot r turn cross hr

  vertex_bound : (x : ℕ) → x < length rot → vertex_of rot x < length rot
  unfolding vertex_of
  vertex_bound x h = least_bound (length rot) (next rot) turn x h

  length_met : (k : ℕ) → length (at rot r k).met ≡ length rot
  unfolding at start step
  length_met zero = simp length-replicate
  length_met (suc k) = simp length-set (length_met k)

  after_length : (a : Letter) (d : ℕ) (seen : List ℕ) → length (seen_after rot a d seen) ≡ length seen
  unfolding seen_after
  after_length down d seen = simp length-set
  after_length up d seen = refl
  after_length first d seen = refl
  after_length second d seen = refl

  length_seen : (k : ℕ) → length (at rot r k).seen ≡ length rot
  unfolding at start step
  length_seen zero = simp (length-set, length-replicate)
  length_seen (suc k) = after_length (letter rot (at rot r k)) (at rot r k).dart (at rot r k).seen ∙ length_seen k

  -- a dart met as up or second has its opposite met before it
  module _ (k : ℕ) (out : Out (suc k)) where
    f : Followed rot r turn cross hr k
    f = follows rot r turn cross hr k (away_less rot r turn cross hr k out)

    free : M k (D k) ≡ 0
    free = unmarked rot r turn cross hr k f out

    not_before : (j : ℕ) → j < k → opposite (D j) ≡ D k → M j (opposite (D j)) ≢ 0 → ⊥
    not_before j h e n =
        let (i, g, q) = mark_met rot r j (opposite (D j)) n in
        code_some (l i) (sym (f.marked i (omega arith)) ∙ ap (M k) (q ∙ e) ∙ free)

    opened : (j : ℕ) → j < k → opposite (D j) ≡ D k → {s : ℕ} → Case (M j (opposite (D j))) s (l j) → (code (l j) ≡ 1) ⊎ (code (l j) ≡ 3)
    opened j h e (new m s q) = inl (ap code q)
    opened j h e (old m s q) = inr (ap code q)
    opened j h e (back m q) = absurd (not_before j h e (λ z. omega arith))
    opened j h e (noted u n q) = absurd (not_before j h e u)

    known_mark : (M k (opposite (D k)) ≡ 0) ⊎ ((M k (opposite (D k)) ≡ 1) ⊎ (M k (opposite (D k)) ≡ 3))
    known_mark = eq_split (M k (opposite (D k))) 0 (λ e. inl e) (λ n.
        let (j, h, e) = mark_met rot r k (opposite (D k)) n in
        let same = ap (M k) (sym e) ∙ f.marked j h in
        inr (⊎_elim (λ c. inl (same ∙ c)) (λ c. inr (same ∙ c)) (opened j h (ap opposite e ∙ opposite_opposite (D k)) (case rot r j))))

    pub known : Known (at rot r k).met (opposite (D k))
    unfolding mark
    known = known_mark

    pub new_here : get_or (at rot r k).met (D k) 0 ≡ 0
    unfolding mark
    new_here = free

    pub seen_now : get_or (at rot r k).seen (vertex_of rot (D k)) 0 ≢ 0
    unfolding seen_mark
    seen_now = seen_here rot r turn cross hr k k (le_refl k)

    -- ---- the letter to come, and one step

    module _ (w : List ℕ) (s : Stands rot (at rot r k).met (at rot r k).seen w) where
      pub read_down : get_or w (opposite (D k)) 0 ≡ 0 → l k ≡ down
      unfolding letter_after letter dart
      read_down e = letter_down rot _ _ w s (D k) (across_bound rot r turn cross hr k) known e

      pub read_first : 32768 ≤ get_or w (opposite (D k)) 0 → l k ≡ first
      unfolding letter_after letter dart
      read_first e = letter_first rot _ _ w s (D k) (across_bound rot r turn cross hr k) known e

      pub read_up : 16384 ≤ get_or w (opposite (D k)) 0 → get_or w (opposite (D k)) 0 < 32768 → l k ≡ up
      unfolding letter_after letter dart
      read_up e g = letter_up rot _ _ w s (D k) (across_bound rot r turn cross hr k) known e g

      pub read_second : 0 < get_or w (opposite (D k)) 0 → get_or w (opposite (D k)) 0 < 16384 → l k ≡ second
      unfolding letter_after letter dart
      read_second e g = letter_second rot _ _ w s (D k) (across_bound rot r turn cross hr k) known e g

      After : Letter → List ℕ → Type 0
      After a v = Stands rot (set (at rot r k).met (D k) (code a)) (seen_after rot a (D k) (at rot r k).seen) v

      after : (a : Letter) (v : List ℕ) → l k ≡ a → After a v → Stands rot (at rot r (suc k)).met (at rot r (suc k)).seen v
      unfolding at step letter_after dart After
      after a v e t = subst (λ (b : Letter). After b v) (sym e) t

      pub marks_up : l k ≡ up → Stands rot (at rot r (suc k)).met (at rot r (suc k)).seen w
      unfolding seen_after After
      marks_up e = after up w e
          (stands_pass rot _ _ w s (length_met k) (D k) (dart_bound rot r turn cross hr k) new_here 2 (λ q. omega arith) (λ q. omega arith))

      pub marks_second : l k ≡ second → Stands rot (at rot r (suc k)).met (at rot r (suc k)).seen w
      unfolding seen_after After
      marks_second e = after second w e
          (stands_pass rot _ _ w s (length_met k) (D k) (dart_bound rot r turn cross hr k) new_here 4 (λ q. omega arith) (λ q. omega arith))

      pub marks_first : l k ≡ first → (v : ℕ) → 8192 ≤ v → v < 16384 → Stands rot (at rot r (suc k)).met (at rot r (suc k)).seen (set w (D k) v)
      unfolding seen_after After
      marks_first e v lo hi = after first (set w (D k) v) e
          (stands_first rot _ _ w s (length_met k) (D k) (dart_bound rot r turn cross hr k) new_here seen_now v lo hi)

      -- down: nothing of the opposite's vertex is marked, so its round marks all of it and nothing else
      pub unmarked_vertex : l k ≡ down → (z : ℕ) → z < length rot → vertex_of rot z ≡ vertex_of rot (opposite (D k)) → get_or w z 0 ≡ 0
      unfolding seen_mark
      unmarked_vertex e z h q = s.dark z h (ap (λ (y : ℕ). get_or (at rot r k).seen y 0) q ∙ (down_case (case rot r k) e).1)

      pub marks_down : l k ≡ down → (c : ℕ) → 32768 ≤ c → (b : List ℕ) → Rounded rot (opposite (D k)) c w b
          → (v : ℕ) → 16384 ≤ v → v < 32768 → Stands rot (at rot r (suc k)).met (at rot r (suc k)).seen (set b (D k) v)
      unfolding seen_after After seen_mark
      marks_down e c big b t v lo hi =
          let o = opposite (D k) in
          after down (set b (D k) v) e
          (stands_down rot _ _ w s (length_met k) (D k) (dart_bound rot r turn cross hr k) new_here o c b
          (down_case (case rot r k) e).1
          (subst (λ (n : ℕ). vertex_of rot o < n) (sym (length_seen k)) (vertex_bound o (across_bound rot r turn cross hr k)))
          t seen_now big v lo hi)

  -- ---- the beginning: the round of the root's vertex in a list of zeros

  pub marks_start : (c : ℕ) → 32768 ≤ c → (b : List ℕ) → Rounded rot r c (replicate (length rot) 0) b → Stands rot (at rot r 0).met (at rot r 0).seen b
  unfolding at start
  marks_start c big b t =
      let zs : List ℕ = replicate (length rot) 0 in
      let here : vertex_of rot r < length zs = subst (λ (n : ℕ). vertex_of rot r < n) (sym (length-replicate (length rot) 0)) (vertex_bound r hr) in
      record {
        size = t.size ∙ length-replicate (length rot) 0;
        dark = λ y k q. eq_split (vertex_of rot y) (vertex_of rot r)
            (λ e. let i : get_or (set zs (vertex_of rot r) 1) (vertex_of rot y) 0 ≡ 1 =
            ap (λ (u : ℕ). get_or (set zs (vertex_of rot r) 1) u 0) e ∙ get_or-set_same zs (vertex_of rot r) 1 0 here in absurd (omega arith))
            (λ far. t.others y k far ∙ zeros_at (length rot) y);
        light = λ y k q f g. eq_split (vertex_of rot y) (vertex_of rot r)
            (λ e. let i = t.own y k e in omega arith)
            (λ far. absurd (q (get_or-set_other zs (vertex_of rot r) (vertex_of rot y) 1 0 far ∙ zeros_at (length rot) (vertex_of rot y))));
        downs = λ y k q. let i = zeros_at (length rot) y in absurd (omega arith);
        firsts = λ y k q. let i = zeros_at (length rot) y in absurd (omega arith);
      }
