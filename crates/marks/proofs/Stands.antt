-- The marks of darts stand for letters' codes and vertices seen: the next letter, and one step.
--
--   Known                     a dart is not met, or met as down or first
--   letter_down, letter_first, letter_up, letter_second      the letter of d is read off the mark of its opposite
--   stands_pass               d is met as up or second: the marks stay
--   stands_first              d is met as first, and gets its mark
--   stands_down               d is met as down: the round of the opposite's vertex, then d's mark
use mathlib.Core.Path.{◌≡◌, refl, sym, ap, ◌∙◌, subst}
use mathlib.Core.Logic.{◌⊎◌, ⊎_elim, ◌≢◌}
use mathlib.Core.List.{List}
use Prim.Native.Nat.{ℕ, ◌≤◌, ◌<◌}
use native.Mathlib.Omega.{arith}
use lib.ListN.{length, get_or, set, length-set}
use lib.Seq.{get_or-set_same, get_or-set_other}
use borrow.Author.Tests.{eq-eqb, ne_eqb}
use Rattle.model.specs.Map.{opposite, vertex_of}
use Rattle.model.specs.Traversal.{Letter, down, up, first, second, letter_at}
use Rattle.orbits.proofs.Order.{eq_split}
use Rattle.marks.specs.Marks.{Stands, Rounded}

-- ---- the letter of d, whose opposite has not been met, or met as down or first

abbrev pub Known : List ℕ → ℕ → Type 0
Known met o = (get_or met o 0 ≡ 0) ⊎ ((get_or met o 0 ≡ 1) ⊎ (get_or met o 0 ≡ 3))

module _ (rot met seen w : List ℕ) (s : Stands rot met seen w) (d : ℕ) (h : opposite d < length rot) (known : Known met (opposite d)) where
  at_none : get_or met (opposite d) 0 ≡ 0 → get_or seen (vertex_of rot (opposite d)) 0 ≡ 0 → letter_at rot met seen d ≡ down
  unfolding letter_at
  at_none e z = rw (eq-eqb _ _ e, eq-eqb _ _ z) refl

  at_seen : get_or met (opposite d) 0 ≡ 0 → get_or seen (vertex_of rot (opposite d)) 0 ≢ 0 → letter_at rot met seen d ≡ first
  unfolding letter_at
  at_seen e z = rw (eq-eqb _ _ e, ne_eqb _ _ z) refl

  at_down : get_or met (opposite d) 0 ≡ 1 → letter_at rot met seen d ≡ up
  unfolding letter_at
  at_down e = rw e refl

  at_first : get_or met (opposite d) 0 ≡ 3 → letter_at rot met seen d ≡ second
  unfolding letter_at
  at_first e = rw e refl

  -- what the mark is in each of the four cases
  cases : (P : Letter → Type 0)
      → (get_or w (opposite d) 0 ≡ 0 → P down) → (32768 ≤ get_or w (opposite d) 0 → P first)
      → (16384 ≤ get_or w (opposite d) 0 → get_or w (opposite d) 0 < 32768 → P up)
      → (8192 ≤ get_or w (opposite d) 0 → get_or w (opposite d) 0 < 16384 → P second) → P (letter_at rot met seen d)
  cases P a b c e = ⊎_elim
      (λ q. eq_split (get_or seen (vertex_of rot (opposite d)) 0) 0
      (λ z. subst P (sym (at_none q z)) (a (s.dark (opposite d) h z)))
      (λ z. subst P (sym (at_seen q z)) (b (s.light (opposite d) h z (λ r. omega arith) (λ r. omega arith)))))
      (⊎_elim
      (λ q. let (k, l) = s.downs (opposite d) h q in subst P (sym (at_down q)) (c k l))
      (λ q. let (k, l) = s.firsts (opposite d) h q in subst P (sym (at_first q)) (e k l)))
      known

  pub letter_down : get_or w (opposite d) 0 ≡ 0 → letter_at rot met seen d ≡ down
  letter_down e = cases (λ (l : Letter). l ≡ down) (λ q. refl) (λ q. absurd (omega arith)) (λ q r. absurd (omega arith)) (λ q r. absurd (omega arith))

  pub letter_first : 32768 ≤ get_or w (opposite d) 0 → letter_at rot met seen d ≡ first
  letter_first e = cases (λ (l : Letter). l ≡ first) (λ q. absurd (omega arith)) (λ q. refl) (λ q r. absurd (omega arith)) (λ q r. absurd (omega arith))

  pub letter_up : 16384 ≤ get_or w (opposite d) 0 → get_or w (opposite d) 0 < 32768 → letter_at rot met seen d ≡ up
  letter_up e f = cases (λ (l : Letter). l ≡ up) (λ q. absurd (omega arith)) (λ q. absurd (omega arith)) (λ q r. refl) (λ q r. absurd (omega arith))

  pub letter_second : 0 < get_or w (opposite d) 0 → get_or w (opposite d) 0 < 16384 → letter_at rot met seen d ≡ second
  letter_second e f = cases (λ (l : Letter). l ≡ second) (λ q. absurd (omega arith)) (λ q. absurd (omega arith)) (λ q r. absurd (omega arith)) (λ q r. refl)

-- ---- one step

module _ (rot met seen w : List ℕ) (s : Stands rot met seen w) (long : length met ≡ length rot) (d : ℕ) (h : d < length rot) (new : get_or met d 0 ≡ 0) where
  noted : (c : ℕ) → get_or (set met d c) d 0 ≡ c
  noted c = get_or-set_same met d c 0 (omega arith)

  others : (c x : ℕ) → x ≢ d → get_or (set met d c) x 0 ≡ get_or met x 0
  others c x ne = get_or-set_other met d x c 0 ne

  -- as up or second: nothing is marked
  pub stands_pass : (c : ℕ) → c ≢ 1 → c ≢ 3 → Stands rot (set met d c) seen w
  stands_pass c no1 no3 = record {
    size = s.size;
    dark = s.dark;
    light = λ x k z a b. eq_split x d
        (λ e. s.light x k z (λ q. let r : get_or met x 0 ≡ 0 = ap (λ (y : ℕ). get_or met y 0) e ∙ new in omega arith)
        (λ q. let r : get_or met x 0 ≡ 0 = ap (λ (y : ℕ). get_or met y 0) e ∙ new in omega arith))
        (λ ne. s.light x k z (λ q. a (others c x ne ∙ q)) (λ q. b (others c x ne ∙ q)));
    downs = λ x k q. eq_split x d
        (λ e. absurd (no1 (sym (ap (λ (y : ℕ). get_or (set met d c) y 0) e ∙ noted c) ∙ q)))
        (λ ne. s.downs x k (sym (others c x ne) ∙ q));
    firsts = λ x k q. eq_split x d
        (λ e. absurd (no3 (sym (ap (λ (y : ℕ). get_or (set met d c) y 0) e ∙ noted c) ∙ q)))
        (λ ne. s.firsts x k (sym (others c x ne) ∙ q));
  }

  -- as first, at a vertex seen
  pub stands_first : get_or seen (vertex_of rot d) 0 ≢ 0 → (v : ℕ) → 8192 ≤ v → v < 16384 → Stands rot (set met d 3) seen (set w d v)
  stands_first z v lo hi = record {
    size = length-set w d v ∙ s.size;
    dark = λ x k q. eq_split x d
        (λ e. absurd (z (ap (λ (y : ℕ). get_or seen (vertex_of rot y) 0) (sym e) ∙ q)))
        (λ ne. get_or-set_other w d x v 0 ne ∙ s.dark x k q);
    light = λ x k q a b. eq_split x d
        (λ e. absurd (b (ap (λ (y : ℕ). get_or (set met d 3) y 0) e ∙ noted 3)))
        (λ ne. let g = get_or-set_other w d x v 0 ne in
        let r = s.light x k q (λ i. a (others 3 x ne ∙ i)) (λ i. b (others 3 x ne ∙ i)) in
        omega arith);
    downs = λ x k q. eq_split x d
        (λ e. let i : get_or (set met d 3) x 0 ≡ 3 = ap (λ (y : ℕ). get_or (set met d 3) y 0) e ∙ noted 3 in absurd (omega arith))
        (λ ne. let g = get_or-set_other w d x v 0 ne in let (lo', hi') = s.downs x k (sym (others 3 x ne) ∙ q) in (omega arith, omega arith));
    firsts = λ x k q. eq_split x d
        (λ e. let i : get_or (set w d v) x 0 ≡ v = ap (λ (y : ℕ). get_or (set w d v) y 0) e ∙ get_or-set_same w d v 0 (omega (arith, s.size)) in (omega arith, omega arith))
        (λ ne. let g = get_or-set_other w d x v 0 ne in let (lo', hi') = s.firsts x k (sym (others 3 x ne) ∙ q) in (omega arith, omega arith));
  }

  -- as down: the round of the vertex of o, which is not seen, has given b; then d, at a vertex seen, gets its mark
  module _ (o c : ℕ) (b : List ℕ) (unseen : get_or seen (vertex_of rot o) 0 ≡ 0) (place : vertex_of rot o < length seen) (t : Rounded rot o c w b) where
    -- a dart that has a mark is not at that vertex
    apart : (x : ℕ) → x < length rot → get_or w x 0 ≢ 0 → vertex_of rot x ≢ vertex_of rot o
    apart x k m e = m (s.dark x k (ap (λ (y : ℕ). get_or seen y 0) e ∙ unseen))

    pub stands_down : get_or seen (vertex_of rot d) 0 ≢ 0 → 32768 ≤ c → (v : ℕ) → 16384 ≤ v → v < 32768
        → Stands rot (set met d 1) (set seen (vertex_of rot o) 1) (set b d v)
    stands_down z big v lo hi = record {
      size = length-set b d v ∙ t.size ∙ s.size;
      dark = λ x k q. eq_split (vertex_of rot x) (vertex_of rot o)
          (λ e. let i : get_or (set seen (vertex_of rot o) 1) (vertex_of rot x) 0 ≡ 1 =
          ap (λ (y : ℕ). get_or (set seen (vertex_of rot o) 1) y 0) e ∙ get_or-set_same seen (vertex_of rot o) 1 0 place in absurd (omega arith))
          (λ far. let u = sym (get_or-set_other seen (vertex_of rot o) (vertex_of rot x) 1 0 far) ∙ q in eq_split x d
          (λ e. absurd (z (ap (λ (y : ℕ). get_or seen (vertex_of rot y) 0) (sym e) ∙ u)))
          (λ ne. get_or-set_other b d x v 0 ne ∙ t.others x k far ∙ s.dark x k u));
      light = λ x k q f g. eq_split x d
          (λ e. absurd (f (ap (λ (y : ℕ). get_or (set met d 1) y 0) e ∙ noted 1)))
          (λ ne. let j = get_or-set_other b d x v 0 ne in eq_split (vertex_of rot x) (vertex_of rot o)
          (λ e. let i = t.own x k e in omega arith)
          (λ far. let i = t.others x k far in
          let r = s.light x k (λ t. q (get_or-set_other seen (vertex_of rot o) (vertex_of rot x) 1 0 far ∙ t))
          (λ t. f (others 1 x ne ∙ t)) (λ t. g (others 1 x ne ∙ t)) in
          omega arith));
      downs = λ x k q. eq_split x d
          (λ e. let i : get_or (set b d v) x 0 ≡ v = ap (λ (y : ℕ). get_or (set b d v) y 0) e ∙ get_or-set_same b d v 0 (omega (arith, t.size, s.size)) in (omega arith, omega arith))
          (λ ne. let j = get_or-set_other b d x v 0 ne in let (lo', hi') = s.downs x k (sym (others 1 x ne) ∙ q) in
          let i = t.others x k (apart x k (λ t. omega arith)) in (omega arith, omega arith));
      firsts = λ x k q. eq_split x d
          (λ e. let i : get_or (set met d 1) x 0 ≡ 1 = ap (λ (y : ℕ). get_or (set met d 1) y 0) e ∙ noted 1 in absurd (omega arith))
          (λ ne. let j = get_or-set_other b d x v 0 ne in let (lo', hi') = s.firsts x k (sym (others 1 x ne) ∙ q) in
          let i = t.others x k (apart x k (λ t. omega arith)) in (omega arith, omega arith));
    }
