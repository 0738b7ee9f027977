-- One cycle is marked with c, from o on until a mark is met. f is a permutation below n, and nothing on the cycle of o is marked in b₀.
--
--   Round                  the marks b while this goes on: x is the dart to be marked next
--   round_start, round_step                 before the first mark, and one mark
--   round_own, round_other                  when x has a mark already: the cycle of o has c, the others are as before
use mathlib.Core.Path.{◌≡◌, refl, sym, ap, ◌∙◌, subst}
use mathlib.Core.Logic.{◌⊎◌, inl, inr, ⊎_elim, ◌≢◌}
use mathlib.Core.List.{List}
use Prim.Native.Nat.{ℕ, zero, suc, ◌<◌}
use lib.ListN.{length, get_or, set, length-set}
use lib.Seq.{get_or-set_same, get_or-set_other}
use Rattle.model.specs.Numbers.{iter, least}
use Rattle.model.specs.Map.{next, vertex_of}
use Rattle.orbits.specs.Permutation.{Perm}
use Rattle.orbits.proofs.Order.{eq_split}
use Rattle.orbits.proofs.Cycle.{least_step, same_reach}
use Rattle.marks.specs.Marks.{Rounded}

pub record Round (f : ℕ → ℕ) (n o c : ℕ) (b₀ b : List ℕ) (x : ℕ) : Type 0 where
  pub size : length b ≡ n
  pub kept : (z : ℕ) → z < n → (get_or b z 0 ≡ get_or b₀ z 0) ⊎ ((least f n z ≡ least f n o) × (get_or b z 0 ≡ c))
  pub here : x < n
  pub cycle : least f n x ≡ least f n o
  pub chain : (z : ℕ) → z < n → least f n z ≡ least f n o → get_or b z 0 ≡ c → (f z ≡ x) ⊎ (get_or b (f z) 0 ≡ c)
  pub begun : (o ≡ x) ⊎ (get_or b o 0 ≡ c)

module _ (f : ℕ → ℕ) (n : ℕ) (perm : Perm n f) (o : ℕ) (below : o < n) (c : ℕ) (some : c ≢ 0)
    (b₀ : List ℕ) (blank : (z : ℕ) → z < n → least f n z ≡ least f n o → get_or b₀ z 0 ≡ 0) where
  pub round_start : length b₀ ≡ n → Round f n o c b₀ b₀ o
  round_start e = record {
    size = e;
    kept = λ z h. inl refl;
    here = below;
    cycle = refl;
    chain = λ z h l q. absurd (some (sym q ∙ blank z h l));
    begun = inl refl;
  }

  module _ (b : List ℕ) (x : ℕ) (s : Round f n o c b₀ b x) where
    there : x < length b
    there = subst (λ (k : ℕ). x < k) (sym s.size) s.here

    -- an entry that was c is c, and so is that of x
    stays : (z : ℕ) → (z ≡ x) ⊎ (get_or b z 0 ≡ c) → get_or (set b x c) z 0 ≡ c
    stays z q = eq_split z x
        (λ e. ap (λ (k : ℕ). get_or (set b x c) k 0) e ∙ get_or-set_same b x c 0 there)
        (λ ne. get_or-set_other b x z c 0 ne ∙ ⊎_elim (λ e. absurd (ne e)) (λ e. e) q)

    pub round_step : Round f n o c b₀ (set b x c) (f x)
    round_step = record {
      size = length-set b x c ∙ s.size;
      kept = λ z h. eq_split z x
          (λ e. inr (ap (least f n) e ∙ s.cycle, stays z (inl e)))
          (λ ne. ⊎_elim (λ e. inl (get_or-set_other b x z c 0 ne ∙ e)) (λ p. inr (p.0, stays z (inr p.1))) (s.kept z h));
      here = perm.bound x s.here;
      cycle = least_step n f perm x s.here ∙ s.cycle;
      chain = λ z h l e. eq_split z x
          (λ q. inl (ap f q))
          (λ ne. inr (stays (f z) (s.chain z h l (sym (get_or-set_other b x z c 0 ne) ∙ e))));
      begun = inr (stays o s.begun);
    }

    -- a mark that is met on the cycle is c
    closes : get_or b x 0 ≢ 0 → get_or b x 0 ≡ c
    closes met = ⊎_elim (λ e. absurd (met (e ∙ blank x s.here s.cycle))) (λ p. p.1) (s.kept x s.here)

    iter_marked : get_or b x 0 ≡ c → (j z : ℕ) → z < n → least f n z ≡ least f n o → get_or b z 0 ≡ c → get_or b (iter f j z) 0 ≡ c
    unfolding iter
    iter_marked e zero z h l q = q
    iter_marked e (suc j) z h l q =
        iter_marked e j (f z) (perm.bound z h) (least_step n f perm z h ∙ l)
        (⊎_elim (λ r. ap (λ (k : ℕ). get_or b k 0) r ∙ e) (λ r. r) (s.chain z h l q))

    pub round_own : get_or b x 0 ≢ 0 → (z : ℕ) → z < n → least f n z ≡ least f n o → get_or b z 0 ≡ c
    round_own met z h l =
        let e = closes met in
        let (j, r) = same_reach n f perm o z h (sym l) in
        let first : get_or b o 0 ≡ c = ⊎_elim (λ q. ap (λ (k : ℕ). get_or b k 0) q ∙ e) (λ q. q) s.begun in
        ap (λ (k : ℕ). get_or b k 0) (sym r) ∙ iter_marked e j o below refl first

    pub round_other : (z : ℕ) → z < n → least f n z ≢ least f n o → get_or b z 0 ≡ get_or b₀ z 0
    round_other z h ne = ⊎_elim (λ e. e) (λ p. absurd (ne p.0)) (s.kept z h)

pub rounded : (rot : List ℕ) → Perm (length rot) (next rot) → (o : ℕ) → o < length rot → (c : ℕ) → c ≢ 0 → (b₀ : List ℕ) → length b₀ ≡ length rot
    → ((z : ℕ) → z < length rot → vertex_of rot z ≡ vertex_of rot o → get_or b₀ z 0 ≡ 0)
    → (b : List ℕ) (x : ℕ) → Round (next rot) (length rot) o c b₀ b x → get_or b x 0 ≢ 0 → Rounded rot o c b₀ b
unfolding vertex_of
rounded rot turn o h c some b₀ l blank b x s met = record {
  size = s.size ∙ sym l;
  own = round_own (next rot) (length rot) turn o h c some b₀ blank b x s met;
  others = round_other (next rot) (length rot) turn o h c some b₀ blank b x s;
}
