-- Darts of one vertex that are marked as seen have one mark: so an edge whose darts have different ones is no loop.
--
--   alike_set             a dart gets another mark
--   alike_round           the round of a vertex
--   distinct_start, distinct_set, distinct_round   and darts with one such mark are of one vertex, if each round has a higher mark
use mathlib.Core.Path.{◌≡◌, sym, ap, ◌∙◌, subst}
use mathlib.Core.Logic.{◌≢◌}
use mathlib.Core.List.{List}
use Prim.Native.Nat.{ℕ, ◌≤◌, ◌<◌}
use native.Mathlib.Omega.{arith}
use lib.ListN.{length, get_or, set, replicate}
use lib.Seq.{get_or-set_same, get_or-set_other}
use Rattle.model.specs.Map.{vertex_of}
use Rattle.orbits.proofs.Order.{eq_split}
use Rattle.traversal.proofs.Marks.{zeros_at}
use Rattle.marks.specs.Marks.{Alike, Distinct, Rounded}

module _ (rot w : List ℕ) (same : Alike rot w) where
  pub alike_set : (d v : ℕ) → d < length w → v < 32768 → Alike rot (set w d v)
  alike_set d v h lo x y hx hy e a b = eq_split x d
      (λ q. let i : get_or (set w d v) x 0 ≡ v = ap (λ (u : ℕ). get_or (set w d v) u 0) q ∙ get_or-set_same w d v 0 h in absurd (omega arith))
      (λ nx. eq_split y d
      (λ q. let i : get_or (set w d v) y 0 ≡ v = ap (λ (u : ℕ). get_or (set w d v) u 0) q ∙ get_or-set_same w d v 0 h in absurd (omega arith))
      (λ ny. let i = get_or-set_other w d x v 0 nx in let j = get_or-set_other w d y v 0 ny in
      i ∙ same x y hx hy e (omega arith) (omega arith) ∙ sym j))

  pub alike_round : (o c : ℕ) (b : List ℕ) → Rounded rot o c w b → Alike rot b
  alike_round o c b t x y hx hy e p q = eq_split (vertex_of rot x) (vertex_of rot o)
      (λ i. t.own x hx i ∙ sym (t.own y hy (sym e ∙ i)))
      (λ far. let i = t.others x hx far in let j = t.others y hy (λ t. far (e ∙ t)) in
      i ∙ same x y hx hy e (omega arith) (omega arith) ∙ sym j)

-- ---- one mark, one vertex

pub distinct_start : (rot b : List ℕ) (r top : ℕ) → Rounded rot r top (replicate (length rot) 0) b → top ≢ 0 → Distinct rot b top
distinct_start rot b r top t some = record {
  few = λ x h. eq_split (vertex_of rot x) (vertex_of rot r)
      (λ e. let i = t.own x h e in omega arith)
      (λ far. let i = t.others x h far in let z = zeros_at (length rot) x in omega arith);
  one_vertex = λ x y hx hy big e. own x hx big ∙ sym (own y hy (subst (λ (m : ℕ). 32768 ≤ m) e big));
}
  where
    own : (x : ℕ) → x < length rot → 32768 ≤ get_or b x 0 → vertex_of rot x ≡ vertex_of rot r
    own x h big = eq_split (vertex_of rot x) (vertex_of rot r) (λ e. e) (λ far. let i = t.others x h far in let z = zeros_at (length rot) x in absurd (omega arith))

module _ (rot b : List ℕ) (top : ℕ) (d : Distinct rot b top) where
  -- a mark below 32,768, and a higher bound
  pub distinct_set : (x v top' : ℕ) → x < length b → v < 32768 → 32768 ≤ top' → top ≤ top' → Distinct rot (set b x v) top'
  distinct_set x v top' h lo big up = record {
    few = λ y hy. eq_split y x
        (λ e. let i = at_x y e in omega arith)
        (λ ne. let i = get_or-set_other b x y v 0 ne in let z = d.few y hy in omega arith);
    one_vertex = λ y z hy hz p q. eq_split y x
        (λ e. let i = at_x y e in absurd (omega arith))
        (λ ny. let j = get_or-set_other b x y v 0 ny in eq_split z x
        (λ e. let i = at_x z e in absurd (omega arith))
        (λ nz. let i = get_or-set_other b x z v 0 nz in d.one_vertex y z hy hz (omega arith) (sym j ∙ q ∙ i)));
  }
    where
      at_x : (y : ℕ) → y ≡ x → get_or (set b x v) y 0 ≡ v
      at_x y e = ap (λ (u : ℕ). get_or (set b x v) u 0) e ∙ get_or-set_same b x v 0 h

  -- a round with a mark above all
  pub distinct_round : (o c : ℕ) (b' : List ℕ) → Rounded rot o c b b' → top < c → Distinct rot b' c
  distinct_round o c b' t above = record {
    few = λ x h. eq_split (vertex_of rot x) (vertex_of rot o)
        (λ e. let i = t.own x h e in omega arith)
        (λ far. let i = t.others x h far in let z = d.few x h in omega arith);
    one_vertex = λ x y hx hy p q. eq_split (vertex_of rot x) (vertex_of rot o)
        (λ e. eq_split (vertex_of rot y) (vertex_of rot o) (λ f. e ∙ sym f)
        (λ far. let i = t.own x hx e in let j = t.others y hy far in let z = d.few y hy in absurd (omega arith)))
        (λ far. eq_split (vertex_of rot y) (vertex_of rot o)
        (λ f. let i = t.own y hy f in let j = t.others x hx far in let z = d.few x hx in absurd (omega arith))
        (λ fy. let i = t.others x hx far in let j = t.others y hy fy in d.one_vertex x y hx hy (omega arith) (sym i ∙ q ∙ j)));
  }
