-- The entries of each edge are exchanged on the way to the output.
--
--   Copied w old e out   those of the first e edges
--   copied_none, copied_pair   before the first, and one more
--   copied_end           after the last the output begins with the dual
use mathlib.Core.Path.{◌≡◌, refl, sym, ap, ◌∙◌, subst}
use mathlib.Core.List.{List, ◌++◌}
use Prim.Native.Nat.{ℕ, ◌+◌, ◌*◌, ◌≤◌, ◌<◌}
use native.Mathlib.Nat.{zero-add}
use native.Mathlib.Omega.{arith}
use lib.ListN.{length, get_or, set, take, drop, length-set, take-append-drop}
use lib.Seq.{get_or-set_same, get_or-set_other, get_or-take, drop-drop, drop-set-lt, length-take-le}
use Rattle.model.specs.Map.{opposite, next, face_next}
use Rattle.model.specs.Mesh.{dual_of}
use Rattle.model.specs.Calls.{front}
use Rattle.model.proofs.Tabulated.{is_tabulate}
use Rattle.orbits.proofs.Order.{eq_split}
use Rattle.work.specs.Area.{region}
use Rattle.work.proofs.Regions.{length_region, getD-region}
use Rattle.duals.proofs.Duals.{length_dual}

pub record Copied (w old : List ℕ) (e : ℕ) (out : List ℕ) : Type 0 where
  pub pairs : (x : ℕ) → x < 2 * e → get_or out x 0 ≡ get_or w (opposite x) 0
  pub rest : drop (2 * e) out ≡ drop (2 * e) old
  pub size : length out ≡ length old

pub copied_none : (w old : List ℕ) → Copied w old 0 old
copied_none w old = record { pairs = λ x h. absurd (omega arith); rest = refl; size = refl }

module _ (w old : List ℕ) (e : ℕ) (out : List ℕ) (c : Copied w old e out) (space : 2 * e + 1 < length out) where
  abbrev a : ℕ
  a = get_or w (2 * e) 0

  abbrev b : ℕ
  b = get_or w (2 * e + 1) 0

  abbrev one : List ℕ
  one = set out (2 * e) b

  abbrev two : List ℕ
  two = set one (2 * e + 1) a

  even : opposite (2 * e) ≡ 2 * e + 1
  unfolding opposite
  even = omega arith

  odd : opposite (2 * e + 1) ≡ 2 * e
  unfolding opposite
  odd = omega arith

  new : (x : ℕ) → x < 2 * (e + 1) → get_or two x 0 ≡ get_or w (opposite x) 0
  new x h = eq_split x (2 * e + 1)
      (λ q. ap (λ (y : ℕ). get_or two y 0) q ∙ get_or-set_same one (2 * e + 1) a 0 (omega (arith, length-set out (2 * e) b))
      ∙ ap (λ (y : ℕ). get_or w y 0) (sym (ap opposite q ∙ odd)))
      (λ n. get_or-set_other one (2 * e + 1) x a 0 n ∙ eq_split x (2 * e)
      (λ q. ap (λ (y : ℕ). get_or one y 0) q ∙ get_or-set_same out (2 * e) b 0 (omega arith) ∙ ap (λ (y : ℕ). get_or w y 0) (sym (ap opposite q ∙ even)))
      (λ k. get_or-set_other out (2 * e) x b 0 k ∙ c.pairs x (omega arith)))

  after : drop (2 * (e + 1)) out ≡ drop (2 * (e + 1)) old
  after =
      let s : 2 * e + 2 ≡ 2 * (e + 1) = omega arith in
      ap (λ (k : ℕ). drop k out) (sym s) ∙ sym (drop-drop 2 (2 * e) out) ∙ ap (drop 2) c.rest ∙ drop-drop 2 (2 * e) old ∙ ap (λ (k : ℕ). drop k old) s

  pub copied_pair : Copied w old (e + 1) (set (set out (2 * e) (get_or w (2 * e + 1) 0)) (2 * e + 1) (get_or w (2 * e) 0))
  copied_pair = record {
    pairs = new;
    rest = drop-set-lt (2 * (e + 1)) one (2 * e + 1) a (omega arith) ∙ drop-set-lt (2 * (e + 1)) out (2 * e) b (omega arith) ∙ after;
    size = length-set one (2 * e + 1) a ∙ length-set out (2 * e) b ∙ c.size;
  }

module _ (w old : List ℕ) (m : ℕ) (out : List ℕ) (c : Copied w old m out) (long : 2 * m ≤ length w) (space : 2 * m ≤ length old) where
  abbrev rot : List ℕ
  rot = region 0 (2 * m) w

  rot_size : length rot ≡ 2 * m
  rot_size = length_region 0 (2 * m) w (omega arith)

  over : (x : ℕ) → x < 2 * m → opposite x < 2 * m
  unfolding opposite
  over x h = omega arith

  begins : take (2 * m) out ≡ dual_of rot
  unfolding dual_of face_next next
  begins = is_tabulate (face_next rot) 0 (length rot) (take (2 * m) out)
      (length-take-le (2 * m) out (omega (arith, c.size)) ∙ sym rot_size)
      (λ x h.
      let hx : x < 2 * m = omega (arith, rot_size) in
      rw (zero-add x) (get_or-take (2 * m) out x 0 hx ∙ c.pairs x hx ∙ sym (rw zero-add at (getD-region 0 (2 * m) w (opposite x) (over x hx)))))

  copied_all : out ≡ front (dual_of (region 0 (2 * m) w)) old
  unfolding front
  copied_all =
      sym (take-append-drop (2 * m) out) ∙ ap (λ (xs : List ℕ). xs ++ drop (2 * m) out) begins
      ∙ ap (λ (ys : List ℕ). dual_of rot ++ ys) (c.rest ∙ ap (λ (k : ℕ). drop k old) (sym (length_dual rot ∙ rot_size)))

pub copied_end : (w old : List ℕ) (m e : ℕ) (out : List ℕ) → Copied w old e out → e ≡ m → 2 * m ≤ length w → 2 * m ≤ length old
    → out ≡ front (dual_of (region 0 (2 * m) w)) old
copied_end w old m e out c q = copied_all w old m out (subst (λ (k : ℕ). Copied w old k out) q c)
