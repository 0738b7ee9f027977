-- What each step of the walk answers; at a second place.
--
--   declined             the plan is no mesh
--   marked, ending       the mark of an opposite: some; that of an edge that has begun
--   since, stepped_since   what a step answers, from an earlier time on
--   second_goes_down, second_goes_up, second_unfit   at a second place
--   second_ends, few_unfit, last_unfit   at one where an edge ends
use Prim.Native.Nat.{ℕ, ◌+◌, ◌-◌, ◌*◌, ◌≤◌, ◌<◌}
use native.Mathlib.Nat.{le_refl}
use native.Mathlib.Omega.{arith}
use mathlib.Core.Path.{◌≡◌, refl, sym, ap, subst, ◌∙◌}
use mathlib.Core.Logic.{◌⊎◌, ⊎_elim, ◌≢◌}
use mathlib.Core.List.{List}
use lib.ListN.{length, get_or, set, length-set}
use Rattle.model.specs.Map.{opposite}
use Rattle.model.specs.Traversal.{up}
use Rattle.model.specs.Mesh.{node_type}
use Rattle.work.specs.Map.{TYPES}
use Rattle.mesh_walks.specs.Told.{told_after}
use Rattle.mesh_second_places.specs.declared.Stroll.{Stroll}
use Rattle.std.specs.Prelude.{Option, None, Some}
use Rattle.mesh_second_places.specs.declared.Turn.{Turn}
use Rattle.mesh_second_places.specs.declared.Turn.TheVariants.{Down, Up}
use Rattle.mesh_second_places.specs.Areas.{WAITING, edge_area}
use Rattle.mesh_second_places.specs.Walks.{AtSecond, Ending, Telling, AtUp, Onward, Stepped}
use Rattle.mesh_second_places.proofs.Seconds.{told_down, told_up, told_end}
use Rattle.mesh_second_places.proofs.Declining.{Fits, second_last}

pub declined : (order : List ℕ) (r e h : ℕ) (w w' : List ℕ) → length w' ≡ length w → (Fits order r → ⊥) → Stepped order r e h w None w'
unfolding Stepped
declined order r e h w w' l never = (l, never)

module _ (w : List ℕ) (o d : ℕ) (is : o ≡ opposite d) (some : get_or w o 0 ≢ 0) where
  pub marked : 0 < get_or w (opposite d) 0
  marked = subst (λ (x : ℕ). 0 < get_or w x 0) is (omega arith)

  pub ending : get_or w o 0 < 32768 → Ending w d
  ending small = (marked, subst (λ (x : ℕ). get_or w x 0 < 32768) is small)

pub since : {r r' e e' : ℕ} {w w₁ w' : List ℕ} {t : Stroll} → r' ≡ r → e ≤ e' → length w₁ ≡ length w → Onward r' e' w₁ t w' → Onward r e w t w'
since q h l o = record { rooted = o.rooted ∙ q; grown = let g = o.grown in omega arith; kept = o.kept ∙ l }

module _ (order : List ℕ) (r r' e e' : ℕ) (w w₁ w' : List ℕ) (q : r' ≡ r) (h : e ≤ e') (l : length w₁ ≡ length w) where
  pub stepped_since : (k : ℕ) (x : Option Turn) → Stepped order r' e' k w₁ x w' → Stepped order r e k w x w'
  unfolding Stepped
  stepped_since k (Some (Down t)) (a, o) = (a, since q h l o)
  stepped_since k (Some (Up t)) (a, o, f) = (a, since q h l o, f)
  stepped_since k None (m, never) = (m ∙ l, λ f. never (subst (Fits order) (sym q) f))

-- ---- at a second place

module _ (order w : List ℕ) (f a b : ℕ) (s : Stroll) (t : Telling order w f a b s) (o : ℕ) (is : o ≡ opposite s.dart) where
  pub second_goes_down : get_or w o 0 ≡ 0
      → Stepped order s.root s.edges s.halves w
      (Some (Down s))
      (set w (TYPES * length order + (f - 1)) a)
  unfolding Stepped
  second_goes_down none = (
    told_down order w t.letter f t.edge s t.at (ap (λ (x : ℕ). get_or w x 0) (sym is) ∙ none) a t.by_down t.some_down,
    record { rooted = refl; grown = le_refl s.edges; kept = length-set w (TYPES * length order + (f - 1)) a },
  )

  pub second_goes_up : 32768 ≤ get_or w o 0 → (w₁ : List ℕ) → w₁ ≡ edge_area (length order) s.dart s.edges s.waiting w → length w₁ ≡ length w
      → Stepped order s.root s.edges s.halves w
      (Some (Up (record { root = s.root; dart = s.dart; edges = s.edges + 1; faces = s.faces; waiting = s.waiting + 1; halves = s.halves })))
      (set w₁ (TYPES * length order + (f - 1)) b)
  unfolding Stepped
  second_goes_up big w₁ e l = (
    subst (λ (v : List ℕ). AtUp order (set v (TYPES * length order + (f - 1)) b)
        (record { root = s.root; dart = s.dart; edges = s.edges + 1; faces = s.faces; waiting = s.waiting + 1; halves = s.halves })) (sym e)
        (told_up order w t.letter f t.edge s t.at (subst (λ (x : ℕ). 32768 ≤ get_or w x 0) is big) b t.by_first t.some_first),
    record { rooted = refl; grown = omega arith; kept = length-set w₁ (TYPES * length order + (f - 1)) b ∙ l },
    le_refl s.halves,
  )

  pub second_unfit : get_or w o 0 ≢ 0 → get_or w o 0 < 32768 → Stepped order s.root s.edges s.halves w None w
  second_unfit some small = declined order s.root s.edges s.halves w w refl (λ fits.
      t.no_end fits (ending w o s.dart is some small))

-- ---- at one where an edge ends

module _ (order w : List ℕ) (f e : ℕ) (s : Stroll) (a : AtSecond order w up f e s) where
  pub second_ends : (o : ℕ) → o ≡ opposite s.dart → 2 ≤ s.waiting → get_or w o 0 ≡ 8192 + get_or w (WAITING * length order + (s.waiting - 1)) 0
      → e ≤ get_or w (WAITING * length order + (s.waiting - 2)) 0
      → Stepped order s.root s.edges s.halves w
      (Some (Up (record { root = s.root; dart = s.dart; edges = s.edges; faces = s.faces; waiting = s.waiting - 1; halves = s.halves })))
      (set w (TYPES * length order + (f - 1)) 2)
  unfolding Stepped told_after node_type
  second_ends o is c m late = (
    told_end order w up f e s a refl c (ap (λ (x : ℕ). get_or w x 0) (sym is) ∙ m) late,
    record { rooted = refl; grown = le_refl s.edges; kept = length-set w (TYPES * length order + (f - 1)) 2 },
    le_refl s.halves,
  )

  module _ (end : Ending w s.dart) where
    pub few_unfit : s.waiting < 2 → Stepped order s.root s.edges s.halves w None w
    few_unfit few = declined order s.root s.edges s.halves w w refl (λ fits. let l = (second_last order w up f e s a fits end).two in omega arith)

    pub last_unfit : (o : ℕ) → o ≡ opposite s.dart
        → (get_or w o 0 ≢ 8192 + get_or w (WAITING * length order + (s.waiting - 1)) 0) ⊎ (get_or w (WAITING * length order + (s.waiting - 2)) 0 < e)
        → Stepped order s.root s.edges s.halves w None w
    last_unfit o is wrong = declined order s.root s.edges s.halves w w refl (λ fits.
        let l = second_last order w up f e s a fits end in
        ⊎_elim (λ never. never (ap (λ (x : ℕ). get_or w x 0) is ∙ l.mark)) (λ before. let late = l.later in omega arith) wrong)
