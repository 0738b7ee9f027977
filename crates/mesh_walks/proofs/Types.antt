-- The types of a mesh, node by node: that of the k-th node, the start left out, stands at k.
--
--   count_find        the number that passes a test after k others
--   type_place        the type of the node that is entered at i, by the letters at its two places; it is an entry of the list
--   types_length      how many types there are
--   types_by_place    a list of so many numbers whose entries are right node by node is that of the types
use Prim.Native.Nat.{ℕ, zero, suc, ◌-◌, ◌/◌, ◌≤◌, ◌<◌}
use native.Mathlib.Nat.{le_refl, le_of_lt, add-zero}
use native.Mathlib.Numerals.{add-one}
use native.Mathlib.Omega.{arith}
use mathlib.Core.Path.{◌≡◌, refl, sym, ap, ◌∙◌}
use mathlib.Core.Bool.{Bool, true, false}
use mathlib.Core.List.{List, [], ◌∷◌}
use lib.ListN.{length, get_or, drop, length-drop, drop_of_length-le}
use lib.Seq.{drop-drop, get_or-drop, ext_get_or}
use Rattle.model.specs.Numbers.{tick, count}
use Rattle.model.specs.Map.{Plan, darts, fit}
use Rattle.model.specs.Traversal.{Letter, down, visits}
use Rattle.model.specs.LabelledTree.{along}
use Rattle.model.specs.Mesh.{dual_plan, node_type, type_from, type_at, types}
use Rattle.orbits.proofs.Order.{lt_or_le}
use Rattle.words.specs.Toured.{Toured, dart_at, letter_of}
use Rattle.words.specs.Entered.{is_down}
use Rattle.words.specs.Position.{vertex_count}
use Rattle.words.proofs.Letters.{is_down_lem}
use Rattle.fit_plans.proofs.FitPlans.{fit_toured}
use Rattle.duals.proofs.Duals.{dual_darts}
use Rattle.meshes.proofs.Triangles.{Cubic, mesh_dual}
use Rattle.meshes.proofs.Blocks.{from, type_down, type_other, node_type_lem}
use Rattle.meshes.proofs.Meshes.{mesh_count}
use Rattle.mesh_walks.specs.Place.{second_place}
use Rattle.mesh_walks.proofs.Nodes.{node}

count_find : (f : ℕ → Bool) (n k : ℕ) → k < count f n → (i : ℕ) × (i < n) × (f i ≡ true) × (count f i ≡ k)
unfolding count
count_find f zero k l = absurd (omega arith)
count_find f (suc n) k l = go (f n) refl l (count_find f n k)
  where
    Found : ℕ → Type 0
    Found n = (i : ℕ) × (i < n) × (f i ≡ true) × (count f i ≡ k)

    go : (b : Bool) → f n ≡ b → k < tick b (count f n) → (k < count f n → Found n) → Found (suc n)
    go true e l ih = lt_or_le k (count f n) (λ h. let (i, u, r, s) = ih h in (i, omega arith, r, s)) (λ h. (n, omega arith, e, omega arith))
    go false e l ih = let (i, u, r, s) = ih l in (i, omega arith, r, s)

-- what is left of a list from k on
module _ (xs : List ℕ) (k t : ℕ) (r : List ℕ) (e : drop k xs ≡ t ∷ r) where
  left_entry : get_or xs k 0 ≡ t
  left_entry = ap (λ (j : ℕ). get_or xs j 0) (sym (add-zero k)) ∙ sym (get_or-drop k xs 0 0) ∙ ap (λ (ys : List ℕ). get_or ys 0 0) e

  left_more : k < length xs
  left_more = let n = sym (length-drop k xs) ∙ ap length e in omega arith

  left_next : drop (suc k) xs ≡ r
  left_next = ap (λ (j : ℕ). drop j xs) (sym (add-one k)) ∙ sym (drop-drop 1 k xs) ∙ ap (drop 1) e

-- ---- along a walk

module _ (q : Plan) (fits : fit 2 q ≡ true) where
  abbrev toured : Toured q
  toured = fit_toured 2 q fits

  abbrev all : List ℕ
  all = along (type_at q) (visits q)

  abbrev entered : ℕ → ℕ
  entered i = count (λ j. is_down (letter_of q j)) i

  types_left : (i : ℕ) → i ≤ darts q → drop (entered i) all ≡ from q fits i
  unfolding count
  types_left zero h = refl
  types_left (suc i) h = go (is_down (letter_of q i)) refl (types_left i (le_of_lt h))
    where
      go : (b : Bool) → is_down (letter_of q i) ≡ b → drop (entered i) all ≡ from q fits i → drop (tick (is_down (letter_of q i)) (entered i)) all ≡ from q fits (suc i)
      go true e ih =
          ap (λ (b : Bool). drop (tick b (entered i)) all) e
          ∙ left_next all (entered i) (type_from q (dart_at q i)) (from q fits (suc i)) (ih ∙ type_down q fits i h (is_down_lem (letter_of q i) e))
      go false e ih = ap (λ (b : Bool). drop (tick b (entered i)) all) e ∙ ih ∙ type_other q fits i h e

  -- no more types than downs
  types_few : length all ≤ entered (darts q)
  unfolding along
  types_few =
      let none : from q fits (darts q) ≡ [] = ap (along (type_at q)) (drop_of_length-le (visits q) {i = darts q} (omega (arith, toured.all_met))) in
      let n = sym (length-drop (entered (darts q)) all) ∙ ap length (types_left (darts q) (le_refl (darts q)) ∙ none) in
      omega arith

  type_entered : (i : ℕ) → i < darts q → letter_of q i ≡ down → (entered i < length all) × (get_or all (entered i) 0 ≡ type_from q (dart_at q i))
  type_entered i h d =
      let e = types_left i (le_of_lt h) ∙ type_down q fits i h d in
      (left_more all (entered i) _ _ e, left_entry all (entered i) _ _ e)

-- ---- of a mesh

module _ (p : Plan) (mesh : fit 3 p ≡ true) where
  abbrev q : Plan
  q = dual_plan p

  abbrev cubic : Cubic q
  cubic = mesh_dual p mesh

  -- downs are counted from 0 on, vertices with the root
  number : (ℓ : ℕ → Letter) (i : ℕ) → vertex_count ℓ i - 1 ≡ count (λ j. is_down (ℓ j)) i
  unfolding vertex_count
  number ℓ i = omega arith

  inside : (i : ℕ) → i < darts p → i < darts q
  inside i h = omega (arith, dual_darts p)

  pub type_place : (i : ℕ) → i < darts p → letter_of (dual_plan p) i ≡ down → (vertex_count (letter_of (dual_plan p)) i - 1 < length (types p))
      × (get_or (types p) (vertex_count (letter_of (dual_plan p)) i - 1) 0
      ≡ node_type (letter_of (dual_plan p) (suc i)) (letter_of (dual_plan p) (second_place (dual_plan p) i)))
  unfolding types
  type_place i h d =
      let k = inside i h in
      let e = number (letter_of q) i in
      let (l, t) = type_entered q cubic.fits i k d in
      let n = node q cubic i k d in (
        omega arith,
        ap (λ (j : ℕ). get_or (types p) j 0) e ∙ t
            ∙ node_type_lem q cubic.fits i (second_place q i) k d n.inside.0 n.inside.1 n.turn₁,
      )

  pub types_length : length (types p) ≡ darts p / 3 - 1
  types_length = let n = mesh_count p mesh in omega arith

  pub types_by_place : (ts : List ℕ) → length ts ≡ darts p / 3 - 1
      → ((i : ℕ) → i < darts p → letter_of (dual_plan p) i ≡ down → get_or ts (vertex_count (letter_of (dual_plan p)) i - 1) 0
      ≡ node_type (letter_of (dual_plan p) (suc i)) (letter_of (dual_plan p) (second_place (dual_plan p) i)))
      → ts ≡ types p
  unfolding types
  types_by_place ts n right = ext_get_or 0 ts (types p) (n ∙ sym types_length) (λ k h.
      let few = types_few q cubic.fits in
      let long = types_length in
      let (i, l, d, e) = count_find (λ j. is_down (letter_of q j)) (darts q) k (omega arith) in
      let down-at = is_down_lem (letter_of q i) d in
      let hi : i < darts p = omega (arith, dual_darts p) in
      let s : vertex_count (letter_of q) i - 1 ≡ k = number (letter_of q) i ∙ e in
      ap (λ (j : ℕ). get_or ts j 0) (sym s) ∙ right i hi down-at ∙ sym (type_place i hi down-at).1 ∙ ap (λ (j : ℕ). get_or (types p) j 0) s)
