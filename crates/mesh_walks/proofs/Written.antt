-- A list in which each type is put as it is told is, at the end of the walk of a mesh's dual, that of the mesh's types.
--
--   length_written    it keeps its length
--   take_written      the front of a longer one is written so
--   told_typed        what is told of a mesh is right
--   types_written     the list at the end
--   types_front       and of a longer list its front
use Prim.Native.Nat.{ℕ, zero, suc, ◌-◌, ◌/◌, ◌≤◌, ◌<◌}
use native.Mathlib.Nat.{le_refl, le_of_lt, not-suc-le-zero}
use native.Mathlib.Omega.{arith}
use mathlib.Core.Path.{◌≡◌, refl, sym, ap, subst, ◌∙◌}
use mathlib.Core.Logic.{◌⊎◌, inl, inr, ◌≢◌}
use mathlib.Core.Bool.{Bool, true, false, ◌&&◌, cond}
use mathlib.Core.List.{List}
use lib.Dec.{ltb}
use lib.ListN.{length, get_or, set, take, length-set, length-take}
use lib.Seq.{get_or-set_same, get_or-set_other, set_out, take-set-le, take-set-lt, length-take-le}
use borrow.Author.Tests.{lt-ltb, ltb-true}
use Rattle.model.specs.Map.{Plan, darts, fit}
use Rattle.model.specs.Traversal.{Letter, down, up, first, second}
use Rattle.model.specs.Mesh.{dual_plan, node_type, types}
use Rattle.model.proofs.Booleans.{and_left, and_right}
use Rattle.orbits.proofs.Order.{lt_or_le, eq_split, lt_suc_split}
use Rattle.words.specs.Toured.{letter_of}
use Rattle.words.specs.Position.{vertex_no}
use Rattle.duals.proofs.Duals.{dual_darts}
use Rattle.meshes.proofs.Triangles.{mesh_dual}
use Rattle.mesh_walks.specs.Told.{told_after, told, tell, written}
use Rattle.mesh_walks.proofs.Nodes.{node_leaf}
use Rattle.mesh_walks.proofs.Types.{types_length}
use Rattle.mesh_walks.proofs.Rules.{Typed, type_up, type_first, leaf_number, number_positive, types_by_rules}

length_tell : (t n : ℕ) (ts : List ℕ) → length (tell t n ts) ≡ length ts
unfolding tell
length_tell t n ts = go (ltb 0 t && ltb 0 n)
  where
    go : (b : Bool) → length (cond b (set ts (n - 1) t) ts) ≡ length ts
    go true = length-set ts (n - 1) t
    go false = refl

pub length_written : (ℓ : ℕ → Letter) (ts : List ℕ) (k : ℕ) → length (written ℓ ts k) ≡ length ts
unfolding written
length_written ℓ ts zero = refl
length_written ℓ ts (suc k) = length_tell (told ℓ k) (vertex_no ℓ k) (written ℓ ts k) ∙ length_written ℓ ts k

tell_same : (t n : ℕ) (ts : List ℕ) → 0 < t → 0 < n → n - 1 < length ts → get_or (tell t n ts) (n - 1) 0 ≡ t
unfolding tell
tell_same t n ts ht hn l = rw (lt-ltb 0 t ht, lt-ltb 0 n hn) (get_or-set_same ts (n - 1) t 0 l)

tell_other : (t n i : ℕ) (ts : List ℕ) → (0 < t → 0 < n → i ≢ n - 1) → get_or (tell t n ts) i 0 ≡ get_or ts i 0
unfolding tell
tell_other t n i ts o = go (ltb 0 t && ltb 0 n) refl
  where
    go : (b : Bool) → (ltb 0 t && ltb 0 n) ≡ b → get_or (cond b (set ts (n - 1) t) ts) i 0 ≡ get_or ts i 0
    go true e = get_or-set_other ts (n - 1) i t 0 (o (ltb-true 0 t (and_left (ltb 0 t) (ltb 0 n) e)) (ltb-true 0 n (and_right (ltb 0 t) (ltb 0 n) e)))
    go false e = refl

-- ---- the front of a longer list

take_set : (n : ℕ) (ts : List ℕ) (i t : ℕ) → take n (set ts i t) ≡ set (take n ts) i t
take_set n ts i t = lt_or_le i n
    (λ h. take-set-lt n ts i t h)
    (λ h. take-set-le n ts i t h ∙ sym (set_out (take n ts) i t (let l = length-take n ts in omega arith)))

take_tell : (n t i : ℕ) (ts : List ℕ) → take n (tell t i ts) ≡ tell t i (take n ts)
unfolding tell
take_tell n t i ts = go (ltb 0 t && ltb 0 i)
  where
    go : (b : Bool) → take n (cond b (set ts (i - 1) t) ts) ≡ cond b (set (take n ts) (i - 1) t) (take n ts)
    go true = take_set n ts (i - 1) t
    go false = refl

pub take_written : (n : ℕ) (ℓ : ℕ → Letter) (ts : List ℕ) (k : ℕ) → take n (written ℓ ts k) ≡ written ℓ (take n ts) k
unfolding written
take_written n ℓ ts zero = refl
take_written n ℓ ts (suc k) = take_tell n (told ℓ k) (vertex_no ℓ k) (written ℓ ts k) ∙ ap (tell (told ℓ k) (vertex_no ℓ k)) (take_written n ℓ ts k)

module _ (p : Plan) (mesh : fit 3 p ≡ true) where
  abbrev ℓ : ℕ → Letter
  ℓ = letter_of (dual_plan p)

  -- after the letter l
  told_after_lem : (j : ℕ) → suc j < darts p → (l : Letter) → ℓ j ≡ l → 0 < told_after l (ℓ (suc j)) → 0 < vertex_no ℓ (suc j)
      → Typed p mesh (vertex_no ℓ (suc j)) (told_after l (ℓ (suc j)))
  unfolding told_after node_type
  told_after_lem j h down e t n = absurd (not-suc-le-zero t)
  told_after_lem j h up e t n = type_up p mesh j h e (λ u. not-suc-le-zero (subst (λ (y : Letter). 0 < node_type down y) u t)) n
  told_after_lem j h first e t n = type_first p mesh j h e (λ u. not-suc-le-zero (subst (λ (y : Letter). 0 < node_type first y) u t)) n
  told_after_lem j h second e t n = absurd (not-suc-le-zero t)

  pub told_typed : (k : ℕ) → k < darts p → 0 < told (letter_of (dual_plan p)) k → 0 < vertex_no (letter_of (dual_plan p)) k
      → Typed p mesh (vertex_no (letter_of (dual_plan p)) k) (told (letter_of (dual_plan p)) k)
  unfolding told
  told_typed zero h t n = absurd (not-suc-le-zero t)
  told_typed (suc j) h t n = told_after_lem j h (ℓ j) refl t n

  -- what was told stays right
  step : (k i : ℕ) (xs : List ℕ) → k < darts p → i < darts p → length xs ≡ length (types p) → 0 < told ℓ i → 0 < vertex_no ℓ i
      → (i ≢ k → get_or xs (vertex_no ℓ i - 1) 0 ≡ told ℓ i) → get_or (tell (told ℓ k) (vertex_no ℓ k) xs) (vertex_no ℓ i - 1) 0 ≡ told ℓ i
  step k i xs hk hi size t n before = eq_split (told ℓ k) 0
      (λ z. tell_other (told ℓ k) (vertex_no ℓ k) (vertex_no ℓ i - 1) xs (λ u v e. omega arith) ∙ before (λ e. omega (arith, ap (told ℓ) e)))
      (λ z. eq_split (vertex_no ℓ i) (vertex_no ℓ k)
      (λ e.
      let t' : 0 < told ℓ k = omega arith in
      let n' : 0 < vertex_no ℓ k = omega arith in
      let (l, r) = told_typed k hk t' n' in
      ap (λ (c : ℕ). get_or (tell (told ℓ k) (vertex_no ℓ k) xs) (c - 1) 0) e ∙ tell_same (told ℓ k) (vertex_no ℓ k) xs t' n' (omega arith)
      ∙ sym r ∙ ap (λ (c : ℕ). get_or (types p) (c - 1) 0) (sym e) ∙ (told_typed i hi t n).1)
      (λ o.
      tell_other (told ℓ k) (vertex_no ℓ k) (vertex_no ℓ i - 1) xs (λ u v e. o (omega arith)) ∙ before (λ e. o (ap (vertex_no ℓ) e))))

  module _ (ts : List ℕ) (size : length ts ≡ darts p / 3 - 1) where
    right : (k : ℕ) → k ≤ darts p → (i : ℕ) → i < k → 0 < told ℓ i → 0 < vertex_no ℓ i → get_or (written ℓ ts k) (vertex_no ℓ i - 1) 0 ≡ told ℓ i
    unfolding written
    right zero h i l t n = absurd (not-suc-le-zero l)
    right (suc k) h i l t n =
        step k i (written ℓ ts k) h (omega arith) (length_written ℓ ts k ∙ size ∙ sym (types_length p mesh)) t n
        (λ o. lt_suc_split l (λ e. absurd (o e)) (λ u. right k (le_of_lt h) i u t n))

    pub types_written : written (letter_of (dual_plan p)) ts (darts p) ≡ types p
    unfolding told told_after node_type
    types_written = types_by_rules p mesh (written ℓ ts (darts p)) (length_written ℓ ts (darts p) ∙ size)
        (λ j h u o n.
        let e = ap (λ (l : Letter). told_after l (ℓ (suc j))) u in
        let t = some_type (ℓ (suc j)) o in
        right (darts p) (le_refl (darts p)) (suc j) h (omega arith) n ∙ e)
        (λ i h d f.
        let e = ap (λ (l : Letter). told_after l (ℓ (suc (suc i)))) f in
        let t = leaf_type (ℓ (suc (suc i))) (second_after i h d f) in
        right (darts p) (le_refl (darts p)) (suc (suc i)) h (omega arith) (omega (arith, leaf_number p mesh i d f, number_positive ℓ i)) ∙ e)
      where
        some_type : (y : Letter) → y ≢ up → 0 < node_type down y
        some_type down o = omega arith
        some_type up o = absurd (o refl)
        some_type first o = omega arith
        some_type second o = omega arith

        leaf_type : (y : Letter) → (y ≡ down) ⊎ (y ≡ first) → 0 < node_type first y
        leaf_type y (inl e) = subst (λ (l : Letter). 0 < node_type first l) (sym e) (omega arith)
        leaf_type y (inr e) = subst (λ (l : Letter). 0 < node_type first l) (sym e) (omega arith)

        second_after : (i : ℕ) → suc (suc i) < darts p → ℓ i ≡ down → ℓ (suc i) ≡ first → (ℓ (suc (suc i)) ≡ down) ⊎ (ℓ (suc (suc i)) ≡ first)
        second_after i h d f = node_leaf (dual_plan p) (mesh_dual p mesh) i (omega (arith, dual_darts p)) d f

  pub types_front : (ts : List ℕ) → darts p / 3 - 1 ≤ length ts → take (darts p / 3 - 1) (written (letter_of (dual_plan p)) ts (darts p)) ≡ types p
  types_front ts l = let n = darts p / 3 - 1 in take_written n ℓ ts (darts p) ∙ types_written (take n ts) (length-take-le n ts l)
