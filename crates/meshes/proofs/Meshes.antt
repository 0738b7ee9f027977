-- Meshes and their node types: lemma 4.1, that the types are read as the dual's word, and that they determine the mesh.
--
--   mesh_shape        the dual's word is that of a good tree below the start node, whose other two places end edges; its types are the mesh's
--   mesh_count        there are two types for three edges, less the start node's
--   mesh_read         the types of a mesh are read as the word of its dual
--   read_mesh         types that are read are those of the mesh whose dual has this word
--   unread_mesh       types that are not read are those of no mesh
--   same_words, same_types   meshes whose duals have equal words, or with equal types, are renumberings of each other
--   mesh_word_carried, mesh_carried, types_carried   and a plan that a mesh is renumbered to is a mesh with equal types
--   mesh_standard     the standard rotation of a mesh, from the word of its dual
--   standard_mesh     the standard plan is a mesh with the same types
--   mesh_dual_outside, types_outside   word and types do not ask where the outside is
--   mesh_built        types that are read are those of the mesh in standard numbers that this word builds
use Prim.Native.Nat.{ℕ, ◌+◌, ◌*◌, ◌≤◌, ◌<◌}
use native.Mathlib.Omega.{arith}
use mathlib.Core.Path.{◌≡◌, refl, sym, ap, ap₂, subst, ◌∙◌}
use mathlib.Core.Logic.{◌≢◌}
use mathlib.Core.Bool.{true}
use mathlib.Core.List.{List, [], ◌∷◌, ◌++◌}
use lib.ListN.{length}
use Rattle.model.specs.Numbers.{elem}
use Rattle.model.specs.Map.{Plan, darts, next, is_family, stores_outside, is_kind, family, fit}
use Rattle.model.specs.Traversal.{Letter, down, up, first, second, Visit, visits, word, standard_numbers, standard_rotation, standard_plan}
use Rattle.model.specs.LabelledTree.{along}
use Rattle.model.specs.Mesh.{dual_plan, letter_on, type_from, type_at, types}
use Rattle.model.specs.Renumbering.{Renumbering}
use Rattle.model.proofs.Outside.{with_outside, same_word}
use Rattle.model.proofs.Fitness.{fit_parts, count_even, count_parts, parts_count}
use Rattle.words.specs.Word.{found, none, valid, rotation_of, rooted, plan_of}
use Rattle.words.specs.Toured.{dart_at, pos_of}
use Rattle.words.proofs.Found.{found_same}
use Rattle.words.proofs.Positions.{word_length}
use Rattle.building.proofs.Built.{built_word, built_fit}
use Rattle.renumbering.proofs.Walk.{carries_word}
use Rattle.renumbering.proofs.Carried.{carries_fit}
use Rattle.fit_plans.proofs.FitPlans.{fit_toured, fit_standard, fit_standard_rotation, same_word_renumbering}
use Rattle.duals.proofs.Duals.{dual_darts, dual_twice, dual_renumbering}
use Rattle.node_types.specs.Tree.{Tree, whole, type_list, net, good}
use Rattle.node_types.specs.Machine.{word_of_types}
use Rattle.node_types.proofs.Trees.{length_whole, whole_even}
use Rattle.node_types.proofs.Reading.{whole_read, read_whole}
use Rattle.node_types.proofs.Nesting.{whole_valid}
use Rattle.meshes.proofs.Fits.{mesh_outside_free, mesh_outside}
use Rattle.meshes.proofs.Faces.{edges_apart}
use Rattle.meshes.proofs.Blocks.{Three}
use Rattle.meshes.proofs.Nodes.{whole_types, whole_fine}
use Rattle.meshes.proofs.Growing.{grown}
use Rattle.meshes.proofs.Triangles.{mesh_fit, Cubic, mesh_dual, dual_mesh}

back : (p : Plan) → fit 2 p ≡ true → dual_plan (dual_plan p) ≡ p
back p h = dual_twice p (count_even (darts p) (fit_parts 2 p h).count)

-- ---- the word

pub mesh_shape : (p : Plan) → fit 3 p ≡ true
    → (t : Tree) × (good t ≡ true) × (net t ≡ 2) × (word (dual_plan p) ≡ whole t) × (types p ≡ type_list t [])
unfolding types
mesh_shape p e =
    let c = mesh_dual p e in
    let (t, g, n, s) = grown (dual_plan p) c.fits c.three c.alone c.two_faced in
    (t, g, n, s, whole_types (dual_plan p) c.fits t g s)

pub mesh_read : (p : Plan) → fit 3 p ≡ true → word_of_types (types p) ≡ found (word (dual_plan p))
mesh_read p e = let (t, g, n, s, l) = mesh_shape p e in ap word_of_types l ∙ whole_read t g n ∙ ap found (sym s)

pub mesh_count : (p : Plan) → fit 3 p ≡ true → 3 * (length (types p) + 1) ≡ darts p
mesh_count p e =
    let (t, g, n, s, l) = mesh_shape p e in
    let c = mesh_dual p e in
    ap (λ (ts : List ℕ). 3 * (length ts + 1)) l ∙ sym (length_whole t) ∙ ap length (sym s)
    ∙ word_length (dual_plan p) (fit_toured 2 (dual_plan p) c.fits) ∙ dual_darts p

-- ---- from a tree back

word_cubic : (q : Plan) → fit 2 q ≡ true → (t : Tree) → good t ≡ true → word q ≡ whole t → Cubic q
word_cubic q f t g s = record {
  fits = f;
  three = λ d h. subst Round (dart d h) (at d h).0;
  alone = λ d h k. (at d h).1 (ap (next q.rotation) (dart d h) ∙ k ∙ sym (dart d h));
  two_faced = edges_apart q f (λ a h d. (whole_fine q f t g s a h).1 d);
}
  where
    Round : ℕ → Type 0
    Round d = next q.rotation (next q.rotation (next q.rotation d)) ≡ d

    dart : (d : ℕ) → d < darts q → dart_at q (pos_of q d) ≡ d
    dart d h = (fit_toured 2 q f).dart_pos d h

    at : (d : ℕ) → d < darts q → Three q f (pos_of q d)
    at d h = (whole_fine q f t g s (pos_of q d) ((fit_toured 2 q f).pos_bound d h)).0

pub read_mesh : (ts : List ℕ) (w : List Letter) → word_of_types ts ≡ found w → 3 * (length ts + 1) ≤ 8192
    → (fit 3 (dual_plan (plan_of w)) ≡ true) × (types (dual_plan (plan_of w)) ≡ ts) × (word (dual_plan (dual_plan (plan_of w))) ≡ w)
unfolding types is_kind is_family stores_outside family elem
read_mesh ts w e l =
    let (t, g, n, s, v) = read_whole ts w e in
    let long : length (whole t) ≡ 3 * (length ts + 1) = length_whole t ∙ ap (λ (xs : List ℕ). 3 * (length xs + 1)) (sym s) in
    let good-word = whole_valid t g n (parts_count (length (whole t)) (omega arith) (whole_even t g n) (omega arith)) in
    let ok : valid 2 w ≡ true = ap (valid 2) v ∙ good-word in
    let f = built_fit 2 w ok (λ e. omega (arith, e)) 2 refl refl in
    let b = built_word 2 w ok in
    let q = plan_of w in
    let twice = back q f in (
      dual_mesh q (word_cubic q f t g (b ∙ v)),
      ap (λ (s : Plan). along (type_at s) (visits s)) twice ∙ whole_types q f t g (b ∙ v) ∙ sym s,
      ap word twice ∙ b,
    )

pub unread_mesh : (ts : List ℕ) → word_of_types ts ≡ none → (p : Plan) → fit 3 p ≡ true → types p ≢ ts
unread_mesh ts e p h s = let r = mesh_read p h in let k = ap word_of_types s in let z : ◌≡◌ {A = ℕ} 0 1 = cc in omega arith

-- ---- types and renumberings

-- twice the dual, at both ends
undual : (p q : Plan) (f : List ℕ) → fit 2 p ≡ true → fit 2 q ≡ true → fit 2 (dual_plan p) ≡ true → Renumbering (dual_plan p) (dual_plan q) f
    → Renumbering p q f
undual p q f e e' d r =
    subst (λ (s : Plan). Renumbering s q f) (back p e) (
    subst (λ (s : Plan). Renumbering (dual_plan (dual_plan p)) s f) (back q e')
    (dual_renumbering (dual_plan p) (dual_plan q) f (count_even (darts (dual_plan p)) (fit_parts 2 (dual_plan p) d).count) r))

pub same_words : (p q : Plan) → fit 3 p ≡ true → fit 3 q ≡ true → word (dual_plan p) ≡ word (dual_plan q) → (f : List ℕ) × Renumbering p q f
same_words p q e e' same =
    let d = (mesh_dual p e).fits in
    let (f, r) = same_word_renumbering 2 (dual_plan p) (dual_plan q) d (mesh_dual q e').fits same in
    (f, undual p q f (mesh_fit p e) (mesh_fit q e') d r)

pub same_types : (p q : Plan) → fit 3 p ≡ true → fit 3 q ≡ true → types p ≡ types q → (f : List ℕ) × Renumbering p q f
same_types p q e e' same = same_words p q e e' (found_same _ _ (sym (mesh_read p e) ∙ ap word_of_types same ∙ mesh_read q e'))

module _ (p q : Plan) (f : List ℕ) (e : fit 3 p ≡ true) (r : Renumbering p q f) where
  dual_carried : Renumbering (dual_plan p) (dual_plan q) f
  dual_carried = dual_renumbering p q f (count_even (darts p) (fit_parts 2 p (mesh_fit p e)).count) r

  pub mesh_word_carried : word (dual_plan p) ≡ word (dual_plan q)
  mesh_word_carried =
      let a = fit_parts 2 (dual_plan p) (mesh_dual p e).fits in
      carries_word (dual_plan p) a.count a.root a.entries (dual_plan q) f dual_carried

  pub mesh_carried : fit 3 q ≡ true
  mesh_carried = carries_fit 3 p q f r e (mesh_outside_free q)

  pub types_carried : types p ≡ types q
  unfolding types
  types_carried =
      let (t, g, n, s, l) = mesh_shape p e in
      l ∙ sym (whole_types (dual_plan q) (mesh_dual q mesh_carried).fits t g (sym mesh_word_carried ∙ s))

-- ---- the standard plan

pub mesh_standard : (p : Plan) → fit 3 p ≡ true → standard_rotation p ≡ standard_rotation (dual_plan (plan_of (word (dual_plan p))))
mesh_standard p e =
    let q = dual_plan (plan_of (word (dual_plan p))) in
    let a = fit_parts 2 p (mesh_fit p e) in
    let few = (count_parts (darts p) a.count).2 in
    let (h, s, w) = read_mesh (types p) (word (dual_plan p)) (mesh_read p e) (omega (arith, mesh_count p e)) in
    let (f, r) = same_types p q e h (sym s) in
    fit_standard_rotation 2 p (mesh_fit p e) ∙ ap rotation_of (carries_word p a.count a.root a.entries q f r)
    ∙ sym (fit_standard_rotation 2 q (mesh_fit q h))

-- it is a mesh with the same types, and its dual has the same word
pub standard_mesh : (p : Plan) → fit 3 p ≡ true
    → (fit 3 (standard_plan p) ≡ true) × (types (standard_plan p) ≡ types p) × (word (dual_plan (standard_plan p)) ≡ word (dual_plan p))
standard_mesh p e =
    let s = standard_plan p in
    let f = standard_numbers p in
    let r = fit_standard 2 p (mesh_fit p e) in
    (mesh_carried p s f e r, sym (types_carried p s f e r), sym (mesh_word_carried p s f e r))

-- ---- the outside

pub mesh_dual_outside : (p : Plan) (o : ℕ) → word (dual_plan (with_outside p o)) ≡ word (dual_plan p)
unfolding dual_plan
mesh_dual_outside p o = same_word (dual_plan p) o

along_same : (f g : Letter → ℕ → List ℕ) → ((l : Letter) (d : ℕ) → f l d ≡ g l d) → (vs : List Visit) → along f vs ≡ along g vs
unfolding along
along_same f g same [] = refl
along_same f g same (v ∷ vs) = ap₂ (λ (xs ys : List ℕ). xs ++ ys) (same v.letter v.dart) (along_same f g same vs)

pub types_outside : (p : Plan) (o : ℕ) → types (with_outside p o) ≡ types p
unfolding types type_at type_from letter_on dual_plan word visits
types_outside p o = along_same (type_at (dual_plan (with_outside p o))) (type_at (dual_plan p)) same (visits (dual_plan p))
  where
    same : (l : Letter) (d : ℕ) → type_at (dual_plan (with_outside p o)) l d ≡ type_at (dual_plan p) l d
    same down d = refl
    same up d = refl
    same first d = refl
    same second d = refl

pub mesh_built : (ts : List ℕ) (w : List Letter) → word_of_types ts ≡ found w → 3 * (length ts + 1) ≤ 8192
    → let p = rooted (standard_rotation (dual_plan (plan_of w))) in (fit 3 p ≡ true) × (types p ≡ ts) × (word (dual_plan p) ≡ w)
unfolding standard_plan
mesh_built ts w e l =
    let q = dual_plan (plan_of w) in
    let (m, t, d) = read_mesh ts w e l in
    let (n, u, c) = standard_mesh q m in
    (mesh_outside (standard_plan q) 0 ∙ n, types_outside (standard_plan q) 0 ∙ u ∙ t, mesh_dual_outside (standard_plan q) 0 ∙ c ∙ d)
