-- Where a good tree stands in the word of a plan that is fit for kind 2, and what holds there.
--
--   Offspring t, offspring   the trees below t's node are good; so they are where t is
--   type_of t, under t ts   the type of t's node; the types below it, and then ts
--   turn_down, turn_flat', turn_last, turn_up   the next dart about the vertex, by the letter
--   Three i           the vertex of the dart at position i has three darts; three-of, by three positions in turn
--   Fine k            so it is at k, and if a tree edge is entered there it is crossed; no-down, where none is
--   from i            the types of the nodes that are entered from position i on; type-down, where one is, and type-other, where none is
--   node_type_lem         the type of a node, from the letters at its two places
--   Block t a r       t stands at a, and then r: where it ends, what it leaves open, that all its positions are fine, and that its types are found
--   crosses           where it leaves an edge open, its first letter's tree edge is crossed
--   Inside, enclose   a block, from what stands between the first letter and the last
--   block             where the word has the letters of a tree with good offspring, it stands
use Prim.Native.Nat.{ℕ, suc, ◌+◌, ◌-◌, ◌≤◌, ◌<◌}
use native.Mathlib.Nat.{le_refl, le_of_lt}
use native.Mathlib.Omega.{arith}
use mathlib.Core.Path.{◌≡◌, refl, sym, ap, ap₂, subst, ◌∙◌}
use mathlib.Core.Logic.{inl, ⊎_elim, ◌≢◌}
use mathlib.Core.Bool.{true, false, true≢false}
use mathlib.Core.List.{List, [], ◌∷◌, ◌++◌, append_assoc}
use lib.ListN.{length, get_or, drop, length-append}
use lib.Seq.{drop-cons}
use Rattle.model.specs.Map.{Plan, darts, opposite, next, fit}
use Rattle.model.specs.Traversal.{Letter, down, up, first, second, code, opens, visits, word}
use Rattle.model.specs.LabelledTree.{along}
use Rattle.model.specs.Mesh.{letter_on, node_type, type_from, type_at}
use Rattle.model.proofs.Fitness.{Fit, fit_parts}
use Rattle.orbits.specs.Chord as chord
use Rattle.orbits.proofs.Order.{tri, le_split}
use Rattle.orbits.proofs.Chord.{next_cases}
use Rattle.orbits.proofs.Maps.{next_perm}
use Rattle.words.specs.Toured.{Toured, darts_met, dart_at, letter_of, pos_of, mate_of, is_tree}
use Rattle.words.specs.Entered.{is_down}
use Rattle.words.proofs.Letters.{apart}
use Rattle.words.proofs.Positions.{dart_inj, mate_dart, mate_bound, mate_back, mate_letter, no_visit, visit_dart, visit_letter}
use Rattle.fit_plans.proofs.FitPlans.{fit_toured}
use Rattle.node_types.specs.Tree.{Tree, fork, free, late, soon, tips, letters, size, type_list, net, good}
use Rattle.node_types.specs.Above.{Above, nil, one}
use Rattle.node_types.proofs.Above.{above_append, above_less, above_head, above_tail, long_cons}
use Rattle.node_types.proofs.Trees.{good_left, good_right, free_good, late_good, soon_good, net_positive}
use Rattle.meshes.proofs.OpenEdges.{open_trees, open_chords, after_down_lem, after_up, after_first, after_second, front, In, open_chord}
use Rattle.meshes.proofs.Turns.{turn_flat, turn_tree}
use Rattle.meshes.proofs.Faces.{Crossed}

abbrev pub Offspring : Tree → Type 0
Offspring (fork a b) = (good a ≡ true) × (good b ≡ true)
Offspring (free a) = good a ≡ true
Offspring (late a) = good a ≡ true
Offspring (soon a) = good a ≡ true
Offspring tips = good tips ≡ true

pub offspring : (t : Tree) → good t ≡ true → Offspring t
offspring (fork a b) g = (good_left a b g, good_right a b g)
offspring (free a) g = free_good a g
offspring (late a) g = late_good a g
offspring (soon a) g = soon_good a g
offspring tips g = g

abbrev type_of : Tree → ℕ
type_of (fork a b) = 1
type_of (free a) = 2
type_of (late a) = 3
type_of (soon a) = 4
type_of tips = 5

abbrev under : Tree → List ℕ → List ℕ
under (fork a b) ts = type_list a (type_list b ts)
under (free a) ts = type_list a ts
under (late a) ts = type_list a ts
under (soon a) ts = type_list a ts
under tips ts = ts

under_list : (t : Tree) (ts : List ℕ) → type_of t ∷ under t ts ≡ type_list t ts
unfolding type_list
under_list (fork a b) ts = refl
under_list (free a) ts = refl
under_list (late a) ts = refl
under_list (soon a) ts = refl
under_list tips ts = refl

-- the list `all` without its first entry, in two ways
popped : (x y : ℕ) (all xs news ys rest : List ℕ) → all ≡ x ∷ xs → all ≡ news ++ rest → news ≡ y ∷ ys → xs ≡ ys ++ rest
popped x y all xs news ys rest e f g = let k = ap (λ (s : List ℕ). s ++ rest) g in cc

one_fewer : (xs : List ℕ) (y : ℕ) (ys : List ℕ) (k : ℕ) → xs ≡ y ∷ ys → length xs ≡ k → length ys ≡ k - 1
one_fewer xs y ys k e l = let n : length (y ∷ ys) ≡ k = ap length (sym e) ∙ l in omega arith

-- what holds at the node's three places and between them holds all over a tree
spread : (P : ℕ → Type 0) (a p e : ℕ) → P (suc a) → P p → P e → ((k : ℕ) → suc a < k → k < p → P k) → ((k : ℕ) → p < k → k < e → P k)
    → (k : ℕ) → a < k → k ≤ e → P k
spread P a p e x y z f g k l u =
    tri k p
    (λ v. le_split l (λ q. subst P q x) (λ w. f k w v))
    (λ q. subst P (sym q) y)
    (λ v. le_split u (λ q. subst P (sym q) z) (λ w. g k v w))

module _ (q : Plan) (fits : fit 2 q ≡ true) where
  abbrev N : ℕ
  N = darts q

  abbrev parts : Fit 2 q
  parts = fit_parts 2 q fits

  abbrev toured : Toured q
  toured = fit_toured 2 q fits

  abbrev ℓ : ℕ → Letter
  ℓ = letter_of q

  abbrev m : ℕ → ℕ
  m = mate_of q

  abbrev x : ℕ → ℕ
  x = dart_at q

  abbrev σ : ℕ → ℕ
  σ = next q.rotation

  -- ---- turning

  -- the dart that comes at position j, which is not the first
  comes : (d i j : ℕ) → d < N → i < N → pos_of q d ≡ chord.next N i → suc i ≡ j → j < N → d ≡ dart_at q j
  comes d i j hd h e s l = ⊎_elim
      (λ c. sym (toured.dart_pos d hd) ∙ ap (dart_at q) (e ∙ c.1 ∙ s))
      (λ c. absurd (omega (arith, c.0)))
      (next_cases N i h)

  turned : (i : ℕ) → i < N → next q.rotation (dart_at q i) < N
  turned i h = (next_perm q.rotation parts.entries).bound (dart_at q i) (toured.dart_bound i h)

  pub turn_down : (i j : ℕ) → i < darts q → letter_of q i ≡ down → suc (mate_of q i) ≡ j → j < darts q → next q.rotation (dart_at q i) ≡ dart_at q j
  turn_down i j h e s l = comes _ (m i) j (turned i h) (mate_bound q toured parts.count i h) (turn_tree q fits i h (ap is_tree e)) s l

  pub turn_flat' : (i : ℕ) → suc i < darts q → is_tree (letter_of q i) ≡ false → next q.rotation (dart_at q i) ≡ dart_at q (suc i)
  turn_flat' i l e = comes _ i (suc i) (turned i (le_of_lt l)) (le_of_lt l) (turn_flat q fits i (le_of_lt l) e) refl l

  -- from the last position to the first
  pub turn_last : (i : ℕ) → suc i ≡ darts q → is_tree (letter_of q i) ≡ false → next q.rotation (dart_at q i) ≡ dart_at q 0
  turn_last i l e =
      let h : i < N = omega arith in
      ⊎_elim (λ c. absurd (omega (arith, c.0)))
      (λ c. sym (toured.dart_pos (next q.rotation (dart_at q i)) (turned i h)) ∙ ap (dart_at q) (turn_flat q fits i h e ∙ c.1))
      (next_cases N i h)

  -- from the arrival dart
  pub turn_up : (a b : ℕ) → a < darts q → letter_of q a ≡ down → mate_of q a ≡ b → next q.rotation (dart_at q b) ≡ dart_at q (suc a)
  turn_up a b h e s =
      let hb : b < N = subst (λ (x : ℕ). x < N) s (mate_bound q toured parts.count a h) in
      let back : m b ≡ a = ap m (sym s) ∙ mate_back q toured parts.count a h in
      let l = toured.opens_first a h (ap opens e) in
      let u : ℓ b ≡ up = ap ℓ (sym s) ∙ mate_letter q toured a h down e in
      comes _ (m b) (suc a) (turned b hb) (subst (λ (x : ℕ). x < N) (sym back) h)
      (turn_tree q fits b hb (ap is_tree u)) (ap suc back) (omega arith)

  abbrev pub Three : ℕ → Type 0
  Three i = (next q.rotation (next q.rotation (next q.rotation (dart_at q i))) ≡ dart_at q i) × (next q.rotation (dart_at q i) ≢ dart_at q i)

  pub three_of : (i j k : ℕ) → i < darts q → j < darts q → i ≢ j → next q.rotation (dart_at q i) ≡ dart_at q j
      → next q.rotation (dart_at q j) ≡ dart_at q k → next q.rotation (dart_at q k) ≡ dart_at q i → Three i
  three_of i j k hi hj n r s z = (ap (λ (d : ℕ). σ (σ d)) r ∙ ap σ s ∙ z, λ e. n (dart_inj q toured i j hi hj (sym e ∙ r)))

  abbrev pub Fine : ℕ → Type 0
  Fine k = Three k × (letter_of q k ≡ down → Crossed q fits k)

  pub no_down : (k : ℕ) (l : Letter) → letter_of q k ≡ l → code l ≢ 1 → letter_of q k ≡ down → Crossed q fits k
  no_down k l e n d = absurd (n (apart (ℓ k) e d))

  -- ---- types

  abbrev pub from : ℕ → List ℕ
  from i = along (type_at q) (drop i (visits q))

  visit_left : (i : ℕ) → i < N → drop i (visits q) ≡ get_or (visits q) i no_visit ∷ drop (suc i) (visits q)
  visit_left i h = drop-cons (visits q) i no_visit (omega (arith, toured.all_met))

  pub type_down : (i : ℕ) → i < darts q → letter_of q i ≡ down → from i ≡ type_from q (dart_at q i) ∷ from (suc i)
  unfolding along type_at
  type_down i h e = rw (visit_left i h, visit_letter q i, visit_dart q i, e)

  no_type : (l : Letter) (d : ℕ) → is_down l ≡ false → type_at q l d ≡ []
  unfolding type_at
  no_type down d e = absurd (true≢false e)
  no_type up d e = refl
  no_type first d e = refl
  no_type second d e = refl

  pub type_other : (i : ℕ) → i < darts q → is_down (letter_of q i) ≡ false → from i ≡ from (suc i)
  unfolding along
  type_other i h e = rw (visit_left i h, visit_letter q i, no_type (ℓ i) (get_or (visits q) i no_visit).dart e)

  letter_on_lem : (i : ℕ) → i < N → letter_on q (x i) ≡ ℓ i
  unfolding letter_on letter_of pos_of darts_met dart_at
  letter_on_lem i h = ap (λ (j : ℕ). get_or (word q) j second) (toured.pos_dart i h)

  -- ---- blocks

  pub record Block (t : Tree) (a : ℕ) (r : List Letter) : Type 0 where
    pub end : ℕ
    pub news : List ℕ
    pub sized : suc end ≡ a + size t
    pub enters : letter_of q a ≡ down
    pub inside : (a < end) × (end < darts q)
    pub left : drop (suc end) (word q) ≡ r
    pub ends : mate_of q a ≡ end
    pub trees : open_trees q (suc end) ≡ open_trees q a
    pub many : length news ≡ net t
    pub above : Above (suc a) news
    pub chords : open_chords q (suc end) ≡ news ++ open_chords q a
    pub fine : (k : ℕ) → a < k → k ≤ end → Fine k
    pub listed : from a ≡ type_list t (from (suc end))

  up_at_end : (t : Tree) (a : ℕ) (r : List Letter) → a < N → (b : Block t a r) → ℓ b.end ≡ up
  up_at_end t a r ha b = ap ℓ (sym b.ends) ∙ mate_letter q toured a ha down b.enters

  pub crosses : (t : Tree) (a : ℕ) (r : List Letter) → a < darts q → Block t a r → 1 ≤ net t → Crossed q fits a
  crosses t a r ha b p =
      let n = b.many in
      let (z, zs, e) = long_cons b.news (omega arith) in
      let first_is : open_chords q (suc b.end) ≡ (z ∷ zs) ++ open_chords q a = b.chords ∙ ap (λ (s : List ℕ). s ++ open_chords q a) e in
      let in_end = b.inside in
      let (l, f, u) = open_chord q fits (suc b.end) z in_end.1 (subst (In z) (sym first_is) (inl refl)) in
      let low = above_head (subst (Above (suc a)) e b.above) in
      let mate = b.ends in (
        z,
        low,
        le_split {a = z} {b = b.end} (omega arith)
            (λ s. absurd (let c = apart (ℓ z) f (ap ℓ s ∙ up_at_end t a r ha b) in omega arith))
            (λ s. omega arith),
        f,
        omega arith,
      )

  -- the node entered at a has its second place at j and its arrival dart at e
  record Inside (t : Tree) (a j e : ℕ) (news : List ℕ) (r : List Letter) : Type 0 where
    sized : suc e ≡ a + size t
    places : (suc a < j) × (j < e)
    left : drop e (word q) ≡ up ∷ r
    turn₁ : σ (x (suc a)) ≡ x j
    turn₂ : σ (x j) ≡ x e
    typed : node_type (ℓ (suc a)) (ℓ j) ≡ type_of t
    trees : open_trees q e ≡ open_trees q (suc a)
    many : length news ≡ net t
    above : Above (suc a) news
    chords : open_chords q e ≡ news ++ open_chords q (suc a)
    crossed₁ : ℓ (suc a) ≡ down → Crossed q fits (suc a)
    crossed₂ : ℓ j ≡ down → Crossed q fits j
    fine₁ : (k : ℕ) → suc a < k → k < j → Fine k
    fine₂ : (k : ℕ) → j < k → k < e → Fine k
    listed : from (suc a) ≡ under t (from e)

  -- the up meets the tree edges that were open after the down
  closing : (a e : ℕ) → a < N → ℓ a ≡ down → e < N → ℓ e ≡ up → open_trees q e ≡ open_trees q (suc a)
      → (m a ≡ e) × (open_trees q (suc e) ≡ open_trees q a) × (open_chords q (suc e) ≡ open_chords q e)
  closing a e ha da he ue s =
      let (u, c) = after_up q fits e he ue in
      let (d, f) = after_down_lem q fits a da in
      let z : m e ≡ a = cc in
      (ap m (sym z) ∙ mate_back q toured parts.count e he, cc, c)

  pub node_type_lem : (a j : ℕ) → a < darts q → letter_of q a ≡ down → suc a < darts q → j < darts q → next q.rotation (dart_at q (suc a)) ≡ dart_at q j
      → type_from q (dart_at q a) ≡ node_type (letter_of q (suc a)) (letter_of q j)
  unfolding type_from
  node_type_lem a j ha d h₁ h₂ t =
      let s : σ (opposite (x a)) ≡ x (suc a) = ap σ (sym (mate_dart q toured parts.count a ha)) ∙ turn_up a (m a) ha d refl in
      ap₂ node_type (ap (letter_on q) s ∙ letter_on_lem (suc a) h₁) (ap (letter_on q) (ap σ s ∙ t) ∙ letter_on_lem j h₂)

  enclose : (t : Tree) (a j e : ℕ) (news : List ℕ) (r : List Letter) → a < N → ℓ a ≡ down → Inside t a j e news r → Block t a r
  enclose t a j e news r ha d i =
      let (hu, u, left) = front q fits e up r i.left in
      let (mate, trees, chords) = closing a e ha d hu u i.trees in
      let (l₁, l₂) = i.places in
      let turn₀ = turn_up a e ha d mate in
      record {
        end = e;
        news = news;
        sized = i.sized;
        enters = d;
        inside = (omega arith, hu);
        left = left;
        ends = mate;
        trees = trees;
        many = i.many;
        above = i.above;
        chords = chords ∙ i.chords ∙ ap (λ (s : List ℕ). news ++ s) (after_down_lem q fits a d).1;
        fine = spread Fine a j e
            (three_of (suc a) j e (omega arith) (omega arith) (λ z. omega arith) i.turn₁ i.turn₂ turn₀, i.crossed₁)
            (three_of j e (suc a) (omega arith) hu (λ z. omega arith) i.turn₂ turn₀ i.turn₁, i.crossed₂)
            (three_of e (suc a) j hu (omega arith) (λ z. omega arith) turn₀ i.turn₁ i.turn₂, no_down e up u (λ z. omega arith))
            i.fine₁ i.fine₂;
        listed =
            type_down a ha d
            ∙ ap₂ (λ (z : ℕ) (zs : List ℕ). z ∷ zs) (node_type_lem a j ha d (omega arith) (omega arith) i.turn₁ ∙ i.typed)
            (i.listed ∙ ap (under t) (type_other e hu (ap is_down u)))
            ∙ under_list t (from (suc e));
      }

  pub block : (t : Tree) → Offspring t → (a : ℕ) (r : List Letter) → drop a (word q) ≡ letters t r → Block t a r
  unfolding letters size net node_type
  block (fork y z) g a r e =
      let (h, d, e₁) = front q fits a down _ e in
      let i = block y (offspring y g.0) (suc a) (letters z (up ∷ r)) e₁ in
      let b = suc i.end in
      let j = block z (offspring z g.1) b (up ∷ r) i.left in
      let c = suc j.end in
      let hc = (front q fits c up r j.left).0 in
      let si = i.sized in
      let sj = j.sized in
      let (li, ui) = i.inside in
      let (lj, uj) = j.inside in
      enclose (fork y z) a b c (j.news ++ i.news) r h d (record {
        sized = omega arith;
        places = (omega arith, omega arith);
        left = j.left;
        turn₁ = turn_down (suc a) b (omega arith) i.enters (ap suc i.ends) (omega arith);
        turn₂ = turn_down b c (omega arith) j.enters (ap suc j.ends) hc;
        typed = rw (i.enters, j.enters);
        trees = j.trees ∙ i.trees;
        many = let n₁ = i.many in let n₂ = j.many in let n = length-append j.news i.news in omega arith;
        above = above_append (above_less (omega arith) j.above) (above_less (omega arith) i.above);
        chords = j.chords ∙ ap (λ (s : List ℕ). j.news ++ s) i.chords ∙ sym (append_assoc j.news i.news (open_chords q (suc a)));
        crossed₁ = λ n. crosses y (suc a) (letters z (up ∷ r)) (omega arith) i (net_positive y g.0);
        crossed₂ = λ n. crosses z b (up ∷ r) (omega arith) j (net_positive z g.1);
        fine₁ = λ k l u. i.fine k l (omega arith);
        fine₂ = λ k l u. j.fine k l (omega arith);
        listed = i.listed ∙ ap (type_list y) j.listed;
      })
  block (free y) g a r e =
      let (h, d, e₁) = front q fits a down _ e in
      let i = block y (offspring y g) (suc a) (second ∷ up ∷ r) e₁ in
      let b = suc i.end in
      let (hb, s, e₂) = front q fits b second (up ∷ r) i.left in
      let hc = (front q fits (suc b) up r e₂).0 in
      let (stay, open-then) = after_second q fits b hb s in
      let si = i.sized in
      let (li, ui) = i.inside in
      let count = i.many in
      let some = net_positive y g in
      let (n, ns, cs) = long_cons i.news (omega arith) in
      enclose (free y) a b (suc b) ns r h d (record {
        sized = omega arith;
        places = (omega arith, omega arith);
        left = e₂;
        turn₁ = turn_down (suc a) b (omega arith) i.enters (ap suc i.ends) hb;
        turn₂ = turn_flat' b hc (ap is_tree s);
        typed = rw (i.enters, s);
        trees = stay ∙ i.trees;
        many = one_fewer i.news n ns (net y) cs count;
        above = above_less (omega arith) (above_tail (subst (Above (suc (suc a))) cs i.above));
        chords = popped (m b) n (open_chords q b) (open_chords q (suc b)) i.news ns (open_chords q (suc a)) open-then i.chords cs;
        crossed₁ = λ n. crosses y (suc a) (second ∷ up ∷ r) (omega arith) i (net_positive y g);
        crossed₂ = no_down b second s (λ n. omega arith);
        fine₁ = λ k l u. i.fine k l (omega arith);
        fine₂ = λ k l u. absurd (omega arith);
        listed = i.listed ∙ ap (type_list y) (type_other b hb (ap is_down s));
      })
  block (late y) g a r e =
      let (h, d, e₁) = front q fits a down _ e in
      let i = block y (offspring y g) (suc a) (first ∷ up ∷ r) e₁ in
      let b = suc i.end in
      let (hb, s, e₂) = front q fits b first (up ∷ r) i.left in
      let hc = (front q fits (suc b) up r e₂).0 in
      let (stay, open-then) = after_first q fits b s in
      let si = i.sized in
      let (li, ui) = i.inside in
      enclose (late y) a b (suc b) (b ∷ i.news) r h d (record {
        sized = omega arith;
        places = (omega arith, omega arith);
        left = e₂;
        turn₁ = turn_down (suc a) b (omega arith) i.enters (ap suc i.ends) hb;
        turn₂ = turn_flat' b hc (ap is_tree s);
        typed = rw (i.enters, s);
        trees = stay ∙ i.trees;
        many = ap suc i.many;
        above = one {x = b} (omega arith) (above_less (omega arith) i.above);
        chords = open-then ∙ ap (λ (s : List ℕ). b ∷ s) i.chords;
        crossed₁ = λ n. crosses y (suc a) (first ∷ up ∷ r) (omega arith) i (net_positive y g);
        crossed₂ = no_down b first s (λ n. omega arith);
        fine₁ = λ k l u. i.fine k l (omega arith);
        fine₂ = λ k l u. absurd (omega arith);
        listed = i.listed ∙ ap (type_list y) (type_other b hb (ap is_down s));
      })
  block (soon y) g a r e =
      let (h, d, e₁) = front q fits a down _ e in
      let (hs, s, e₂) = front q fits (suc a) first (letters y (up ∷ r)) e₁ in
      let b = suc (suc a) in
      let i = block y (offspring y g) b (up ∷ r) e₂ in
      let c = suc i.end in
      let hc = (front q fits c up r i.left).0 in
      let (stay, open-then) = after_first q fits (suc a) s in
      let si = i.sized in
      let (li, ui) = i.inside in
      enclose (soon y) a b c (i.news ++ (suc a ∷ [])) r h d (record {
        sized = omega arith;
        places = (omega arith, omega arith);
        left = i.left;
        turn₁ = turn_flat' (suc a) (omega arith) (ap is_tree s);
        turn₂ = turn_down b c (omega arith) i.enters (ap suc i.ends) hc;
        typed = rw (s, i.enters);
        trees = i.trees ∙ stay;
        many = let n = i.many in let v = length-append i.news (suc a ∷ []) in omega arith;
        above = above_append (above_less (omega arith) i.above) (one (le_refl (suc a)) nil);
        chords = i.chords ∙ ap (λ (s : List ℕ). i.news ++ s) open-then ∙ sym (append_assoc i.news (suc a ∷ []) (open_chords q (suc a)));
        crossed₁ = no_down (suc a) first s (λ n. omega arith);
        crossed₂ = λ n. crosses y b (up ∷ r) (omega arith) i (net_positive y g);
        fine₁ = λ k l u. absurd (omega arith);
        fine₂ = λ k l u. i.fine k l (omega arith);
        listed = type_other (suc a) hs (ap is_down s) ∙ i.listed;
      })
  block tips g a r e =
      let (h, d, e₁) = front q fits a down _ e in
      let (hs, s, e₂) = front q fits (suc a) first (first ∷ up ∷ r) e₁ in
      let b = suc (suc a) in
      let (hb, v, e₃) = front q fits b first (up ∷ r) e₂ in
      let hc = (front q fits (suc b) up r e₃).0 in
      let (stay, open-then) = after_first q fits (suc a) s in
      let (stay', open-last) = after_first q fits b v in
      enclose tips a b (suc b) (b ∷ suc a ∷ []) r h d (record {
        sized = omega arith;
        places = (omega arith, omega arith);
        left = e₃;
        turn₁ = turn_flat' (suc a) hb (ap is_tree s);
        turn₂ = turn_flat' b hc (ap is_tree v);
        typed = rw (s, v);
        trees = stay' ∙ stay;
        many = refl;
        above = one {x = b} (omega arith) (one (le_refl (suc a)) nil);
        chords = open-last ∙ ap (λ (s : List ℕ). b ∷ s) open-then;
        crossed₁ = no_down (suc a) first s (λ n. omega arith);
        crossed₂ = no_down b first v (λ n. omega arith);
        fine₁ = λ k l u. absurd (omega arith);
        fine₂ = λ k l u. absurd (omega arith);
        listed = type_other (suc a) hs (ap is_down s) ∙ type_other b hb (ap is_down v);
      })
