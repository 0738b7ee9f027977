-- What stores make of the letters, nodes and types in the work area, where i types are read, k letters put and d nodes not complete. Assumes nothing.
--
--   letter_put, coded_put   a letter is put; the entries stay codes of letters
--   node_popped           the node on top, and those below it
--   child_taken           the child of the node on top is to be read
--   type_read, types_out  the next type, and those after it; no type is left
--   owes_some, owed_deep  each node is owed a letter
use Prim.Native.Nat.{ℕ, zero, suc, ◌+◌, ◌-◌, ◌*◌, ◌≤◌, ◌<◌}
use native.Mathlib.Nat.{add-suc}
use native.Mathlib.Numerals.{add-one}
use native.Mathlib.Omega.{arith}
use mathlib.Core.Path.{◌≡◌, refl, ◌∙◌}
use mathlib.Core.List.{List, [], ◌∷◌, ◌++◌, map-append}
use lib.ListN.{length, get_or, set}
use lib.Seq.{drop-cons, get_or-set_same}
use Rattle.model.specs.Traversal.{Letter, code}
use Rattle.node_types.specs.Machine.{Place, child, gap, leaf, nothing}
use Rattle.work.specs.Map.{LETTERS, BASES, PLACES, TYPES}
use Rattle.work.specs.Area.{region, stack}
use Rattle.work.specs.Letters.{to_letter}
use Rattle.work.proofs.Regions.{region_set_other, region_grow, placed_cons, placed_none}
use Rattle.work.proofs.Stacks.{stack_set, stack_pop}
use Rattle.work.proofs.Letters.{letter_code}
use Rattle.node_ends.specs.Steps.{type_count, place_for, frames, letters_to, view_of, with_letter, with_node, owes, owed, Coded}
use Rattle.node_ends.proofs.Founds.{with_type}

-- ---- one entry more

region_more : (a k x : ℕ) (w : List ℕ) → a + k < length w → region a (suc k) (set w (a + k) x) ≡ region a k w ++ (x ∷ [])
region_more a k x w h =
    let p = placed_cons (a + k) x [] w h ∙ placed_none (suc (a + k)) (set w (a + k) x) in
    rw (← p, ← add-one k) (region_grow a k 1 (x ∷ []) w refl (omega arith))

region_first : (a k : ℕ) (w : List ℕ) → a < length w → region a (suc k) w ≡ get_or w a 0 ∷ region (suc a) k w
unfolding region
region_first a k w h = rw (drop-cons w a 0 h)

-- ---- stores

module _ (m : ℕ) (w : List ℕ) (i k d : ℕ) (room : 32 * m ≤ length w) where
  letters_put : (l : Letter) → k < 2 * m → letters_to m (suc k) (set w (LETTERS * (2 * m) + k) (code l)) ≡ letters_to m k w ++ (l ∷ [])
  unfolding letters_to
  letters_put l h =
      let a = LETTERS * (2 * m) in
      rw (region_more a k (code l) w (omega arith), map-append to_letter (region a k w) (code l ∷ []), letter_code l)

  pub letter_put : (l : Letter) → k < 2 * m → view_of m (set w (LETTERS * (2 * m) + k) (code l)) i (suc k) d ≡ with_letter l (view_of m w i k d)
  unfolding view_of with_letter
  letter_put l h =
      rw (
        letters_put l h,
        stack_set (BASES * (2 * m)) d w (LETTERS * (2 * m) + k) (code l) (λ g. absurd (omega arith)),
        stack_set (PLACES * (2 * m)) d w (LETTERS * (2 * m) + k) (code l) (λ g. absurd (omega arith)),
        region_set_other (TYPES * (2 * m) + i) (type_count m - i) w (LETTERS * (2 * m) + k) (code l) (λ g. absurd (omega arith)),
      )

  pub coded_put : (l : Letter) → k < 2 * m → Coded m k w → Coded m (suc k) (set w (LETTERS * (2 * m) + k) (code l))
  coded_put l h e =
      rw (region_more (LETTERS * (2 * m)) k (code l) w (omega arith), letters_put l h, map-append code (letters_to m k w) (l ∷ []), e)

  abbrev pub base_at : ℕ → ℕ
  base_at j = get_or w (BASES * (2 * m) + j) 0

  abbrev pub place_at : ℕ → ℕ
  place_at j = get_or w (PLACES * (2 * m) + j) 0

  pub node_popped : 0 < d → view_of m w i k d ≡ with_node (base_at (d - 1)) (place_at (d - 1)) (view_of m w i k (d - 1))
  unfolding view_of with_node frames
  node_popped h = rw (stack_pop (BASES * (2 * m)) d w h, stack_pop (PLACES * (2 * m)) d w h)

  pub child_taken : 0 < d → d ≤ 2 * m → k ≤ 2 * m → view_of m (set w (PLACES * (2 * m) + (d - 1)) 0) i k d ≡ with_node (base_at (d - 1)) 0 (view_of m w i k (d - 1))
  unfolding view_of with_node letters_to frames
  child_taken h u l =
      let j = PLACES * (2 * m) + (d - 1) in
      rw (
        region_set_other (LETTERS * (2 * m)) k w j 0 (λ g. omega arith),
        stack_set (BASES * (2 * m)) d w j 0 (λ g. omega arith),
        stack_pop (BASES * (2 * m)) d w h,
        stack_pop (PLACES * (2 * m)) d (set w j 0) h,
        get_or-set_same w j 0 0 (omega arith),
        stack_set (PLACES * (2 * m)) (d - 1) w j 0 (λ g. omega arith),
        region_set_other (TYPES * (2 * m) + i) (type_count m - i) w j 0 (λ g. absurd (omega arith)),
      )

  pub type_read : i < type_count m → view_of m w i k d ≡ with_type (get_or w (TYPES * (2 * m) + i) 0) (view_of m w (suc i) k d)
  unfolding view_of with_type
  type_read h =
      let e : type_count m - i ≡ suc (type_count m - suc i) = omega arith in
      rw (e, region_first (TYPES * (2 * m) + i) (type_count m - suc i) w (omega arith), add-suc (TYPES * (2 * m)) i)

  pub types_out : type_count m ≤ i → (view_of m w i k d).types ≡ []
  unfolding view_of region
  types_out h = let e : type_count m - i ≡ 0 = omega arith in rw e

-- ---- letters that are owed

pub owes_some : (p : Place) → 1 ≤ owes p
owes_some child = omega arith
owes_some gap = omega arith
owes_some leaf = omega arith
owes_some nothing = omega arith

pub owed_deep : (m : ℕ) (w : List ℕ) (i k d : ℕ) → d ≤ owed (view_of m w i k d).nodes
unfolding view_of frames stack owed
owed_deep m w i k zero = omega arith
owed_deep m w i k (suc d) =
    let o = owes_some (place_for (get_or w (PLACES * (2 * m) + d) 0)) in let r = owed_deep m w i k d in omega arith
