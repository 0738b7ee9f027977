-- Numbers stay in range when a type is read and a node is entered. Assumes nothing.
--
--   node_pushed           a node is entered: the nodes that are not complete
--   pushed_stands         what it is owed is no longer to be put besides
--   read_stands           a type is read: it brings three letters
--   first_stands          the state at the start
use Prim.Native.Nat.{ℕ, suc, ◌+◌, ◌-◌, ◌*◌, ◌%◌, ◌≤◌, ◌<◌}
use native.Mathlib.Numerals.{add-one}
use native.Mathlib.Omega.{arith}
use mathlib.Core.Path.{◌≡◌, refl, ap, ◌∙◌}
use mathlib.Core.List.{List}
use lib.ListN.{length, set, length-set}
use Rattle.work.specs.Map.{LETTERS, BASES, PLACES, TYPES}
use Rattle.work.specs.Area.{region, stack}
use Rattle.work.proofs.Regions.{region_set_other}
use Rattle.work.proofs.Stacks.{stack_set, stack_push}
use Rattle.node_ends.specs.Steps.{type_count, place_for, frames, letters_to, view_of, with_node, owes, owed, View, Standing}
use Rattle.node_ends.specs.declared.State.{State}
use Rattle.node_ends.proofs.Standings.{stands, owed_node, coded_set, counted}

pub node_pushed : (m : ℕ) (w : List ℕ) (i k d : ℕ) → 32 * m ≤ length w → (b x : ℕ) → d < 2 * m → k ≤ 2 * m
    → view_of m (set (set w (BASES * (2 * m) + d) b) (PLACES * (2 * m) + d) x) i k (suc d) ≡ with_node b x (view_of m w i k d)
unfolding view_of with_node letters_to frames
node_pushed m w i k d room b x h l =
    let w₁ = set w (BASES * (2 * m) + d) b in
    let same = length-set w (BASES * (2 * m) + d) b in
    rw (
      region_set_other (LETTERS * (2 * m)) k w₁ (PLACES * (2 * m) + d) x (λ g. omega arith),
      region_set_other (LETTERS * (2 * m)) k w (BASES * (2 * m) + d) b (λ g. omega arith),
      stack_set (BASES * (2 * m)) (suc d) w₁ (PLACES * (2 * m) + d) x (λ g. omega arith),
      stack_push (BASES * (2 * m)) d w b (omega arith),
      stack_push (PLACES * (2 * m)) d w₁ x (omega arith),
      stack_set (PLACES * (2 * m)) d w (BASES * (2 * m) + d) b (λ g. absurd (omega arith)),
      region_set_other (TYPES * (2 * m) + i) (type_count m - i) w₁ (PLACES * (2 * m) + d) x (λ g. absurd (omega arith)),
      region_set_other (TYPES * (2 * m) + i) (type_count m - i) w (BASES * (2 * m) + d) b (λ g. absurd (omega arith)),
    )

pub pushed_stands : (m : ℕ) (w : List ℕ) (s : State) (b x : ℕ) → Standing m (1 + owes (place_for x)) w s
    → Standing m 1 (set (set w (BASES * (2 * m) + s.depth) b) (PLACES * (2 * m) + s.depth) x) (counted s.read s.put s.height (s.depth + 1))
pushed_stands m w s b x g =
    let w₁ = set w (BASES * (2 * m) + s.depth) b in
    let w' = set w₁ (PLACES * (2 * m) + s.depth) x in
    let same = length-set w₁ (PLACES * (2 * m) + s.depth) x ∙ length-set w (BASES * (2 * m) + s.depth) b in
    let r = g.room in let u = g.within in let q = g.balance in let l = g.low in
    let v = view_of m w s.read s.put s.depth in
    let e = ap (λ (v : View). owed v.nodes) (node_pushed m w s.read s.put s.depth r b x (omega arith) (omega arith)) ∙ owed_node b x v in
    rw (add-one s.depth)
    (stands m w' (counted s.read s.put s.height (suc s.depth)) g.some_edges g.few_edges g.thirds (omega arith)
    1 g.types_in (omega arith) l (omega arith)
    (coded_set m s.put w w'
    (region_set_other (LETTERS * (2 * m)) s.put w₁ (PLACES * (2 * m) + s.depth) x (λ a. omega arith)
    ∙ region_set_other (LETTERS * (2 * m)) s.put w (BASES * (2 * m) + s.depth) b (λ a. omega arith))
    g.coded))

owed_types : (m : ℕ) (w : List ℕ) (i j k d : ℕ) → owed (view_of m w i k d).nodes ≡ owed (view_of m w j k d).nodes
unfolding view_of
owed_types m w i j k d = refl

pub read_stands : (m : ℕ) (w : List ℕ) (s : State) → Standing m 1 w s → s.read < type_count m → Standing m 4 w (counted (s.read + 1) s.put s.height s.depth)
read_stands m w s g h =
    let b = g.balance in
    let e = owed_types m w (s.read + 1) s.read s.put s.depth in
    stands m w (counted (s.read + 1) s.put s.height s.depth) g.some_edges g.few_edges g.thirds g.room
    4 (omega arith) (omega arith) g.low (omega arith) g.coded

pub first_stands : (m : ℕ) (w : List ℕ) → 3 ≤ m → m ≤ 4096 → m % 3 ≡ 0 → 32 * m ≤ length w
    → Standing m 1 w (record { read = 0; put = 0; height = 0; depth = 0 })
unfolding letters_to view_of region frames stack owed
first_stands m w a b c r = stands m w (record { read = 0; put = 0; height = 0; depth = 0 }) a b c r 1 (omega arith) refl (omega arith) (omega arith) refl
