-- Numbers stay in range, store by store. Assumes nothing.
--
--   counted               the state with these numbers
--   stands                the area holds what is still to come: `within` follows from the rest
--   put_stands            a letter is put, of those that are still to be put besides the nodes'
--   popped_stands         the node on top is taken off
--   taken_stands          the child of the node on top is to be read
--   owed_node, owes_zero, owes_two, owes_one   what is owed by a node, and by what is to come
--   coded_set             the entries stay codes of letters where they stay
use Prim.Native.Nat.{ℕ, zero, suc, ◌+◌, ◌-◌, ◌*◌, ◌%◌, ◌≤◌, ◌<◌}
use native.Mathlib.Omega.{arith}
use mathlib.Core.Path.{◌≡◌, refl, ap, ◌∙◌}
use mathlib.Core.Logic.{◌≢◌}
use mathlib.Core.List.{List}
use lib.ListN.{length, get_or, set, length-set}
use Rattle.model.specs.Traversal.{Letter, code}
use Rattle.work.specs.Map.{LETTERS, BASES, PLACES}
use Rattle.work.specs.Area.{region}
use Rattle.work.proofs.Regions.{region_set_other}
use Rattle.node_ends.specs.declared.State.{State}
use Rattle.node_ends.specs.Steps.{type_count, place_for, letters_to, View, view_of, view_at, with_letter, with_node, owes, owed, Coded, Standing}
use Rattle.node_ends.proofs.Founds.{nothing_is}
use Rattle.node_ends.proofs.Views.{letter_put, coded_put, node_popped, child_taken, owed_deep}

module _ (m : ℕ) (w : List ℕ) (s : State) (some : 3 ≤ m) (few : m ≤ 4096) (thirds : m % 3 ≡ 0) (room : 32 * m ≤ length w) where
  pub stands : (c : ℕ) → s.read ≤ type_count m → s.put + owed (view_at m w s).nodes + c ≡ 3 * s.read + 1 → s.height ≤ s.put → 1 ≤ s.height + c
      → Coded m s.put w → Standing m c w s
  stands c t b l h e =
      let o = owed_deep m w s.read s.put s.depth in
      record {
        some_edges = some;
        few_edges = few;
        thirds = thirds;
        room = room;
        types_in = t;
        balance = b;
        within = omega arith;
        low = l;
        high = h;
        coded = e;
      }

owed_letter : (l : Letter) (v : View) → owed (with_letter l v).nodes ≡ owed v.nodes
unfolding with_letter
owed_letter l v = refl

pub owed_node : (b x : ℕ) (v : View) → owed (with_node b x v).nodes ≡ owes (place_for x) + owed v.nodes
unfolding with_node owed
owed_node b x v = refl

-- what is owed by what is to come

pub owes_zero : owes (place_for 0) ≡ 1
unfolding place_for
owes_zero = refl

pub owes_two : (x : ℕ) → 0 < x → x < 4 → owes (place_for x) ≡ 2
unfolding place_for
owes_two zero h l = absurd (omega arith)
owes_two (suc zero) h l = refl
owes_two (suc (suc zero)) h l = refl
owes_two (suc (suc (suc zero))) h l = refl
owes_two (suc (suc (suc (suc x)))) h l = absurd (omega arith)

pub owes_one : (x : ℕ) → x ≢ 1 → x ≢ 2 → x ≢ 3 → owes (place_for x) ≡ 1
owes_one x p q r = ap owes (nothing_is x p q r)

pub coded_set : (m k : ℕ) (w w' : List ℕ) → region (LETTERS * (2 * m)) k w' ≡ region (LETTERS * (2 * m)) k w → Coded m k w → Coded m k w'
unfolding letters_to
coded_set m k w w' q e = rw q e

abbrev pub counted : ℕ → ℕ → ℕ → ℕ → State
counted i k h d = record { read = i; put = k; height = h; depth = d }

module _ (m : ℕ) (w : List ℕ) (s : State) where
  pub put_stands : (c : ℕ) → Standing m (suc c) w s → (l : Letter) (k h : ℕ) → k ≡ s.put + 1 → h ≤ k → 1 ≤ h + c
      → Standing m c (set w (LETTERS * (2 * m) + s.put) (code l)) (counted s.read k h s.depth)
  put_stands c g l k h next low high =
      let w' = set w (LETTERS * (2 * m) + s.put) (code l) in
      let same = length-set w (LETTERS * (2 * m) + s.put) (code l) in
      let r = g.room in let u = g.within in let b = g.balance in
      let e = ap (λ (v : View). owed v.nodes) (letter_put m w s.read s.put s.depth r l (omega arith))
      ∙ owed_letter l (view_of m w s.read s.put s.depth) in
      let n : k ≡ suc s.put = omega arith in
      rw n
      (stands m w' (counted s.read (suc s.put) h s.depth) g.some_edges g.few_edges g.thirds (omega arith)
      c g.types_in (omega arith) (omega arith) high (coded_put m w s.read s.put s.depth r l (omega arith) g.coded))

  module _ (g : Standing m 0 w s) (some : 0 < s.depth) where
    abbrev top : ℕ
    top = s.depth - 1

    abbrev place : ℕ
    place = get_or w (PLACES * (2 * m) + top) 0

    owed_top : owed (view_at m w s).nodes ≡ owes (place_for place) + owed (view_of m w s.read s.put top).nodes
    owed_top =
        ap (λ (v : View). owed v.nodes) (node_popped m w s.read s.put s.depth g.room some)
        ∙ owed_node (get_or w (BASES * (2 * m) + top) 0) place (view_of m w s.read s.put top)

    pub popped_stands : (c : ℕ) → owes (place_for place) ≡ c → Standing m c w (counted s.read s.put s.height top)
    popped_stands c q =
        let b = g.balance in let e = owed_top in let h = g.high in
        stands m w (counted s.read s.put s.height top) g.some_edges g.few_edges g.thirds g.room
        c g.types_in (omega arith) g.low (omega arith) g.coded

    pub taken_stands : owes (place_for place) ≡ 2 → Standing m 1 (set w (PLACES * (2 * m) + top) 0) s
    taken_stands q =
        let w' = set w (PLACES * (2 * m) + top) 0 in
        let same = length-set w (PLACES * (2 * m) + top) 0 in
        let b = g.balance in let e = owed_top in let r = g.room in let u = g.within in let h = g.high in
        let f = ap (λ (v : View). owed v.nodes) (child_taken m w s.read s.put s.depth r some (omega arith) (omega arith))
        ∙ owed_node (get_or w (BASES * (2 * m) + top) 0) 0 (view_of m w s.read s.put top) in
        let z = owes_zero in
        stands m w' s g.some_edges g.few_edges g.thirds (omega arith)
        1 g.types_in (omega arith) g.low (omega arith)
        (coded_set m s.put w w' (region_set_other (LETTERS * (2 * m)) s.put w (PLACES * (2 * m) + top) 0 (λ a. omega arith)) g.coded)
