-- How long the payload of a good tree's types is.
--
--   twos ts           how many types are 2
--   tree_twos         of a good tree's types, these are as many as its nodes and open edges say
--   bits_digits       each type has two bits, or one and a digit
--   types_payload_length   the bytes of the bits and those of the digits
--   tree_range        the payload of a good tree with two open edges has two bytes or more, and there is room for it
--   room_most         the most room that there is
use Prim.Native.Nat.{ℕ, zero, suc, ◌+◌, ◌-◌, ◌*◌, ◌/◌, ◌≤◌}
use native.Mathlib.Omega.{arith}
use mathlib.Core.Path.{◌≡◌, refl, ◌∙◌}
use mathlib.Core.Bool.{true, false≢true}
use mathlib.Core.List.{List, [], ◌∷◌}
use lib.Dec.{ltb}
use lib.ListN.{length, length-append}
use Rattle.model.specs.Mesh.{code_a, digit_of, type_bits, type_digits}
use Rattle.model.specs.Record.{pack, bytes_for}
use Rattle.model.proofs.Booleans.{and_right}
use Rattle.packing.specs.Types.{is_type, all_types, types_payload}
use Rattle.packing.proofs.Packed.{pack_length}
use Rattle.node_types.specs.Tree.{Tree, fork, free, late, soon, tips, type_list, net, good}
use Rattle.coding.specs.Payloads.{mesh_room}
use Rattle.node_types.proofs.Trees.{good_left, good_right, free_net, free_good, late_good, soon_good, tree_types}

unfoldable pub twos : List ℕ → ℕ
twos [] = 0
twos (zero ∷ ts) = twos ts
twos (suc zero ∷ ts) = twos ts
twos (suc (suc zero) ∷ ts) = suc (twos ts)
twos (suc (suc (suc n)) ∷ ts) = twos ts

pub tree_twos : (t : Tree) → good t ≡ true → (ts : List ℕ) → 2 * twos (type_list t ts) + (net t + length ts) ≡ length (type_list t ts) + (1 + 2 * twos ts)
unfolding type_list net twos
tree_twos (fork a b) g ts =
    let i = tree_twos a (good_left a b g) (type_list b ts) in let j = tree_twos b (good_right a b g) ts in omega arith
tree_twos (free a) g ts = let i = tree_twos a (free_good a g) ts in let n = free_net a g in omega arith
tree_twos (late a) g ts = let i = tree_twos a (late_good a g) ts in omega arith
tree_twos (soon a) g ts = let i = tree_twos a (soon_good a g) ts in omega arith
tree_twos tips g ts = omega arith

tree_digits : (t : Tree) (ts : List ℕ) → 1 ≤ length (type_digits (type_list t ts))
unfolding type_list type_digits digit_of
tree_digits (fork a b) ts = tree_digits a (type_list b ts)
tree_digits (free a) ts = tree_digits a ts
tree_digits (late a) ts = omega arith
tree_digits (soon a) ts = omega arith
tree_digits tips ts = omega arith

pub bits_digits : (ts : List ℕ) → all_types ts ≡ true → length (type_bits ts) + length (type_digits ts) ≡ 2 * length ts
unfolding type_bits type_digits code_a digit_of all_types is_type
bits_digits [] e = refl
bits_digits (zero ∷ ts) e = absurd (false≢true e)
bits_digits (suc zero ∷ ts) e = let i = bits_digits ts e in omega arith
bits_digits (suc (suc zero) ∷ ts) e = let i = bits_digits ts e in omega arith
bits_digits (suc (suc (suc n)) ∷ ts) e = let i = bits_digits ts (and_right (ltb n 3) (all_types ts) e) in omega arith

twos_digits : (ts : List ℕ) → twos ts + length (type_digits ts) ≤ length ts
unfolding twos type_digits digit_of
twos_digits [] = omega arith
twos_digits (zero ∷ ts) = let i = twos_digits ts in omega arith
twos_digits (suc zero ∷ ts) = let i = twos_digits ts in omega arith
twos_digits (suc (suc zero) ∷ ts) = let i = twos_digits ts in omega arith
twos_digits (suc (suc (suc n)) ∷ ts) = let i = twos_digits ts in omega arith

pub types_payload_length : (ts : List ℕ) → length (types_payload ts) ≡ bytes_for (length (type_bits ts)) 8 + bytes_for (length (type_digits ts)) 5
unfolding types_payload
types_payload_length ts =
    let b = type_bits ts in
    let d = type_digits ts in
    let x = pack_length 2 8 (bytes_for (length b) 8) b in
    let y = pack_length 3 5 (bytes_for (length d) 5) d in
    length-append (pack 2 8 (bytes_for (length b) 8) b) (pack 3 5 (bytes_for (length d) 5) d) ∙ omega arith

-- ---- in plain numbers

-- five digits less take a byte less, and the five bits in their place no more than a byte
groups_less : (k a q : ℕ) → 5 * q ≤ a → a ≤ k → bytes_for (k - a) 5 + q ≤ (k + 4) / 5
groups_less k a q l h = omega arith

bytes_more : (x a q : ℕ) → a ≤ 5 * q + 4 → (x + a) / 8 ≤ (x + 4) / 8 + q
bytes_more x a q l = omega arith

traded : (x y z w q : ℕ) → x ≤ y + q → z + q ≤ w → x + z ≤ y + w
traded x y z w q g h = omega arith

-- a third of the edges is k, and a of as many types have no digit
room : (k a : ℕ) → a ≤ k → (3 * k + 5 + a) / 8 + bytes_for (k - a) 5 ≤ mesh_room (3 * k)
unfolding mesh_room
room k a h =
    let thirds : (3 * k + 12) / 15 ≡ (k + 4) / 5 = omega arith in
    let nine : 3 * k + 5 + 4 ≡ 3 * k + 9 = omega arith in
    rw (thirds, ← nine) (traded _ _ _ _ (a / 5) (bytes_more (3 * k + 5) a (a / 5) (omega arith)) (groups_less k a (a / 5) (omega arith) h))

-- n types with b bits and d digits, f of them 2, and m edges
bounds : (n b d f m : ℕ) → 2 * m ≡ 3 * (n + 1) → 1 ≤ d → b + d ≡ 2 * n → f + d ≤ n → 2 * f + 2 ≡ n + 1
    → (2 ≤ bytes_for b 8 + bytes_for d 5) × (bytes_for b 8 + bytes_for d 5 ≤ mesh_room m)
bounds n b d f m e o s l c =
    let third : 3 * (f + 1) ≡ m = omega arith in
    let bits : 3 * (f + 1) + 5 + (f + 1 - d) ≡ b + 7 = omega arith in
    let digits : f + 1 - (f + 1 - d) ≡ d = omega arith in
    let r = room (f + 1) (f + 1 - d) (omega arith) in
    (omega arith, rw (bits, digits, third) at r)

pub tree_range : (t : Tree) → good t ≡ true → net t ≡ 2 → (m : ℕ) → 2 * m ≡ 3 * (length (type_list t []) + 1)
    → (2 ≤ length (types_payload (type_list t []))) × (length (types_payload (type_list t [])) ≤ mesh_room m)
unfolding twos all_types
tree_range t g two m e =
    let ts = type_list t [] in
    let c = tree_twos t g [] in
    let (u, v) = bounds (length ts) (length (type_bits ts)) (length (type_digits ts)) (twos ts) m
    e (tree_digits t []) (bits_digits ts (tree_types t [] refl)) (twos_digits ts) (omega arith) in
    let w = types_payload_length ts in
    (omega arith, omega arith)

pub room_most : (m : ℕ) → m ≤ 4096 → mesh_room m ≤ 786
unfolding mesh_room
room_most m l = omega arith
