-- Bytes behind length, kind and m, and these taken off again; the payload behind the outside's bytes. Assumes nothing.
--
--   headed_length, headed_bytes   the length of what is headed, and that its entries are bytes
--   headed_field, headed_kind, headed_edges   its three fields
--   headed_passes        it passes 1, 2, 3 and 5
--   extra_length, extra_behind   the head with the outside's bytes has its length, and so has what is behind m
--   headed_payload, headed_outside   the payload, and the outside's number where it is stored
--   passes_sized         what follows the head of any record that passes is as long as its payload
--   passes_headed        any record that passes is headed
use Prim.Native.Nat.{ℕ, ◌+◌, ◌≤◌, ◌<◌}
use native.Mathlib.Nat.{add-zero}
use native.Mathlib.Omega.{arith}
use native.Mathlib.Numerals.{add-one}
use mathlib.Core.Path.{◌≡◌, refl, sym, ◌∙◌}
use mathlib.Core.Bool.{Bool, true, false, cond}
use mathlib.Core.List.{List, [], ◌∷◌, ◌++◌}
use lib.ListN.{length, drop, length-drop, length-append}
use lib.Seq.{get_or-drop, drop-drop}
use borrow.Author.Tests.{eq-eqb}
use Rattle.model.specs.Numbers.{all_below}
use Rattle.model.specs.Map.{stores_outside, is_kind, family}
use Rattle.model.specs.Record.{le16, head_length, payload_length, record_length, headed}
use Rattle.model.specs.Shelf.{word16, kind_of, edges_of, passes}
use Rattle.model.proofs.Below.{below_append, below_drop, below_head, below_tail}
use Rattle.packing.specs.Payload.{Sized, extra_bytes, Behind}
use Rattle.model.proofs.Heads.{le16_word16, le16_bytes, kind_family, family_varies, stores_fixed, kind_small, head_length_range, Passes, passes_facts, facts_passes}

module _ (k m : ℕ) (ps : List ℕ) where
  pub headed_length : length (headed k m ps) ≡ 6 + length ps
  unfolding headed le16
  headed_length = omega arith

  pub headed_bytes : all_below 256 ps ≡ true → all_below 256 (headed k m ps) ≡ true
  unfolding headed
  headed_bytes e = below_append 256 (le16 (6 + length ps)) _ (le16_bytes _)
      (below_append 256 (le16 k) _ (le16_bytes _) (below_append 256 (le16 m) ps (le16_bytes _) e))

module _ (k m : ℕ) (ps : List ℕ) (s : Behind k m ps) where
  pub headed_field : word16 (headed k m ps) 0 ≡ length (headed k m ps)
  unfolding headed le16 word16
  headed_field = let h = s.short in omega arith

  pub headed_kind : kind_of (headed k m ps) ≡ k
  unfolding headed le16 word16
  headed_kind = let h = kind_small k s.kind in omega arith

  pub headed_edges : edges_of (headed k m ps) ≡ m
  unfolding headed le16 word16
  headed_edges = let h = s.few_edges in omega arith

  pub headed_passes : passes (headed k m ps) ≡ true
  unfolding passes
  headed_passes =
      let l = headed_length k m ps in
      let n = headed_edges in
      let some = s.some_edge in
      let few = s.few_edges in
      eq-eqb _ 0 (facts_passes (headed k m ps) (record {
        whole_head = omega arith;
        length_field = headed_field;
        kind = rw headed_kind s.kind;
        some_edge = omega arith;
        few_edges = omega arith;
        right_length = λ v. l ∙ s.long (rw headed_kind at v) ∙ rw (headed_kind, headed_edges);
      }))

-- ---- the outside's bytes

module _ (k x : ℕ) where
  pub extra_length : 6 + length (extra_bytes k x) ≡ head_length k
  unfolding extra_bytes head_length le16
  extra_length = go (stores_outside k)
    where
      go : (b : Bool) → 6 + length (cond b (le16 x) []) ≡ cond b 8 6
      go true = refl
      go false = refl

  extra_bytes_lem : all_below 256 (extra_bytes k x) ≡ true
  unfolding extra_bytes all_below
  extra_bytes_lem = go (stores_outside k)
    where
      go : (b : Bool) → all_below 256 (cond b (le16 x) []) ≡ true
      go true = le16_bytes x
      go false = refl

  module _ (m : ℕ) (ps : List ℕ) where
    pub extra_behind : is_kind k ≡ true → Sized (family k) m ps → length ps ≤ 2048 → Behind k m (extra_bytes k x ++ ps)
    unfolding record_length
    extra_behind kind s short =
        let e = extra_length in
        let a = length-append (extra_bytes k x) ps in
        let h = head_length_range k in
        record {
          kind = kind;
          some_edge = s.some_edge;
          few_edges = s.few_edges;
          short = omega arith;
          long = λ v. let l = s.long (family_varies k kind ∙ v) in omega arith;
        }

    pub extra_headed_bytes : all_below 256 ps ≡ true → all_below 256 (headed k m (extra_bytes k x ++ ps)) ≡ true
    extra_headed_bytes e = headed_bytes k m (extra_bytes k x ++ ps) (below_append 256 (extra_bytes k x) ps extra_bytes_lem e)

    pub headed_payload : drop (head_length k) (headed k m (extra_bytes k x ++ ps)) ≡ ps
    unfolding headed le16 extra_bytes head_length
    headed_payload = go (stores_outside k)
      where
        go : (b : Bool) → drop (cond b 8 6) (le16 (6 + length (cond b (le16 x) [] ++ ps)) ++ (le16 k ++ (le16 m ++ (cond b (le16 x) [] ++ ps)))) ≡ ps
        go true = refl
        go false = refl

    pub headed_outside : stores_outside k ≡ true → x < 65536 → word16 (headed k m (extra_bytes k x ++ ps)) 6 ≡ x
    unfolding headed le16 extra_bytes word16
    headed_outside e h = rw e (omega arith)

-- ---- any record that passes

field : (r : List ℕ) → 2 ≤ length r → all_below 256 r ≡ true → le16 (word16 r 0) ++ drop 2 r ≡ r
unfolding word16
field [] h e = let z : ⊥ = omega arith in absurd z
field (a ∷ []) h e = let z : ⊥ = omega arith in absurd z
field (a ∷ b ∷ r) h e = rw (le16_word16 a b (below_head 256 a (b ∷ r) e) (below_head 256 b r (below_tail 256 a (b ∷ r) e)))

word16_drop : (n : ℕ) (r : List ℕ) → word16 (drop n r) 0 ≡ word16 r n
unfolding word16
word16_drop n r = rw (get_or-drop n r 0 0, get_or-drop n r 1 0, add-zero n, add-one n)

head_fields : (r : List ℕ) → 6 ≤ length r → all_below 256 r ≡ true
    → le16 (word16 r 0) ++ (le16 (kind_of r) ++ (le16 (edges_of r) ++ drop 6 r)) ≡ r
head_fields r h e =
    let l = length-drop 2 r in
    let m = length-drop 4 r in
    let last = field (drop 4 r) (omega arith) (below_drop 256 4 r e) in
    let middle = field (drop 2 r) (omega arith) (below_drop 256 2 r e) in
    rw (← word16_drop 2 r, ← word16_drop 4 r, ← drop-drop 2 4 r) (rw last (rw (← drop-drop 2 2 r) (rw middle (field r (omega arith) e))))

module _ (r : List ℕ) (pass : passes r ≡ true) where
  facts : Passes r
  facts = passes_facts r pass

  long : 6 + length (drop 6 r) ≡ length r
  long = let d = length-drop 6 r in let h = facts.whole_head in omega arith

  -- a kind that stores the outside has eight bytes before the payload
  head_room : stores_outside (kind_of r) ≡ true → 8 ≤ length r
  unfolding record_length head_length
  head_room t = let l = facts.right_length (stores_fixed (kind_of r) t) in let z : record_length (kind_of r) (edges_of r) ≡ 8 + payload_length (family (kind_of r)) (edges_of r) = rw t in omega arith

  pub passes_sized : Sized (family (kind_of r)) (edges_of r) (drop (head_length (kind_of r)) r)
  unfolding record_length
  passes_sized =
      let d = length-drop (head_length (kind_of r)) r in
      let same = family_varies (kind_of r) facts.kind in
      record {
        is_family = kind_family (kind_of r) facts.kind;
        some_edge = facts.some_edge;
        few_edges = facts.few_edges;
        long = λ v. let l = facts.right_length (sym same ∙ v) in omega arith;
      }

  -- what is behind m
  rest_is : all_below 256 r ≡ true → extra_bytes (kind_of r) (word16 r 6) ++ drop (head_length (kind_of r)) r ≡ drop 6 r
  unfolding extra_bytes head_length
  rest_is e = go (stores_outside (kind_of r)) refl
    where
      go : (b : Bool) → stores_outside (kind_of r) ≡ b → cond b (le16 (word16 r 6)) [] ++ drop (cond b 8 6) r ≡ drop 6 r
      go true t =
          let d = length-drop 6 r in
          rw (← word16_drop 6 r, ← drop-drop 2 6 r) (field (drop 6 r) (let z = head_room t in omega arith) (below_drop 256 6 r e))
      go false t = refl

  pub passes_headed : all_below 256 r ≡ true
      → headed (kind_of r) (edges_of r) (extra_bytes (kind_of r) (word16 r 6) ++ drop (head_length (kind_of r)) r) ≡ r
  unfolding headed
  passes_headed e = rw (rest_is e, long, ← facts.length_field) (head_fields r facts.whole_head e)
