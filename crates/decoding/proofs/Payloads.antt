-- The payload of a record whose head passes, as the slice past its head, and what decoding it says of the record.
--
--   all_bytes            a record's entries are bytes
--   letters_asked, letters_answered   family 4: what reading its letters asks, and that it gives the answer
--   labels_asked, labels_answered   another: the same of reading its tree bits and labels
--   mesh_asked, mesh_decoded   kind 3: what reading the payload asks, and that its word is the record's
--   head_in              the head is within the record
--   payload_asked        another kind: what decoding the payload asks
--   record_decoded       the answer for the payload is the answer for the record
use Prim.Native.Nat.{ℕ, ◌-◌, ◌*◌, ◌≤◌, ◌<◌}
use native.Mathlib.Omega.{arith}
use mathlib.Core.Path.{◌≡◌, refl, sym, ap, ◌∙◌}
use mathlib.Core.Logic.{◌≢◌}
use mathlib.Core.Bool.{Bool, true, false}
use mathlib.Core.List.{List}
use lib.ListN.{length, get_or, take, drop, length-drop}
use lib.Seq.{take_all}
use borrow.Author.Tests.{ne_eqb}
use mir.Syntax.{w8}
use mir.Val.{Fits}
use Rattle.model.specs.declared.Table.{Table}
use Rattle.model.specs.Numbers.{all_below}
use Rattle.model.specs.Map.{stores_outside, family}
use Rattle.model.specs.Record.{bytes_for, head_length}
use Rattle.model.specs.Shelf.{word16, kind_of, edges_of}
use Rattle.model.proofs.Permutations.{below_all, all_below_lem}
use Rattle.model.proofs.Heads.{family_four, family_not_three, passes_facts}
use Rattle.heads.specs.declared.Head.{Head}
use Rattle.record_lengths.proofs.Head.{head_plain}
use Rattle.named_outside.proofs.Faces.{outer_head}
use Rattle.packing.specs.Payload.{has_labels, Sized}
use Rattle.packing.specs.Groups.{undone}
use Rattle.packing.proofs.Groups.{undone_other}
use Rattle.packing.proofs.Labelled.{labelled_other}
use Rattle.packing.proofs.Headed.{passes_sized}
use Rattle.coding.specs.Payloads.{decode_labelled, decode_letters, decode_payload, decode_record, decode_mesh, decode_mesh_record}
use Rattle.builder.specs.Decoded.{Answered}
use Rattle.decoding.specs.Planned.{Checked}

pub all_bytes : (r : List ℕ) → ((i : ℕ) → Fits w8 (get_or r i 0)) → all_below 256 r ≡ true
all_bytes r h = all_below_lem 256 r (λ i l. omega (arith, h i))

module _ (f m : ℕ) (ps : List ℕ) (s : Sized f m ps) (other : f ≢ 3) where
  pub letters_asked : f ≡ 4 → (1 ≤ m) × (m ≤ 4096) × (length ps ≡ bytes_for m 2)
  letters_asked e = let l = s.long (ne_eqb f 3 other) in let q = family_four f m e in (s.some_edge, s.few_edges, omega arith)

  pub labels_asked : f ≢ 4 → has_labels f ≡ true
  labels_asked = labelled_other f s.is_family other

module _ (inv : List ℕ) (f m : ℕ) (ps : List ℕ) (b : Bool) (w : List ℕ) where
  abbrev vs : List ℕ
  vs = undone inv f m ps

  pub letters_answered : f ≡ 4 → Answered (decode_letters m ps) (2 * m) b w → Answered (decode_payload f m vs) (2 * m) b w
  unfolding decode_payload
  letters_answered e a = rw (undone_other inv ps f m (λ two. omega arith) (λ three. omega arith), e) a

  pub labels_answered : f ≢ 4 → Answered (decode_labelled f m vs) (2 * m) b w → Answered (decode_payload f m vs) (2 * m) b w
  unfolding decode_payload
  labels_answered d a = rw (ne_eqb f 4 d) a

-- ---- a mesh

module _ (t : Table) (h : Head) (r : List ℕ) (n : ℕ) (k : Checked t h r n) where
  mesh_part : take (length r - 6) (drop 6 r) ≡ drop 6 r
  mesh_part = take_all (length r - 6) (drop 6 r) (let e = length-drop 6 r in omega arith)

  pub mesh_asked : all_below 256 r ≡ true → (1 ≤ h.edges) × (h.edges ≤ 4096) × (length (take (length r - 6) (drop 6 r)) < 65536) × (32 * h.edges ≤ n)
  unfolding word16
  mesh_asked bytes =
      let f = passes_facts r k.passed in
      let some = f.some_edge in
      let few = f.few_edges in
      let field = f.length_field in
      let head = f.whole_head in
      let a = below_all 256 r bytes 0 (omega arith) in
      let b = below_all 256 r bytes 1 (omega arith) in
      let l = ap length mesh_part ∙ length-drop 6 r in
      (omega arith, omega arith, omega arith, omega arith)

  pub mesh_decoded : (inv : List ℕ) → decode_mesh h.edges (undone inv 3 h.edges (take (length r - 6) (drop 6 r))) ≡ decode_mesh_record inv r
  unfolding decode_mesh_record
  mesh_decoded inv = rw (mesh_part, k.edges)

-- ---- another kind

module _ (t : Table) (h : Head) (r : List ℕ) (n : ℕ) (k : Checked t h r n) (at : ℕ) (at-is : at ≡ head_length h.kind) where
  at-of : at ≡ head_length (kind_of r)
  at-of = at-is ∙ ap head_length k.kind

  pub head_in : at ≤ length r
  head_in = go (stores_outside (kind_of r)) refl
    where
      go : (b : Bool) → stores_outside (kind_of r) ≡ b → at ≤ length r
      go true s = let o = outer_head r k.passed s in let e = at-of in omega arith
      go false s = let p = head_plain (kind_of r) s in let l = (passes_facts r k.passed).whole_head in let e = at-of in omega arith

  module _ (f : ℕ) (f-is : f ≡ family h.kind) where
    abbrev part : List ℕ
    part = take (length r - at) (drop at r)

    part_is : part ≡ drop (head_length (kind_of r)) r
    part_is = take_all (length r - at) (drop at r) (let e = length-drop at r in omega arith) ∙ ap (λ (i : ℕ). drop i r) at-of

    f-of : f ≡ family (kind_of r)
    f-of = f-is ∙ ap family k.kind

    pub payload_asked : kind_of r ≢ 3 → Sized f h.edges part × (f ≢ 3)
    payload_asked other =
        (rw (part_is, f-of, k.edges) (passes_sized r k.passed), λ three. family_not_three (kind_of r) (passes_facts r k.passed).kind other (sym f-of ∙ three))

    pub record_decoded : (inv : List ℕ) (b : Bool) (w : List ℕ) → Answered (decode_payload f h.edges (undone inv f h.edges part)) (2 * h.edges) b w
        → Answered (decode_record inv r) (2 * edges_of r) b w
    unfolding decode_record
    record_decoded inv b w a = rw (part_is, f-of, k.edges) at a
