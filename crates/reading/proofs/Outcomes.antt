-- Each way out of reading, at plain values: n is the length of the work area.
--
--   mesh_under           tables with one inverse read a mesh alike
--   mesh_read, mesh_unreadable   the ways out of reading a record of kind 3 whose head passes
--   out_record, out_output, out_mesh, out_read, out_not_read   the ways out of reading
use Prim.Native.Nat.{ℕ, ◌*◌, ◌<◌, ◌≤◌}
use native.Mathlib.Omega.{arith}
use mathlib.Core.Path.{◌≡◌, refl, sym, ap, ap₂, subst, ◌∙◌}
use mathlib.Core.Bool.{Bool, true, false}
use mathlib.Core.List.{List}
use lib.IntN.{pos}
use lib.ListN.{length}
use Rattle.std.specs.Prelude.{Result, Ok, Err}
use Rattle.model.specs.declared.Table.{Table}
use Rattle.model.specs.declared.Refusal.{Refusal}
use Rattle.model.specs.declared.Refusal.TheVariants.{ShortOutput, NoFitPlan}
use Rattle.model.specs.declared.ReadBack.{ReadBack}
use Rattle.model.specs.Numbers.{all_below}
use Rattle.model.specs.Traversal.{standard_plan}
use Rattle.model.specs.Shelf.{kind_of, head_refusals}
use Rattle.model.specs.Refusals.{number_of_refusal}
use Rattle.model.specs.Calls.{front, record_refusals, record_refusal, read_refusal, Reads, refused, read, unreadable}
use Rattle.model.proofs.Numbered.{refused_so, refusal_some}
use Rattle.model.proofs.Reading.{read_record, read_output, clear_read}
use Rattle.model.proofs.Refusals.{first_lacks}
use Rattle.heads.specs.declared.Head.{Head}
use Rattle.words.specs.Word.{rooted}
use Rattle.coding.specs.Payloads.{decode_mesh_record, mesh_rotation}
use Rattle.coding.proofs.MeshRecords.{mesh_none_has, mesh_decodes_has, mesh_decodes_standard, mesh_decodes_outside}
use Rattle.mesh_reading.specs.Read.{MeshRead}
use Rattle.work.specs.Area.{region}
use Rattle.decoding.specs.Planned.{Checked, Planned, planned, no_plan}
use Rattle.decoding.proofs.Outcomes.{checked_none, read_so}
use Rattle.reading.specs.Planned.{MeshPlanned, mesh_planned, no_mesh}

-- ---- a mesh

pub mesh_under : (t : Table) (inv r : List ℕ) (b : Bool) (out out' : List ℕ) → t.inverse ≡ inv → MeshRead (decode_mesh_record inv r) b out out'
    → MeshRead (decode_mesh_record t.inverse r) b out out'
mesh_under t inv r b out out' same = subst (λ (i : List ℕ). MeshRead (decode_mesh_record i r) b out out') (sym same)

module _ (t : Table) (h : Head) (r : List ℕ) (n : ℕ) (k : Checked t h r n) (three : kind_of r ≡ 3) (b : Bool) (out out' : List ℕ)
    (decoded : MeshRead (decode_mesh_record t.inverse r) b out out') where
  pub mesh_unreadable : b ≡ false → MeshPlanned t r out (Err NoFitPlan) out'
  mesh_unreadable e = no_mesh (mesh_none_has t k.stands r three (decoded.none_found e).0) refl (decoded.none_found e).1

  pub mesh_read : all_below 256 r ≡ true → b ≡ true → MeshPlanned t r out (read_so h.edges 0) out'
  mesh_read bytes e =
      let (v, is_IsWord, filled) = decoded.word_found e in
      mesh_planned (rooted (mesh_rotation v)) (mesh_decodes_has t k.stands r three v k.passed bytes is_IsWord)
      (ap₂ read_so k.edges (sym (mesh_decodes_outside t k.stands r three v k.passed bytes is_IsWord)))
      (filled ∙ ap (λ (rot : List ℕ). front rot out) (sym (mesh_decodes_standard t k.stands r three v k.passed bytes is_IsWord)))

-- ---- with an output

module _ (t : Table) (r : List ℕ) (n : ℕ) (out : List ℕ) (e : Refusal) (a : Result ReadBack Refusal) (is : a ≡ Err e) where
  out_first : number_of_refusal e ≡ read_refusal t r n (length out) → Reads t r n out a out
  unfolding read_refusal record_refusals head_refusals
  out_first q = refused (λ z. refusal_some e (q ∙ z)) (refused_so (pos 0) a e _ is q (first_lacks 10 _ refl refl)) refl

  pub out_record : number_of_refusal e ≡ record_refusal t r n → Reads t r n out a out
  out_record q = out_first (q ∙ read_record t r n (length out) (λ z. refusal_some e (q ∙ z)))

module _ (t : Table) (h : Head) (r : List ℕ) (n : ℕ) (k : Checked t h r n) (out : List ℕ) where
  pub out_output : length out < 2 * h.edges → Reads t r n out (Err ShortOutput) out
  out_output short =
      let m-is = k.edges in out_first t r n out ShortOutput _ refl (read_output t r n (length out) (checked_none t h r n k) (omega arith))

  module _ (room : 2 * h.edges ≤ length out) where
    clear : read_refusal t r n (length out) ≡ 0
    clear = let m-is = k.edges in clear_read t r n (length out) (checked_none t h r n k) (omega arith)

    pub out_mesh : (a : Result ReadBack Refusal) (out' : List ℕ) → MeshPlanned t r out a out' → Reads t r n out a out'
    unfolding standard_plan
    out_mesh a out' (mesh_planned p has e o) = read clear p has e o
    out_mesh a out' (no_mesh never e o) = unreadable clear never e o

    -- w is the work area that the core leaves, and v its answer
    module _ (w : List ℕ) (v : Result ReadBack Refusal) where
      pub out_read : (back : ReadBack) (out' : List ℕ) → v ≡ Ok back → Planned t r v w → out' ≡ front (region 0 (2 * h.edges) w) out → Reads t r n out (Ok back) out'
      unfolding standard_plan
      out_read back out' was (planned p has e s) o =
          read clear p has (sym was ∙ e) (o ∙ ap (λ (j : ℕ). front (region 0 (2 * j) w) out) k.edges ∙ ap (λ (f : List ℕ). front f out) s)
      out_read back out' was (no_plan never e) o = cc (sym was ∙ e)

      pub out_not_read : (e : Refusal) (a : Result ReadBack Refusal) → v ≡ Err e → Planned t r v w → a ≡ Err e → Reads t r n out a out
      out_not_read e a was (planned p has q s) is = cc (sym was ∙ q)
      out_not_read e a was (no_plan never q) is = unreadable clear never (is ∙ sym was ∙ q) refl
