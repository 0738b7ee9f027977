-- The record of a mesh, from the codes of its types.
--
--   ready                the codes are bits and digits
--   small                there are few of them
--   record_is, record_long   the record under a table with these bytes, and its length
--   no_room, recorded    the two ways of writing
use Prim.Native.Nat.{ℕ, ◌+◌, ◌/◌, ◌≤◌, ◌<◌}
use native.Mathlib.Omega.{arith}
use mathlib.Core.Path.{◌≡◌, sym, ap, ◌∙◌}
use mathlib.Core.Bool.{true, false}
use mathlib.Core.List.{List}
use lib.Dec.{ltb}
use lib.ListN.{length}
use borrow.Author.Tests.{lt-ltb, le-ltb}
use Rattle.std.specs.Prelude.{Ok, Err}
use Rattle.model.specs.declared.Table.{Table}
use Rattle.model.specs.declared.Refusal.TheVariants.{ShortOutput}
use Rattle.model.specs.Numbers.{elem}
use Rattle.model.specs.Map.{Plan, darts, edges, stores_outside, family}
use Rattle.model.specs.Mesh.{types}
use Rattle.model.specs.Groups.{byte_for}
use Rattle.model.specs.Record.{headed, mesh_payload, payload_of, outside_bytes, record_of}
use Rattle.model.specs.Calls.{front}
use Rattle.model.proofs.Fitness.{fit_parts, count_parts}
use Rattle.packing.proofs.Types.{type_bits_below, type_digits_below}
use Rattle.packing.proofs.Headed.{headed_length}
use Rattle.mesh_encoder.specs.declared.Sizes.{Sizes}
use Rattle.mesh_encoder.specs.Encoded.{CodesOf}
use Rattle.mesh_writing.specs.Laid.{Ready, payload_size, tabled_payload}
use Rattle.mesh_writing.specs.Recorded.{Typed, MeshRecorded}
use Rattle.mesh_writing.proofs.Coding.{types_proper}
use Rattle.mesh_writing.proofs.Laying.{payload_long}

module _ (p : Plan) (w : List ℕ) (s : Sizes) (w₁ : List ℕ) (t : Typed p w) (c : CodesOf (darts p) (types p) w s w₁) where
  few : darts p ≤ 8192
  few = (count_parts (darts p) (fit_parts 3 p t.mesh).count).2

  pub ready : Ready (darts p) s w₁
  ready = record {
    few = few;
    room = omega (arith, t.room, c.kept);
    bits_fit = c.bits_fit;
    digits_fit = c.digits_fit;
    bits_low = rw c.bits (type_bits_below (types p));
    digits_low = rw c.digits (type_digits_below (types p) (types_proper p t.mesh));
  }

  pub small : (s.bits ≤ 8192) × (s.digits ≤ 8192)
  small = let h = few in (omega (arith, c.bits_fit), omega (arith, c.digits_fit))

  module _ (bs : List ℕ) where
    record_is : (t : Table) → t.bytes ≡ bs → record_of t 3 p ≡ headed 3 (darts p / 2) (tabled_payload bs (darts p) s w₁)
    unfolding record_of outside_bytes payload_of family stores_outside elem edges mesh_payload byte_for tabled_payload
    record_is t same = rw (c.bits, c.digits, c.bit_count, c.digit_count, ← same)

    record_long : (t : Table) → t.bytes ≡ bs → length (record_of t 3 p) ≡ 6 + payload_size s
    record_long t same =
        ap length (record_is t same) ∙ headed_length 3 (darts p / 2) (tabled_payload bs (darts p) s w₁)
        ∙ ap (λ (j : ℕ). 6 + j) (payload_long (darts p) s w₁ ready bs)

    module _ (out : List ℕ) (total : ℕ) (e : total ≡ 6 + payload_size s) where
      pub no_room : length out < total → MeshRecorded bs p w out (Err ShortOutput) w₁ out
      no_room h =
          let short : (t : Table) → t.bytes ≡ bs → ltb (length out) (length (record_of t 3 p)) ≡ true =
          λ t same. let l = record_long t same in lt-ltb (length out) (length (record_of t 3 p)) (omega arith) in
          record { answered = λ t same. rw (short t same); filled = λ t same. rw (short t same); kept = c.kept }

      pub recorded : total ≤ length out → (out₁ : List ℕ) → out₁ ≡ front (headed 3 (darts p / 2) (tabled_payload bs (darts p) s w₁)) out
          → MeshRecorded bs p w out (Ok total) w₁ out₁
      recorded h out₁ q =
          let long : (t : Table) → t.bytes ≡ bs → ltb (length out) (length (record_of t 3 p)) ≡ false =
          λ t same. let l = record_long t same in le-ltb (length out) (length (record_of t 3 p)) (omega arith) in
          record {
            answered = λ t same. rw (long t same) (ap Ok (e ∙ sym (record_long t same)));
            filled = λ t same. rw (long t same) (q ∙ ap (λ (xs : List ℕ). front xs out) (sym (record_is t same)));
            kept = c.kept;
          }
