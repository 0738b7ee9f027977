use Rattle.std.proofs.Common.{◌≡◌, ◌+◌, length, sym, ◌∙◌, arith}
use Rattle.std.proofs.lemmas.Bool.{false≢true}
use borrow.Author.Tests.{eq-eqb, ne_eqb}
use Rattle.model.specs.Record.{bytes_for}
use Rattle.packing.specs.Types.{clean}
use Rattle.mesh_unpacker.specs.Reading.{values_from}
use Rattle.mesh_unpacker.proofs.Whole.{clean_parts, clean_parts_lem}
use Rattle.mesh_unpacker.proofs.clean.Goals as goal
use Rattle.mesh_unpacker.proofs.clean.Goals.{Start, then-payload-from, else-payload-from, then-zero_bits, else-zero_bits}

in_parts : (c : Start) → let a = c.args in
    clean (values_from (bytes_for a.c 8) a.inverse.now a.payload.now) a.c a.l ≡ clean_parts a.inverse.now a.payload.now a.c a.l
in_parts c = let a = c.args in clean_parts_lem a.inverse.now a.payload.now a.c a.l c.requires.1

pub returns-then-groups_fit : goal.returns-then-groups_fit
returns-then-groups_fit c =
    let a = c.args in
    rw (in_parts (goal.at.returns-then-groups_fit c).Start)
    (elim c.if-zero_bits.branch [
      | then-zero_bits u ↦ (elim c.if-payload-from.branch [
        | then-payload-from t ↦
            let q = eq-eqb (length a.payload.now) (bytes_for a.c 8 + bytes_for a.l 5) (omega arith) in
            let p = sym t.zero_bits.ensures ∙ (sym t.value-is ∙ u.if-zero_bits.true) in
            let g = sym u.groups_fit.ensures ∙ (sym u.value-is ∙ c.if-groups_fit.true) in
            rw (q, p, g) c.zero_labels.ensures
        | else-payload-from e ↦ absurd (false≢true (sym (ne_eqb (length a.payload.now) (bytes_for a.c 8 + bytes_for a.l 5) (λ z. omega arith)) ∙ (sym e.value-is ∙ u.if-zero_bits.true)))
      ])
      | else-zero_bits v ↦ absurd (false≢true (sym v.if-zero_bits.false ∙ (sym v.value-is ∙ c.if-groups_fit.true)))
    ])

pub returns-else-groups_fit : goal.returns-else-groups_fit
returns-else-groups_fit c =
    let a = c.args in
    rw (in_parts (goal.at.returns-else-groups_fit c).Start)
    (elim c.if-payload-from.branch [
      | then-payload-from t ↦
          let q = eq-eqb (length a.payload.now) (bytes_for a.c 8 + bytes_for a.l 5) (omega arith) in
          (elim c.if-zero_bits.branch [
            | then-zero_bits u ↦
                let p = sym t.zero_bits.ensures ∙ (sym t.value-is ∙ u.if-zero_bits.true) in
                let g = sym u.groups_fit.ensures ∙ (sym u.value-is ∙ c.if-groups_fit.false) in
                rw (q, p, g) c.if-groups_fit.false
            | else-zero_bits v ↦ let p = sym t.zero_bits.ensures ∙ (sym t.value-is ∙ v.if-zero_bits.false) in rw (q, p) c.if-groups_fit.false
          ])
      | else-payload-from e ↦ let q = ne_eqb (length a.payload.now) (bytes_for a.c 8 + bytes_for a.l 5) (λ z. omega arith) in rw q c.if-groups_fit.false
    ])
