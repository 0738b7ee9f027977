use Rattle.std.proofs.Common.{◌≡◌, refl, sym, ◌∙◌, arith}
use Rattle.std.proofs.lemmas.Bool.{false≢true}
use Rattle.packing.specs.Payload.{has_labels, payload_clean}
use Rattle.packing.specs.Groups.{undone, values_of}
use Rattle.unpacker.proofs.Payload.{two}
use Rattle.unpacker.proofs.Padding.{clean_parts, clean_two}
use Rattle.unpacker.proofs.groups_clean.Goals as goal
use Rattle.unpacker.proofs.groups_clean.Goals.{Start, then-zero_bits, else-zero_bits}

in_parts : (c : Start) → let a = c.args in
    payload_clean 2 a.m (undone a.inverse.now 2 a.m a.payload.now) ≡ clean_parts a.m a.payload.now (values_of a.inverse.now a.payload.now)
unfolding has_labels
in_parts c = clean_two _ _ _ _ refl c.requires (λ e. absurd (omega (arith, e)))

pub zero_bits-requires : goal.zero_bits-requires
zero_bits-requires c = let z = two _ _ c.requires in omega arith

pub zero_labels-requires : goal.zero_labels-requires
zero_labels-requires c = let z = two _ _ c.requires in (omega arith, omega arith, omega arith)

pub returns-then-groups_fit : goal.returns-then-groups_fit
returns-then-groups_fit c =
    rw (in_parts (goal.at.returns-then-groups_fit c).Start)
    (elim c.if-zero_bits.branch [
      | then-zero_bits u ↦ let p = sym c.zero_bits.ensures ∙ u.if-zero_bits.true in let q = sym u.groups_fit.ensures ∙ (sym u.value-is ∙ c.if-groups_fit.true) in
          rw (p, q) c.zero_labels.ensures
      | else-zero_bits v ↦ absurd (false≢true (sym v.if-zero_bits.false ∙ (sym v.value-is ∙ c.if-groups_fit.true)))
    ])

pub returns-else-groups_fit : goal.returns-else-groups_fit
returns-else-groups_fit c =
    rw (in_parts (goal.at.returns-else-groups_fit c).Start)
    (elim c.if-zero_bits.branch [
      | then-zero_bits u ↦ let p = sym c.zero_bits.ensures ∙ u.if-zero_bits.true in let q = sym u.groups_fit.ensures ∙ (sym u.value-is ∙ c.if-groups_fit.false) in rw (p, q) c.if-groups_fit.false
      | else-zero_bits v ↦ let p = sym c.zero_bits.ensures ∙ v.if-zero_bits.false in rw p c.if-groups_fit.false
    ])
