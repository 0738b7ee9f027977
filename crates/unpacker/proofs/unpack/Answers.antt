use Rattle.std.proofs.Common.{◌≡◌, ℕ, sym, ◌∙◌, subst, arith}
use Rattle.packing.proofs.Labelled.{labelled_two}
use Rattle.unpacker.specs.Unpacked.{Unpacks}
use Rattle.unpacker.proofs.Payload.{one, of_kind, labels_of_kind, labels_own, labels_in_one}
use Rattle.unpacker.proofs.Padding.{clean_one}
use Rattle.unpacker.proofs.unpack.Goals as goal
use Rattle.unpacker.proofs.unpack.Goals.{Else-family-eq1}

is_two : (c : Else-family-eq1) → c.args.family ≡ 2
is_two c = labelled_two _ c.requires.0 c.if-family-eq1.false

pub overflow_mul-payload : goal.overflow_mul-payload
overflow_mul-payload c = let z = one _ _ (of_kind _ _ _ _ c.if-family-eq1.true c.requires.1) in omega arith

pub zero_bits-requires : goal.zero_bits-requires
zero_bits-requires c = let z = one _ _ (of_kind _ _ _ _ c.if-family-eq1.true c.requires.1) in omega arith

pub returns-then-family-eq1 : goal.returns-then-family-eq1
returns-then-family-eq1 c =
    let a = c.args in let f = c.if-family-eq1.true in
    record {
      clean = c.zero_bits.ensures ∙ clean_one a.inverse _ _ a.payload.now f;
      labels = λ e. labels_in_one _ _ _ _ f ∙ labels_own a.payload.now a.m a.inverse ∙ labels_of_kind a.payload.now a.m a.inverse _ _ f;
    }

pub unpack_groups-requires : goal.unpack_groups-requires
unpack_groups-requires c = let p = c.requires in (of_kind _ _ _ _ (is_two (goal.at.unpack_groups-requires c).Else-family-eq1) p.1, p.2)

pub returns : goal.returns
returns c =
    let a = c.args in let v = c.unpack_groups in
    subst (λ (f : ℕ). Unpacks f a.m a.inverse a.payload.now v.result v.new.w) (sym (is_two (goal.at.returns c).Else-family-eq1)) v.ensures
