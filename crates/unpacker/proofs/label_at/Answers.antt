use Rattle.std.proofs.Common.{List, get_or, sym, ap, ◌∙◌, arith}
use Rattle.work.proofs.Regions.{getD-region}
use Rattle.unpacker.proofs.Payload.{one, of_kind, label_one_lem, labels_in_one, labels_in_two}
use Rattle.unpacker.proofs.label_at.Goals as goal

pub bit_at-l-requires : goal.bit_at-l-requires
bit_at-l-requires c = let p = c.requires in let z = one _ _ (of_kind _ _ _ _ c.if-family-eq1.true p.1) in let h = p.3 in omega arith

pub returns-then-family-eq1 : goal.returns-then-family-eq1
returns-then-family-eq1 c =
    let a = c.args in
    c.bit_at-l.ensures ∙ label_one_lem _ _ a.e c.requires.3 ∙ ap (λ (ls : List _). get_or ls a.e 0) (sym (labels_in_one _ _ _ a.w.now c.if-family-eq1.true))

pub returns : goal.returns
returns c =
    let a = c.args in
    sym (getD-region _ _ _ _ c.requires.3) ∙ ap (λ (ls : List _). get_or ls a.e 0) (sym (labels_in_two _ _ a.payload.now _ c.if-family-eq1.false))
