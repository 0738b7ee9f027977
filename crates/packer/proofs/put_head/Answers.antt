use Rattle.std.proofs.Common.{sym, ◌∙◌, arith}
use Rattle.model.proofs.Heads.{head_length_range}
use Rattle.packer.proofs.Heads.{head_stores, head_plain, head_stores_length}
use Rattle.packer.proofs.put_head.Goals as goal

pub put_fields-requires : goal.put_fields-requires
put_fields-requires c = let h = head_length_range c.args.kind in omega arith

pub put16-requires : goal.put16-requires
put16-requires c = let e = head_stores_length _ (sym c.stores_outside.ensures ∙ c.if-stores_outside.true) in let l = c.put_fields.auto.out in (omega arith, omega arith)

pub returns-then-stores_outside : goal.returns-then-stores_outside
returns-then-stores_outside c =
    let e = sym c.stores_outside.ensures ∙ c.if-stores_outside.true in
    head_stores _ _ _ _ _ _ c.put_fields.ensures e (let z = head_stores_length _ e in omega arith) _ c.put16.ensures

pub returns : goal.returns
returns c = head_plain _ _ _ _ _ _ c.put_fields.ensures (sym c.stores_outside.ensures ∙ c.if-stores_outside.false)
