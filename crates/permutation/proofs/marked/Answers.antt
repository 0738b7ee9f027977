use Rattle.std.proofs.Common.{sym, ap, ◌∙◌, arith}
use Rattle.packing.specs.Unpack.{bits}
use Rattle.permutation.proofs.Marking.{run, next, stop_big, stop_seen, end, decides}
use Rattle.permutation.proofs.marked.Goals as goal
use Rattle.permutation.proofs.marked.Goals.{then-x-order-via-then-x-order, then-x-order-via-else-x-order+then-bit_at-ne0}

pub loop-x-init : goal.loop-x-init
loop-x-init c = rw c.requires.1 (decides _ _ c.requires.0)

pub returns-then-x-order : goal.returns-then-x-order
returns-then-x-order c =
    let l = c.loop-x in
    elim c.then-x-order.branch [
      | then-x-order-via-then-x-order w ↦ sym (stop_big _ _ _ l.x-index c.loop-x-test.true (omega arith)) ∙ l.invariant
      | then-x-order-via-else-x-order+then-bit_at-ne0 w ↦
          sym (stop_seen _ _ (bits l.marks) l.x-index (omega arith) (omega arith) (λ z. w.if-bit_at-ne0.true (w.bit_at.ensures ∙ z))) ∙ l.invariant
    ]

pub loop-x-preserved : goal.loop-x-preserved
loop-x-preserved c =
    let l = c.loop-x in
    let fresh = sym c.bit_at.ensures ∙ c.if-bit_at-ne0.false in
    ap (run _ _) c.put_bit.ensures ∙ sym (next _ _ (bits l.marks) l.x-index (omega arith) (omega arith) fresh) ∙ l.invariant

pub returns : goal.returns
returns c = sym (end _ _ _ c.loop-x.x-index (omega arith)) ∙ c.loop-x.invariant
