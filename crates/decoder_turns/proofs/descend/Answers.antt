use Rattle.std.proofs.Common.{ap}
use Rattle.bit_cursor.specs.declared.Next.{Next}
use Rattle.decoder_turns.proofs.Descents.{no_second, no_more, label_fits, to_leaf, to_back, to_tree}
use Rattle.decoder_turns.proofs.Steps.{slid_label, slid_both}
use Rattle.decoder_turns.proofs.descend.Goals as goal

pub returns-then-m-c : goal.returns-then-m-c
returns-then-m-c c =
    let l = c.requires.labelled in let z = c.requires.sees in
    (λ k q o. no_second _ _ _ _ _ _ l.0 l.1 z.0 z.1 k q o c.if-m-c.true, tt)

pub returns-then-m-e : goal.returns-then-m-e
returns-then-m-e c =
    let l = c.requires.labelled in let z = c.requires.sees in
    (λ k q o. no_more _ _ _ _ _ _ l.0 l.1 z.0 z.1 k q o c.if-m-c.false c.if-m-e.true, tt)

pub returns-then-label-eq-STAR : goal.returns-then-label-eq-STAR
returns-then-label-eq-STAR c =
    let l = c.requires.labelled in let z = c.requires.sees in
    let x = c.label-label in let y = c.bit-bit in let r = c.leaf-state.ensures in (
      λ k q o.
          to_leaf _ _ _ _ _ _ l.0 l.1 z.0 z.1 k q o c.if-m-c.false c.if-m-e.false x.result x.ensures y.result y.ensures _ _
          c.if-label-eq-STAR.true r.0 r.1,
      slid_both _ _ _ (ap (λ (n : Next). n.cursor) x.ensures) y.result y.ensures,
    )

pub back-state-requires : goal.back-state-requires
back-state-requires c =
    let l = c.requires.labelled in let z = c.requires.sees in let x = c.label-label in
    (l.1, c.if-m-e.false, label_fits _ _ _ _ _ _ l.0 l.1 z.0 z.1 c.if-m-e.false x.result x.ensures)

pub returns-then-bit-eq0 : goal.returns-then-bit-eq0
returns-then-bit-eq0 c =
    let l = c.requires.labelled in let z = c.requires.sees in
    let x = c.label-label in let y = c.bit-bit-2 in let r = c.back-state.ensures in (
      λ k q o.
          to_back _ _ _ _ _ _ l.0 l.1 z.0 z.1 k q o c.if-m-c.false c.if-m-e.false x.result x.ensures y.result y.ensures _ _
          c.if-label-eq-STAR.false c.if-bit-eq0.true r.0 r.1,
      slid_both _ _ _ (ap (λ (n : Next). n.cursor) x.ensures) y.result y.ensures,
    )

pub enter-state-requires : goal.enter-state-requires
enter-state-requires c =
    let l = c.requires.labelled in let z = c.requires.sees in let x = c.label-label in
    (l.1, c.if-m-e.false, label_fits _ _ _ _ _ _ l.0 l.1 z.0 z.1 c.if-m-e.false x.result x.ensures)

pub returns : goal.returns
returns c =
    let l = c.requires.labelled in let z = c.requires.sees in
    let x = c.label-label in let y = c.bit-bit-2 in let r = c.enter-state.ensures in (
      λ k q o.
          to_tree _ _ _ _ _ _ l.0 l.1 z.0 z.1 k q o c.if-m-c.false c.if-m-e.false x.result x.ensures y.result y.ensures _ _
          c.if-label-eq-STAR.false c.if-bit-eq0.false r.0 r.1,
      slid_label _ _ _ (ap (λ (n : Next). n.cursor) x.ensures),
    )
