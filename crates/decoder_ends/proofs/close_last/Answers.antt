use Rattle.std.proofs.Common.{arith}
use Rattle.decoder_ends.specs.States.{stage}
use Rattle.decoder_ends.proofs.Areas.{begun_none}
use Rattle.decoder_ends.proofs.Letters.{empty, early}
use Rattle.decoder_ends.proofs.Moves.{begun_is, open_top, closing}
use Rattle.decoder_ends.proofs.close_last.Goals as goal

pub returns-then-s-eq0 : goal.returns-then-s-eq0
returns-then-s-eq0 c = λ e f bs ls k.
    let a = c.args in empty bs ls _ (stage e a.s) k (begun_none a.m a.w.now a.s.depth a.s.opens c.if-s-eq0.true)

pub returns-then-v-s : goal.returns-then-v-s
returns-then-v-s c = λ e f bs ls k. early bs ls _ (stage e c.args.s) k _ _ (begun_is _ _ _ f (omega arith)) (omega arith)

pub overflow_add-dart : goal.overflow_add-dart
overflow_add-dart c =
    let f = c.requires.fits in let x = open_top _ _ _ f (omega arith) in let e = f.edges_in in let m = f.few_edges in omega arith

pub returns : goal.returns
returns c = λ e f bs ls k. (omega arith, closing _ _ _ f (omega arith) (omega arith) _ (omega arith) bs ls k)
