use Rattle.std.proofs.Common.{refl, arith}
use Rattle.decoder_ends.specs.States.{stage}
use Rattle.decoder_ends.proofs.Areas.{below_none}
use Rattle.decoder_ends.proofs.Letters.{at_root}
use Rattle.decoder_ends.proofs.Moves.{tree_top, rising}
use Rattle.decoder_turns.proofs.Steps.{turned_to, slid_same}
use Rattle.decoder_turns.proofs.rise.Goals as goal

pub returns-then-s-eq0 : goal.returns-then-s-eq0
returns-then-s-eq0 c =
    let a = c.args in (
      λ bs ls k p z. at_root bs ls _ (stage a.c.labels a.s) k z (below_none a.m a.w.now a.s.depth a.s.opens c.if-s-eq0.true),
      λ bs. tt,
    )

pub overflow_sub-x : goal.overflow_sub-x
overflow_sub-x c = let t = tree_top _ _ _ c.requires (omega arith) in omega arith

pub returns : goal.returns
returns c =
    let t = tree_top _ _ _ c.requires (omega arith) in (
      λ bs ls k p z.
          turned_to 2 _ bs ls _ _ _ k _ _ c.args.c _ _ _ _ _ refl p refl refl (omega arith)
          (rising _ _ _ c.requires (omega arith) _ _ (omega arith) (omega arith) _ (omega arith) bs ls k z),
      λ bs. slid_same bs c.args.c,
    )
