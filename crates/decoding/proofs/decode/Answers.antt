use native.Mathlib.Omega.{arith}
use Rattle.decoding.proofs.Payloads.{letters_asked, letters_answered, labels_asked, labels_answered}
use Rattle.decoding.proofs.decode.Goals as goal

pub decode-requires-clause-le_m : goal.decode-requires-clause-le_m
decode-requires-clause-le_m c = letters_asked _ _ _ c.requires.sized.0 c.requires.sized.1 (omega arith)

pub returns-then-family-eq4 : goal.returns-then-family-eq4
returns-then-family-eq4 c = letters_answered c.args.inverse _ _ c.args.payload.now _ _ (omega arith) c.decode.ensures

pub decode-requires-2 : goal.decode-requires-2
decode-requires-2 c =
    (labels_asked _ _ _ c.requires.sized.0 c.requires.sized.1 (λ four. omega arith), c.requires.sized.0, c.requires.m_in_bounds)

pub returns : goal.returns
returns c = labels_answered c.args.inverse _ _ c.args.payload.now _ _ (λ four. omega arith) c.decode-2.ensures
