use Rattle.std.proofs.Common.{arith}
use Rattle.laying.proofs.Laying.{letters_asked, letters_packed, bytes_asked, bytes_packed}
use Rattle.laying.proofs.put_values.Goals as goal

pub put_payload-requires : goal.put_payload-requires
put_payload-requires c = letters_asked _ _ _ _ _ c.requires (omega arith)

pub put_payload-requires-else-family-eq4 : goal.put_payload-requires-else-family-eq4
put_payload-requires-else-family-eq4 c = bytes_asked _ _ _ _ _ c.requires (λ four. omega arith)

pub returns-then-family-eq4 : goal.returns-then-family-eq4
returns-then-family-eq4 c = letters_packed _ _ _ _ _ c.requires (omega arith) _ c.put_payload.ensures

pub returns-else-family-eq4 : goal.returns-else-family-eq4
returns-else-family-eq4 c = bytes_packed _ _ _ _ _ c.requires (λ four. omega arith) _ c.put_payload-else-family-eq4.ensures
