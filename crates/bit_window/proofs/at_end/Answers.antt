use Rattle.bit_window.proofs.Window.{holds_bytes}
use Rattle.bit_window.proofs.at_end.Goals as goal

pub returns : goal.returns
returns c =
    holds_bytes _ _ _ _ _ _ _ _ _ _
    (c.byte_at.ensures, c.byte_at.type_inv) (c.byte_at-2.ensures, c.byte_at-2.type_inv)
    (c.byte_at-3.ensures, c.byte_at-3.type_inv) (c.byte_at-4.ensures, c.byte_at-4.type_inv)
    (c.byte_at-5.ensures, c.byte_at-5.type_inv) (c.byte_at-6.ensures, c.byte_at-6.type_inv)
    (c.byte_at-7.ensures, c.byte_at-7.type_inv) (c.byte_at-8.ensures, c.byte_at-8.type_inv)
    _ c.from_be_bytes.ensures
