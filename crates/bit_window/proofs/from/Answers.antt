use Rattle.bit_window.proofs.Window.{holds_from}
use Rattle.bit_window.proofs.from.Goals as goal

pub returns : goal.returns
returns c = let e = c.eight_bytes-word in holds_from _ e.result _ e.type_inv e.ensures
