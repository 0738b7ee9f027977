use Rattle.std.proofs.Common.{List, ℕ, length, ap, ◌∙◌}
use Rattle.model.specs.Record.{le16}
use Rattle.work.specs.Area.{placed}
use Rattle.packer.proofs.Parts.{part_placed}
use Rattle.packer.proofs.put16.Goals as goal

pub returns : goal.returns
unfolding le16
returns c =
    let e = c.copy_from_slice.ensures.after ∙ c.to_le_bytes.ensures in
    part_placed _ 2 _ _ (ap length e) ∙ ap (λ (xs : List ℕ). placed c.args.at xs c.args.out.now) e
