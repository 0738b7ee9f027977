use Prim.Native.Nat.{ℕ}
use mathlib.Core.Path.{ap, ◌∙◌}
use mathlib.Core.List.{List}
use borrow.Author.Tests.{le-ltb}
use Rattle.model.specs.Calls.{front}
use Rattle.work.specs.Area.{region}
use Rattle.measure_checks.proofs.Copying.{copied_part}
use Rattle.measure_checks.proofs.copied.Goals as goal

pub returns : goal.returns
unfolding region
returns c =
    let long = le-ltb _ _ c.if-list-faces.false in
    record {
      answered = rw long;
      filled = rw long (c.copy_front.ensures ∙ ap (λ (r : List ℕ). front r c.args.list.now) (copied_part _ _ _ c.requires));
    }
