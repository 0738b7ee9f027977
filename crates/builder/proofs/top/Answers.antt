use Rattle.std.proofs.Common.{ℕ, ◌≡◌, ◌+◌, ◌-◌, get_or, sym, ap, ◌∙◌, arith}
use Rattle.words.specs.Word.{head}
use Rattle.work.proofs.Stacks.{stack_pop}
use Rattle.builder.proofs.top.Goals as goal

pub returns : goal.returns
returns c =
    let a = c.args in
    let e : a.at + a.count - 1 ≡ a.at + (a.count - 1) = omega arith in
    ap (λ (k : ℕ). get_or a.w.now k 0) e ∙ sym (ap head (stack_pop a.at a.count a.w.now c.requires.0))
