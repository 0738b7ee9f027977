use Rattle.std.proofs.Common.{◌≡◌, ◌++◌, get_or, take, drop}
use mathlib.Core.List.{map}
use Rattle.group_bytes.proofs.apply.Given as goal

abbrev pub invariant-loop-v : goal.invariant-loop-v
invariant-loop-v l = l.v-items ≡ map (λ v. get_or l.bytes v 0) (take l.v-index l.initial.v-items) ++ drop l.v-index l.initial.v-items
