use mathlib.Core.Path.{sym, ◌∙◌}
use Prim.Native.Nat.{◌≤◌}
use lib.ListN.{length}
use Rattle.model.proofs.Fitness.{count_parts}
use borrow.Author.Rules.{rules}
use Rattle.measure_checks.proofs.early.Goals as goal

pub is_permutation-requires : goal.is_permutation-requires
is_permutation-requires c = (count_parts _ (sym c.dart_count_fits.ensures ∙ c.if-not-dart_count_fits.false)).2

pub overflow_mul-n : goal.overflow_mul-n
overflow_mul-n c = let n : length c.args.order.now ≤ 8192 = (count_parts _ (sym c.dart_count_fits.ensures ∙ c.if-not-dart_count_fits.false)).2 in search rules
