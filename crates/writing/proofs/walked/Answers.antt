use Prim.Native.Nat.{ℕ}
use native.Mathlib.Omega.{arith}
use mathlib.Core.Path.{sym, subst, ◌∙◌}
use mathlib.Core.Bool.{false≢true}
use Rattle.dart_steps.specs.Plans.{rooted_plan}
use Rattle.tracing.specs.Tracing.{Traced}
use Rattle.writing.proofs.walked.Goals as goal

pub returns-then-kind-eq3 : goal.returns-then-kind-eq3
returns-then-kind-eq3 c =
    let three = c.if-kind-eq3.true in
    let v = c.walk.ensures in
    record {
      kept = v.kept;
      fits = λ e n. absurd (n three);
      unfit = λ e n. absurd (n three);
      mesh = λ e q. record { mesh = sym v.mesh ∙ e; node_types = v.typed e; room = omega (arith, c.requires.0, v.kept) };
      no_mesh = λ e q f. false≢true (sym e ∙ v.mesh ∙ f);
    }

pub returns-else-kind-eq3 : goal.returns-else-kind-eq3
returns-else-kind-eq3 c =
    let other = c.if-kind-eq3.false in
    let v = subst (λ (f : ℕ). Traced f (rooted_plan c.args.plan) c.args.w.now c.walk-else-kind-eq3.result c.walk-else-kind-eq3.new.w) c.family.ensures c.walk-else-kind-eq3.ensures in
    record { kept = v.kept; fits = λ e n. v.fits e; unfit = λ e n. v.unfit e; mesh = λ e q. absurd (other q); no_mesh = λ e q. absurd (other q) }
