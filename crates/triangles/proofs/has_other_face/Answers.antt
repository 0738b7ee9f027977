use Rattle.std.proofs.Common.{ℕ, Bool, not, length, refl, ◌∙◌, arith, rules, tests}
use Rattle.std.proofs.lemmas.Iterator.{YieldsList-from_range}
use Rattle.std.proofs.lemmas.Iterator.Search.{any_from_yields_List}
use Rattle.model.specs.Map.{is_triangle, has_other_face}
use Rattle.model.proofs.Booleans.{some_list}
use Rattle.triangles.proofs.has_other_face.Goals as goal

pub returns : goal.returns
unfolding has_other_face
returns c =
    let n = length c.args.rotation.order.now in
    let test : ℕ → Bool = λ d. not (is_triangle c.args.rotation.order.now d) in
    any_from_yields_List test _ _ _ c.any.ensures.ran (YieldsList-from_range 0 n n refl (omega arith)) (λ x b q k. search (rules, tests))
    ∙ some_list test n
