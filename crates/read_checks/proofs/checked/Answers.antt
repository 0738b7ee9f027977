use Prim.Native.Nat.{ℕ}
use mathlib.Core.Path.{◌≡◌, sym, ap, subst, ◌∙◌}
use mathlib.Core.Bool.{false}
use mathlib.Core.List.{List}
use native.Mathlib.Omega.{arith}
use borrow.Author.Tests.{eq-eqb, not-true, not-false}
use Rattle.std.specs.Prelude.{Result, Ok, IfOk}
use Rattle.model.specs.declared.Refusal.{Refusal}
use Rattle.heads.specs.declared.Head.{Head}
use Rattle.model.specs.Refusals.{number_of}
use Rattle.model.specs.Shelf.{kind_of, edges_of, head_refusal, passes}
use Rattle.model.specs.Calls.{table_refused}
use Rattle.model.proofs.Numbered.{refusal_some, passed_on}
use Rattle.model.proofs.Reading.{record_table, record_head, record_room, clear_record}
use Rattle.read_checks.proofs.checked.Goals as goal
use Rattle.read_checks.proofs.checked.Goals.{Else-bad_table}

stands : (c : Else-bad_table) → table_refused c.args.table ≡ false
stands c = not-true _ (sym c.is_loaded-bad_table.ensures ∙ c.if-bad_table.false)

pub returns-then-bad_table-clause-number : goal.returns-then-bad_table-clause-number
returns-then-bad_table-clause-number c = record_table _ _ _ (not-false _ (sym c.is_loaded-bad_table.ensures ∙ c.if-bad_table.true))

-- the head, as it was parsed
parsed : (r : List ℕ) (h : Head) (a : Result Head Refusal) → a ≡ Ok h → number_of a ≡ head_refusal r → IfOk a (λ g. (g.kind ≡ kind_of r) × (g.edges ≡ edges_of r))
    → (head_refusal r ≡ 0) × (h.edges ≡ edges_of r)
parsed r h a was number fields =
    (sym number ∙ ap number_of was, (subst (λ (b : Result Head Refusal). IfOk b (λ g. (g.kind ≡ kind_of r) × (g.edges ≡ edges_of r))) was fields).1)

pub returns-in_err-head-clause-number : goal.returns-in_err-head-clause-number
returns-in_err-head-clause-number c =
    let h = ap number_of (sym c.in_err-head.was) ∙ c.parse.ensures.number in
    ap number_of (passed_on _ _ c.from_residual.ensures)
    ∙ (h ∙ record_head _ _ _ (stands (goal.at.returns-in_err-head-clause-number c).Else-bad_table) (λ z. refusal_some _ (h ∙ z)))

pub returns-then-work-head-clause-number : goal.returns-then-work-head-clause-number
returns-then-work-head-clause-number c =
    let (none, m) = parsed _ _ _ c.in_ok-head.was c.parse.ensures.number c.parse.ensures.fields in
    record_room _ _ _ (stands (goal.at.returns-then-work-head-clause-number c).Else-bad_table) none (omega arith)

pub returns-clause-number : goal.returns-clause-number
unfolding passes
returns-clause-number c =
    let (none, m) = parsed _ _ _ c.in_ok-head.was c.parse.ensures.number c.parse.ensures.fields in
    let t = stands (goal.at.returns-clause-number c).Else-bad_table in
    sym (clear_record _ _ _ (record { stands = t; passed = eq-eqb _ 0 none; room = omega arith }))

pub returns-clause-fields : goal.returns-clause-fields
returns-clause-fields c =
    subst (λ (b : Result Head Refusal). IfOk b (λ g. (g.kind ≡ kind_of c.args.«record».now) × (g.edges ≡ edges_of c.args.«record».now))) c.in_ok-head.was c.parse.ensures.fields
