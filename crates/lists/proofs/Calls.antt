-- What a call that did what writing promises says if it was not refused. Assumes nothing.
--
--   refused_exactly       the number of the answer is that of the first refusal; 0 if none holds
--   accepted_where        a call is accepted where none holds
--   accepted_stands, accepted_fit   the table is one that loading gives, and the plan of an accepted call is fit
--   answer_length         the answer of an accepted call is the length of its plan's record
--   accepted_bytes        the bytes of an accepted call are the record of its plan
--   refused_bytes         a refused call adds no byte
use mathlib.Core.Path.{◌≡◌, sym, ap, ◌∙◌}
use mathlib.Core.Bool.{true, false}
use mathlib.Core.List.{[]}
use lib.ListN.{length, drop}
use lib.Seq.{take-append_seam}
use borrow.Author.Tests.{eqb-true, eq-eqb}
use Rattle.model.specs.declared.Table.{Table}
use Rattle.model.specs.Map.{fit}
use Rattle.model.specs.Record.{record_of}
use Rattle.model.specs.Calls.{front, table_refused, answer_of, write_answer, written_output}
use Rattle.std.specs.Result.{result_unwrap_or}
use Rattle.model.specs.Refusals.{number_of}
use Rattle.model.specs.Writings.{Writing, MeetsContract, refusal_of, is_accepted, bytes_written}
use Rattle.model.proofs.Refusals.{not_refused}
use Rattle.model.proofs.Answers.{number_of_written}

module _ (t : Table) where
  pub refused_exactly : (c : Writing) → MeetsContract t c → number_of c.answer ≡ refusal_of t c
  refused_exactly c h = ap number_of h.answered ∙ number_of_written t c.kind c.plan (length c.work) (length c.output)

  accepted_refusal : (c : Writing) → MeetsContract t c → is_accepted c ≡ true → refusal_of t c ≡ 0
  unfolding is_accepted
  accepted_refusal c h a = sym (refused_exactly c h) ∙ eqb-true (number_of c.answer) 0 a

  pub accepted_where : (c : Writing) → MeetsContract t c → refusal_of t c ≡ 0 → is_accepted c ≡ true
  unfolding is_accepted
  accepted_where c h e = eq-eqb (number_of c.answer) 0 (refused_exactly c h ∙ e)

  pub accepted_stands : (c : Writing) → MeetsContract t c → is_accepted c ≡ true → table_refused t ≡ false
  accepted_stands c h a = (not_refused t c.kind c.plan (length c.work) (length c.output) (accepted_refusal c h a)).0

  pub accepted_fit : (c : Writing) → MeetsContract t c → is_accepted c ≡ true → fit c.kind c.plan ≡ true
  accepted_fit c h a = (not_refused t c.kind c.plan (length c.work) (length c.output) (accepted_refusal c h a)).1

  pub answer_length : (c : Writing) → MeetsContract t c → is_accepted c ≡ true → result_unwrap_or c.answer 0 ≡ length (record_of t c.kind c.plan)
  unfolding write_answer answer_of
  answer_length c h a = ap (λ a. result_unwrap_or a 0) h.answered ∙ simp (eq-eqb _ 0 (accepted_refusal c h a))

  output_is : (c : Writing) → MeetsContract t c → is_accepted c ≡ true → c.output_after ≡ front (record_of t c.kind c.plan) c.output
  unfolding written_output
  output_is c h a = h.filled ∙ simp (eq-eqb _ 0 (accepted_refusal c h a))

  pub accepted_bytes : (c : Writing) → MeetsContract t c → is_accepted c ≡ true → bytes_written c ≡ record_of t c.kind c.plan
  unfolding bytes_written front
  accepted_bytes c h a =
      let r = record_of t c.kind c.plan in
      rw (a, answer_length c h a, output_is c h a) (take-append_seam r (drop (length r) c.output))

pub refused_bytes : (c : Writing) → is_accepted c ≡ false → bytes_written c ≡ []
unfolding bytes_written
refused_bytes c a = rw a
