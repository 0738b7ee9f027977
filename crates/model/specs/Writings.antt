-- Two lists of writings (document 01), and what demand 3 says of them.
--
--   Writing               one writing call as it happened: what it was handed, what it answered and left
--   MeetsContract t c     the call, handed the table t too, did what writing promises
--   refusal_of t c         the first refusal of the list whose condition holds of what the call was handed; 0 if none does
--   is_accepted c          the call was not refused
--   bytes_written c        the bytes that the call adds: its record, or none if it was refused
--   laid_out cs            the records of a list laid end to end
--   accepted cs           the calls not refused
--   Alike c d             two calls match: one kind, and a renumbering between their plans that the kind asks for
--   PlaceByPlace cs ds    the lists match place by place
--   AllMeetContract t cs  every call of the list, handed the table t, did what writing promises
--   Demand3 t             demand 3, whole: any two lists of writing calls under one table, and the records that they give
use Rattle.std.specs.Prelude.{ℕ, ◌≡◌, Bool, true, cond, List, [], ◌∷◌, ◌++◌, eqb, length, take, Result}
use Rattle.std.specs.Result.{result_unwrap_or}
use Rattle.model.specs.declared.Table.{Table}
use Rattle.model.specs.declared.Refusal.{Refusal}
use Rattle.model.specs.Map.{Plan, fit}
use Rattle.model.specs.Record.{record_of}
use Rattle.model.specs.Renumbering.{Renumbering, Carries}
use Rattle.model.specs.Refusals.{number_of}
use Rattle.model.specs.Calls.{Wrote, write_refusal}

-- "each call is handed a plan, a kind, a work area and an output, with any content", by document 02 (h) a table too, one for all
pub record Writing : Type 0 where
  pub kind : ℕ
  pub plan : Plan
  pub work : List ℕ
  pub output : List ℕ
  pub answer : Result ℕ Refusal
  pub work_after : List ℕ
  pub output_after : List ℕ

abbrev pub MeetsContract : Table → Writing → Type 0
MeetsContract t c = Wrote t c.kind c.plan c.work c.output c.answer c.work_after c.output_after

abbrev pub refusal_of : Table → Writing → ℕ
refusal_of t c = write_refusal t c.kind c.plan (length c.work) (length c.output)

unfoldable pub is_accepted : Writing → Bool
is_accepted c = eqb (number_of c.answer) 0

-- "Its record, if the call isn't refused, is the first bytes of its output at its return, as many as the returned length."
unfoldable pub bytes_written : Writing → List ℕ
bytes_written c = cond (is_accepted c) (take (result_unwrap_or c.answer 0) c.output_after) []

-- "a refused call adds no byte, and an empty list has none"
unfoldable pub laid_out : List Writing → List ℕ
laid_out [] = []
laid_out (c ∷ cs) = bytes_written c ++ laid_out cs

unfoldable pub accepted : List Writing → List Writing
accepted [] = []
accepted (c ∷ cs) = cond (is_accepted c) (c ∷ accepted cs) (accepted cs)

pub record Alike (c d : Writing) : Type 0 where
  pub one_kind : c.kind ≡ d.kind
  pub partners : List ℕ
  pub carried : Carries c.kind c.plan d.plan partners

-- "the first call not refused of one list beside the first of the other, and so on"
abbrev pub PlaceByPlace : List Writing → List Writing → Type 0
PlaceByPlace [] [] = Unit
PlaceByPlace [] (d ∷ ds) = ⊥
PlaceByPlace (c ∷ cs) [] = ⊥
PlaceByPlace (c ∷ cs) (d ∷ ds) = Alike c d × PlaceByPlace cs ds

abbrev pub AllMeetContract : Table → List Writing → Type 0
AllMeetContract t [] = Unit
AllMeetContract t (c ∷ cs) = MeetsContract t c × AllMeetContract t cs

-- "For any two lists of writing calls:" Document 02 (h): "Two lists, and the records of two plans, are compared under one table". Whatever it is: where loading
-- never gives it, every call is refused.
pub record Demand3 (t : Table) : Type 0 where
  -- "a call is refused exactly when the list of refusals says so"
  pub refused_exactly : (c : Writing) → MeetsContract t c → number_of c.answer ≡ refusal_of t c
  -- "every other call gives its plan's record"
  pub gives_record : (c : Writing) → MeetsContract t c → refusal_of t c ≡ 0
      → (bytes_written c ≡ record_of t c.kind c.plan) × (result_unwrap_or c.answer 0 ≡ length (record_of t c.kind c.plan))
  -- "the records laid end to end are the same bytes exactly when the calls not refused are equally many and match, place by place, in kind and by a
  -- renumbering of darts that carries start, opposites and turning order", by document 02 (e) outside area to outside area too, where it is stored
  pub equally_many : (cs ds : List Writing) → AllMeetContract t cs → AllMeetContract t ds → laid_out cs ≡ laid_out ds
      → length (accepted cs) ≡ length (accepted ds)
  pub same_bytes_alike : (cs ds : List Writing) → AllMeetContract t cs → AllMeetContract t ds → laid_out cs ≡ laid_out ds
      → PlaceByPlace (accepted cs) (accepted ds)
  pub alike_same_bytes : (cs ds : List Writing) → AllMeetContract t cs → AllMeetContract t ds → PlaceByPlace (accepted cs) (accepted ds)
      → laid_out cs ≡ laid_out ds
  -- "Between two fit plans there is at most one renumbering; where there is one and both are fit for a kind, the records in it are equal."
  pub one_renumbering : (k l : ℕ) (p q : Plan) (f g : List ℕ) → fit k p ≡ true → fit l q ≡ true → Renumbering p q f → Renumbering p q g → f ≡ g
  pub equal_records : (k : ℕ) (p q : Plan) (f : List ℕ) → fit k p ≡ true → fit k q ≡ true → Carries k p q f → record_of t k p ≡ record_of t k q
