-- The refusals of documents 01 and 02 by their numbers, and what an answer says in numbers.
--
--   number_of_refusal e   its number
--   numbered n x          the refusal with the number n; 10 with the characteristic x
--   number_of a          the number of the answer a: its refusal's, 0 if it is not refused
--   characteristic_of a  the characteristic that refusal 10 gives; 0 elsewhere
use Rattle.std.specs.Prelude.{ℕ, ◌-◌, ◌∷◌, [], get_or, ℤ, pos, Result, Ok, Err}
use Rattle.model.specs.declared.Refusal.{Refusal}
use Rattle.model.specs.declared.Refusal.TheVariants.{RecordCut, BadKind, BadCount, BadStart, BadLength, BadEntry, ShortWork, ShortOutput, NotConnected, NotPlanar, HasLoop, HasDegreeOne, NoFitPlan, ShelfBroken, NoSuchRecord, ShelfFull, BadOutside, NotTriangles, BadTable}

-- "If an answer is an enum, a definition sets out this paper's number and values for each of the enum's cases."
abbrev pub number_of_refusal : Refusal → ℕ
number_of_refusal RecordCut = 1
number_of_refusal BadKind = 2
number_of_refusal BadCount = 3
number_of_refusal BadStart = 4
number_of_refusal BadLength = 5
number_of_refusal BadEntry = 6
number_of_refusal ShortWork = 7
number_of_refusal ShortOutput = 8
number_of_refusal NotConnected = 9
number_of_refusal (NotPlanar x) = 10
number_of_refusal HasLoop = 11
number_of_refusal HasDegreeOne = 12
number_of_refusal NoFitPlan = 13
number_of_refusal ShelfBroken = 14
number_of_refusal NoSuchRecord = 15
number_of_refusal ShelfFull = 16
number_of_refusal BadOutside = 17
number_of_refusal NotTriangles = 18
number_of_refusal BadTable = 19

unfoldable pub numbered : ℕ → ℤ → Refusal
numbered n x = get_or
    (RecordCut ∷ BadKind ∷ BadCount ∷ BadStart ∷ BadLength ∷ BadEntry ∷ ShortWork ∷ ShortOutput ∷ NotConnected ∷ NotPlanar x ∷ HasLoop ∷ HasDegreeOne
    ∷ NoFitPlan ∷ ShelfBroken ∷ NoSuchRecord ∷ ShelfFull ∷ BadOutside ∷ NotTriangles ∷ BadTable ∷ [])
    (n - 1) BadTable

-- The number 0 is no refusal.
abbrev pub number_of : {A : Type 0} → Result A Refusal → ℕ
number_of (Ok a) = 0
number_of (Err e) = number_of_refusal e

abbrev pub characteristic_of : {A : Type 0} → Result A Refusal → ℤ
characteristic_of (Err (NotPlanar x)) = x
characteristic_of a = pos 0
