-- The numbers of an answer are those that the exported call promises.
--
--   write_out             of writing
--   read_out              of reading
--   measure_out           of measuring
--   shelve_out            of shelving
use mathlib.Core.Path.{◌≡◌, ap, ◌∙◌}
use mathlib.Core.List.{List}
use Prim.Native.Nat.{ℕ}
use lib.IntN.{ℤ}
use Rattle.model.specs.declared.Table.{Table}
use Rattle.std.specs.Prelude.{Result}
use Rattle.std.specs.Result.{result_unwrap_or}
use Rattle.model.specs.declared.Refusal.{Refusal}
use Rattle.model.specs.declared.ReadBack.{ReadBack}
use Rattle.model.specs.declared.Shelved.{Shelved}
use Rattle.model.specs.Refusals.{number_of, characteristic_of}
use Rattle.model.specs.Map.{Plan}
use Rattle.model.specs.Calls.{Wrote}
use Rattle.model.specs.Calls.{ReadCall, edges_of_read, outside_of_read}
use Rattle.model.specs.Calls.{Measures}
use Rattle.model.specs.Calls.{Stored, record_number_of_shelved, used_of_shelved}
use Rattle.model.specs.Exports.{WriteExport, ReadExport, MeasureExport, ShelveExport}

pub write_out : (t : Table) (k : ℕ) (p : Plan) (work out : List ℕ) (a : Result ℕ Refusal) (r l : ℕ) (x : ℤ) (work' out' : List ℕ) → Wrote t k p work out a work' out'
    → (r ≡ number_of a) × (l ≡ result_unwrap_or a 0) × (x ≡ characteristic_of a)
    → WriteExport t k p work out r l x work' out'
write_out t k p work out a r l x work' out' w numbers =
    record {
      number_is = numbers.0 ∙ ap number_of w.answered;
      length_is = numbers.1 ∙ ap (λ b. result_unwrap_or b 0) w.answered;
      characteristic_is = numbers.2 ∙ ap characteristic_of w.answered;
      filled = w.filled;
      cleared = w.cleared;
    }

pub read_out : (t : Table) (bytes work out : List ℕ) (a : Result ReadBack Refusal) (r m x : ℕ) (work' out' : List ℕ) → ReadCall t bytes work out a work' out'
    → (r ≡ number_of a) × (m ≡ edges_of_read a) × (x ≡ outside_of_read a)
    → ReadExport t bytes work out r m x work' out'
read_out t bytes work out a r m x work' out' c numbers =
    record {
      answer = a;
      outcome = c.outcome;
      number_is = numbers.0;
      edges_are = numbers.1;
      outside_is = numbers.2;
      cleared = c.cleared;
    }

pub measure_out : (rot work list : List ℕ) (a : Result ℕ Refusal) (r n : ℕ) (x : ℤ) (work' list' : List ℕ) → Measures rot work list a work' list'
    → (r ≡ number_of a) × (n ≡ result_unwrap_or a 0) × (x ≡ characteristic_of a)
    → MeasureExport rot work list r n x work' list'
measure_out rot work list a r n x work' list' m numbers =
    record {
      number_is = numbers.0 ∙ ap number_of m.answered;
      count_is = numbers.1 ∙ ap (λ b. result_unwrap_or b 0) m.answered;
      characteristic_is = numbers.2 ∙ ap characteristic_of m.answered;
      filled = m.filled;
      cleared = m.cleared;
    }

pub shelve_out : (t : Table) (bytes work shelf : List ℕ) (used : ℕ) (a : Result Shelved Refusal) (r n used' : ℕ) (work' shelf' : List ℕ) → Stored t bytes work shelf used a work' shelf'
    → (r ≡ number_of a) × (n ≡ record_number_of_shelved a) × (used' ≡ used_of_shelved used a)
    → ShelveExport t bytes work shelf used r n used' work' shelf'
shelve_out t bytes work shelf used a r n used' work' shelf' s numbers =
    record {
      answer = a;
      outcome = s.outcome;
      refusal_is = numbers.0;
      number_is = numbers.1;
      used_is = numbers.2;
      cleared = s.cleared;
    }
