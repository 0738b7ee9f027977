-- The lines of a table: a plan with what writing says of it, or bytes with the refusal that reading answers; and what it is for the definitions to yield them.
--
--   Says                 the record; the record and the standard rotation; a refusal; refusal 10 with the characteristic
--   Writes               a kind, a plan and what writing says of it
--   Line                 a line on writing, or a line on reading: bytes and the number of the refusal
--   same_integer x y      equal signed numbers
--   lent                 an output
--   writes a o r, refuses a o n   the answer a and the output o after it: the record r is written; refusal n is answered, and the output is as it was
--   agrees a o p s       they say s of the plan p
--   holds t l            the definitions yield the line l on writing under the table t, in a work area and an output that are large enough for five edges
--   all_hold t ls         every such line
--   held t l             the same past the test of the table, so that it is not run for each line; all_held, every line
--   held_holds, all_held_lem   where loading gives the table, such lines hold
--   Refuses r n w out    reading r with a work area of length w and the output out may answer n and leave the output, and nothing else
--   Holds l              the definitions yield the line l under the standard table; a line on reading for every work area and output with room
--   AllHold ls           every line
use Prim.Native.Nat.{ℕ, ◌*◌, ◌≤◌}
use mathlib.Core.Path.{◌≡◌, refl, sym, ap, ap₂, subst}
use mathlib.Core.Bool.{Bool, true, false, ◌&&◌, cond}
use mathlib.Core.List.{List, [], ◌∷◌, ◌++◌}
use lib.Dec.{T, eqb}
use lib.IntN.{ℤ, pos, negsuc}
use lib.ListN.{length, replicate}
use Rattle.model.specs.declared.Table.{Table}
use Rattle.model.specs.declared.ReadBack.{ReadBack}
use Rattle.std.specs.Prelude.{Result, Err}
use Rattle.std.specs.Result.{result_unwrap_or}
use Rattle.model.specs.declared.Refusal.{Refusal}
use Rattle.model.specs.Numbers.{first_refusal}
use Rattle.model.specs.Map.{Plan, family}
use Rattle.model.specs.Traversal.{standard_plan}
use Rattle.model.specs.Groups.{standard_table}
use Rattle.model.specs.Record.{record_of}
use Rattle.model.specs.Shelf.{edges_of, same}
use Rattle.model.specs.Calls.{front, table_refused, early_refusals, late_refusals, last_refusals, write_refusal, answer_of, write_answer, written_output, Reads}
use Rattle.model.specs.Refusals.{numbered, number_of, characteristic_of}
use Rattle.model.proofs.Refusals.{table_stands}

pub data Says : Type 0 where
  record_is : List ℕ → Says
  standard_is : List ℕ → List ℕ → Says
  refused : ℕ → Says
  not_planar : ℤ → Says

pub record Writes : Type 0 where
  pub kind : ℕ
  pub root : ℕ
  pub outside : ℕ
  pub rotation : List ℕ
  pub says : Says

pub data Line : Type 0 where
  on_writing : Writes → Line
  on_reading : List ℕ → ℕ → Line

-- ---- writing

-- an output of twelve bytes that are no record's, with room for five edges
abbrev pub lent : List ℕ
lent = replicate 12 7

abbrev pub same_integer : ℤ → ℤ → Bool
same_integer (pos x) (pos y) = eqb x y
same_integer (pos x) (negsuc y) = false
same_integer (negsuc x) (pos y) = false
same_integer (negsuc x) (negsuc y) = eqb x y

-- the record r is written, and the rest of the output is as it was
unfoldable pub writes : Result ℕ Refusal → List ℕ → List ℕ → Bool
writes a o r = eqb (number_of a) 0 && (eqb (result_unwrap_or a 0) (length r) && same o (front r lent))

-- refusal n, and the output is as it was
unfoldable pub refuses : Result ℕ Refusal → List ℕ → ℕ → Bool
refuses a o n = eqb (number_of a) n && same o lent

unfoldable pub agrees : Result ℕ Refusal → List ℕ → Plan → Says → Bool
agrees a o p (record_is r) = writes a o r
agrees a o p (standard_is r s) = writes a o r && same (standard_plan p).rotation s
agrees a o p (refused n) = refuses a o n
agrees a o p (not_planar x) = refuses a o 10 && same_integer (characteristic_of a) x

abbrev plan_of : Writes → Plan
plan_of l = record { rotation = l.rotation; root = l.root; outside = l.outside }

unfoldable pub holds : Table → Writes → Bool
holds t l = agrees (write_answer t l.kind (plan_of l) 192 (length lent)) (written_output t l.kind (plan_of l) 192 lent) (plan_of l) l.says

unfoldable pub all_hold : Table → List Writes → Bool
all_hold t [] = true
all_hold t (l ∷ ls) = holds t l && all_hold t ls

-- r is the first refusal
unfoldable pub held_by : ℕ → Table → Writes → Bool
held_by r t l = agrees (answer_of r t l.kind (plan_of l)) (cond (eqb r 0) (front (record_of t l.kind (plan_of l)) lent) lent) (plan_of l) l.says

unfoldable pub held : Table → Writes → Bool
held t l =
    held_by (first_refusal (early_refusals l.kind (plan_of l) 192 12 ++ (late_refusals (family l.kind) (plan_of l) ++ last_refusals t l.kind (plan_of l) 12))) t l

unfoldable pub all_held : Table → List Writes → Bool
all_held t [] = true
all_held t (l ∷ ls) = held t l && all_held t ls

module _ (t : Table) (stands : table_refused t ≡ false) where
  held_is : (l : Writes) → held t l ≡ holds t l
  unfolding held held_by holds write_refusal write_answer written_output
  held_is l = ap (λ (r : ℕ). held_by r t l) (sym (table_stands t _ stands))

  pub held_holds : (l : Writes) → T (held t l) → T (holds t l)
  held_holds l h = subst T (held_is l) h

  all_held_is : (ls : List Writes) → all_held t ls ≡ all_hold t ls
  unfolding all_held all_hold
  all_held_is [] = refl
  all_held_is (l ∷ ls) = ap₂ (λ (a b : Bool). a && b) (held_is l) (all_held_is ls)

  pub all_held_lem : (ls : List Writes) → T (all_held t ls) → T (all_hold t ls)
  all_held_lem ls h = subst T (all_held_is ls) h

-- ---- reading

pub record Refuses (r : List ℕ) (n w : ℕ) (out : List ℕ) : Type 0 where
  pub refused_so : Reads standard_table r w out (Err (numbered n (pos 0))) out
  pub only_so : (answer : Result ReadBack Refusal) (out' : List ℕ) → Reads standard_table r w out answer out' → (answer ≡ Err (numbered n (pos 0))) × (out' ≡ out)

-- ---- both

abbrev pub Holds : Line → Type 0
Holds (on_writing l) = T (holds standard_table l)
Holds (on_reading r n) = (w : ℕ) (out : List ℕ) → 32 * edges_of r ≤ w → 2 * edges_of r ≤ length out → Refuses r n w out

abbrev pub AllHold : List Line → Type 0
AllHold [] = Unit
AllHold (l ∷ ls) = Holds l × AllHold ls
