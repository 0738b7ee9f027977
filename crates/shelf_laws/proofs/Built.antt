-- What a history of shelving calls leaves behind, refused calls among them.
--
--   Grown cs s u          the shelf that the calls cs leave is fine, and its records are those of before, then those that were stored, each of a fit plan
--   grown                 so it is if the shelf was fine
--   built_holds           "A shelf built from nothing by shelving then holds only records of fit plans", each under the table of the call that stored it
--   built_fetched         what is fetched from it as record k was stored by call k of those that stored, and is a fit plan's
use mathlib.Core.Path.{◌≡◌, refl, sym, ap, ◌∙◌}
use mathlib.Core.Bool.{false}
use mathlib.Core.List.{List, [], ◌∷◌, ◌++◌, map, append_assoc, append-nil}
use Prim.Native.Nat.{ℕ, zero, suc, ◌<◌}
use native.Mathlib.Nat.{not-suc-le-zero, le_of_suc-le-suc}
use native.Mathlib.Omega.{arith}
use lib.ListN.{length, get_or, drop}
use borrow.Author.Tests.{le-ltb, eq-eqb, ne_eqb}
use Rattle.model.specs.Map.{Plan}
use Rattle.model.specs.Shelf.{all_pass, end_to_end, shelf_refused}
use Rattle.model.specs.Calls.{HasRecord, fetch_refusal, fetched}
use Rattle.model.specs.Histories.{Shelving, used_by, History, shelf_left, used_left, storing, AllFit, HoldsPlans}
use Rattle.records.proofs.Cut.{end_nil}
use Rattle.shelf.proofs.Refusals.{fetch_none}
use Rattle.shelf_laws.proofs.Shelved.{records, fetched_record, Step, same_shelf, one_stored, step}

abbrev bytes_of : List Shelving → List (List ℕ)
bytes_of cs = map (λ (c : Shelving). c.bytes) cs

abbrev pub Grown : List Shelving → List ℕ → ℕ → Type 0
Grown cs s u =
    (shelf_refused (shelf_left s cs) (used_left u cs) ≡ false)
    × (records (shelf_left s cs) (used_left u cs) ≡ records s u ++ bytes_of (storing u cs))
    × AllFit (storing u cs)

-- one call, then the others
first : (c : Shelving) (cs : List Shelving) (s : List ℕ) (u : ℕ) → shelf_refused s u ≡ false
    → Step c.table c.bytes s u (used_by u c) c.shelf_after → (shelf_refused c.shelf_after (used_by u c) ≡ false → Grown cs c.shelf_after (used_by u c))
    → Grown (c ∷ cs) s u
unfolding shelf_left used_left storing
first c cs s u fine (same_shelf e f) others =
    let (after, were, fit) = others (rw (e, f) fine) in
    rw (eq-eqb (used_by u c) u e) (after, were ∙ rw (e, f), fit)
first c cs s u fine (one_stored d p has fine' e) others =
    let (after, were, fit) = others fine' in
    let later = bytes_of (storing (used_by u c) cs) in
    rw (ne_eqb (used_by u c) u d)
    (after, were ∙ (ap (λ (rs : List (List ℕ)). rs ++ later) e ∙ append_assoc (records s u) (c.bytes ∷ []) later), ((p, has), fit))

pub grown : (cs : List Shelving) (s : List ℕ) (u : ℕ) → shelf_refused s u ≡ false → History s u cs → Grown cs s u
unfolding shelf_left used_left storing
grown [] s u fine h = (fine, sym (append-nil (records s u)), tt)
grown (c ∷ cs) s u fine (call, rest) =
    first c cs s u fine (step c.table c.bytes c.work s u c.answer c.work_after c.shelf_after call)
    (λ fine'. grown cs c.shelf_after (used_by u c) fine' rest)

-- ---- from nothing

nothing_fine : (s : List ℕ) → shelf_refused s 0 ≡ false
unfolding shelf_refused end_to_end all_pass
nothing_fine s = rw (le-ltb (length s) 0 (omega arith), end_nil)

pub built_holds : (s : List ℕ) (cs : List Shelving) → History s 0 cs → HoldsPlans s cs
built_holds s cs h =
    let (after, were, fit) = grown cs s 0 (nothing_fine s) h in
    record { sound = after; records_are = were ∙ ap (λ (rs : List (List ℕ)). rs ++ bytes_of (storing 0 cs)) end_nil; fit_plans = fit }

-- ---- what is fetched

-- the call at place k of those that stored: its record, and that it is a fit plan's
pub data Fetched-from (k : ℕ) (cs : List Shelving) (r : List ℕ) : Type 0 where
  stored_by : (c : Shelving) (rest : List Shelving) → drop k cs ≡ c ∷ rest → r ≡ c.bytes → (p : Plan) → HasRecord c.table r p → Fetched-from k cs r

at_place : (cs : List Shelving) (k : ℕ) → AllFit cs → k < length (bytes_of cs) → Fetched-from k cs (get_or (bytes_of cs) k [])
at_place [] k fit h = absurd (not-suc-le-zero h)
at_place (c ∷ cs) zero ((p, has), fit) h = stored_by c cs refl refl p has
at_place (c ∷ cs) (suc k) (has, fit) h = go (at_place cs k fit (le_of_suc-le-suc h))
  where
    go : Fetched-from k cs (get_or (bytes_of cs) k []) → Fetched-from (suc k) (c ∷ cs) (get_or (bytes_of cs) k [])
    go (stored_by d rest e f p h) = stored_by d rest e f p h

pub built_fetched : (s : List ℕ) (cs : List Shelving) → History s 0 cs → (k : ℕ) → fetch_refusal (shelf_left s cs) (used_left 0 cs) k ≡ 0
    → Fetched-from k (storing 0 cs) (fetched (shelf_left s cs) (used_left 0 cs) k)
built_fetched s cs h k z =
    let b = built_holds s cs h in
    let (fine, there) = fetch_none (shelf_left s cs) (used_left 0 cs) k z in
    rw (fetched_record (shelf_left s cs) (used_left 0 cs) k fine there, b.records_are)
    (at_place (storing 0 cs) k b.fit_plans (rw b.records_are at there))
