-- What the walk by marks keeps, step by step, and what it leaves.
--
--   Put family p k t w       what is put of the first k positions: letters for family 4, else tree bits, t of them, and labels; of a plan that is not connected
--                            nothing is said of the latter
--   from rot r               the plan with this rotation and root
--   Tracing family rot k w s   k darts are met
--   Sound family p           what is left to know of a plan that fits the family: 9 to 12 do not concern it
--   Stepped                  one more is met, or the plan is not sound
--   Fitting family p w       the plan is sound, and in the work area are its marks and what its record is made of
--   Traced family p w r w'   the whole walk: r says whether the plan is sound
use Rattle.std.specs.Prelude.{ℕ, suc, ◌+◌, ◌*◌, ◌≤◌, ◌<◌, ◌≡◌, ◌≢◌, Bool, true, false, Option, None, Some, List, map, length, get_or}
use Rattle.model.specs.Map.{Plan, darts, opposite, vertex_of, degree_one, connected, planar, has_loop, has_dead_end}
use Rattle.model.specs.Traversal.{up, first, code, opens, word}
use Rattle.words.specs.Word.{word_bits, word_labels}
use Rattle.words.specs.Position.{opened}
use Rattle.words.specs.Toured.{Toured, dart_at, letter_of}
use Rattle.traversal.specs.Steps.{dart, letter_after}
use Rattle.forward.specs.Bits.{bits_to}
use Rattle.forward.specs.Labels.{Written}
use Rattle.work.specs.Map.{LETTERS, WAITING, BITS}
use Rattle.work.specs.Area.{region, stack}
use Rattle.work.specs.Letters.{work_bits, work_labels}
use Rattle.marks.specs.Marks.{Distinct, mark_of, Trailed}
use Rattle.trace_steps.specs.declared.Trace.{Trace}
use Rattle.trace_steps.specs.Steps.{Ground}

-- ---- what is put

pub record Put (family : ℕ) (p : Plan) (k t : ℕ) (w : List ℕ) : Type 0 where
  pub letters : family ≡ 4 → (j : ℕ) → j < k → get_or w (LETTERS * darts p + j) 0 ≡ code (letter_after p.rotation p.root j)
  pub bits : family ≢ 4 → Toured p → region (BITS * darts p) t w ≡ bits_to p k
  pub labels : family ≢ 4 → Toured p → Written p k (work_labels (darts p) w)

-- ---- the walk

abbrev pub from : List ℕ → ℕ → Plan
from rot r = record { rotation = rot; root = r; outside = 0 }

pub record Tracing (family : ℕ) (rot : List ℕ) (k : ℕ) (w : List ℕ) (s : Trace) : Type 0 where
  pub ground : Ground rot w
  pub root_in : s.root < length rot
  pub here : s.dart ≡ dart rot s.root k
  pub edges : s.edges ≡ opened (letter_after rot s.root) k
  pub trail : Trailed rot s.root k (region 0 (length rot) w) (stack (WAITING * length rot) s.waiting w)
  pub no_loop : family ≢ 4 → (j : ℕ) → j < k → letter_after rot s.root j ≡ first
      → vertex_of rot (dart rot s.root j) ≢ vertex_of rot (opposite (dart rot s.root j))
  pub no_leaf : family ≡ 1 → (j : ℕ) → j < k → letter_after rot s.root j ≡ up → degree_one rot (dart rot s.root j) ≡ false
  pub distinct : Distinct rot (region 0 (length rot) w) (32768 + s.edges)
  pub puts : Put family (from rot s.root) k (k + s.waiting) w

-- ---- what it finds

pub record Sound (family : ℕ) (p : Plan) : Type 0 where
  pub joined : connected p.rotation ≡ true
  pub flat : planar p.rotation ≡ true
  pub no_loop : family ≢ 4 → has_loop p.rotation ≡ false
  pub no_leaf : family ≡ 1 → has_dead_end p ≡ false

unfoldable pub Stepped : ℕ → List ℕ → ℕ → List ℕ → Trace → Option Trace → List ℕ → Type 0
Stepped family rot i w s (Some t) w' = Tracing family rot (suc i) w' t × (t.root ≡ s.root) × (length w' ≡ length w)
Stepped family rot i w s None w' = (w' ≡ w) × (Sound family (from rot s.root) → ⊥)

pub record Fitting (family : ℕ) (p : Plan) (w : List ℕ) : Type 0 where
  pub sound : Sound family p
  pub begun : (j : ℕ) → j < darts p → opens (letter_of p j) ≡ true → get_or w (dart_at p j) 0 ≡ mark_of (letter_of p j) + opened (letter_of p) j
  pub ended : (j : ℕ) → j < darts p → opens (letter_of p j) ≡ false → 32768 ≤ get_or w (dart_at p j) 0
  pub letters : family ≡ 4 → region (LETTERS * darts p) (darts p) w ≡ map code (word p)
  pub bits : family ≢ 4 → work_bits (darts p) w ≡ word_bits false (word p)
  pub labels : family ≢ 4 → work_labels (darts p) w ≡ word_labels (word p)

pub record Traced (family : ℕ) (p : Plan) (w : List ℕ) (r : Bool) (w' : List ℕ) : Type 0 where
  pub kept : length w' ≡ length w
  pub fits : r ≡ true → Fitting family p w'
  pub unfit : r ≡ false → Sound family p → ⊥
