-- The codes of the letters, dart by dart.
--
--   code_at            the code of the dart at position i is that of its letter
use Prim.Native.Nat.{ℕ, zero, suc, ◌<◌}
use native.Mathlib.Nat.{not-suc-le-zero, le_of_suc-le-suc}
use native.Mathlib.Omega.{arith}
use mathlib.Core.Path.{◌≡◌, refl, sym, ap, ◌∙◌}
use mathlib.Core.Logic.{◌≢◌}
use mathlib.Core.List.{List, [], ◌∷◌}
use lib.ListN.{length, get_or, set, replicate, length-set, length-replicate}
use lib.Seq.{get_or-set_same, get_or-set_other}
use Rattle.model.specs.Map.{Plan, darts}
use Rattle.model.specs.Traversal.{code, Visit, visits}
use Rattle.model.specs.LabelledTree.{codes_of, codes}
use Rattle.words.specs.Toured.{Toured, dart_at, letter_of}
use Rattle.words.proofs.Positions.{no_visit, visit_dart, visit_letter, dart_inj}

abbrev visit_at : List Visit → ℕ → Visit
visit_at vs i = get_or vs i no_visit

-- what is not visited stays
codes_other : (vs : List Visit) (met : List ℕ) (d : ℕ) → ((k : ℕ) → k < length vs → (visit_at vs k).dart ≢ d)
    → get_or (codes_of vs met) d 0 ≡ get_or met d 0
unfolding codes_of
codes_other [] met d h = refl
codes_other (v ∷ vs) met d h =
    codes_other vs (set met v.dart (code v.letter)) d (λ k l. h (suc k) (omega arith))
    ∙ get_or-set_other met v.dart d (code v.letter) 0 (λ e. h 0 (omega arith) (sym e))

abbrev Different : List Visit → Type 0
Different vs = (a b : ℕ) → a < length vs → b < length vs → (visit_at vs a).dart ≡ (visit_at vs b).dart → a ≡ b

codes_visited : (vs : List Visit) (met : List ℕ) (k : ℕ) → k < length vs → (visit_at vs k).dart < length met → Different vs
    → get_or (codes_of vs met) (visit_at vs k).dart 0 ≡ code (visit_at vs k).letter
unfolding codes_of
codes_visited [] met k h l inj = absurd (not-suc-le-zero h)
codes_visited (v ∷ vs) met zero h l inj =
    codes_other vs (set met v.dart (code v.letter)) v.dart
    (λ k b e. let z = inj (suc k) 0 (omega arith) (omega arith) e in omega arith)
    ∙ get_or-set_same met v.dart (code v.letter) 0 l
codes_visited (v ∷ vs) met (suc k) h l inj =
    codes_visited vs (set met v.dart (code v.letter)) k (le_of_suc-le-suc h) (rw length-set l)
    (λ a b ha hb e. let z = inj (suc a) (suc b) (omega arith) (omega arith) e in omega arith)

different : (p : Plan) → Toured p → Different (visits p)
different p toured a b ha hb e =
    let all = toured.all_met in
    dart_inj p toured a b (omega arith) (omega arith) (sym (visit_dart p a) ∙ e ∙ visit_dart p b)

pub code_at : (p : Plan) (toured : Toured p) (i : ℕ) → i < darts p → get_or (codes p) (dart_at p i) 0 ≡ code (letter_of p i)
unfolding codes
code_at p toured i h =
    let all = toured.all_met in
    let none : List ℕ = replicate (darts p) 0 in
    let inside : (visit_at (visits p) i).dart < length none = rw (visit_dart p i, length-replicate) (toured.dart_bound i h) in
    ap (λ (d : ℕ). get_or (codes_of (visits p) none) d 0) (sym (visit_dart p i))
    ∙ codes_visited (visits p) none i (omega arith) inside (different p toured)
    ∙ ap code (visit_letter p i)
