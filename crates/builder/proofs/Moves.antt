-- Letters read one after the other: each is a step of the builder, and what is left of the word goes on well. Assumes nothing.
--
--   able                  a letter may come where a word goes on well with it
--   moved                 a letter that may come moves on
--   moved_none, moved_on, moved_end   no letter is read yet; some more are; all are
--   fits_start, left_start   the start fits; at the start all letters are left
--   whole_moved           dart 0 is entered after the last letter of a nested word: the rotation is the word's
use Prim.Native.Nat.{ℕ, suc, ◌+◌, ◌*◌, ◌≤◌, ◌<◌}
use native.Mathlib.Numerals.{add-one}
use native.Mathlib.Omega.{arith}
use mathlib.Core.Path.{◌≡◌, refl, sym, ap, ◌∙◌, subst}
use mathlib.Core.Bool.{true}
use mathlib.Core.List.{List, [], ◌∷◌, ◌++◌, append-nil, append_assoc}
use lib.ListN.{length, set, replicate}
use borrow.Author.Tests.{le-leb, leb-true}
use Rattle.model.specs.Traversal.{Letter, down, up, first, second}
use Rattle.words.specs.Word.{nested, head, rotation_of}
use Rattle.work.specs.Area.{region}
use Rattle.builder.specs.declared.State.{State}
use Rattle.builder.specs.Steps.{Parts, parts_at, state_after, parts_after, edge_of, begun_after, first_state, outcome_at, Stepped}
use Rattle.builder.specs.Moves.{goes_on, Left, Fits, Able, Moved}
use Rattle.builder.proofs.Parts.{below_long, begun_long}
use Rattle.builder.proofs.Steps.{stepped_stands, stepped_built}
use Rattle.builder.proofs.Whole.{standing_start, whole_built}
use Rattle.builder.proofs.Nested.{nested_up, nested_second, nested_all_closed, nested_first_dart, up_some, second_some}

-- ---- by letter

after_nests : (l : Letter) (m : ℕ) (p : Parts) (s : State) (e x : ℕ) → length p.below ≡ s.depth → length p.begun ≡ s.opens → Able l m p s e
    → (v : List Letter)
    → nested true (state_after l p s x).n (state_after l p s x).here (parts_after l p s x).below (parts_after l p s x).begun v
    ≡ nested true s.n s.here p.below p.begun (l ∷ v)
unfolding nested
after_nests down m p s e x b o a v = rw (add-one s.n)
after_nests up m p s e x b o a v = nested_up true s.n s.here p.below p.begun v (omega arith)
after_nests first m p s e x b o a v = refl
after_nests second m p s e x b o a v =
    let some = a.0 in
    nested_second true s.n s.here p.below p.begun v (omega arith) (le-leb s.here (head p.begun) a.1)

-- how the numbers change
record Counted (l : Letter) (m : ℕ) (s : State) (e : ℕ) (t : State) : Type 0 where
  edges : begun_after l e ≤ m
  few_open : t.depth + t.opens ≤ begun_after l e
  vertices : t.n ≤ begun_after l e + 1
  paced : 2 * begun_after l e + (s.depth + s.opens) ≡ suc (2 * e + (t.depth + t.opens))

after_counted : (l : Letter) (m : ℕ) (p : Parts) (s : State) (e x : ℕ) → e ≤ m → s.depth + s.opens ≤ e → s.n ≤ e + 1 → Able l m p s e
    → Counted l m s e (state_after l p s x)
after_counted down m p s e x f g h a = record { edges = a; few_open = omega arith; vertices = omega arith; paced = omega arith }
after_counted up m p s e x f g h a = record { edges = f; few_open = omega arith; vertices = h; paced = omega arith }
after_counted first m p s e x f g h a = record { edges = a; few_open = omega arith; vertices = omega arith; paced = omega arith }
after_counted second m p s e x f g h a =
    let o = a.0 in record { edges = f; few_open = omega arith; vertices = h; paced = omega arith }

-- an edge begins only if the word has a letter left that ends it
able_by : (l : Letter) (m : ℕ) (p : Parts) (s : State) (e : ℕ) → length p.below ≡ s.depth → length p.begun ≡ s.opens → (v : List Letter)
    → Left m s e (l ∷ v) → nested true s.n s.here p.below p.begun (l ∷ v) ≡ true → Able l m p s e
unfolding nested
able_by down m p s e b o v n t = let h = nested_all_closed true (suc s.n) s.n (s.here ∷ p.below) p.begun v t in omega arith
able_by up m p s e b o v n t = let h = up_some true s.n s.here p.below p.begun v t in omega arith
able_by first m p s e b o v n t = let h = nested_all_closed true s.n s.here p.below (s.here ∷ p.begun) v t in omega arith
able_by second m p s e b o v n t = let (h, c) = second_some true s.n s.here p.below p.begun v t in (omega arith, leb-true _ _ c)

-- ---- one letter

module _ (m : ℕ) (w : List ℕ) (s : State) (e : ℕ) where
  abbrev here : Parts
  here = parts_at m w s

  pub below_count : length here.below ≡ s.depth
  below_count = below_long m w s.depth s.opens

  pub begun_count : length here.begun ≡ s.opens
  begun_count = begun_long m w s.depth s.opens

  pub able : (l : Letter) (v : List Letter) → Left m s e (l ∷ v) → goes_on m w s (l ∷ v) ≡ true → Able l m here s e
  able l = able_by l m here s e below_count begun_count

  pub moved : Fits m w s e → (l : Letter) (x : ℕ) (t : State) (k : ℕ) (w' : List ℕ) → Able l m here s e → x ≡ edge_of l here e → x < m
      → k ≡ begun_after l e → Stepped l m w s x t w' → Moved (l ∷ []) [] m w s e t k w'
  moved f l x t k w' a q h r y =
      let z : Counted l m s e t = rw y.state_is (after_counted l m here s e x f.edges f.few_open f.vertices a) in
      let z₁ = z.edges in let z₂ = z.few_open in let z₃ = z.vertices in let z₄ = z.paced in
      rw r record {
        fits = record { stands = stepped_stands l m w s x t w' y f.stands h (omega arith); edges = z₁; few_open = z₂; vertices = z₃ };
        left = λ v n. omega arith;
        nests = λ v. rw (y.parts_are, y.state_is) (after_nests l m here s e x below_count begun_count a v);
        built = stepped_built l m w s x t w' y e q;
        kept = y.kept;
        beside = y.beside;
      }

-- ---- letters one after the other

module _ (ls : List Letter) (m : ℕ) (w : List ℕ) (s : State) (e : ℕ) where
  pub moved_none : Fits m w s e → Moved ls ls m w s e s e w
  moved_none f = record { fits = f; left = λ v n. n; nests = λ v. refl; built = λ v. refl; kept = refl; beside = λ a k h g. refl }

  pub moved_end : (rest : List Letter) (t : State) (k : ℕ) (w' : List ℕ) → rest ≡ [] → Moved ls rest m w s e t k w' → Moved ls [] m w s e t k w'
  moved_end rest t k w' q x = subst (λ (r : List Letter). Moved ls r m w s e t k w') q x

  -- `all` is left, and `now` is read next
  module _ (all : List Letter) (t : State) (k : ℕ) (w' : List ℕ) (x : Moved ls all m w s e t k w') (now rest : List Letter) (q : all ≡ now ++ rest) where
    pub now_first : (v : List Letter) → all ++ v ≡ now ++ (rest ++ v)
    now_first v = ap (λ (u : List Letter). u ++ v) q ∙ append_assoc now rest v

    pub moved_on : (u : State) (j : ℕ) (w'' : List ℕ) → Moved now [] m w' t k u j w'' → Moved ls rest m w s e u j w''
    moved_on u j w'' z = record {
      fits = z.fits;
      left = λ v n. z.left (rest ++ v) (subst (Left m t k) (now_first v) (x.left v n));
      nests = λ v. z.nests (rest ++ v) ∙ ap (goes_on m w' t) (sym (now_first v)) ∙ x.nests v;
      built = λ v. z.built (rest ++ v) ∙ ap (outcome_at m w' t k) (sym (now_first v)) ∙ x.built v;
      kept = z.kept ∙ x.kept;
      beside = λ a c h g. z.beside a c h g ∙ x.beside a c h g;
    }

-- ---- the whole word

pub fits_start : (m : ℕ) (w : List ℕ) → 1 ≤ m → m ≤ 4096 → 32 * m ≤ length w → Fits m w first_state 0
fits_start m w g h r = record { stands = standing_start m w g h r; edges = omega arith; few_open = omega arith; vertices = omega arith }

pub left_start : (m : ℕ) (v : List Letter) → length v ≡ 2 * m → Left m first_state 0 (v ++ [])
left_start m v size = let l = ap length (append-nil v) in omega arith

pub whole_moved : (m : ℕ) (v : List Letter) (w : List ℕ) → length v ≡ 2 * m → region 0 (2 * m) w ≡ replicate (2 * m) 0
    → (t : State) (k : ℕ) (w' : List ℕ) → Moved v [] m w first_state 0 t k w' → nested true 1 0 [] [] v ≡ true
    → region 0 (2 * m) (set w' t.place 0) ≡ rotation_of v
whole_moved m v w size clear t k w' y nests =
    whole_built m w w' t k v clear y.fits.stands size (nested_first_dart true 1 0 v nests)
    (y.built [] ∙ ap (outcome_at m w first_state 0) (append-nil v))
