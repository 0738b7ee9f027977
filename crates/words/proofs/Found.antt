-- A word or none.
--
--   word_in r             the word that was found
--   none_found           none is no word
--   found_same           words that are found alike are equal
--   when_found           a word that is found where a test is passed
--   after_none, after_found, after_append   letters before no word, before a word, before letters
use mathlib.Core.Path.{◌≡◌, refl, ap}
use mathlib.Core.Bool.{Bool, true, false, cond, false≢true}
use mathlib.Core.List.{List, [], ◌∷◌, ◌++◌, append-nil, append_assoc}
use Rattle.model.specs.Traversal.{Letter}
use Rattle.words.specs.Word.{Found, found, none, after}

abbrev pub word_in : Found → List Letter
word_in none = []
word_in (found w) = w

abbrev is_found : Found → Bool
is_found none = false
is_found (found w) = true

pub none_found : (w : List Letter) {A : Type 0} → none ≡ found w → A
none_found w e = absurd (false≢true (ap is_found e))

pub found_same : (v w : List Letter) → found v ≡ found w → v ≡ w
found_same v w e = ap word_in e

pub when_found : (b : Bool) (r : Found) (w : List Letter) → cond b r none ≡ found w → (b ≡ true) × (r ≡ found w)
when_found true r w e = (refl, e)
when_found false r w e = none_found w e

-- ---- letters before what is found

pub after_none : (xs : List Letter) → after xs none ≡ none
after_none [] = refl
after_none (x ∷ xs) = refl

pub after_found : (xs ys : List Letter) → after xs (found ys) ≡ found (xs ++ ys)
after_found [] ys = refl
after_found (x ∷ xs) ys = refl

pub after_append : (xs ys : List Letter) (r : Found) → after (xs ++ ys) r ≡ after xs (after ys r)
after_append [] ys r = refl
after_append (x ∷ xs) [] r = ap (λ (v : List Letter). after (x ∷ v) r) (append-nil xs)
after_append (x ∷ xs) (y ∷ ys) none = refl
after_append (x ∷ xs) (y ∷ ys) (found w) = ap (λ (v : List Letter). found (x ∷ v)) (append_assoc xs (y ∷ ys) w)
