-- Where a second stands, and the label that an edge has when the leaves before a position are taken.
--
--   starts_at p k       1 if a second stands at position k, else 0
--   Starts p k, starts_cases   which it is
--   lit p i j          1 if a second stands right after position j and its first stands before i, else 0
--   lit_start          nothing is lit before the first leaf
--   lit_same           j is lit by taking position i only if the second after j closes the edge that i opens
--   lit_now            then it is
--   lit_end            in the end j is lit just where a second stands right after it
use Prim.Native.Nat.{ℕ, suc, ◌≤◌, ◌<◌}
use native.Mathlib.Omega.{arith}
use mathlib.Core.Path.{◌≡◌, refl, sym, ap, ◌∙◌}
use mathlib.Core.Logic.{◌⊎◌, inl, inr, ⊎_elim}
use mathlib.Core.Bool.{Bool, true, false, cond}
use mathlib.Core.List.{List, ◌∷◌}
use lib.Dec.{ltb}
use lib.ListN.{drop, drop_of_length-le}
use borrow.Author.Tests.{lt-ltb, le-ltb}
use Rattle.model.specs.Map.{Plan, darts}
use Rattle.model.specs.Traversal.{Letter, down, up, first, second, word}
use Rattle.orbits.proofs.Order.{lt_or_le, tri}
use Rattle.words.specs.Word.{starts_second}
use Rattle.words.specs.Toured.{Toured, letter_of, mate_of}
use Rattle.words.proofs.Positions.{word_length, word_left}

unfoldable pub starts_at : Plan → ℕ → ℕ
starts_at p k = starts_second (drop k (word p))

abbrev pub Starts : Plan → ℕ → Type 0
Starts p k = (starts_at p k ≡ 0) ⊎ ((k < darts p) × (letter_of p k ≡ second) × (starts_at p k ≡ 1))

starts_letter : (l : Letter) (w : List Letter) → (starts_second (l ∷ w) ≡ 0) ⊎ ((l ≡ second) × (starts_second (l ∷ w) ≡ 1))
unfolding starts_second
starts_letter down w = inl refl
starts_letter up w = inl refl
starts_letter first w = inl refl
starts_letter second w = inr (refl, refl)

pub starts_cases : (p : Plan) → Toured p → (k : ℕ) → Starts p k
unfolding starts_at starts_second
starts_cases p toured k = lt_or_le k (darts p)
    (λ h. let e = ap starts_second (word_left p toured k h) in
    ⊎_elim (λ z. inl (e ∙ z)) (λ z. inr (h, z.0, e ∙ z.1)) (starts_letter (letter_of p k) (drop (suc k) (word p))))
    (λ h. let e = word_length p toured in inl (ap starts_second (drop_of_length-le (word p) {i = k} (omega arith))))

unfoldable pub lit : Plan → ℕ → ℕ → ℕ
lit p i j = cond (ltb (mate_of p (suc j)) i) (starts_at p (suc j)) 0

pub lit_start : (p : Plan) (j : ℕ) → lit p 0 j ≡ 0
unfolding lit
lit_start p j = rw (le-ltb (mate_of p (suc j)) 0 (omega arith))

-- without a second nothing is lit
lit_none : (p : Plan) (i j : ℕ) → starts_at p (suc j) ≡ 0 → lit p i j ≡ 0
unfolding lit
lit_none p i j e = go (ltb (mate_of p (suc j)) i)
  where
    go : (b : Bool) → cond b (starts_at p (suc j)) 0 ≡ 0
    go true = e
    go false = refl

lit_in : (p : Plan) (i j : ℕ) → mate_of p (suc j) < i → lit p i j ≡ starts_at p (suc j)
unfolding lit
lit_in p i j h = rw (lt-ltb (mate_of p (suc j)) i h)

lit_out : (p : Plan) (i j : ℕ) → i ≤ mate_of p (suc j) → lit p i j ≡ 0
unfolding lit
lit_out p i j h = rw (le-ltb (mate_of p (suc j)) i h)

pub lit_same : (p : Plan) → Toured p → (i j : ℕ) → (suc j < darts p → letter_of p (suc j) ≡ second → mate_of p (suc j) ≡ i → ⊥)
    → lit p i j ≡ lit p (suc i) j
lit_same p toured i j n =
    ⊎_elim (λ z. lit_none p i j z ∙ sym (lit_none p (suc i) j z))
    (λ z. tri (mate_of p (suc j)) i
    (λ l. lit_in p i j l ∙ sym (lit_in p (suc i) j (omega arith)))
    (λ e. absurd (n z.0 z.1 e))
    (λ g. lit_out p i j (omega arith) ∙ sym (lit_out p (suc i) j (omega arith))))
    (starts_cases p toured (suc j))

pub lit_now : (p : Plan) → Toured p → (i j : ℕ) → suc j < darts p → letter_of p (suc j) ≡ second → mate_of p (suc j) ≡ i → lit p (suc i) j ≡ 1
unfolding starts_at starts_second
lit_now p toured i j h e m = lit_in p (suc i) j (omega arith) ∙ ap starts_second (word_left p toured (suc j) h) ∙ rw e

pub lit_end : (p : Plan) → Toured p → ((i : ℕ) → i < darts p → mate_of p i < darts p) → (j : ℕ) → lit p (darts p) j ≡ starts_at p (suc j)
lit_end p toured bound j =
    ⊎_elim (λ z. lit_none p (darts p) j z ∙ sym z) (λ z. lit_in p (darts p) j (bound (suc j) z.0)) (starts_cases p toured (suc j))
