-- What is read off the word for an edge that opens: its flag, 1 where a second stands right after its end. A sort of edges is a truth value: true for
-- tree edges, false for the others.
--
--   of_sort b l         a letter of an edge of sort b
--   waits b r          what waits in r for the openers of sort b
--   ends_from p i       what is read off the word from position i on
--   ends_at            it follows from the letter there and what is read off after it
--   waits_head         right after an opener of sort b its flag comes first
use Prim.Native.Nat.{ℕ, suc, ◌≤◌, ◌<◌}
use mathlib.Core.Path.{◌≡◌, refl, sym, ap, ap₂, ◌∙◌}
use mathlib.Core.Logic.{◌⊎◌, inl, inr, ⊎_elim}
use mathlib.Core.Bool.{Bool, true, false, cond, true≢false, false≢true}
use mathlib.Core.List.{List, [], ◌∷◌, map}
use lib.ListN.{drop}
use Rattle.model.specs.Map.{Plan, darts, dart_count_fits}
use Rattle.model.specs.Traversal.{Letter, down, up, first, second, opens, word}
use Rattle.orbits.specs.Stack.{Kind, flat, open', close, push, stack}
use Rattle.orbits.proofs.Order.{from_end}
use Rattle.words.specs.Word.{Ends, ends, ends_one, starts_second, head, tail}
use Rattle.words.specs.Toured.{Toured, Brackets, Bracketed, letter_of, mate_of, fellow, is_tree, is_chord}
use Rattle.words.specs.Brackets.{bracket}
use Rattle.words.proofs.Positions.{mate_back, word_left, word_end}
use Rattle.words.proofs.Letters.{tree_fellow}
use Rattle.words.proofs.OpenEdges.{chord_whole, part_top, part_balanced}
use Rattle.labelling.proofs.Lit.{starts_at}

abbrev pub of_sort : Bool → Letter → Bool
of_sort true l = is_tree l
of_sort false l = is_chord l

abbrev pub waits : Bool → Ends → List ℕ
waits true r = r.ups
waits false r = r.seconds

-- ---- one letter

fellow_sort : (b : Bool) (l : Letter) → of_sort b (fellow l) ≡ of_sort b l
fellow_sort true l = tree_fellow l
fellow_sort false l = chord_whole l

-- a letter of the other sort leaves what waits
waits_skip : (b : Bool) (l : Letter) (w : List Letter) (r : Ends) → of_sort b l ≡ false → waits b (ends_one l w r) ≡ waits b r
unfolding ends_one
waits_skip true down w r e = absurd (true≢false e)
waits_skip true up w r e = absurd (true≢false e)
waits_skip true first w r e = refl
waits_skip true second w r e = refl
waits_skip false down w r e = refl
waits_skip false up w r e = refl
waits_skip false first w r e = absurd (true≢false e)
waits_skip false second w r e = absurd (true≢false e)

-- an opener takes a flag away, an ender puts its flag in front
waits_act : (b : Bool) (l : Letter) (w : List Letter) (r : Ends) → of_sort b l ≡ true
    → ((opens l ≡ true) × (waits b (ends_one l w r) ≡ tail (waits b r)))
    ⊎ ((opens l ≡ false) × (waits b (ends_one l w r) ≡ starts_second w ∷ waits b r))
unfolding ends_one
waits_act true down w r e = inl (refl, refl)
waits_act true up w r e = inr (refl, refl)
waits_act true first w r e = absurd (false≢true e)
waits_act true second w r e = absurd (false≢true e)
waits_act false down w r e = absurd (false≢true e)
waits_act false up w r e = absurd (false≢true e)
waits_act false first w r e = inl (refl, refl)
waits_act false second w r e = inr (refl, refl)

-- ---- the whole word

abbrev pub ends_from : Plan → ℕ → Ends
ends_from p i = ends (drop i (word p))

module _ (p : Plan) (toured : Toured p) where
  pub ends_at : (i : ℕ) → i < darts p → ends_from p i ≡ ends_one (letter_of p i) (drop (suc i) (word p)) (ends_from p (suc i))
  unfolding ends
  ends_at i h = ap ends (word_left p toured i h)

  module _ (bracketed : Bracketed p) (fits : dart_count_fits (darts p) ≡ true) where
    sort_nested : (b : Bool) → Brackets (of_sort b) p
    sort_nested true = bracketed.trees
    sort_nested false = bracketed.chords

    abbrev flag : ℕ → ℕ
    flag a = starts_at p (suc (mate_of p a))

    abbrev K : Bool → ℕ → Kind
    K b i = bracket (of_sort b) (letter_of p i)

    -- what waits at a position are the flags of the edges that are open there
    Waits : Bool → ℕ → Type 0
    Waits b i = waits b (ends_from p i) ≡ map flag (stack (K b) i)

    waits_step : (b : Bool) (i : ℕ) → i < darts p → Waits b (suc i) → Waits b i
    unfolding Waits stack starts_at
    waits_step b i h ih = ap (waits b) (ends_at i h) ∙ go (of_sort b (letter_of p i)) refl
      where
        rest : List Letter
        rest = drop (suc i) (word p)

        bracket_is : (c o : Bool) → of_sort b (letter_of p i) ≡ c → opens (letter_of p i) ≡ o
            → stack (K b) (suc i) ≡ push (cond c (cond o open' close) flat) i (stack (K b) i)
        bracket_is c o e f = ap₂ (λ (c o : Bool). push (cond c (cond o open' close) flat) i (stack (K b) i)) e f

        go : (c : Bool) → of_sort b (letter_of p i) ≡ c → waits b (ends_one (letter_of p i) rest (ends_from p (suc i))) ≡ map flag (stack (K b) i)
        go false e = waits_skip b (letter_of p i) rest (ends_from p (suc i)) e ∙ ih ∙ ap (map flag) (bracket_is false (opens (letter_of p i)) e refl)
        go true e = ⊎_elim
            (λ z. z.1 ∙ ap tail (ih ∙ ap (map flag) (bracket_is true true e z.0)))
            (λ z. z.1 ∙ ap₂ (λ (x : ℕ) (xs : List ℕ). x ∷ xs) (ap (λ (k : ℕ). starts_at p (suc k)) (sym (mate_back p toured fits i h))) ih
            ∙ sym (ap (map flag) (part_top (of_sort b) (fellow_sort b) p toured fits (sort_nested b) i h e z.0)))
            (waits_act b (letter_of p i) rest (ends_from p (suc i)) e)

    waits_open : (b : Bool) (i : ℕ) → i ≤ darts p → Waits b i
    unfolding Waits ends
    waits_open b = from_end (Waits b) (darts p)
        (ap (λ (w : List Letter). waits b (ends w)) (word_end p toured) ∙ none b
        ∙ sym (ap (map flag) (part_balanced (of_sort b) (fellow_sort b) p toured fits (sort_nested b)).ended)) (waits_step b)
      where
        none : (b : Bool) → waits b (ends []) ≡ []
        none true = refl
        none false = refl

    pub waits_head : (b : Bool) (i : ℕ) → i < darts p → of_sort b (letter_of p i) ≡ true → opens (letter_of p i) ≡ true
        → head (waits b (ends_from p (suc i))) ≡ starts_at p (suc (mate_of p i))
    unfolding Waits stack
    waits_head b i h t o =
        ap head (waits_open b (suc i) h)
        ∙ ap₂ (λ (c o : Bool). head (map flag (push (cond c (cond o open' close) flat) i (stack (K b) i)))) t o
