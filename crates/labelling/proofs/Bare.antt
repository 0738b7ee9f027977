-- Vertices of degree one: their down stands right before their up.
--
--   after_down p i      the letter before position i is down
--   bare_down          the vertex that a down enters has degree one just where an up comes next
--   bare_up            the vertex that an up leaves has degree one just where a down comes before
use Prim.Native.Nat.{ℕ, zero, suc, ◌<◌}
use native.Mathlib.Omega.{arith}
use mathlib.Core.Path.{◌≡◌, refl, sym, ap, ◌∙◌}
use mathlib.Core.Bool.{Bool, true, false, false≢true}
use mathlib.Core.List.{List, ◌∷◌}
use lib.ListN.{drop}
use borrow.Author.Tests.{eqb-true, eq-eqb}
use Rattle.model.specs.Map.{Plan, darts, opposite, degree_one, dart_count_fits}
use Rattle.model.specs.Traversal.{Letter, down, up, first, second, opens, word}
use Rattle.model.proofs.Booleans.{bool_ext}
use Rattle.words.specs.Word.{starts_up}
use Rattle.words.specs.Toured.{Toured, Bracketed, dart_at, letter_of, mate_of}
use Rattle.words.specs.Entered.{is_down}
use Rattle.words.proofs.Letters.{is_down_lem}
use Rattle.words.proofs.Positions.{mate_bound, mate_dart, mate_back, mate_letter, dart_inj, word_left}
use Rattle.words.proofs.Leaves.{down_step, leaf_mate, leaf_own}

unfoldable pub after_down : Plan → ℕ → Bool
after_down p zero = false
after_down p (suc i) = is_down (letter_of p i)

starts_up_lem : (l : Letter) (w : List Letter) → starts_up (l ∷ w) ≡ true → l ≡ up
unfolding starts_up
starts_up_lem down w e = absurd (false≢true e)
starts_up_lem up w e = refl
starts_up_lem first w e = absurd (false≢true e)
starts_up_lem second w e = absurd (false≢true e)

module _ (p : Plan) (toured : Toured p) (bracketed : Bracketed p) (fits : dart_count_fits (darts p) ≡ true) where
  -- an up comes after the down that it ends
  later : (i : ℕ) → i < darts p → letter_of p i ≡ down → i < mate_of p i
  later i h e = toured.opens_first i h (ap opens e)

  room : (i : ℕ) → i < darts p → letter_of p i ≡ down → suc i < darts p
  room i h e = let a = later i h e in let b = mate_bound p toured fits i h in omega arith

  alone : (i : ℕ) → i < darts p → letter_of p i ≡ down → mate_of p i ≡ suc i → degree_one p.rotation (opposite (dart_at p i)) ≡ true
  unfolding degree_one
  alone i h e m = eq-eqb _ _ (leaf_own p toured fits i (room i h e) e m)

  lone : (i : ℕ) → i < darts p → letter_of p i ≡ down → degree_one p.rotation (opposite (dart_at p i)) ≡ true → mate_of p i ≡ suc i
  unfolding degree_one
  lone i h e t =
      dart_inj p toured (mate_of p i) (suc i) (mate_bound p toured fits i h) (room i h e)
      (mate_dart p toured fits i h ∙ sym (eqb-true _ _ t) ∙ down_step p toured i (room i h e) e)

  pub bare_down : (i : ℕ) → i < darts p → letter_of p i ≡ down → degree_one p.rotation (opposite (dart_at p i)) ≡ starts_up (drop (suc i) (word p))
  unfolding starts_up
  bare_down i h e =
      let r = room i h e in
      let starts = ap starts_up (word_left p toured (suc i) r) in
      bool_ext _ _
      (λ t. starts ∙ ap (λ (l : Letter). starts_up (l ∷ drop (suc (suc i)) (word p)))
      (ap (letter_of p) (sym (lone i h e t)) ∙ mate_letter p toured i h down e))
      (λ t. alone i h e (leaf_mate p toured fits bracketed i r e (starts_up_lem (letter_of p (suc i)) (drop (suc (suc i)) (word p)) (sym starts ∙ t))))

  -- the down right before an up is its mate
  down_before : (i : ℕ) → i < darts p → letter_of p i ≡ up → after_down p i ≡ true → mate_of p (mate_of p i) ≡ suc (mate_of p i)
  unfolding after_down
  down_before zero h e t = absurd (false≢true t)
  down_before (suc i) h e t =
      let m = leaf_mate p toured fits bracketed i h (is_down_lem (letter_of p i) t) e in
      let back : mate_of p (suc i) ≡ i = ap (mate_of p) (sym m) ∙ mate_back p toured fits i (omega arith) in
      ap (mate_of p) back ∙ m ∙ ap suc (sym back)

  pub bare_up : (i : ℕ) → i < darts p → letter_of p i ≡ up → degree_one p.rotation (dart_at p i) ≡ after_down p i
  unfolding after_down
  bare_up i h e =
      let a = mate_of p i in
      let ha = mate_bound p toured fits i h in
      let ea = mate_letter p toured i h up e in
      let back = mate_back p toured fits i h in
      let here : opposite (dart_at p a) ≡ dart_at p i = sym (mate_dart p toured fits a ha) ∙ ap (dart_at p) back in
      bool_ext _ _
      (λ t. let m = lone a ha ea (ap (degree_one p.rotation) here ∙ t) in
      ap (after_down p) (sym back ∙ m) ∙ ap is_down ea)
      (λ t. ap (degree_one p.rotation) (sym here) ∙ alone a ha ea (down_before i h e t))
