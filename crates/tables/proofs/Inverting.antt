-- The inverse, made from the last value to the first.
--
--   so_far bs v           for each byte the first place from v on where it stands, 243 if there is none
--   none_so_far          none of them is there at first
--   one_so_far           one value more
--   all_so_far           in the end it is the inverse
use Prim.Native.Nat.{ℕ, suc, ◌+◌, ◌<◌}
use native.Mathlib.Nat.{zero-add}
use native.Mathlib.Omega.{arith}
use mathlib.Core.Path.{◌≡◌, refl, sym, ap, ◌∙◌}
use mathlib.Core.Bool.{Bool, true, false, cond}
use mathlib.Core.List.{List}
use lib.Dec.{eqb}
use lib.ListN.{length, get_or, set, drop, replicate, length-set, length-replicate, get_or-replicate, drop_of_length-le}
use lib.Seq.{drop-cons, get_or-set_same, get_or-set_other}
use borrow.Author.Tests.{eqb-true, eqb-false}
use Rattle.model.specs.Numbers.{position, tabulate}
use Rattle.model.specs.Groups.{inverse_of}
use Rattle.model.proofs.Tabulated.{length_tabulate, tabulate_at, is_tabulate, tabulate_ext}

unfoldable pub so_far : List ℕ → ℕ → List ℕ
so_far bs v = tabulate (λ b. v + position b (drop v bs)) 0 256

module _ (bs : List ℕ) (long : length bs ≡ 243) where
  pub none_so_far : replicate 256 243 ≡ so_far bs 243
  unfolding so_far position
  none_so_far = is_tabulate _ 0 256 (replicate 256 243) (length-replicate {A = ℕ} 256 243)
      (λ i h. get_or-replicate 256 i 243 0 h ∙ rw (drop_of_length-le bs {i = 243} (omega arith)))

  -- the entry at b
  entry : (v b : ℕ) → v < 243 → v + position b (drop v bs) ≡ cond (eqb b (get_or bs v 0)) v (suc v + position b (drop (suc v) bs))
  unfolding position
  entry v b h = rw (drop-cons bs v 0 (omega arith)) (go (eqb b (get_or bs v 0)))
    where
      go : (c : Bool) → v + cond c 0 (suc (position b (drop (suc v) bs))) ≡ cond c v (suc v + position b (drop (suc v) bs))
      go true = omega arith
      go false = omega arith

  pub one_so_far : (v w : ℕ) (inv : List ℕ) → w ≡ suc v → v < 243 → get_or bs v 0 < 256 → inv ≡ so_far bs w → set inv (get_or bs v 0) v ≡ so_far bs v
  unfolding so_far
  one_so_far v w inv next h low e =
      is_tabulate _ 0 256 (set inv (get_or bs v 0) v) (length-set inv (get_or bs v 0) v ∙ size)
      (λ i l. at i l (eqb i (get_or bs v 0)) refl ∙ sym (entry v i h) ∙ ap (λ (b : ℕ). v + position b (drop v bs)) (sym (zero-add i)))
    where
      size : length inv ≡ 256
      size = ap length e ∙ length_tabulate _ 0 256

      at : (i : ℕ) → i < 256 → (c : Bool) → eqb i (get_or bs v 0) ≡ c → get_or (set inv (get_or bs v 0) v) i 0 ≡ cond c v (suc v + position i (drop (suc v) bs))
      at i l true s = let z = size in ap (λ (j : ℕ). get_or (set inv (get_or bs v 0) v) j 0) (eqb-true i _ s) ∙ get_or-set_same inv (get_or bs v 0) v 0 (omega arith)
      at i l false s =
          get_or-set_other inv (get_or bs v 0) i v 0 (eqb-false i _ s)
          ∙ ap (λ (xs : List ℕ). get_or xs i 0) e ∙ tabulate_at (λ b. w + position b (drop w bs)) 256 i l
          ∙ ap (λ (u : ℕ). u + position i (drop u bs)) next

pub all_so_far : (bs : List ℕ) → so_far bs 0 ≡ inverse_of bs
unfolding so_far inverse_of
all_so_far bs = tabulate_ext _ _ 0 256 (λ i h. zero-add (position (0 + i) bs))
