-- Letters read one after the other, up to the end. Assumes nothing.
--
--   passed_less           letters that are read leave less to read
--   passed_stuck          where the machine is stuck after them, it finds no word
--   Closing               what the loop over ends keeps
--   closing_fits, closing_less, closing_on, closing_end, closing_stuck   in a turn, at its end
use Prim.Native.Nat.{ℕ, ◌+◌, ◌-◌, ◌≤◌, ◌<◌}
use native.Mathlib.Omega.{arith}
use mathlib.Core.Path.{◌≡◌, sym, ap, ◌∙◌, subst}
use mathlib.Core.Logic.{◌≢◌}
use mathlib.Core.List.{List, []}
use lib.ListN.{length, length-drop}
use Rattle.words.specs.Word.{none, after}
use Rattle.words.proofs.Found.{after_none}
use Rattle.machine.specs.Reading.{left, run}
use Rattle.std.specs.Prelude.{Option, Some, None}
use Rattle.decoder_ends.specs.declared.State.{State}
use Rattle.decoder_ends.specs.declared.Ending.{Ending}
use Rattle.decoder_ends.specs.States.{Stage, stage, machine_of, machine_at, Fits, Standing}
use Rattle.decoder_ends.specs.Ends.{Passed, EndedOne, Ended}
use Rattle.decoder_ends.proofs.Areas.{begun_long}
use Rattle.decoder_ends.proofs.Moves.{fewer_passed, more_passed}

pub left_is : (m : ℕ) (bs ls w : List ℕ) (s : Stage) (l k : ℕ) → left (machine_at m bs ls w s l k) ≡ length bs - k + s.opens
unfolding machine_of
left_is m bs ls w s l k = rw (length-drop k bs, begun_long m w s.depth s.opens)

module _ (p m : ℕ) (bs ls w : List ℕ) (s : Stage) (l k : ℕ) (t : Stage) (j i : ℕ) (w' : List ℕ) (x : Passed p m bs ls w s l k t j i w') where
  pub passed_less : length bs - i + t.opens + p ≤ length bs - k + s.opens
  passed_less =
      let g = x.read.some in let h = x.read.paced in
      let a = left_is m bs ls w s l k in let b = left_is m bs ls w' t j i in omega arith

  pub passed_stuck : run (machine_at m bs ls w' t j i) ≡ none → run (machine_at m bs ls w s l k) ≡ none
  passed_stuck e = x.read.answer ∙ ap (after x.read.letters) e ∙ after_none x.read.letters

-- ---- edges outside the tree end while the label is 1

pub record Closing (m : ℕ) (w₀ : List ℕ) (s₀ : State) (l₀ : ℕ) (w : List ℕ) (s : State) (l : ℕ) : Type 0 where
  pub passes : (e : ℕ) → Fits m w₀ (stage e s₀) → (bs ls : List ℕ) (k : ℕ) → Passed 0 m bs ls w₀ (stage e s₀) l₀ k (stage e s) l k w
  pub small : l < 2

module _ (m : ℕ) (w₀ : List ℕ) (s₀ : State) (l₀ : ℕ) (w : List ℕ) (s : State) (l : ℕ) (c : Closing m w₀ s₀ l₀ w s l) where
  module _ (f : Standing m w₀ s₀) where
    so_far : Passed 0 m [] [] w₀ (stage f.edges s₀) l₀ 0 (stage f.edges s) l 0 w
    so_far = c.passes f.edges f.fits [] [] 0

    pub closing_fits : Standing m w s
    closing_fits = record { edges = f.edges; fits = so_far.fits }

  pub closing_end : l ≢ 1 → Ended 0 1 m w₀ s₀ l₀ (Some (record { state = s; label = l })) w
  closing_end h e f bs ls k = let z = c.small in (omega arith, c.passes e f bs ls k)

  -- the edge opened last is asked to end too
  module _ (one_left : l ≡ 1) (w' : List ℕ) where
    here : (r : Option Ending) → Ended 1 2 m w s 1 r w' → (e : ℕ) → Fits m w₀ (stage e s₀) → (bs ls : List ℕ) (k : ℕ) → EndedOne 1 2 m bs ls w e s l k r w'
    here r x e f bs ls k = subst (λ (j : ℕ). EndedOne 1 2 m bs ls w e s j k r w') (sym one_left) (x e (c.passes e f bs ls k).fits bs ls k)

    pub closing_stuck : Ended 1 2 m w s 1 None w' → Ended 0 1 m w₀ s₀ l₀ None w'
    closing_stuck x e f bs ls k =
        passed_stuck 0 m bs ls w₀ (stage e s₀) l₀ k (stage e s) l k w (c.passes e f bs ls k) (here None x e f bs ls k)

    module _ (t : Ending) (x : Ended 1 2 m w s 1 (Some t) w') (f : Standing m w₀ s₀) where
      one : (e : ℕ) → Fits m w₀ (stage e s₀) → (bs ls : List ℕ) (k : ℕ)
          → (t.label < 2) × Passed 1 m bs ls w (stage e s) l k (stage e t.state) t.label k w'
      one = here (Some t) x

      abbrev e : ℕ
      e = f.edges

      pub closing_less : t.state.opens < s.opens
      closing_less = let y = passed_less 1 m [] [] w (stage e s) l 0 (stage e t.state) t.label 0 w' (one e f.fits [] [] 0).1 in omega arith

      pub closing_on : Closing m w₀ s₀ l₀ w' t.state t.label
      closing_on = record {
        passes = λ n g bs ls k.
            fewer_passed m bs ls w₀ (stage n s₀) l₀ k (0 + 1) (stage n t.state) t.label k w'
            (more_passed m bs ls w₀ (stage n s₀) l₀ k 0 (stage n s) l k w (c.passes n g bs ls k) 1 (stage n t.state) t.label k w' (one n g bs ls k).1) 0
            (omega arith);
        small = (one e f.fits [] [] 0).0;
      }
