-- The dart that comes next is entered where the one before it waits.
--
--   right                what waits for its entry, if anything does, gets the number of the dart that comes
--   stored               after that all entries up to this one stand
use mathlib.Core.Path.{◌≡◌, refl, sym, ap, ◌∙◌}
use mathlib.Core.List.{List}
use Prim.Native.Nat.{ℕ, zero, suc, ◌+◌, ◌<◌}
use native.Mathlib.Omega.{arith}
use lib.ListN.{length, get_or, set}
use lib.Seq.{get_or-set_same, get_or-set_other}
use Rattle.model.specs.Traversal.{standard_numbers, standard_rotation}
use Rattle.orbits.proofs.Order.{eq_split, lt_suc_split}
use Rattle.traversal.specs.Steps.{dart}
use Rattle.tracing.specs.Tracing.{from}
use Rattle.numbering.specs.declared.Stand.{Stand}
use Rattle.numbering.specs.Numbering.{link_of, Numbering}
use Rattle.numbering.proofs.Numbers.{link_entry}

module _ (rot : List ℕ) (r k : ℕ) (w : List ℕ) (s : Stand) (g : Numbering rot r k w s) where
  abbrev n : ℕ
  n = length rot

  abbrev num : ℕ → ℕ
  num d = get_or (standard_numbers (from rot r)) d 0

  abbrev std : List ℕ
  std = standard_rotation (from rot r)

  right : (i : ℕ) → i ≡ k → 0 < i → num (dart rot r k) ≡ get_or std s.place 0
  right zero e h = absurd (omega arith)
  right (suc j) e h =
      sym (ap (λ (q : ℕ). get_or std q 0) (g.place j e) ∙ link_entry rot r g.ground.count g.ground.perm g.root_in g.toured j
      ∙ ap (λ (i : ℕ). num (dart rot r i)) e)

  pub stored : (v : ℕ) → v ≡ num (dart rot r k) → (j : ℕ) → suc j < suc k
      → get_or (set w (n + s.place) v) (n + link_of rot r j) 0 ≡ get_or std (link_of rot r j) 0
  stored v e j h = eq_split (link_of rot r j) s.place
      (λ q. ap (λ (x : ℕ). get_or (set w (n + s.place) v) (n + x) 0) q
      ∙ get_or-set_same w (n + s.place) v 0 (omega (arith, g.ground.room, g.place_in))
      ∙ e ∙ right k refl (omega arith) ∙ ap (λ (x : ℕ). get_or std x 0) (sym q))
      (λ ne. get_or-set_other w (n + s.place) (n + link_of rot r j) v 0 (λ q. ne (omega arith))
      ∙ lt_suc_split h (λ q. absurd (ne (sym (g.place j q)))) (λ l. g.entries j l))
