-- An isomorphism from a connected map is fixed by one dart. Assumes nothing.
--
--   fixed_by_one_dart     two isomorphisms that agree at one dart are equal
--   at_most_one           from a fit plan to another there is at most one renumbering
use Prim.Native.Nat.{ℕ, ◌%◌, ◌<◌}
use native.Mathlib.Omega.{arith}
use mathlib.Core.Path.{◌≡◌, sym, ap, ◌∙◌}
use mathlib.Core.Bool.{true}
use mathlib.Core.List.{List}
use lib.ListN.{length, get_or}
use lib.Seq.{ext_get_or}
use Rattle.model.specs.Numbers.{is_permutation}
use Rattle.model.specs.Map.{Plan, darts, opposite, next, connected, fit}
use Rattle.model.specs.Renumbering.{Renumbering}
use Rattle.model.proofs.Fitness.{count_even, fit_parts}
use Rattle.traversal.proofs.Reach.{connected_from}
use Rattle.renumbering.specs.Isomorphism.{Isomorphism}
use Rattle.renumbering.proofs.Renumberings.{iso_of}

pub fixed_by_one_dart : (rot rot' f g : List ℕ) → length rot % 2 ≡ 0 → is_permutation rot ≡ true → connected rot ≡ true
    → Isomorphism rot rot' f → Isomorphism rot rot' g → (a : ℕ) → a < length rot → get_or f a 0 ≡ get_or g a 0 → f ≡ g
fixed_by_one_dart rot rot' f g two perm con iso iso' a h e =
    ext_get_or 0 f g (iso.size ∙ sym iso'.size) (λ d hd.
    connected_from rot two perm con (λ d. get_or f d 0 ≡ get_or g d 0) (record {
      across = λ d hd s. iso.opposites d hd ∙ ap opposite s ∙ sym (iso'.opposites d hd);
      turn = λ d hd s. iso.rotations d hd ∙ ap (next rot') s ∙ sym (iso'.rotations d hd);
    }) a h e d (omega (arith, iso.size)))

pub at_most_one : (k : ℕ) (p q : Plan) (f g : List ℕ) → fit k p ≡ true → Renumbering p q f → Renumbering p q g → f ≡ g
at_most_one k p q f g e r r' =
    let fits = fit_parts k p e in
    fixed_by_one_dart p.rotation q.rotation f g (count_even (darts p) fits.count) fits.entries fits.joined (iso_of r) (iso_of r')
    p.root fits.root (r.root_to_root ∙ sym r'.root_to_root)
