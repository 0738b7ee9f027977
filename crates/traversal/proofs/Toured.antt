-- The traversal of a connected plan, position by position.
--
--   walk_toured           it is as `Toured` says
use Prim.Native.Nat.{ℕ, suc, ◌<◌}
use mathlib.Core.Path.{◌≡◌, sym, ap, subst, ◌∙◌}
use mathlib.Core.Logic.{◌⊎◌, ⊎_elim}
use mathlib.Core.Bool.{true, false, true≢false}
use lib.ListN.{length}
use Rattle.model.specs.Numbers.{is_permutation}
use Rattle.model.specs.Map.{Plan, darts, opposite, connected, dart_count_fits}
use Rattle.model.specs.Traversal.{Letter, down, up, first, second, opens, visits}
use Rattle.model.proofs.Fitness.{count_even}
use Rattle.model.proofs.Opposite.{opposite_opposite, opposite_ne}
use Rattle.model.proofs.Permutations.{position_bound}
use Rattle.orbits.proofs.Order.{tri}
use Rattle.orbits.proofs.Maps.{opposite_inv}
use Rattle.words.specs.Toured.{darts_met, dart_at, letter_of, pos_of, mate_of, fellow, Toured}
use Rattle.words.proofs.Positions.{length_darts}
use Rattle.traversal.specs.Walked.{Walked}
use Rattle.traversal.proofs.Walk.{walked}
use Rattle.traversal.proofs.Complete.{connected_met, connected_long}

-- the letters of two opposite darts, in the order in which they are met
abbrev Matched : Letter → Letter → Type 0
Matched a b = ((a ≡ down) × (b ≡ up)) ⊎ ((a ≡ first) × (b ≡ second))

fellow_later : (a b : Letter) → Matched a b → b ≡ fellow a
fellow_later a b = ⊎_elim (λ m. m.1 ∙ sym (ap fellow m.0)) (λ m. m.1 ∙ sym (ap fellow m.0))

fellow_sooner : (a b : Letter) → Matched a b → a ≡ fellow b
fellow_sooner a b = ⊎_elim (λ m. m.0 ∙ sym (ap fellow m.1)) (λ m. m.0 ∙ sym (ap fellow m.1))

closes_later : (a b : Letter) → Matched a b → opens b ≡ false
closes_later a b = ⊎_elim (λ m. ap opens m.1) (λ m. ap opens m.1)

module _ (p : Plan) (fits : dart_count_fits (darts p) ≡ true) (hr : p.root < darts p) (good : is_permutation p.rotation ≡ true)
    (whole : connected p.rotation ≡ true) where
  abbrev N : ℕ
  N = darts p

  w : Walked p
  w = walked p fits hr good

  long : length (visits p) ≡ N
  long = connected_long p fits hr good whole

  -- positions are counted by visits
  met_at : (i : ℕ) → i < N → i < length (visits p)
  met_at i h = subst (λ (n : ℕ). i < n) (sym long) h

  pos_of_lem : (x : ℕ) → x < N → (pos_of p x < N) × (dart_at p (pos_of p x) ≡ x)
  unfolding pos_of dart_at
  pos_of_lem x h =
      let (i, hi, q) = connected_met p fits hr good whole x h in
      let (b, f) = position_bound x (darts_met p) i (subst (λ (n : ℕ). i < n) (sym (length_darts p)) hi) q in
      (subst (λ (n : ℕ). pos_of p x < n) (length_darts p ∙ long) b, f)

  dart_below : (i : ℕ) → i < N → dart_at p i < N
  dart_below i h = w.dart_bound i (met_at i h)

  pos_dart : (i : ℕ) → i < N → pos_of p (dart_at p i) ≡ i
  pos_dart i h =
      let (b, f) = pos_of_lem (dart_at p i) (dart_below i h) in w.ruled.different (pos_of p (dart_at p i)) i (met_at (pos_of p (dart_at p i)) b) (met_at i h) f

  -- ---- the position of the opposite

  mate_of_lem : (i : ℕ) → i < N → (mate_of p i < N) × (dart_at p (mate_of p i) ≡ opposite (dart_at p i))
  unfolding mate_of
  mate_of_lem i h = pos_of_lem (opposite (dart_at p i)) ((opposite_inv N (count_even N fits)).bound (dart_at p i) (dart_below i h))

  -- it comes later or it came earlier
  mate_split : {C : Type 0} (i : ℕ) → i < N → (i < mate_of p i → Matched (letter_of p i) (letter_of p (mate_of p i)) → C)
      → (Matched (letter_of p (mate_of p i)) (letter_of p i) → C) → C
  mate_split i h later sooner =
      let (b, f) = mate_of_lem i h in
      tri i (mate_of p i)
      (λ l. later l (w.ruled.pair i (mate_of p i) l (met_at (mate_of p i) b) f))
      (λ q. absurd (opposite_ne (dart_at p i) (sym f ∙ ap (dart_at p) (sym q))))
      (λ g. sooner (w.ruled.pair (mate_of p i) i g (met_at i h) (sym (opposite_opposite (dart_at p i)) ∙ ap opposite (sym f))))

  toured : Toured p
  toured = record {
    all_met = long;
    dart_bound = dart_below;
    pos_bound = λ x h. (pos_of_lem x h).0;
    dart_pos = λ x h. (pos_of_lem x h).1;
    pos_dart = pos_dart;
    starts = w.ruled.starts;
    step = λ i h. w.ruled.step i (met_at (suc i) h);
    closes = λ i q. w.ruled.closes i (q ∙ sym long);
    fellows = λ i h. mate_split i h
        (λ l m. fellow_later (letter_of p i) (letter_of p (mate_of p i)) m)
        (λ m. fellow_sooner (letter_of p (mate_of p i)) (letter_of p i) m);
    opens_first = λ i h o. mate_split i h
        (λ l m. l)
        (λ m. absurd (true≢false (sym o ∙ closes_later (letter_of p (mate_of p i)) (letter_of p i) m)));
    new = λ i h. w.ruled.new i (met_at i h);
    old = λ i h. w.ruled.old i (met_at i h);
  }

pub walk_toured : (p : Plan) → dart_count_fits (darts p) ≡ true → p.root < darts p → is_permutation p.rotation ≡ true
    → connected p.rotation ≡ true → Toured p
walk_toured = toured
