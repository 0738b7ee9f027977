-- The standard numbers of the darts along the walk from r, and the entries of the standard rotation.
--
--   begins_number, across_number   the numbers of a dart at which an edge begins, and of its opposite
--   Ends, ends           where the edge that ends at step k began
--   end_number, open_number   the numbers of a dart at which an edge ends, and of its opposite
--   link_bound           what waits for its entry is a dart's number
--   link_entry           its entry is the number of the dart that comes next
--   covered              each number is linked at some step
use mathlib.Core.Path.{◌≡◌, refl, sym, ap, ◌∙◌}
use mathlib.Core.Bool.{true, false}
use mathlib.Core.List.{List}
use Prim.Native.Nat.{ℕ, zero, suc, ◌+◌, ◌-◌, ◌*◌, ◌<◌}
use native.Mathlib.Nat.{le_of_lt}
use native.Mathlib.Omega.{arith}
use lib.ListN.{length, get_or}
use Rattle.model.specs.Numbers.{is_permutation}
use Rattle.model.specs.Map.{Plan, opposite, next, dart_count_fits}
use Rattle.model.specs.Traversal.{Letter, down, up, first, second, opens, onward, standard_numbers, standard_rotation, standard_plan}
use Rattle.model.proofs.Fitness.{count_even}
use Rattle.model.proofs.Opposite.{opposite_opposite}
use Rattle.orbits.specs.Permutation.{Perm}
use Rattle.orbits.specs.Chord.{Involution}
use Rattle.orbits.proofs.Maps.{next_perm, opposite_inv}
use Rattle.words.specs.Position.{opened}
use Rattle.words.specs.Toured.{Toured, dart_at, letter_of, pos_of, mate_of, fellow}
use Rattle.words.proofs.Positions.{mate_bound, mate_before, mate_letter}
use Rattle.traversal.specs.Steps.{dart, letter_after}
use Rattle.traversal.proofs.Steps.{dart_step, dart_bound, across_bound}
use Rattle.traversal.proofs.Positions.{letter_at, dart_at_lem, opened_at, back_at, across_at}
use Rattle.standard.proofs.Numbering.{opened_number, other_number, numbers_below, numbers_onto}
use Rattle.standard.proofs.Entries.{standard_entry_lem}
use Rattle.tracing.specs.Tracing.{from}
use Rattle.numbering.specs.Numbering.{source, link_of}

module _ (rot : List ℕ) (r : ℕ) (count : dart_count_fits (length rot) ≡ true) (perm : is_permutation rot ≡ true) (hr : r < length rot)
    (t : Toured (from rot r)) where
  abbrev p : Plan
  p = from rot r

  abbrev N : ℕ
  N = length rot

  abbrev D : ℕ → ℕ
  D = dart rot r

  abbrev ℓ : ℕ → Letter
  ℓ = letter_after rot r

  abbrev num : ℕ → ℕ
  num d = get_or (standard_numbers p) d 0

  turn : Perm N (next rot)
  turn = next_perm rot perm

  cross : Involution N opposite
  cross = opposite_inv N (count_even N count)

  -- ---- an edge begins

  module _ (k : ℕ) (h : k < N) (o : opens (ℓ k) ≡ true) where
    opening : opens (letter_of p k) ≡ true
    opening = ap opens (letter_at p count hr perm t k h) ∙ o

    rank_is : opened (letter_of p) k ≡ opened ℓ k
    rank_is = opened_at p count hr perm t k (le_of_lt h)

    pub begins_number : num (D k) ≡ 2 * opened ℓ k
    begins_number = ap num (sym (dart_at_lem p count hr perm t k h)) ∙ opened_number p t count k h opening ∙ ap (λ (e : ℕ). 2 * e) rank_is

    pub across_number : num (opposite (D k)) ≡ 2 * opened ℓ k + 1
    across_number =
        ap (λ (d : ℕ). num (opposite d)) (sym (dart_at_lem p count hr perm t k h)) ∙ other_number p t count k h opening ∙ ap (λ (e : ℕ). 2 * e + 1) rank_is

  -- ---- an edge ends

  pub record Ends (k : ℕ) (a : Letter) : Type 0 where
    pub begun : ℕ
    pub earlier : begun < k
    pub across : D begun ≡ opposite (D k)
    pub letter : ℓ begun ≡ fellow a

  pub ends : (k : ℕ) → k < N → (a : Letter) → ℓ k ≡ a → opens a ≡ false → Ends k a
  ends k h a e o =
      let j = mate_of p k in
      let hj = mate_bound p t count k h in
      let is = letter_at p count hr perm t k h ∙ e in
      record {
        begun = j;
        earlier = mate_before p t count k h (ap opens is ∙ o);
        across = across_at p count hr perm t k h;
        letter = sym (letter_at p count hr perm t j hj) ∙ mate_letter p t k h a is;
      }

  module _ (k : ℕ) (h : k < N) (a : Letter) (g : Ends k a) (o : opens (fellow a) ≡ true) where
    begins : opens (ℓ g.begun) ≡ true
    begins = ap opens g.letter ∙ o

    pub end_number : num (D k) ≡ 2 * opened ℓ g.begun + 1
    end_number =
        let l = g.earlier in
        ap num (sym (opposite_opposite (D k)) ∙ ap opposite (sym g.across)) ∙ across_number g.begun (omega arith) begins

    pub open_number : num (opposite (D k)) ≡ 2 * opened ℓ g.begun
    open_number = let l = g.earlier in ap num (sym g.across) ∙ begins_number g.begun (omega arith) begins

  -- ---- entries

  source_bound : (l : Letter) (j : ℕ) → source l (D j) < N
  source_bound down j = across_bound rot r turn cross hr j
  source_bound up j = across_bound rot r turn cross hr j
  source_bound first j = dart_bound rot r turn cross hr j
  source_bound second j = dart_bound rot r turn cross hr j

  source_next : (l : Letter) (d : ℕ) → next rot (source l d) ≡ onward rot l d
  unfolding onward
  source_next down d = refl
  source_next up d = refl
  source_next first d = refl
  source_next second d = refl

  next_is : (j : ℕ) → next rot (source (ℓ j) (D j)) ≡ D (suc j)
  next_is j = source_next (ℓ j) (D j) ∙ sym (dart_step rot r j)

  pub link_bound : (j : ℕ) → link_of rot r j < N
  unfolding link_of
  link_bound j = numbers_below p t count (source (ℓ j) (D j)) (source_bound (ℓ j) j)

  pub link_entry : (j : ℕ) → get_or (standard_rotation p) (link_of rot r j) 0 ≡ num (D (suc j))
  unfolding link_of standard_plan next
  link_entry j = standard_entry_lem p t count (source (ℓ j) (D j)) (source_bound (ℓ j) j) ∙ ap num (next_is j)

  -- the step after which a dart comes
  before : (x : ℕ) → x < N → (j : ℕ) × (j < N) × (D (suc j) ≡ x)
  before x h = go (pos_of p x) (t.pos_bound x h) (t.dart_pos x h)
    where
      go : (i : ℕ) → i < N → dart_at p i ≡ x → (j : ℕ) × (j < N) × (D (suc j) ≡ x)
      go zero l e = (N - 1, omega arith, back_at p count hr perm t (N - 1) (omega arith) ∙ sym t.starts ∙ e)
      go (suc j) l e = (j, omega arith, sym (dart_at_lem p count hr perm t (suc j) l) ∙ e)

  pub covered : (y : ℕ) → y < N → (j : ℕ) × (j < N) × (link_of rot r j ≡ y)
  unfolding link_of
  covered y h =
      let (d, hd, e) = numbers_onto p t count y h in
      let (j, hj, q) = before (next rot d) (turn.bound d hd) in
      (j, hj, ap num (turn.inj (source (ℓ j) (D j)) d (source_bound (ℓ j) j) hd (next_is j ∙ q)) ∙ e)
