-- Which bytes of a kind other than 3 are the record of a fit plan, and of which, under a table that loading gives: the laws of `lists/Records` at the coders that
-- there are.
--
--   coder_of               the coder of the kind that a plan is fit for
--   none_has              bytes that do not decode are the record of no fit plan
--   decodes_map           bytes that decode build a rotation of as many darts as the head says
--   Sound r v             the outside that the bytes r name is the least dart of its face, in the rotation that the word v builds
--   has_sound             it is in a fit plan's record
--   decodes_has           bytes that decode and name a sound outside are the record of the plan that their word builds, with that outside
--   decodes_standard, decodes_outside   its rotation is in standard numbers, and that is the outside that reading returns
use Prim.Native.Nat.{ℕ, ◌*◌, ◌<◌}
use mathlib.Core.Path.{◌≡◌, refl, sym}
use mathlib.Core.Logic.{◌≢◌}
use mathlib.Core.Bool.{true, false}
use mathlib.Core.List.{List}
use lib.ListN.{length, drop}
use Rattle.model.specs.declared.Table.{Table}
use Rattle.model.specs.Numbers.{all_below, is_permutation}
use Rattle.model.specs.Map.{Plan, face_of, family, dart_count_fits, fit}
use Rattle.model.specs.Traversal.{Letter, standard_rotation}
use Rattle.model.specs.Record.{head_length}
use Rattle.model.specs.Shelf.{kind_of, edges_of, passes}
use Rattle.model.specs.Calls.{table_refused, HasRecord, outside_read}
use Rattle.model.proofs.Below.{below_drop}
use Rattle.model.proofs.Fitness.{fit_parts}
use Rattle.model.proofs.Heads.{family_not_three, passes_facts}
use Rattle.model.proofs.Outside.{with_outside}
use Rattle.words.specs.Word.{found, none, rotation_of, plan_of}
use Rattle.words.proofs.Validity.{valid_fits}
use Rattle.building.proofs.Built.{built_fit}
use Rattle.packing.proofs.Groups.{undone_sized, undone_bytes}
use Rattle.packing.proofs.Headed.{passes_sized}
use Rattle.lists.specs.Coder.{outside_of, Coder}
use Rattle.lists.proofs.Records as generic
use Rattle.coding.specs.Payloads.{decode_record}
use Rattle.coding.proofs.Coders.{decode_encodes, plain_coder, coders}

pub coder_of : (k : ℕ) (p : Plan) → fit k p ≡ true → Coder k
coder_of k p e = coders k (fit_parts k p e).kind

abbrev pub Sound : List ℕ → List Letter → Type 0
Sound r v = (outside_of r < length v) × (face_of (rotation_of v) (outside_of r) ≡ outside_of r)

module _ (t : Table) (stands : table_refused t ≡ false) (r : List ℕ) (other : kind_of r ≢ 3) where
  coder_for : (p : Plan) → HasRecord t r p → Coder (kind_of r)
  coder_for p h = plain_coder (kind_of r) (fit_parts (kind_of r) p h.0).kind other

  pub none_has : decode_record t.inverse r ≡ none → (p : Plan) → HasRecord t r p → ⊥
  unfolding coder_for plain_coder decode_record
  none_has e p h = generic.none_has t stands r (coder_for p h) e p h

  pub decodes_map : (v : List Letter) → passes r ≡ true → all_below 256 r ≡ true → decode_record t.inverse r ≡ found v
      → (is_permutation (rotation_of v) ≡ true) × (dart_count_fits (length v) ≡ true) × (length v ≡ 2 * edges_of r)
  unfolding decode_record plan_of
  decodes_map v pass bytes e =
      let f = family (kind_of r) in
      let kind = (passes_facts r pass).kind in
      let plain = family_not_three (kind_of r) kind other in
      let ps = drop (head_length (kind_of r)) r in
      let s = passes_sized r pass in
      let (proper, same, long) = decode_encodes f plain (edges_of r) _ v (undone_sized f (edges_of r) ps t.inverse s)
      (undone_bytes f (edges_of r) ps t stands s (below_drop 256 (head_length (kind_of r)) r bytes)) e in
      let fits = built_fit f v proper plain (kind_of r) kind refl in
      ((fit_parts (kind_of r) (plan_of v) fits).entries, valid_fits f v proper, long)

  pub has_sound : (v : List Letter) → decode_record t.inverse r ≡ found v → (p : Plan) → HasRecord t r p → Sound r v
  unfolding coder_for plain_coder decode_record
  has_sound v e p h = generic.has_sound t stands r (coder_for p h) v e p h

  module _ (v : List Letter) (pass : passes r ≡ true) (bytes : all_below 256 r ≡ true) (e : decode_record t.inverse r ≡ found v) (sound : Sound r v) where
    abbrev pub given : Plan
    given = with_outside (plan_of v) (outside_of r)

    coder : Coder (kind_of r)
    coder = plain_coder (kind_of r) (passes_facts r pass).kind other

    pub decodes_has : HasRecord t r given
    unfolding plain_coder coder decode_record plan_of
    decodes_has = generic.decodes_has t stands r coder v pass bytes e sound

    pub decodes_standard : standard_rotation given ≡ rotation_of v
    unfolding plain_coder coder decode_record plan_of
    decodes_standard = generic.decodes_standard t stands r coder v pass bytes e sound

    pub decodes_outside : outside_read (kind_of r) given ≡ outside_of r
    unfolding plain_coder coder decode_record plan_of
    decodes_outside = sym (generic.has_outside t stands r coder given decodes_has)
