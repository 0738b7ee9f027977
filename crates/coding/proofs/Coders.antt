-- The coder of each kind: plans by their contour words, and words by payloads.
--
--   encode_sized, encode_short, encode_bytes   a valid word's payload has the length for its family, and its entries are bytes
--   encode_decodes        it is decoded to the word
--   decode_encodes        a payload that is decoded is the valid word's
--   encode_values         its groups are values
--   payload_of_word       a fit plan's payload is its word's, relabelled
--   plain_coder           the coder of a kind other than 3
--   coders                the coders
use Prim.Native.Nat.{ℕ, ◌*◌, ◌/◌, ◌≤◌}
use native.Mathlib.Omega.{arith}
use mathlib.Core.Path.{◌≡◌, refl, sym, ap, subst, ◌∙◌}
use mathlib.Core.Logic.{◌≢◌}
use mathlib.Core.Bool.{Bool, true, false}
use mathlib.Core.List.{List}
use lib.Dec.{eqb}
use lib.ListN.{length}
use lib.Seq.{drop-length}
use borrow.Author.Tests.{eqb-true, eqb-false, ne_eqb}
use Rattle.model.specs.declared.Table.{Table}
use Rattle.model.specs.Numbers.{all_below}
use Rattle.model.specs.Map.{Plan, edges, is_kind, family, fit}
use Rattle.model.specs.Traversal.{Letter, word}
use Rattle.model.specs.LabelledTree.{tree_bits, labels}
use Rattle.model.specs.Record.{payload_length, payload_of}
use Rattle.model.proofs.Fitness.{fit_parts, count_parts, parts_count}
use Rattle.model.proofs.Heads.{kind_family, family_not_three, payload_length_range}
use Rattle.model.proofs.Outside.{same_word}
use Rattle.words.specs.Word.{found, valid, rotation_of, plan_of}
use Rattle.words.proofs.Positions.{word_length}
use Rattle.words.proofs.Validity.{valid_family, valid_fits}
use Rattle.building.proofs.Built.{built_word, built_fit}
use Rattle.packing.specs.Payload.{Sized}
use Rattle.packing.specs.Groups.{relabelled, Values}
use Rattle.packing.proofs.Groups.{groups_none, payload_relabelled, relabelled_other}
use Rattle.packing.proofs.Labelled.{labelled_strict, labelled_or_four}
use Rattle.packing.proofs.Letters.{letters_bytes}
use Rattle.renumbering.proofs.Walk.{carries_word}
use Rattle.lists.specs.Coder.{Coder}
use Rattle.coding.specs.Payloads.{encode_payload, decode_payload}
use Rattle.fit_plans.proofs.FitPlans.{fit_toured, fit_standard_rotation, fit_valid, fit_standard, same_word_renumbering}
use Rattle.coding.proofs.Labelled.{labelled_sized, labelled_values, labelled_bytes, labelled_decodes, decodes_labelled, payload_labelled}
use Rattle.coding.proofs.Meshes.{mesh_coder}
use Rattle.coding.proofs.Letters.{letters_sized, letters_decode, decodes_letters, payload_letters_lem}

-- ---- from words to payloads

module _ (f : ℕ) (other : f ≢ 3) (w : List Letter) (v : valid f w ≡ true) where
  long : length (encode_payload f w) ≡ payload_length f (length w / 2)
  unfolding encode_payload
  long = labelled_or_four f (valid_family f w v) other
      (λ has. rw (labelled_strict f has) (labelled_sized f has w v))
      (λ e. rw e (letters_sized w (rw e at v)))

  pub encode_sized : Sized f (length w / 2) (encode_payload f w)
  encode_sized =
      let c = count_parts (length w) (valid_fits f w v) in
      record { is_family = valid_family f w v; some_edge = omega arith; few_edges = omega arith; long = λ fixed. long }

  pub encode_short : length (encode_payload f w) ≤ 2048
  encode_short = let c = count_parts (length w) (valid_fits f w v) in rw long (payload_length_range f (length w / 2) (omega arith) (omega arith)).1

  pub encode_bytes : all_below 256 (encode_payload f w) ≡ true
  unfolding encode_payload
  encode_bytes = labelled_or_four f (valid_family f w v) other
      (λ has. rw (labelled_strict f has) (labelled_bytes f has w v))
      (λ e. rw e (letters_bytes w))

  pub encode_values : Values f (length w / 2) (encode_payload f w)
  unfolding encode_payload all_below
  encode_values = labelled_or_four f (valid_family f w v) other
      (λ has. rw (labelled_strict f has) (labelled_values f has w v))
      (λ e. rw (groups_none f (length w / 2) _ (λ z. omega (arith, z, e)) other, drop-length _))

  pub encode_decodes : decode_payload f (length w / 2) (encode_payload f w) ≡ found w
  unfolding encode_payload decode_payload
  encode_decodes = labelled_or_four f (valid_family f w v) other
      (λ has. rw (labelled_strict f has) (labelled_decodes f has w v))
      (λ e. rw e (letters_decode w (rw e at v)))

-- ---- from payloads to words

pub decode_encodes : (f : ℕ) → f ≢ 3 → (m : ℕ) (ps : List ℕ) (w : List Letter) → Sized f m ps → all_below 256 ps ≡ true → decode_payload f m ps ≡ found w
    → (valid f w ≡ true) × (encode_payload f w ≡ ps) × (length w ≡ 2 * m)
unfolding encode_payload decode_payload
decode_encodes f other m ps w s bytes e =
    let some = s.some_edge in
    let few = s.few_edges in
    let count = parts_count (2 * m) (omega arith) (omega arith) (omega arith) in
    let long = s.long (ne_eqb f 3 other) in
    labelled_or_four f s.is_family other
    (λ has. rw (labelled_strict f has) (decodes_labelled f has m ps w count long bytes (rw (labelled_strict f has) at e)))
    (λ four. rw four (decodes_letters m ps w count (rw four at long) bytes (rw four at e)))

-- ---- the coders

pub payload_of_word : (k : ℕ) → k ≢ 3 → (t : Table) (p : Plan) → fit k p ≡ true
    → payload_of t (family k) p ≡ relabelled t.bytes (family k) (edges p.rotation) (encode_payload (family k) (word p))
unfolding payload_of encode_payload
payload_of_word k not_three t p e =
    let kind = (fit_parts k p e).kind in
    let other = family_not_three k kind not_three in
    labelled_or_four (family k) (kind_family k kind) other
    (λ has. rw (labelled_strict (family k) has, ne_eqb (family k) 3 other)
    (payload_relabelled t (family k) (edges p.rotation) (tree_bits p) (labels p) has
    ∙ ap (relabelled t.bytes (family k) (edges p.rotation)) (payload_labelled k has p e)))
    (λ four. rw four (payload_letters_lem k p e) ∙ sym (relabelled_other (family k) (edges p.rotation) _ t.bytes (λ z. omega (arith, z, four)) other))

unfoldable pub plain_coder : (k : ℕ) → is_kind k ≡ true → k ≢ 3 → Coder k
unfolding plan_of
plain_coder k kind not_three = let other = family_not_three k kind not_three in record {
  codes = word;
  builds = rotation_of;
  Proper = λ w. valid (family k) w ≡ true;
  proper = fit_valid k;
  letters = λ p e. word_length p (fit_toured k p e);
  standard = fit_standard_rotation k;
  numbered = fit_standard k;
  built = λ w v. (built_fit (family k) w v other k kind refl, built_word (family k) w v);
  anywhere = same_word;
  carried = λ p q f e r. let a = fit_parts k p e in carries_word p a.count a.root a.entries q f r;
  alike = same_word_renumbering k;
  encode = encode_payload (family k);
  decode = decode_payload (family k);
  written = payload_of_word k not_three;
  sized = encode_sized (family k) other;
  short = encode_short (family k) other;
  values = encode_values (family k) other;
  bytes = encode_bytes (family k) other;
  reads = encode_decodes (family k) other;
  made = decode_encodes (family k) other;
}

pub coders : (k : ℕ) → is_kind k ≡ true → Coder k
coders k kind = go (eqb k 3) refl
  where
    go : (b : Bool) → eqb k 3 ≡ b → Coder k
    go true e = subst Coder (sym (eqb-true k 3 e)) mesh_coder
    go false e = plain_coder k kind (eqb-false k 3 e)
