-- The record of a plan that fits, from its marks and its word in the work area.
--
--   letters_asked, letters_packed   family 4: what packing the letters asks, and what it leaves
--   bytes_asked, bytes_packed       another: what packing tree bits and labels asks, and what it leaves
--   untabled, table_asked, tabled   what the table makes of it: nothing, or what that asks and leaves
--   small                the plan and its record are small
--   head_room, payload_asked   what the head and the payload ask
--   recorded             what they leave
use Prim.Native.Nat.{ℕ, ◌+◌, ◌*◌, ◌/◌, ◌%◌, ◌^◌, ◌≤◌, ◌<◌}
use native.Mathlib.Omega.{arith}
use mathlib.Core.Path.{◌≡◌, refl, sym, ap, ap₂, subst, ◌∙◌}
use mathlib.Core.Logic.{◌≢◌}
use mathlib.Core.Bool.{Bool, true, false, cond}
use mathlib.Core.List.{List, [], ◌++◌, map}
use lib.ListN.{length, get_or, take, drop, length-map, length-drop, take-append-drop}
use lib.Seq.{length-take-le}
use borrow.Author.Tests.{eq-eqb, ne_eqb}
use Rattle.orbits.proofs.Order.{eq_split}
use Rattle.model.specs.declared.Table.{Table}
use Rattle.model.specs.Numbers.{all_below}
use Rattle.model.specs.Map.{Plan, darts, edges, is_kind, stores_outside, family}
use Rattle.model.specs.Traversal.{Letter, code, word, standard_face}
use Rattle.model.specs.Groups.{standard_table}
use Rattle.model.specs.Record.{bytes_for, le16, head_length, length_varies, payload_length, record_length, label_base, headed, payload_of, outside_bytes, record_of}
use Rattle.model.specs.Calls.{front}
use Rattle.model.proofs.Fitness.{fit_parts, count_parts}
use Rattle.model.proofs.Heads.{family_two, family_four, kind_family, family_not_three, family_varies, head_length_range, record_length_range}
use Rattle.words.proofs.Validity.{valid_fits, valid_plain}
use Rattle.machine.proofs.Sizes.{labels_bound}
use Rattle.machine.proofs.Bounds.{bits_below}
use Rattle.packing.specs.Payload.{has_labels, value_payload, Sized, extra_bytes}
use Rattle.packing.specs.Groups.{relabelled}
use Rattle.packing.proofs.Groups.{groups_two, relabelled_other, relabelled_at}
use Rattle.packing.proofs.Labelled.{labelled_other}
use Rattle.packing.proofs.Payload.{payload_length_lem}
use Rattle.lists.proofs.Records.{record_sized, record_length_lem}
use Rattle.coding.specs.Payloads.{encode_labelled, encode_payload}
use Rattle.words.proofs.Positions.{word_length}
use Rattle.fit_plans.proofs.FitPlans.{fit_toured, fit_valid}
use Rattle.coding.proofs.Coders.{encode_sized, encode_values, payload_of_word}
use Rattle.coding.proofs.Records.{coder_of}
use Rattle.work.specs.Area.{region, placed}
use Rattle.work.proofs.Regions.{region_placed, length_placed, placed_placed, placed_next}
use Rattle.work.specs.Letters.{letters_in, Coded, work_bits, work_labels}
use Rattle.work.proofs.Letters.{letters_code}
use Rattle.packer.specs.Packed.{Headed}
use Rattle.packer.proofs.Heads.{head_payload}
use Rattle.packing.specs.Letters.{letters_payload}
use Rattle.laying.specs.Laid.{Spelt, area_payload, Ready, Tabled, ToLay, Recorded}

-- ---- the payload

-- the payload in the work area is that of the word
area_word : (n f : ℕ) (w : List ℕ) (v : List Letter) → Spelt n f v w → length v ≡ n → area_payload f n w ≡ encode_payload f v
unfolding area_payload encode_payload encode_labelled
area_word n f w v s long = eq_split f 4
    (λ e. rw (eq-eqb f 4 e) (ap letters_payload (letters_code n w v (s.letters e))))
    (λ d. rw (ne_eqb f 4 d) (rw (s.bits d, s.labels d, long)))

module _ (n f at : ℕ) (w out : List ℕ) (r : Ready n f at w out) where
  abbrev v : List Letter
  v = r.spelling

  counts : (0 < n) × (n % 2 ≡ 0) × (n ≤ 8192)
  counts =
      let c = count_parts (length v) (valid_fits f v r.proper) in
      let s = r.long in
      (omega arith, subst (λ (m : ℕ). m % 2 ≡ 0) s c.1, omega arith)

  half : 2 * (n / 2) ≡ n
  half = let c = counts in omega arith

  module _ (four : f ≡ 4) where
    pub letters_asked : (n / 2 ≤ 4096) × (32 * (n / 2) ≤ length w) × Coded (2 * (n / 2)) w × (at ≤ 65536) × (at + bytes_for (n / 2) 2 ≤ length out)
    letters_asked =
        let c = counts in
        let h = half in
        let l = family_four f (n / 2) four in
        let b = r.begins in
        let s = r.space in
        (omega arith, (let z = r.room in omega arith), rw h coded, omega arith, omega arith)
      where
        coded : Coded n w
        coded = r.spelt.letters four ∙ ap (map code) (sym (letters_code n w v (r.spelt.letters four)))

    pub letters_packed : (out' : List ℕ) → out' ≡ placed at (letters_payload (letters_in (2 * (n / 2)) w)) out → out' ≡ placed at (area_payload f n w) out
    unfolding area_payload
    letters_packed out' e = let h = half in rw (eq-eqb f 4 four) (rw h at e)

  module _ (d : f ≢ 4) where
    abbrev bits : List ℕ
    bits = work_bits (2 * (n / 2)) w

    abbrev labels : List ℕ
    labels = work_labels (2 * (n / 2)) w

    labelled : has_labels f ≡ true
    labelled = labelled_other f r.is_family r.other d

    pub bytes_asked : (has_labels f ≡ true) × (n / 2 ≤ 4096) × (32 * (n / 2) ≤ length w) × (at ≤ 65536) × (at + length (value_payload f (n / 2) bits labels) ≤ length out)
        × (all_below 2 bits ≡ true) × (all_below (label_base f) labels ≡ true)
    bytes_asked =
        let c = counts in
        let h = half in
        let b = r.begins in
        let s = r.space in
        let l = payload_length_lem f (n / 2) bits labels labelled in (
          labelled,
          omega arith,
          (let z = r.room in omega arith),
          omega arith,
          omega arith,
          ap (λ (m : ℕ). all_below 2 (work_bits m w)) h ∙ ap (all_below 2) (r.spelt.bits d) ∙ bits_below false v,
          ap (λ (m : ℕ). all_below (label_base f) (work_labels m w)) h ∙ ap (all_below (label_base f)) (r.spelt.labels d)
              ∙ labels_bound f v (valid_plain f v r.proper),
        )

    pub bytes_packed : (out' : List ℕ) → out' ≡ placed at (value_payload f (n / 2) bits labels) out → out' ≡ placed at (area_payload f n w) out
    unfolding area_payload
    bytes_packed out' e = e ∙ ap (λ (m : ℕ). placed at (value_payload f (n / 2) (work_bits m w) (work_labels m w)) out) half ∙ rw (ne_eqb f 4 d)

-- ---- the table

module _ (bs : List ℕ) (n f at : ℕ) (w out : List ℕ) (r : Ready n f at w out) (out₁ : List ℕ) (q : out₁ ≡ placed at (area_payload f n w) out) where
  -- the payload of values
  abbrev ps : List ℕ
  ps = area_payload f n w

  pub untabled : f ≢ 2 → Tabled bs n f at w out out₁
  untabled d = q ∙ ap (λ (xs : List ℕ). placed at xs out) (sym (relabelled_other f (n / 2) ps bs d r.other))

  module _ (two : f ≡ 2) where
    -- where the groups begin, and how many there are
    abbrev front_bytes : ℕ
    front_bytes = (n + 7) / 8

    abbrev count : ℕ
    count = (n / 2 + 4) / 5

    begins : front_bytes ≡ bytes_for (2 * (n / 2)) 8
    begins = ap (λ (j : ℕ). (j + 7) / 8) (sym (half n f at w out r))

    halves : length r.spelling / 2 ≡ n / 2
    halves = ap (λ (j : ℕ). j / 2) r.long

    sized_payload : length ps ≡ payload_length f (n / 2)
    sized_payload =
        ap length (area_word n f w r.spelling r.spelt r.long) ∙ (encode_sized f r.other r.spelling r.proper).long (ne_eqb f 3 r.other) ∙ ap (payload_length f) halves

    whole : length ps ≡ front_bytes + count
    unfolding payload_length
    whole =
        let l = sized_payload in
        let e = begins in
        let d = family_two f (n / 2) two in
        omega arith

    values : all_below 243 (drop front_bytes ps) ≡ true
    values =
        let vs = encode_payload f r.spelling in
        ap (λ (xs : List ℕ). all_below 243 (drop front_bytes xs)) (area_word n f w r.spelling r.spelt r.long)
        ∙ ap (λ (j : ℕ). all_below 243 (drop j vs)) (begins ∙ ap (λ (j : ℕ). bytes_for (2 * j) 8) (sym halves) ∙ sym (groups_two f (length r.spelling / 2) vs two))
        ∙ encode_values f r.other r.spelling r.proper

    fs : List ℕ
    fs = take front_bytes ps

    gs : List ℕ
    gs = drop front_bytes ps

    parts : (length fs ≡ front_bytes) × (length gs ≡ count) × (fs ++ gs ≡ ps)
    unfolding fs gs
    parts = let l = whole in
        (length-take-le front_bytes ps (omega arith), length-drop front_bytes ps ∙ omega arith, take-append-drop front_bytes ps)

    fits : at + length ps ≤ length out
    fits =
        let l = sized_payload in
        let z = r.space in
        omega arith

    -- the groups in the output
    laid_groups : out₁ ≡ placed (at + front_bytes) gs (placed at fs out)
    laid_groups =
        let (lf, lg, e) = parts in
        let z = fits in
        let l = whole in
        q ∙ ap (λ (xs : List ℕ). placed at xs out) (sym e)
        ∙ sym (rw lf at (placed_next at fs gs out (omega arith)))

    room : at + front_bytes + count ≤ length (placed at fs out)
    room =
        let (lf, lg, e) = parts in
        let z = fits in
        let l = whole in
        let k = length_placed at fs out (omega arith) in
        omega arith

    groups_there : region (at + front_bytes) count out₁ ≡ gs
    groups_there =
        let (lf, lg, e) = parts in
        let z = room in
        ap (region (at + front_bytes) count) laid_groups ∙ region_placed (at + front_bytes) gs (placed at fs out) (omega arith) count (sym lg)

    pub table_asked : (at + front_bytes + count ≤ length out₁) × (at + front_bytes ≤ 2 ^ 20) × (count ≤ 2 ^ 20)
        × (all_below 243 (region (at + front_bytes) count out₁) ≡ true)
    unfolding gs
    table_asked =
        let c = counts n f at w out r in
        let (lf, lg, e) = parts in
        let b = r.begins in
        let z = room in
        let k = ap length laid_groups ∙ length_placed (at + front_bytes) gs (placed at fs out) (omega arith) in
        (omega arith, omega arith, omega arith, ap (all_below 243) groups_there ∙ values)

    pub tabled : (out₂ : List ℕ) → out₂ ≡ placed (at + front_bytes) (map (λ v. get_or bs v 0) (region (at + front_bytes) count out₁)) out₁
        → Tabled bs n f at w out out₂
    unfolding fs gs
    tabled out₂ e =
        let (lf, lg, same) = parts in
        let z = fits in
        let l = whole in
        let g = map (λ v. get_or bs v 0) gs in
        let lm : length g ≡ length gs = length-map gs (λ v. get_or bs v 0) in
        e ∙ ap₂ (λ (xs ys : List ℕ). placed (at + front_bytes) (map (λ v. get_or bs v 0) xs) ys) groups_there laid_groups
        ∙ placed_placed (at + front_bytes) gs (placed at fs out) (let k = room in omega arith) g lm
        ∙ (rw lf at (placed_next at fs g out (omega arith)))
        ∙ ap (λ (xs : List ℕ). placed at xs out) (sym (relabelled_at f (n / 2) ps bs front_bytes (groups_two f (n / 2) ps two ∙ sym begins)))

-- ---- the record

module _ (k : ℕ) (p : Plan) (w out : List ℕ) (r : ToLay k p w out) where
  abbrev m : ℕ
  m = edges p.rotation

  fixed : length_varies k ≡ false
  fixed = ne_eqb k 3 r.other

  kind : is_kind k ≡ true
  kind = (fit_parts k p r.fits).kind

  sized : (t : Table) → Sized (family k) m (payload_of t (family k) p)
  sized t = record_sized t k (coder_of k p r.fits) p r.fits

  range : (7 ≤ record_length k m) × (record_length k m ≤ 2056)
  range = let s = sized standard_table in record_length_range k m s.some_edge s.few_edges

  pub small : (darts p ≤ 8192) × (record_length k m < 65536)
  small = let z = range in ((count_parts (darts p) (fit_parts k p r.fits).count).2, omega arith)

  pub head_room : head_length k ≤ length out
  unfolding record_length
  head_room = let z = r.space in omega arith

  pub payload_asked : (f at : ℕ) (out₁ : List ℕ) → f ≡ family k → at ≡ head_length k → length out₁ ≡ length out → Ready (darts p) f at w out₁
  unfolding record_length edges
  payload_asked f at out₁ of e same =
      let z = r.space in
      let h = head_length_range k in
      rw of (record {
        is_family = kind_family k kind;
        other = family_not_three k kind r.other;
        spelling = word p;
        spelt = r.spelt;
        long = word_length p (fit_toured k p r.fits);
        proper = fit_valid k p r.fits;
        room = r.room;
        begins = omega arith;
        space = omega arith;
      })

  -- the payload that is laid out is the plan's
  own_payload : (t : Table) (f : ℕ) → f ≡ family k → relabelled t.bytes f m (area_payload f (darts p) w) ≡ payload_of t (family k) p
  own_payload t f of =
      ap (λ (g : ℕ). relabelled t.bytes g m (area_payload g (darts p) w)) of
      ∙ ap (relabelled t.bytes (family k) m) (area_word (darts p) (family k) w (word p) r.spelt (word_length p (fit_toured k p r.fits)))
      ∙ sym (payload_of_word k r.other t p r.fits)

  module _ (x : ℕ) (stored : stores_outside k ≡ true → x ≡ standard_face p p.outside) where
    extra : extra_bytes k x ≡ outside_bytes k p
    unfolding extra_bytes outside_bytes
    extra = go (stores_outside k) stored
      where
        go : (b : Bool) → (b ≡ true → x ≡ standard_face p p.outside) → cond b (le16 x) [] ≡ cond b (le16 (standard_face p p.outside)) []
        go true s = ap le16 (s refl)
        go false s = refl

    pub recorded : (t : Table) (bs : List ℕ) → t.bytes ≡ bs → (total f at : ℕ) (out₁ out₂ : List ℕ) → total ≡ record_length k m → f ≡ family k
        → Headed total k m x out at out₁ → Tabled bs (darts p) f at w out₁ out₂ → Recorded t k p out total out₂
    unfolding record_of record_length edges
    recorded t bs same total f at out₁ out₂ e of h q =
        let l = (sized t).long (family_varies k kind ∙ fixed) in
        let z = r.space in
        let whole : out₂ ≡ placed at (payload_of t (family k) p) out₁ =
        q ∙ ap (λ (xs : List ℕ). placed at xs out₁) (ap (λ (b : List ℕ). relabelled b f m (area_payload f (darts p) w)) (sym same) ∙ own_payload t f of) in
        record {
          answered = e ∙ sym (record_length_lem t k (coder_of k p r.fits) p r.fits fixed);
          filled = head_payload k m x total at (payload_of t (family k) p) out out₁ out₂ (omega arith) (omega arith) h whole
              ∙ ap (λ (xs : List ℕ). front (headed k m (xs ++ payload_of t (family k) p)) out) extra;
        }
