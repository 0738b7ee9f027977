-- Records of fit plans under a table t, by the laws of a coder. Where bytes are read, t is one that loading gives.
--
--   record_sized, record_short   a fit plan's payload has the length for its family, where m fixes that, and is not long
--   record_length_lem         its record has the length for its kind, where m fixes that
--   record_kind, record_edges, record_passes, record_framed   its fields, that it passes 1, 2, 3 and 5, and that it begins with its length
--   record_bytes          its entries are bytes
--   record_decodes        its payload, undone, is decoded to its word
--   standard_record       its standard plan is fit and has the same record
--   same_record           equal records: equal kinds, and a renumbering that the kind asks for
--   renumbered_record     such a renumbering: equal records
--   has_decodes           bytes that are a fit plan's record decode to its word
--   has_outside           and name the outside that reading returns
--   Sound v               the outside that the bytes name is the least dart of its face, in the rotation that v builds
--   has_sound             bytes that are a fit plan's record have a sound outside
--   none_has              bytes that do not decode are the record of no fit plan
--   read-back             every fit plan with the record has the standard rotation that the word builds
--   given                 the plan that the word builds, with the outside that the bytes name
--   decodes_has           bytes that decode and name a sound outside are the record of that plan
--   decodes_standard      it is in standard numbers
use Prim.Native.Nat.{ℕ, ◌*◌, ◌/◌, ◌≤◌, ◌<◌}
use native.Mathlib.Omega.{arith}
use mathlib.Core.Path.{◌≡◌, refl, sym, ap, ap₂, subst, ◌∙◌}
use mathlib.Core.Logic.{◌↔◌}
use mathlib.Core.Bool.{Bool, true, false, cond}
use mathlib.Core.List.{List, [], ◌++◌}
use lib.ListN.{length, get_or, drop}
use Rattle.model.specs.declared.Table.{Table}
use Rattle.model.specs.Numbers.{all_below}
use Rattle.model.specs.Map.{Plan, darts, edges, face_of, stores_outside, family, fit}
use Rattle.model.specs.Traversal.{Letter, standard_rotation, standard_face, standard_plan}
use Rattle.model.specs.Record.{le16, head_length, length_varies, record_length, headed, payload_of, outside_bytes, record_of}
use Rattle.model.specs.Shelf.{word16, kind_of, edges_of, passes}
use Rattle.model.specs.Calls.{table_refused, HasRecord, outside_read}
use Rattle.model.specs.Renumbering.{Renumbering, Carries}
use Rattle.model.proofs.Below.{below_drop}
use Rattle.model.proofs.Fitness.{fit_parts, count_parts, outside_dart}
use Rattle.model.proofs.Outside.{with_outside, fit_outside}
use Rattle.words.specs.Word.{rooted, Found, found, none}
use Rattle.words.proofs.Found.{none_found, found_same}
use Rattle.packing.specs.Payload.{Sized, extra_bytes, Behind}
use Rattle.packing.specs.Groups.{relabelled, undone, Values}
use Rattle.packing.proofs.Groups.{relabelled_sized, relabelled_length, undone_sized, relabelled_bytes, undone_bytes, undone_relabelled, relabelled_undone}
use Rattle.packing.proofs.Headed.{headed_length, headed_payload, headed_outside, headed_field, headed_kind, headed_edges, headed_passes}
use Rattle.packing.proofs.Headed.{extra_behind, extra_headed_bytes, passes_sized, passes_headed}
use Rattle.renumbering.proofs.Faces.{standard_bound, standard_least, standard_root, standard_own, outside_through}
use Rattle.lists.specs.Coder.{outside_of, Coder}
use Rattle.lists.specs.Framed.{Framed}

module _ (t : Table) (k : ℕ) (c : Coder k) where
  -- ---- one fit plan
  module _ (p : Plan) (e : fit k p ≡ true) where
    abbrev m : ℕ
    m = edges p.rotation

    -- the outside's number
    abbrev stored : ℕ
    stored = standard_face p p.outside

    -- what follows m
    abbrev rest : List ℕ
    rest = extra_bytes k stored ++ payload_of t (family k) p

    record_is : record_of t k p ≡ headed k m rest
    unfolding record_of outside_bytes extra_bytes
    record_is = refl

    half : length (c.codes p) / 2 ≡ m
    unfolding edges
    half = ap (λ (n : ℕ). n / 2) (c.letters p e)

    -- the payload of values
    abbrev vs : List ℕ
    vs = c.encode (c.codes p)

    values_sized : Sized (family k) m vs
    values_sized = rw (← half) (c.sized (c.codes p) (c.proper p e))

    values_low : Values (family k) m vs
    values_low = subst (λ (j : ℕ). Values (family k) j vs) half (c.values (c.codes p) (c.proper p e))

    pub record_sized : Sized (family k) m (payload_of t (family k) p)
    record_sized = rw (c.written t p e) (relabelled_sized (family k) m vs t.bytes values_sized)

    pub record_short : length (payload_of t (family k) p) ≤ 2048
    record_short = rw (c.written t p e, relabelled_length (family k) m vs t.bytes) (c.short (c.codes p) (c.proper p e))

    behind : Behind k m rest
    behind = extra_behind k stored m (payload_of t (family k) p) (fit_parts k p e).kind record_sized record_short

    pub record_length_lem : length_varies k ≡ false → length (record_of t k p) ≡ record_length k m
    record_length_lem v = ap length record_is ∙ headed_length k m rest ∙ behind.long v

    pub record_kind : kind_of (record_of t k p) ≡ k
    record_kind = ap kind_of record_is ∙ headed_kind k m rest behind

    pub record_edges : edges_of (record_of t k p) ≡ m
    record_edges = ap edges_of record_is ∙ headed_edges k m rest behind

    pub record_passes : passes (record_of t k p) ≡ true
    record_passes = ap passes record_is ∙ headed_passes k m rest behind

    record_payload : drop (head_length k) (record_of t k p) ≡ payload_of t (family k) p
    record_payload = ap (drop (head_length k)) record_is ∙ headed_payload k stored m (payload_of t (family k) p)

    record_outside : stores_outside k ≡ true → word16 (record_of t k p) 6 ≡ stored
    record_outside s =
        let n = (count_parts (darts p) (fit_parts k p e).count).2 in
        let b = standard_bound k p e (c.numbered p e) p.outside (outside_dart k p (fit_parts k p e).outside s) in
        ap (λ (bs : List ℕ). word16 bs 6) record_is ∙ headed_outside k stored m (payload_of t (family k) p) s (omega arith)

    pub record_framed : Framed (record_of t k p)
    record_framed = let l = headed_length k m rest in
        rw record_is (record { long = omega arith; field = headed_field k m rest behind })

    module _ (stands : table_refused t ≡ false) where
      pub record_bytes : all_below 256 (record_of t k p) ≡ true
      record_bytes = rw record_is
          (extra_headed_bytes k stored m (payload_of t (family k) p)
          (rw (c.written t p e) (relabelled_bytes (family k) m vs t stands values_sized (c.bytes (c.codes p) (c.proper p e)) values_low)))

      payload_decodes : c.decode m (undone t.inverse (family k) m (payload_of t (family k) p)) ≡ found (c.codes p)
      payload_decodes =
          ap (c.decode m) (ap (undone t.inverse (family k) m) (c.written t p e) ∙ undone_relabelled (family k) m vs t stands values_sized values_low)
          ∙ ap (λ (j : ℕ). c.decode j vs) (sym half) ∙ c.reads (c.codes p) (c.proper p e)

      pub record_decodes : let r = record_of t k p in c.decode (edges_of r) (undone t.inverse (family k) (edges_of r) (drop (head_length k) r)) ≡ found (c.codes p)
      record_decodes = rw (record_edges, record_payload) payload_decodes

  -- ---- a plan that a word builds, with any outside

  module _ (w : List Letter) (ok : c.Proper w) (o : ℕ) where
    abbrev q : Plan
    q = with_outside (rooted (c.builds w)) o

    many : length (c.builds w) ≡ length w
    many = let (fits, same) = c.built w ok in sym (c.letters _ fits) ∙ ap length same

    module _ (h : stores_outside k ≡ true → o < length w) where
      built_fits : fit k q ≡ true
      built_fits = fit_outside (rooted (c.builds w)) o k (c.built w ok).0 (λ s. let l = h s in let z = many in omega arith)

      codes_back : c.codes q ≡ w
      codes_back = c.anywhere (rooted (c.builds w)) o ∙ (c.built w ok).1

      built_standard : standard_rotation q ≡ c.builds w
      built_standard = c.standard q built_fits ∙ ap c.builds codes_back

      built_face : (d : ℕ) → d < length w → standard_face q d ≡ face_of (c.builds w) d
      built_face d l = let z = many in standard_own k q built_fits (c.numbered q built_fits) built_standard refl d (omega arith)

      -- its record, where the outside is the least dart of its face
      built_record : (stores_outside k ≡ true → face_of (c.builds w) o ≡ o)
          → record_of t k q ≡ headed k (length w / 2) (extra_bytes k o ++ relabelled t.bytes (family k) (length w / 2) (c.encode w))
      unfolding edges extra_bytes
      built_record own =
          record_is q built_fits
          ∙ ap₂ (λ (n : ℕ) (bs : List ℕ). headed k (n / 2) bs) many
          (ap₂ (λ (xs ys : List ℕ). xs ++ ys) (go (stores_outside k) refl)
          (c.written t q built_fits ∙ ap₂ (λ (n : ℕ) (v : List Letter). relabelled t.bytes (family k) (n / 2) (c.encode v)) many codes_back))
        where
          go : (b : Bool) → stores_outside k ≡ b → cond b (le16 (standard_face q o)) [] ≡ cond b (le16 o) []
          go true s = ap le16 (built_face o (h s) ∙ own s)
          go false s = refl

  -- ---- the standard plan is the one that the word builds

  module _ (p : Plan) (e : fit k p ≡ true) where
    abbrev v : List Letter
    v = c.codes p

    here : stores_outside k ≡ true → p.outside < darts p
    here = outside_dart k p (fit_parts k p e).outside

    low : stores_outside k ≡ true → standard_face p p.outside < length v
    low s = let b = standard_bound k p e (c.numbered p e) p.outside (here s) in let n = c.letters p e in omega arith

    own : stores_outside k ≡ true → face_of (c.builds v) (standard_face p p.outside) ≡ standard_face p p.outside
    own s =
        ap (λ (rot : List ℕ). face_of rot (standard_face p p.outside)) (sym (c.standard p e))
        ∙ standard_least k p e (c.numbered p e) p.outside (here s)

    pub standard_record : (fit k (standard_plan p) ≡ true) × (record_of t k (standard_plan p) ≡ record_of t k p)
    unfolding standard_plan
    standard_record =
        let o = standard_face p p.outside in
        subst (λ (rot : List ℕ). (fit k (with_outside (rooted rot) o) ≡ true) × (record_of t k (with_outside (rooted rot) o) ≡ record_of t k p)) (sym (c.standard p e)) (
          built_fits v (c.proper p e) o low,
          built_record v (c.proper p e) o low own
              ∙ ap (λ (n : ℕ). headed k n (extra_bytes k o ++ relabelled t.bytes (family k) n (c.encode v))) (half p e)
              ∙ ap (λ (ps : List ℕ). headed k (m p e) (extra_bytes k o ++ ps)) (sym (c.written t p e)) ∙ sym (record_is p e),
        )

  -- ---- two fit plans

  module _ (p q : Plan) (e : fit k p ≡ true) (g : fit k q ≡ true) where
    -- one word, one standard rotation
    one_rotation : c.codes p ≡ c.codes q → standard_rotation p ≡ standard_rotation q
    one_rotation same = c.standard p e ∙ ap c.builds same ∙ sym (c.standard q g)

    -- the outer faces, where they are stored
    module _ (f : List ℕ) (r : Renumbering p q f) (same : c.codes p ≡ c.codes q) (s : stores_outside k ≡ true) where
      outsides : (face_of q.rotation (get_or f p.outside 0) ≡ face_of q.rotation q.outside) ↔ (stored p e ≡ stored q g)
      outsides = outside_through k p q e g f r (c.numbered p e) (c.numbered q g) (one_rotation same) (here p e s) (here q g s)

    pub renumbered_record : (f : List ℕ) → Carries k p q f → record_of t k p ≡ record_of t k q
    unfolding edges extra_bytes
    renumbered_record f r =
        let same = c.carried p q f e r.renumbering in
        record_is p e
        ∙ ap₂ (λ (n : ℕ) (bs : List ℕ). headed k (n / 2) bs) r.renumbering.same_darts
        (ap₂ (λ (xs ys : List ℕ). xs ++ ys) (go same (stores_outside k) refl)
        (c.written t p e
        ∙ ap₂ (λ (n : ℕ) (v : List Letter). relabelled t.bytes (family k) (n / 2) (c.encode v)) r.renumbering.same_darts same ∙ sym (c.written t q g)))
        ∙ sym (record_is q g)
      where
        go : c.codes p ≡ c.codes q → (b : Bool) → stores_outside k ≡ b → cond b (le16 (stored p e)) [] ≡ cond b (le16 (stored q g)) []
        go same true s = ap le16 ((outsides f r.renumbering same s).0 (r.outsides s))
        go same false s = refl

    -- one record, one word, one plan up to renumbering
    one_record : table_refused t ≡ false → record_of t k p ≡ record_of t k q → (f : List ℕ) × Carries k p q f
    one_record stands same =
        let payloads = sym (record_payload p e) ∙ ap (drop (head_length k)) same ∙ record_payload q g in
        let sizes = sym (record_edges p e) ∙ ap edges_of same ∙ record_edges q g in
        let words = found_same _ _ (sym (payload_decodes p e stands)
        ∙ ap₂ (λ (n : ℕ) (ps : List ℕ). c.decode n (undone t.inverse (family k) n ps)) sizes payloads ∙ payload_decodes q g stands) in
        let (f, r) = c.alike p q e g words in (
          f,
          record {
            renumbering = r;
            outsides = λ s. (outsides f r words s).1 (sym (record_outside p e s) ∙ ap (λ (bs : List ℕ). word16 bs 6) same ∙ record_outside q g s);
          },
        )

pub same_record : (t : Table) → table_refused t ≡ false → (k l : ℕ) (c : Coder k) (d : Coder l) (p q : Plan) → fit k p ≡ true → fit l q ≡ true
    → record_of t k p ≡ record_of t l q → (k ≡ l) × ((f : List ℕ) × Carries k p q f)
same_record t stands k l c d p q e f same =
    let kinds = sym (record_kind t k c p e) ∙ ap kind_of same ∙ record_kind t l d q f in
    let g : fit k q ≡ true = subst (λ (j : ℕ). fit j q ≡ true) (sym kinds) f in
    (kinds, one_record t k c p q e g stands (same ∙ ap (λ (j : ℕ). record_of t j q) (sym kinds)))

-- ---- any bytes

module _ (t : Table) (stands : table_refused t ≡ false) (r : List ℕ) (c : Coder (kind_of r)) where
  abbrev k : ℕ
  k = kind_of r

  abbrev payload : List ℕ
  payload = drop (head_length k) r

  abbrev decoded : Found
  decoded = c.decode (edges_of r) (undone t.inverse (family k) (edges_of r) payload)

  pub has_decodes : (p : Plan) → HasRecord t r p → decoded ≡ found (c.codes p)
  has_decodes p (f, e) =
      ap (λ (s : List ℕ). c.decode (edges_of s) (undone t.inverse (family k) (edges_of s) (drop (head_length k) s))) (sym e)
      ∙ record_decodes t k c p f stands

  pub none_has : decoded ≡ none → (p : Plan) → HasRecord t r p → ⊥
  none_has e p h = none_found _ (sym e ∙ has_decodes p h)

  pub read_back : (v : List Letter) (p : Plan) → decoded ≡ found v → HasRecord t r p → standard_rotation p ≡ c.builds v
  read_back v p e h = c.standard p h.0 ∙ ap c.builds (found_same _ v (sym (has_decodes p h) ∙ e))

  -- the dart whose face reading returns
  read_dart : (p : Plan) → fit k p ≡ true → cond (stores_outside k) p.outside p.root < darts p
  read_dart p f = go (stores_outside k) refl
    where
      go : (b : Bool) → stores_outside k ≡ b → cond b p.outside p.root < darts p
      go true s = outside_dart k p (fit_parts k p f).outside s
      go false s = (fit_parts k p f).root

  pub has_outside : (p : Plan) → HasRecord t r p → outside_of r ≡ outside_read k p
  unfolding outside_of outside_read
  has_outside p (f, e) = go (stores_outside k) refl
    where
      go : (b : Bool) → stores_outside k ≡ b → cond b (word16 r 6) 0 ≡ standard_face p (cond b p.outside p.root)
      go true s = ap (λ (bs : List ℕ). word16 bs 6) (sym e) ∙ record_outside t k c p f s
      go false s = sym (standard_root k p f (c.numbered p f))

  abbrev pub Sound : List Letter → Type 0
  Sound v = (outside_of r < length v) × (face_of (c.builds v) (outside_of r) ≡ outside_of r)

  pub has_sound : (v : List Letter) → decoded ≡ found v → (p : Plan) → HasRecord t r p → Sound v
  unfolding outside_read
  has_sound v e p h =
      let o = has_outside p h in
      let f = h.0 in
      let b = standard_bound k p f (c.numbered p f) _ (read_dart p f) in
      let n = c.letters p f in
      let same = ap length (found_same _ v (sym (has_decodes p h) ∙ e)) in (
        omega arith,
        ap₂ face_of (sym (read_back v p e h)) o ∙ standard_least k p f (c.numbered p f) _ (read_dart p f) ∙ sym o,
      )

  module _ (v : List Letter) (pass : passes r ≡ true) (bytes : all_below 256 r ≡ true) (e : decoded ≡ found v) (sound : Sound v) where
    abbrev pub given : Plan
    given = with_outside (rooted (c.builds v)) (outside_of r)

    sized : Sized (family k) (edges_of r) payload
    sized = passes_sized r pass

    below : all_below 256 payload ≡ true
    below = below_drop 256 (head_length k) r bytes

    made : c.Proper v × (c.encode v ≡ undone t.inverse (family k) (edges_of r) payload) × (length v ≡ 2 * edges_of r)
    made = c.made (edges_of r) _ v (undone_sized (family k) (edges_of r) payload t.inverse sized)
        (undone_bytes (family k) (edges_of r) payload t stands sized below) e

    half_is : length v / 2 ≡ edges_of r
    half_is = let l = made.2 in omega arith

    -- the bytes are those of the word's payload
    payload_back : relabelled t.bytes (family k) (length v / 2) (c.encode v) ≡ payload
    payload_back =
        ap₂ (relabelled t.bytes (family k)) half_is made.1
        ∙ relabelled_undone (family k) (edges_of r) payload t stands sized below
        (subst (Values (family k) (edges_of r)) made.1 (subst (λ (j : ℕ). Values (family k) j (c.encode v)) half_is (c.values v made.0)))

    fits : fit k given ≡ true
    fits = built_fits t k c v made.0 (outside_of r) (λ s. sound.0)

    -- the outside's bytes
    extra : extra_bytes k (outside_of r) ≡ extra_bytes k (word16 r 6)
    unfolding extra_bytes outside_of
    extra = go (stores_outside k)
      where
        go : (b : Bool) → cond b (le16 (cond b (word16 r 6) 0)) [] ≡ cond b (le16 (word16 r 6)) []
        go true = refl
        go false = refl

    pub decodes_has : HasRecord t r given
    decodes_has = (
      fits,
      built_record t k c v made.0 (outside_of r) (λ s. sound.0) (λ s. sound.1)
          ∙ ap₂ (headed k) half_is (ap₂ (λ (xs ys : List ℕ). xs ++ ys) extra payload_back) ∙ passes_headed r pass bytes,
    )

    pub decodes_standard : standard_rotation given ≡ c.builds v
    decodes_standard = read_back v given e decodes_has
