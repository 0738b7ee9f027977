-- The record of a fit plan under a table t, as a reader meets it, and that reading it has one outcome.
--
--   record_length_lem, record_kind   its length, where its kind and size fix it, and its kind
--   own_record           the plan has it
--   one_standard, one_outside   plans with one record have one standard rotation, and reading returns one outside for them
--   read_plan            what reading gives back has the record
--   standard_record      the standard plan is fit and has the same record
--   clear_stands         where no refusal but 13 holds, the table is one that loading gives
--   reads_one            reading is determined: what it answers, and the output after it
--   has_edges, has_passes   bytes that are a fit plan's record name its number of edges and pass 1, 2, 3 and 5
use Prim.Native.Nat.{ℕ}
use mathlib.Core.Path.{◌≡◌, sym, ap, subst, ◌∙◌}
use mathlib.Core.Bool.{true, false}
use mathlib.Core.List.{List}
use lib.ListN.{length}
use Rattle.std.specs.Prelude.{Result}
use Rattle.model.specs.declared.Table.{Table}
use Rattle.model.specs.declared.Refusal.{Refusal}
use Rattle.model.specs.declared.ReadBack.{ReadBack}
use Rattle.model.specs.Numbers.{all_below}
use Rattle.model.specs.Map.{Plan, edges, fit}
use Rattle.model.specs.Traversal.{standard_rotation, standard_plan}
use Rattle.model.specs.Record.{length_varies, record_length, record_of}
use Rattle.model.specs.Shelf.{kind_of, edges_of, passes}
use Rattle.model.specs.Calls.{front, table_refused, read_refusal, HasRecord, outside_read, Reads, refused, read, unreadable}
use Rattle.model.proofs.Outside.{with_outside}
use Rattle.model.proofs.Reading.{record_clear, read_clear}
use Rattle.words.specs.Word.{rooted}
use Rattle.lists.specs.Coder.{outside_of}
use Rattle.lists.proofs.Records as coded
use Rattle.coding.proofs.Records.{coder_of}
use Rattle.decoding.proofs.Outcomes.{read_so}

module _ (t : Table) (r : List ℕ) (p : Plan) (has : HasRecord t r p) where
  pub has_edges : edges_of r ≡ edges p.rotation
  has_edges = ap edges_of (sym has.1) ∙ coded.record_edges t (kind_of r) (coder_of (kind_of r) p has.0) p has.0

  pub has_passes : passes r ≡ true
  has_passes = ap passes (sym has.1) ∙ coded.record_passes t (kind_of r) (coder_of (kind_of r) p has.0) p has.0

module _ (t : Table) (stands : table_refused t ≡ false) (r : List ℕ) (p q : Plan) (h : HasRecord t r p) (g : HasRecord t r q) where
  pub one_standard : standard_rotation q ≡ standard_rotation p
  one_standard =
      let c = coder_of (kind_of r) p h.0 in
      let found = coded.has_decodes t stands r c p h in
      coded.read_back t stands r c (c.codes p) q found g ∙ sym (coded.read_back t stands r c (c.codes p) p found h)

  pub one_outside : outside_read (kind_of r) q ≡ outside_read (kind_of r) p
  one_outside =
      let c = coder_of (kind_of r) p h.0 in
      sym (coded.has_outside t stands r c q g) ∙ coded.has_outside t stands r c p h

pub read_plan : (t : Table) → table_refused t ≡ false → (r : List ℕ) (p : Plan) → HasRecord t r p → HasRecord t r (with_outside (rooted (standard_rotation p)) (outside_read (kind_of r) p))
read_plan t stands r p h =
    let c = coder_of (kind_of r) p h.0 in
    let found = coded.has_decodes t stands r c p h in
    let bytes = ap (all_below 256) (sym h.1) ∙ coded.record_bytes t (kind_of r) c p h.0 stands in
    let sound = coded.has_sound t stands r c (c.codes p) found p h in
    subst (λ (o : ℕ). HasRecord t r (with_outside (rooted (standard_rotation p)) o)) (coded.has_outside t stands r c p h)
    (subst (λ (rot : List ℕ). HasRecord t r (with_outside (rooted rot) (outside_of r))) (sym (coded.read_back t stands r c (c.codes p) p found h))
    (coded.decodes_has t stands r c (c.codes p) (has_passes t r p h) bytes found sound))

module _ (t : Table) (k : ℕ) (p : Plan) (fits : fit k p ≡ true) where
  pub record_length_lem : length_varies k ≡ false → length (record_of t k p) ≡ record_length k (edges p.rotation)
  record_length_lem = coded.record_length_lem t k (coder_of k p fits) p fits

  pub record_kind : kind_of (record_of t k p) ≡ k
  record_kind = coded.record_kind t k (coder_of k p fits) p fits

  pub own_record : HasRecord t (record_of t k p) p
  own_record = (subst (λ (j : ℕ). fit j p ≡ true) (sym record_kind) fits, ap (λ (j : ℕ). record_of t j p) record_kind)

  pub standard_record : (fit k (standard_plan p) ≡ true) × (record_of t k (standard_plan p) ≡ record_of t k p)
  standard_record = coded.standard_record t k (coder_of k p fits) p fits

-- where no early refusal of reading holds, the table is one that loading gives
pub clear_stands : (t : Table) (r : List ℕ) (w o : ℕ) → read_refusal t r w o ≡ 0 → table_refused t ≡ false
clear_stands t r w o e = (record_clear t r w (read_clear t r w o e).0).stands

pub reads_one : (t : Table) (r : List ℕ) (w : ℕ) (out : List ℕ) (a b : Result ReadBack Refusal) (o o' : List ℕ) → Reads t r w out a o → Reads t r w out b o' → (a ≡ b) × (o ≡ o')
unfolding standard_plan
reads_one t r w out a b o o' (refused d e f) (refused d' e' f') = (e ∙ sym e', f ∙ sym f')
reads_one t r w out a b o o' (refused d e f) (read z q g e' f') = absurd (d z)
reads_one t r w out a b o o' (refused d e f) (unreadable z never e' f') = absurd (d z)
reads_one t r w out a b o o' (read z p h e f) (refused d e' f') = absurd (d z)
reads_one t r w out a b o o' (read z p h e f) (read z' q g e' f') = (
  e ∙ ap (read_so (edges_of r)) (one_outside t (clear_stands t r w (length out) z) r q p g h) ∙ sym e',
  f ∙ ap (λ (rot : List ℕ). front rot out) (one_standard t (clear_stands t r w (length out) z) r q p g h) ∙ sym f',
)
reads_one t r w out a b o o' (read z p h e f) (unreadable z' never e' f') = absurd (never p h)
reads_one t r w out a b o o' (unreadable z never e f) (refused d e' f') = absurd (d z)
reads_one t r w out a b o o' (unreadable z never e f) (read z' q g e' f') = absurd (never q g)
reads_one t r w out a b o o' (unreadable z never e f) (unreadable z' never' e' f') = (e ∙ sym e', f ∙ sym f')
