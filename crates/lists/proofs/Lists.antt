-- Demand 3 under one table, from the laws of the coders.
--
--   demand_3              the claim about any two lists of writing calls
use Prim.Native.Nat.{ℕ, suc}
use mathlib.Core.Path.{◌≡◌, refl, sym, ap, ap₂, subst, ◌∙◌}
use mathlib.Core.Bool.{Bool, true, false, cond}
use mathlib.Core.List.{List, [], ◌∷◌, ◌++◌}
use lib.ListN.{length}
use Rattle.model.specs.declared.Table.{Table}
use Rattle.model.specs.Map.{is_kind, fit}
use Rattle.model.specs.Record.{record_of}
use Rattle.std.specs.Result.{result_unwrap_or}
use Rattle.model.specs.Calls.{table_refused}
use Rattle.model.specs.Writings.{Writing, MeetsContract, refusal_of, is_accepted, bytes_written, laid_out, accepted, Alike, PlaceByPlace, AllMeetContract, Demand3}
use Rattle.model.proofs.Fitness.{fit_parts}
use Rattle.renumbering.proofs.Connected.{at_most_one}
use Rattle.lists.specs.Coder.{Coder}
use Rattle.lists.proofs.Calls.{refused_exactly, accepted_where, accepted_stands, accepted_fit, answer_length, accepted_bytes, refused_bytes}
use Rattle.lists.proofs.Split.{splits, framed_some}
use Rattle.lists.proofs.Records.{record_framed, same_record, renumbered_record}

-- the table is one that loading gives, and every plan of the list is fit for its call's kind
abbrev AllFit : Table → List Writing → Type 0
AllFit t [] = Unit
AllFit t (c ∷ cs) = ((table_refused t ≡ false) × (fit c.kind c.plan ≡ true)) × AllFit t cs

-- the records of the plans, end to end
records : Table → List Writing → List ℕ
records t [] = []
records t (c ∷ cs) = record_of t c.kind c.plan ++ records t cs

-- ---- from calls to plans: only accepted calls count

accepted_all_fit : (t : Table) (cs : List Writing) → AllMeetContract t cs → AllFit t (accepted cs)
unfolding accepted
accepted_all_fit t [] h = tt
accepted_all_fit t (c ∷ cs) (h, hs) = go (is_accepted c) refl (accepted_all_fit t cs hs)
  where
    go : (b : Bool) → is_accepted c ≡ b → AllFit t (accepted cs) → AllFit t (cond b (c ∷ accepted cs) (accepted cs))
    go true a rest = ((accepted_stands t c h a, accepted_fit t c h a), rest)
    go false a rest = rest

-- lists that match place by place are equally long
match_length : (cs ds : List Writing) → PlaceByPlace cs ds → length cs ≡ length ds
match_length [] [] m = refl
match_length [] (d ∷ ds) m = absurd m
match_length (c ∷ cs) [] m = absurd m
match_length (c ∷ cs) (d ∷ ds) (a, m) = ap suc (match_length cs ds m)

module _ (coders : (k : ℕ) → is_kind k ≡ true → Coder k) (t : Table) where
  coder : (c : Writing) → fit c.kind c.plan ≡ true → Coder c.kind
  coder c e = coders c.kind (fit_parts c.kind c.plan e).kind

  -- ---- one call

  gives_record : (c : Writing) → MeetsContract t c → refusal_of t c ≡ 0
      → (bytes_written c ≡ record_of t c.kind c.plan) × (result_unwrap_or c.answer 0 ≡ length (record_of t c.kind c.plan))
  gives_record c h e =
      let a = accepted_where t c h e in
      (accepted_bytes t c h a, answer_length t c h a)

  laid_records : (cs : List Writing) → AllMeetContract t cs → laid_out cs ≡ records t (accepted cs)
  unfolding laid_out accepted records
  laid_records [] h = refl
  laid_records (c ∷ cs) (h, hs) = go (is_accepted c) refl (laid_records cs hs)
    where
      go : (b : Bool) → is_accepted c ≡ b → laid_out cs ≡ records t (accepted cs)
          → bytes_written c ++ laid_out cs ≡ records t (cond b (c ∷ accepted cs) (accepted cs))
      go true a rest = ap₂ (λ (xs ys : List ℕ). xs ++ ys) (accepted_bytes t c h a) rest
      go false a rest = ap₂ (λ (xs ys : List ℕ). xs ++ ys) (refused_bytes c a) rest

  -- ---- two lists of fit plans

  alike : (c d : Writing) → table_refused t ≡ false → fit c.kind c.plan ≡ true → fit d.kind d.plan ≡ true
      → record_of t c.kind c.plan ≡ record_of t d.kind d.plan → Alike c d
  alike c d stands e f same =
      let (kinds, (partners, carried)) = same_record t stands c.kind d.kind (coder c e) (coder d f) c.plan d.plan e f same in
      record { one_kind = kinds; partners = partners; carried = carried }

  alike_record : (c d : Writing) → fit c.kind c.plan ≡ true → fit d.kind d.plan ≡ true → Alike c d
      → record_of t c.kind c.plan ≡ record_of t d.kind d.plan
  alike_record c d e f a =
      renumbered_record t c.kind (coder c e) c.plan d.plan e
      (subst (λ (k : ℕ). fit k d.plan ≡ true) (sym a.one_kind) f) a.partners a.carried
      ∙ ap (λ (k : ℕ). record_of t k d.plan) a.one_kind

  records_match : (cs ds : List Writing) → AllFit t cs → AllFit t ds → records t cs ≡ records t ds → PlaceByPlace cs ds
  unfolding records
  records_match [] [] e f same = tt
  records_match [] (d ∷ ds) e (f, fs) same =
      framed_some (record_of t d.kind d.plan) (records t ds) (record_framed t d.kind (coder d f.1) d.plan f.1) (sym same)
  records_match (c ∷ cs) [] (e, es) f same =
      framed_some (record_of t c.kind c.plan) (records t cs) (record_framed t c.kind (coder c e.1) c.plan e.1) same
  records_match (c ∷ cs) (d ∷ ds) (e, es) (f, fs) same =
      let (here, rest) = splits (record_of t c.kind c.plan) (record_of t d.kind d.plan) (records t cs) (records t ds)
      (record_framed t c.kind (coder c e.1) c.plan e.1) (record_framed t d.kind (coder d f.1) d.plan f.1) same in
      (alike c d e.0 e.1 f.1 here, records_match cs ds es fs rest)

  match_records : (cs ds : List Writing) → AllFit t cs → AllFit t ds → PlaceByPlace cs ds → records t cs ≡ records t ds
  unfolding records
  match_records [] [] e f m = refl
  match_records [] (d ∷ ds) e f m = absurd m
  match_records (c ∷ cs) [] e f m = absurd m
  match_records (c ∷ cs) (d ∷ ds) (e, es) (f, fs) (a, m) =
      ap₂ (λ (xs ys : List ℕ). xs ++ ys) (alike_record c d e.1 f.1 a) (match_records cs ds es fs m)

  -- ---- two lists of calls

  same_bytes_alike : (cs ds : List Writing) → AllMeetContract t cs → AllMeetContract t ds → laid_out cs ≡ laid_out ds
      → PlaceByPlace (accepted cs) (accepted ds)
  same_bytes_alike cs ds h g same = records_match (accepted cs) (accepted ds) (accepted_all_fit t cs h) (accepted_all_fit t ds g)
      (sym (laid_records cs h) ∙ same ∙ laid_records ds g)

  pub demand_3 : Demand3 t
  demand_3 = record {
    refused_exactly = refused_exactly t;
    gives_record = gives_record;
    equally_many = λ cs ds h g same. match_length (accepted cs) (accepted ds) (same_bytes_alike cs ds h g same);
    same_bytes_alike = same_bytes_alike;
    alike_same_bytes = λ cs ds h g m. laid_records cs h ∙ match_records (accepted cs) (accepted ds) (accepted_all_fit t cs h) (accepted_all_fit t ds g) m
        ∙ sym (laid_records ds g);
    one_renumbering = λ k l p q f g e e' r r'. at_most_one k p q f g e r r';
    equal_records = λ k p q f e g. renumbered_record t k (coders k (fit_parts k p e).kind) p q e g f;
  }
