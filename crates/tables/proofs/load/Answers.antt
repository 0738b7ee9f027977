use Rattle.std.proofs.Common.{◌≡◌, refl}
use Rattle.model.specs.declared.Table.{Table}
use Rattle.model.specs.Groups.{loaded}
use Rattle.tables.proofs.Loading.{made_loaded, load_short, load_equal, load_good}
use Rattle.tables.proofs.load.Goals as goal
use Rattle.tables.proofs.load.Goals.{After-leads_all_back}

-- the table of the bytes and their inverse
made : (c : After-leads_all_back) → let t : Table = record { bytes = c.in-Ok.own.now; inverse = c.inverted-inverse.result } in t ≡ loaded c.args.bytes.now
made c = made_loaded _ _ _ c.in-Ok.ensures.1.same c.inverted-inverse.ensures

pub returns-in_default : goal.returns-in_default
returns-in_default c = load_short _ _ _ c.in_default.ensures.1 refl refl

pub returns-then-leads_all_back : goal.returns-then-leads_all_back
returns-then-leads_all_back c =
    load_good _ _ _ _ (made (goal.at.returns-then-leads_all_back c).After-leads_all_back) _ c.leads_all_back.ensures c.if-leads_all_back.true refl refl

pub returns : goal.returns
returns c = load_equal _ _ _ _ (made (goal.at.returns c).After-leads_all_back) _ c.leads_all_back.ensures c.if-leads_all_back.false refl refl
