use Rattle.std.proofs.Common.{◌≡◌, refl}
use Rattle.model.specs.Traversal.{down, up, first, second}
use Rattle.work.specs.Letters.{to_letter}
use Rattle.work.proofs.Letters.{is_down_lem, is_up, is_first_lem, is_second_lem}
use Rattle.word_builder.proofs.Letters.{some_room, able_as, moved_as}
use Rattle.word_builder.proofs.step.Goals as goal
use Rattle.word_builder.proofs.step.Goals.{Else-x-eq-UP}

-- the letter is none of the first three
is_last : (c : Else-x-eq-UP) → to_letter c.args.x ≡ second
is_last c = is_second_lem _ c.if-x-eq-DOWN.false c.if-x-eq-UP.false c.if-x-eq-FIRST.false

pub enter-requires : goal.enter-requires
enter-requires c =
    let (f, a) = c.requires in
    (f.stands, some_room _ _ _ _ f (able_as _ _ _ _ f _ a down (is_down_lem _ c.if-x-eq-DOWN.true)))

pub returns-then-x-eq-DOWN : goal.returns-then-x-eq-DOWN
returns-then-x-eq-DOWN c =
    let (f, a) = c.requires in
    let q = is_down_lem _ c.if-x-eq-DOWN.true in
    moved_as _ _ _ _ f _ a down q _ _ _ refl (able_as _ _ _ _ f _ a down q) c.enter.ensures

pub back-requires : goal.back-requires
back-requires c =
    let (f, a) = c.requires in
    (f.stands, some_room _ _ _ _ f (able_as _ _ _ _ f _ a first (is_first_lem _ c.if-x-eq-FIRST.true)))

pub returns-then-x-eq-FIRST : goal.returns-then-x-eq-FIRST
returns-then-x-eq-FIRST c =
    let (f, a) = c.requires in
    let q = is_first_lem _ c.if-x-eq-FIRST.true in
    moved_as _ _ _ _ f _ a first q _ _ _ refl (able_as _ _ _ _ f _ a first q) c.back.ensures

pub last_tree-tree-requires : goal.last_tree-tree-requires
last_tree-tree-requires c = let (f, a) = c.requires in (f.stands, able_as _ _ _ _ f _ a up (is_up _ c.if-x-eq-UP.true))

pub rise-requires : goal.rise-requires
rise-requires c =
    let (f, a) = c.requires in
    let t = c.last_tree-tree.ensures in
    (f.stands, able_as _ _ _ _ f _ a up (is_up _ c.if-x-eq-UP.true), t.0, t.1)

pub returns-then-x-eq-UP : goal.returns-then-x-eq-UP
returns-then-x-eq-UP c =
    let (f, a) = c.requires in
    let t = c.last_tree-tree.ensures in
    moved_as _ _ _ _ f _ a up (is_up _ c.if-x-eq-UP.true) _ _ _ t.0 t.1 c.rise.ensures

pub last_open-open-requires : goal.last_open-open-requires
last_open-open-requires c =
    let (f, a) = c.requires in
    let q = is_last (goal.at.last_open-open-requires c).Else-x-eq-UP in
    (f.stands, (able_as _ _ _ _ f _ a second q).0)

pub close-requires : goal.close-requires
close-requires c =
    let (f, a) = c.requires in
    let q = is_last (goal.at.close-requires c).Else-x-eq-UP in
    let o = c.last_open-open.ensures in
    (f.stands, (able_as _ _ _ _ f _ a second q).0, o.0, o.1)

pub returns : goal.returns
returns c =
    let (f, a) = c.requires in
    let q = is_last (goal.at.returns c).Else-x-eq-UP in
    let o = c.last_open-open.ensures in
    moved_as _ _ _ _ f _ a second q _ _ _ o.0 o.1 c.close.ensures
