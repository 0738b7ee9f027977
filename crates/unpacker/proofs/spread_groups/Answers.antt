use Rattle.std.proofs.Common.{ℕ, ◌≡◌, ◌+◌, ◌-◌, ◌*◌, ◌/◌, ◌≤◌, List, length, get_or, take, drop, sym, ap, ◌∙◌, arith}
use lib.ListN.{length-drop}
use lib.Seq.{length-take-le, get_or-take, get_or-drop}
use Rattle.packing.specs.Groups.{values_of}
use Rattle.packing.proofs.Groups.{values_length, values_at}
use Rattle.work.specs.Map.{LABELS}
use Rattle.work.specs.Area.{region}
use Rattle.unpacker.specs.Unpacked.{grouped}
use Rattle.unpacker.proofs.Payload.{KindTwo, two, labels_two}
use Rattle.unpacker.proofs.Labels.{groups_start, group_on, groups_end}
use Rattle.unpacker.proofs.spread_groups.Goals as goal
use Rattle.unpacker.proofs.spread_groups.Goals.{Start}

sizes : (c : Start) → KindTwo c.args.payload.now c.args.m
sizes c = two _ _ c.requires.sized

-- how many bytes there are from place n on
rest_long : (ps : List ℕ) (n : ℕ) → n ≤ length ps → length (take (length ps - n) (drop n ps)) ≡ length ps - n
rest_long ps n h = length-take-le (length ps - n) (drop n ps) (let l = length-drop n ps in omega arith)

pub slice_bounds-b-items-count : goal.slice_bounds-b-items-count
slice_bounds-b-items-count c = let z = two _ _ c.requires.sized in omega arith

pub slice_bounds-b-items-start : goal.slice_bounds-b-items-start
slice_bounds-b-items-start c = let z = two _ _ c.requires.sized in omega arith

pub loop-i-init : goal.loop-i-init
loop-i-init c = let a = c.args in groups_start (LABELS * (2 * a.m)) ((2 * a.m + 7) / 8) (values_of a.inverse.now a.payload.now) a.w.now

pub overflow_mul-i : goal.overflow_mul-i
overflow_mul-i c = let z = two _ _ c.requires.sized in let l = rest_long c.args.payload.now ((2 * c.args.m + 7) / 8) (omega arith) in omega arith

pub overflow_add-m : goal.overflow_add-m
overflow_add-m c = let z = two _ _ c.requires.sized in let l = rest_long c.args.payload.now ((2 * c.args.m + 7) / 8) (omega arith) in omega arith

pub put_group-requires : goal.put_group-requires
put_group-requires c = let z = two _ _ c.requires.sized in let l = rest_long c.args.payload.now ((2 * c.args.m + 7) / 8) (omega arith) in omega arith

pub loop-i-preserved : goal.loop-i-preserved
loop-i-preserved c =
    let a = c.args in let at = c.loop-i in let from = (2 * a.m + 7) / 8 in let vs = values_of a.inverse.now a.payload.now in
    let z = two _ _ c.requires.sized in
    let l = rest_long a.payload.now from (omega arith) in
    let n = values_length a.inverse.now a.payload.now in
    let b = get_or-take (length a.payload.now - from) (drop from a.payload.now) at.i 0 (omega arith) ∙ get_or-drop from a.payload.now at.i 0 in
    let v = values_at a.inverse.now a.payload.now (from + at.i) (omega arith) ∙ ap (λ (x : ℕ). get_or a.inverse.now x 0) (sym b) in
    ap (region (LABELS * (2 * a.m)) (5 * (at.i + 1)))
    (c.put_group.ensures ∙ ap (λ g. grouped (LABELS * (2 * a.m) + 5 * at.i) g at.w) (sym v))
    ∙ group_on (LABELS * (2 * a.m)) from vs at.w at.i (omega arith) (omega arith) at.invariant

pub returns : goal.returns
returns c =
    let a = c.args in let z = two _ _ c.requires.sized in
    let l = rest_long a.payload.now ((2 * a.m + 7) / 8) (omega arith) in
    let v = values_length a.inverse.now a.payload.now in
    groups_end (LABELS * (2 * a.m)) ((2 * a.m + 7) / 8) (values_of a.inverse.now a.payload.now) c.loop-i.w c.loop-i.i a.m (omega arith) (omega arith) c.loop-i.invariant
    ∙ labels_two _ _ _ c.requires.sized
