use Rattle.std.proofs.Common.{arith, rules}
use Rattle.cycles.proofs.Turns.{Turn, half_start, half_end, turn_count, turn_room, turn_ready, turn_size, turn_new, turn_old}
use Rattle.cycles.proofs.name.Given.{Over}
use Rattle.cycles.proofs.name.Goals as goal
use Rattle.cycles.proofs.name.Goals.{In-loop-d, then-w-a, else-w-a}

-- dart d has its turn
turn : (g : Over) (c : In-loop-d g) → Turn g.S.Steps.of c.args.rotation.order.now c.args.a c.args.b c.fill.new.w c.loop-d.d c.loop-d.count c.loop-d.w
turn g c =
    record {
      permutes = g.met.S.Steps.permutes;
      size = c.args.rotation.sized;
      entries = c.args.rotation.entries;
      apart = c.requires.0;
      fits = search rules;
      below = c.loop-d-test.true;
      as_long = c.loop-d.auto.w;
      half = c.loop-d.invariant;
    }

pub loop-d-init : goal.loop-d-init
loop-d-init g c = half_start _ _ _ _ c.args.w.now c.requires.0 c.requires.1 _ c.fill.ensures

pub follow-size-requires : goal.follow-size-requires
follow-size-requires g c = turn_ready (turn g (goal.at.follow-size-requires g c).In-loop-d) c.if-w-a.true

pub overflow_cast-w : goal.overflow_cast-w
overflow_cast-w g c =
    let k = turn_size (turn g (goal.at.overflow_cast-w g c).In-loop-d) c.follow-size.ensures in omega arith

pub overflow_add-w : goal.overflow_add-w
overflow_add-w g c = let r = turn_room (turn g (goal.at.overflow_add-w g c).In-loop-d) in search (rules, r)

pub offset_bounds-w-b : goal.offset_bounds-w-b
offset_bounds-w-b g c = let r = turn_room (turn g (goal.at.offset_bounds-w-b g c).In-loop-d) in search (rules, r)

pub bounds-w-b : goal.bounds-w-b
bounds-w-b g c = let r = turn_room (turn g (goal.at.bounds-w-b g c).In-loop-d) in search (rules, r)

pub overflow_add-count : goal.overflow_add-count
overflow_add-count g c = let k = turn_count (turn g (goal.at.overflow_add-count g c).In-loop-d) in omega arith

pub loop-d-preserved : goal.loop-d-preserved
loop-d-preserved g c =
    let t = turn g (goal.at.loop-d-preserved g c).In-loop-d in
    elim c.if-w-a.branch [
      | then-w-a u ↦ turn_new t u.follow-size.ensures u.if-w-a.true u.count-is u.w-is
      | else-w-a v ↦ turn_old t v.if-w-a.false v.count-is v.w-is
    ]

pub returns : goal.returns
returns g c =
    half_end _ _ _ _ c.args.w.now c.requires.0 c.requires.1 _ c.fill.ensures c.loop-d.d _ _ (omega arith) c.loop-d.invariant
