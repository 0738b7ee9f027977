use Rattle.std.proofs.Common.{◌≡◌, ℕ, ◌+◌, ◌-◌, ◌∙◌, sym, arith, get_or}
use Rattle.std.proofs.lemmas.List.{length-map}
use Rattle.std.proofs.lemmas.Grind.{get_or_default_zero}
use Rattle.std.proofs.lemmas.List.Edits.{map_over_more}
use Rattle.work.specs.Area.{region}
use Rattle.work.proofs.Regions.{length_region, placed_part}
use Rattle.group_bytes.proofs.Applying.{low_entry, all_applied}
use Rattle.group_bytes.proofs.apply.Goals as goal

pub bounds-bytes-v : goal.bounds-bytes-v
unfolding region
bounds-bytes-v c =
    let r = c.requires in
    let k : c.args.from + c.args.count - c.args.from ≡ c.args.count = omega arith in
    let low = low_entry _ c.loop-v.v-index _ _ c.loop-v-test.true c.loop-v.invariant (rw k r.3) in
    omega arith

pub loop-v-preserved : goal.loop-v-preserved
loop-v-preserved c =
    map_over_more (λ v. get_or c.args.bytes.now v 0) _ _ c.loop-v.v-index _ c.loop-v-test.true c.loop-v.invariant (sym (get_or_default_zero c.loop-v.v-items _ _ (omega arith)))

pub returns : goal.returns
unfolding region
returns c =
    let from = c.args.from in
    let count = c.args.count in
    let out = c.args.out.now in
    let k : from + count - from ≡ count = omega arith in
    let g = λ (v : ℕ). get_or c.args.bytes.now v 0 in
    let e = all_applied g c.loop-v.v-index _ _ c.loop-v-test.false c.loop-v.invariant in
    rw (e, k) (placed_part from count _ out (length-map (region from count out) g ∙ length_region from count out c.requires.0))
