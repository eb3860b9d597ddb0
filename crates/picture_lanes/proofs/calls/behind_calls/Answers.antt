use Rattle.std.proofs.Common.{◌≡◌, ◌∙◌, ◌+◌, ◌-◌, ◌<◌, ℕ, length, ap, arith}
use Rattle.picture_lanes.specs.Calls.{At, behind_calls}
use Rattle.picture_lanes.proofs.Blocks.{passed_call}
use Rattle.picture_lanes.proofs.calls.behind_calls.Goals as goal

pub loop-passed-preserved : goal.loop-passed-preserved
loop-passed-preserved c =
    let procedures = c.args.procedures.now in
    let new = c.enter.new.instances in
    let at : At = record { written = c.loop-passed.written.now; block = c.loop-passed.block; instances = c.loop-passed.instances } in
    let next : At = record { written = c.in-Some.body.now; block = length new - 1; instances = new } in
    let first : At = record { written = c.args.written.now; block = c.args.block; instances = c.args.instances.now } in
    let here = rw c.in-Some.is at c.in_ok-body.ensures in
    let less : c.loop-passed.passed < length procedures = omega arith in
    let size : c.saturating_sub-block.result ≡ length new - 1 = omega arith in
    ap
    (λ (b : ℕ). behind_calls (length procedures - (c.loop-passed.passed + 1)) procedures (record { written = c.in-Some.body.now; block = b; instances = new }))
    size
    ∙ passed_call (length procedures) c.loop-passed.passed procedures at next (behind_calls (length procedures) procedures first) less here
    c.loop-passed.invariant
