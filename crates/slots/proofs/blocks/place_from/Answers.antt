use Rattle.std.proofs.Common.{refl, arith}
use Rattle.slots.proofs.public.PlaceLaws.{rank-whole}
use Rattle.slots.proofs.blocks.place_from.Goals as goal

pub loop-place-init : goal.loop-place-init
loop-place-init g c = refl

pub returns-then-left-here : goal.returns-then-left-here
returns-then-left-here g c =
    let test = c.if-left-here.true in
    let most = c.items_at-here.ensures.most in
    let sum = c.loop-place.invariant in
    let at = c.items_at-here.ensures.item (omega arith) in
    record { ticket = at.0; item = at.1; here = at.2; before = omega arith }

pub loop-place-preserved : goal.loop-place-preserved
loop-place-preserved g c =
    let test = c.if-left-here.false in
    let next = c.items_at-here.ensures.next in
    let sum = c.loop-place.invariant in
    omega arith

pub unreachable-requires : goal.unreachable-requires
unreachable-requires g c =
    let sum = c.loop-place.invariant in
    let less = c.requires in
    let test = c.loop-place-test.false in
    let whole = rank-whole c.args.slots.now.entries c.loop-place.place (omega arith) in
    absurd (omega arith)
