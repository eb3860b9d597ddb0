use Rattle.std.proofs.Common.{◌≡◌, ◌∙◌, ◌<◌, length, Some, ap, arith}
use Rattle.slots.specs.Places.{filled}
use Rattle.slots.proofs.public.PlaceLaws.{rank-full, at-within}
use Rattle.slots.proofs.public.CountLaws.{full-at}
use Rattle.slots.proofs.blocks.place_at.Goals as goal

pub returns-then-count-len : goal.returns-then-count-len
returns-then-count-len g c =
    let test = c.if-count-len.true in
    let len = c.len.ensures.len in
    let count = c.requires.count in
    let within = c.requires.within in
    let full : length (filled c.args.slots.now.entries) ≡ length c.args.slots.now.entries = omega arith in
    let less : c.args.index < length c.args.slots.now.entries = omega arith in
    let at = at-within c.args.slots.now.entries c.args.index less in
    let held = full-at c.args.slots.now.entries c.args.index at.0 full at.1 less in
    record {
      ticket = at.0.0;
      item = held.0;
      here = at.1 ∙ ap (λ o. Some (at.0.0, o)) held.1;
      before = rank-full c.args.slots.now.entries c.args.index full (omega arith);
    }
