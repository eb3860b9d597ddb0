use Rattle.std.proofs.Common.{◌≡◌, ◌<◌, ℕ, length, arith}
use Rattle.std.proofs.lemmas.List.{length-map}
use Rattle.slots.specs.Places.{filled}
use Rattle.slots.proofs.public.PlaceLaws.{filled-short}
use Rattle.dependence.specs.internal.Listed.{events_kept}
use Rattle.dependence.proofs.live_events.LiveEvents.of.Goals as goal

pub returns-clause-fits : goal.returns-clause-fits
returns-clause-fits c =
    let short = filled-short c.args.places in
    let same : length (events_kept (filled c.args.places)) ≡ length (filled c.args.places) = length-map (filled c.args.places) _ in
    let small = c.requires in
    let less : length (events_kept (filled c.args.places)) < 18446744073709551616 = omega arith in
    less
