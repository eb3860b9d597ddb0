use Rattle.std.proofs.Common.{is_some, ap, ◌∙◌}
use Rattle.waiting.specs.internal.Held.{is_there}
use Rattle.waiting.proofs.HeldPlaces.{looked}
use Rattle.waiting.proofs.places.Places.has.Goals as goal

pub returns : goal.returns
returns c =
    c.is_some.ensures ∙ ap is_some (c.copied.ensures ∙ c.get.ensures.value ∙ looked c.entries.result.now c.args.self.now.map.entries)
    ∙ ap (is_there c.args.self.now) c.entries.ensures
