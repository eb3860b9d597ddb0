use Rattle.std.proofs.Common.{◌∙◌}
use Rattle.rings.proofs.PlaceRows.{looked}
use Rattle.rings.proofs.place_uses.PlaceUses.row.Goals as goal

pub returns : goal.returns
returns c = c.copied.ensures ∙ c.get.ensures.value ∙ looked c.args.place.now c.args.self.now.rows.entries
