use Rattle.std.proofs.Common.{refl, sym, ◌∙◌}
use Rattle.std.proofs.lemmas.Result.{on_ok_weaker}
use Rattle.rings.specs.declared.place_uses.PlaceUses.{PlaceUses}
use Rattle.rings.proofs.PlaceRows.{again-put, again-sound}
use Rattle.rings.proofs.place_uses.PlaceUses.put.Goals as goal

pub returns-in-Some : goal.returns-in-Some
returns-in-Some c =
    let new : PlaceUses = record { rows = c.args.self.now.rows; count = c.args.self.now.count; uses = c.put.new.self } in
    let at = sym c.row.ensures ∙ c.in-Some.is in record {
      sound = on_ok_weaker c.put.result (λ h. again-sound c.args.self.now new c.args.place.now c.in-Some.row c.args.number refl refl h c.requires at) c.put.ensures.put;
      put = on_ok_weaker c.put.result (λ h. again-put c.args.self.now new c.args.place.now c.in-Some.row c.args.number refl refl h c.requires at) c.put.ensures.put;
    }
