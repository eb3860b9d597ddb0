use Rattle.std.proofs.Common.{◌+◌, refl}
use Rattle.rings.specs.declared.place_uses.PlaceUses.{PlaceUses}
use Rattle.rings.proofs.PlaceRows.{first-put, first-sound}
use Rattle.rings.proofs.place_uses.PlaceUses.put_first.Goals as goal

pub returns : goal.returns
returns c =
    let new : PlaceUses = record { rows = c.insert.new.self; count = c.args.self.now.count + 1; uses = c.put.new.self } in record {
      sound = first-sound c.args.self.now new c.in_ok-key.key c.args.place.now c.args.number c.in_ok-key.ensures.items c.in_ok-insert.ensures.updates refl c.in_ok-put.ensures.put c.requires.sound c.requires.first;
      put = first-put c.args.self.now new c.in_ok-key.key c.args.place.now c.args.number c.in_ok-key.ensures.items c.in_ok-insert.ensures.updates refl c.in_ok-put.ensures.put c.requires.sound c.requires.first;
    }
