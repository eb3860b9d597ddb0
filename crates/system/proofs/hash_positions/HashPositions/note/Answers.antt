use Rattle.std.proofs.Common.{◌≡◌, sym, false, is_some}
use Rattle.system.specs.internal.Hashing.{position_of_hash}
use Rattle.system.proofs.HashLemmas.{hash_noted-insert}
use Rattle.system.proofs.hash_positions.HashPositions.note.Goals as goal

pub returns : goal.returns
returns c =
    let absent : is_some (position_of_hash c.args.self.now c.args.hash) ≡ false = rw (← c.find.ensures) (sym c.if-is_some.ensures) in
    hash_noted-insert c.args.hash c.args.position c.self.inside.index.entries c.insert.new.self.entries
    c.args.self.now c.self.view_is absent c.in_ok-insert.ensures.entries
