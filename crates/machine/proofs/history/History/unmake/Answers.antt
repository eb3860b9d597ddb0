use Rattle.std.proofs.Common.{refl}
use Rattle.machine.specs.internal.Histories.{tree_of}
use Rattle.machine.proofs.public.Standing.{last-reverts}
use Rattle.machine.proofs.history.History.unmake.Goals as goal

pub invert_by-requires : goal.invert_by-requires
invert_by-requires c = record {
  possible = last-reverts c.requires.0 (tree_of c.args.self.now) c.args.event.now c.args.event.now c.args.inverse c.requires.1 refl;
}
