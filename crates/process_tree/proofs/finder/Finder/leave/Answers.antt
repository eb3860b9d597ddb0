-- One entry less.
use Rattle.std.proofs.Common.{refl}
use Rattle.process_tree.proofs.Finding.{finder-is, gone}
use Rattle.process_tree.proofs.finder.Finder.leave.Goals as goal

pub returns : goal.returns
returns c = finder-is _ _ _ _ (gone c.args.self.now.entries c.pop.new.self c.pop.result c.pop.ensures) refl
