use Rattle.locked_object.specs.Keepers.{IsKeeperFor}
use Rattle.locked_object.proofs.shared.Shared.call_at.Given as goal

-- what the keeper is known to be
abbrev pub ghosts-take : goal.ghosts-take
ghosts-take g a = record { known = IsKeeperFor g.D.Object.performs a.self.now.board.table.shared.table_id a.self.now.board.table.shared.key a.self.now.passes }
