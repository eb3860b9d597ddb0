use Rattle.std.proofs.Common.{ap, arith}
use Rattle.locked_object.proofs.Guarding.{takes_at, keeper_moves}
use Rattle.locked_object.proofs.shared.Shared.take.Goals as goal

pub load-requires : goal.load-requires
load-requires g c =
    let same = c.args.self.now.guards in (
      c.requires.seat.0,
      (let one = c.args.self.now.one_keeper.0 in omega arith),
      takes_at g.D.Object.performs _ _ _ _ _ _ g.J.Knowing.known c.requires.seat.1
          (λ k fits. c.requires.known k (keeper_moves g.D.Object.performs _ _ _ _ _ _ k (ap (λ b. b.table.shared.table_id) same.0) (ap (λ b. b.table.shared.key) same.0) same.1 fits)),
    )
