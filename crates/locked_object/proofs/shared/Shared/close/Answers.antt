use Rattle.std.proofs.Common.{ap}
use Rattle.locked_object.proofs.Guarding.{closed_keeper, keeper_moves}
use Rattle.locked_object.proofs.shared.Shared.close.Goals as goal

pub returns-clause-keeper : goal.returns-clause-keeper
returns-clause-keeper g c =
    let same = c.args.self.guards in
    let found = closed_keeper g.D.Object.performs _ _ _ _ _ _ _ _ (ap (λ m. m.0) c.lock-taken.ensures.seat.1) c.close_with-closed.ensures.values.2 c.take-keeper.ensures.value in
    (keeper_moves g.D.Object.performs _ _ _ _ _ _ _ (ap (λ b. b.table.shared.table_id) same.0) (ap (λ b. b.table.shared.key) same.0) same.1 found).0

pub returns-clause-passes : goal.returns-clause-passes
returns-clause-passes g c =
    let same = c.args.self.guards in
    let found = closed_keeper g.D.Object.performs _ _ _ _ _ _ _ _ (ap (λ m. m.0) c.lock-taken.ensures.seat.1) c.close_with-closed.ensures.values.2 c.take-keeper.ensures.value in
    (keeper_moves g.D.Object.performs _ _ _ _ _ _ _ (ap (λ b. b.table.shared.table_id) same.0) (ap (λ b. b.table.shared.key) same.0) same.1 found).1
