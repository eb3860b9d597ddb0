use Rattle.std.proofs.Common.{ap, sym, ◌∙◌, subst, arith}
use Rattle.locked_object.specs.Keepers.{IsKeeperFor}
use Rattle.locked_object.proofs.Guarding.{gives_at, keeper_moves, held_slot, same_slot, written_slot}
use Rattle.locked_object.proofs.shared.Shared.call_at.Goals as goal

pub slot_mut-keeper-requires : goal.slot_mut-keeper-requires
slot_mut-keeper-requires g c = (c.take.ensures.seat ∙ c.requires.seat.0, (c.take.ensures.taken.0, held_slot _ _ c.take.ensures.taken.1))

pub perform-told-requires-clause-keeper : goal.perform-told-requires-clause-keeper
perform-told-requires-clause-keeper g c =
    (subst (IsKeeperFor g.D.Object.performs c.args.self.now.board.table.shared.table_id c.args.self.now.board.table.shared.key c.args.self.now.passes)
    (same_slot _ _ _ c.take.ensures.taken.1 c.slot_mut-keeper.ensures.value) c.take.ensures.taken.2).0

pub load-requires : goal.load-requires
load-requires g c =
    let same = c.args.self.now.guards in
    let was =
    subst (IsKeeperFor g.D.Object.performs c.args.self.now.board.table.shared.table_id c.args.self.now.board.table.shared.key c.args.self.now.passes)
    (same_slot _ _ _ c.take.ensures.taken.1 c.slot_mut-keeper.ensures.value) c.take.ensures.taken.2 in (
      c.take.ensures.seat ∙ c.requires.seat.0,
      (let one = c.args.self.now.one_keeper.0 in omega arith),
      gives_at g.D.Object.performs _ _ _ _ _ _ _ (written_slot _ _ _ c.take.ensures.taken.1)
          (keeper_moves g.D.Object.performs _ _ _ _ _ _ _ (sym (ap (λ b. b.table.shared.table_id) same.0)) (sym (ap (λ b. b.table.shared.key) same.0)) (sym same.1)
          (c.perform-told.ensures.keeper, c.perform-told.ensures.passes ∙ was.1)),
    )
