use Rattle.std.proofs.Common.{sym, subst, ℕ, List}
use Rattle.recorded_calls.specs.History.{Replays}
use Rattle.recorded_calls.specs.declared.entry.Entry.{Entry}
use Rattle.locked_object.proofs.Histories.{replays_more, one_more}
use Rattle.locked_object.proofs.keeper.Keeper.perform.Goals as goal

pub record-requires-clause-legal : goal.record-requires-clause-legal
record-requires-clause-legal g c =
    let done = subst (λ (n : ℕ). g.D.Object.performs c.args.self.now.object n c.args.command.now c.in-Ok.reply c.perform.new.self) c.args.pass.now.numbered c.in-Ok.ensures.done in
    (c.perform.new.self, replays_more g.D.Object.performs _ _ _ _ _ _ _ c.requires.keeper.replays done)

pub returns-in-Ok-clause-keeper : goal.returns-in-Ok-clause-keeper
returns-in-Ok-clause-keeper g c =
    let done = subst (λ (n : ℕ). g.D.Object.performs c.args.self.now.object n c.args.command.now c.in-Ok.reply c.perform.new.self) c.args.pass.now.numbered c.in-Ok.ensures.done in
    record {
      notes = c.record.ensures.recorder.0;
      replays = subst (λ (log : List (Entry g.row.C.Denot g.row.R.Denot)). Replays g.D.Object.performs c.args.board.now.table.shared.key log c.perform.new.self) (sym c.record.ensures.noted) (replays_more g.D.Object.performs _ _ _ _ _ _ _ c.requires.keeper.replays done);
      counted = one_more g.D.Object.performs _ _ _ _ c.requires.keeper.counted c.record.ensures.noted;
    }
