use Rattle.std.proofs.Common.{ap, sym, ◌∙◌, subst}
use Rattle.recorded_calls.specs.History.{NoCallsFrom, Replays}
use Rattle.locked_object.specs.Keepers.{history}
use Rattle.locked_object.specs.Passes as passes
use Rattle.locked_execution.specs.Calls.{opening, passes_of}
use Rattle.locked_execution.specs.Sharing.{Keeps}
use Rattle.locked_execution.proofs.shared.Shared.finish_seen.Goals as goal

pub show-requires-clause-pass : goal.show-requires-clause-pass
show-requires-clause-pass g c = subst (λ b. passes.IsPassOf b.table.shared.table_id b.table.shared.key c.args.pass.now) (sym c.close-board.ensures.board) c.requires

pub returns-clause-pass : goal.returns-clause-pass
returns-clause-pass g c =
    (subst (λ b. passes.IsPassOf b.table.shared.table_id b.table.shared.key c.show.new.pass) c.close-board.ensures.board c.show.ensures.pass.0, c.show.ensures.pass.1, c.show.ensures.pass.2)

pub returns-clause-left : goal.returns-clause-left
returns-clause-left g c =
    let object = c.show.new.self.object in
    let log = history c.show.new.self in
    let replays : Replays Keeps (opening c.args.self) log object = subst (λ b. Replays Keeps b.table.shared.key log object) c.close-board.ensures.board c.show.ensures.keeper.replays in
    (object, subst (λ l. Replays Keeps (opening c.args.self) l object) (c.show.ensures.same.1 ∙ sym c.show.ensures.seen) replays, c.into_machine.ensures ∙ ap (λ d. d.machine) c.into_object.ensures)

pub returns-clause-no_others : goal.returns-clause-no_others
returns-clause-no_others g c =
    let keeper = c.show.new.self in
    let many = c.show.ensures.passes ∙ c.close-board.ensures.passes in
    let none : NoCallsFrom (passes_of c.args.self) (history keeper) = subst (λ n. NoCallsFrom n (history keeper)) many c.show.ensures.keeper.notes.no_others in
    subst (NoCallsFrom (passes_of c.args.self)) (c.show.ensures.same.1 ∙ sym c.show.ensures.seen) none
