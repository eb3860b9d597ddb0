use Rattle.std.proofs.Common.{sym, ◌∙◌, subst}
use Rattle.object_workers.specs.Runs.{PassesFit}
use Rattle.locked_execution.specs.Calls.{opening, table}
use Rattle.locked_execution.specs.Working.{CountsLive}
use Rattle.locked_execution.proofs.WorkLemmas.{new_fit, ran_fit, ran_many, crew_ran}
use Rattle.locked_execution.proofs.crew.Crew.work.Goals as goal

pub run_workers-requires-clause-passes : goal.run_workers-requires-clause-passes
run_workers-requires-clause-passes g c κs within =
    let made = c.in_ok-execution in
    new_fit (table made.execution) (opening made.execution) c.args.self.workers made.passes.items made.ensures.passes

pub live_behind-requires-clause-passes : goal.live_behind-requires-clause-passes
live_behind-requires-clause-passes g c =
    let made = c.in_ok-execution in
    subst (λ b. PassesFit b.table.shared.table_id b.table.shared.key c.in-Ok.ran.passes.items) (sym c.close-board.ensures.board)
    (ran_fit (table made.execution) (opening made.execution) _ _ _ _ _ _ c.in-Ok.ensures.ran.each)

pub live_behind-requires-clause-count : goal.live_behind-requires-clause-count
live_behind-requires-clause-count g c =
    let made = c.in_ok-execution in
    let many = ran_many (table made.execution) (opening made.execution) _ _ _ _ _ _ c.in-Ok.ensures.ran.each in
    c.close-board.ensures.passes ∙ made.ensures.count ∙ sym (many ∙ made.ensures.passes.many)

pub returns-in-Ok : goal.returns-in-Ok
returns-in-Ok g c =
    let made = c.in_ok-execution in
    let lives = subst (λ b. CountsLive b.table.shared.key c.in-Ok.ran.passes.items c.live_behind.result) c.close-board.ensures.board c.live_behind.ensures in
    crew_ran c.args.checked c.args.self.workers c.args.self.turns c.in-Ok.ran.stepped c.live_behind.result c.in-Ok.ran.lost
    (table made.execution) (opening made.execution) c.in_ok-machine.machine made.passes.items c.in-Ok.ran.passes.items
    c.in_ok-machine.ensures made.ensures.opening made.ensures.passes c.in-Ok.ensures.ran lives
