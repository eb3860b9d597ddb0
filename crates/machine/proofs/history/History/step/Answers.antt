use Rattle.process_tree.specs.Translation.{system_code}
use Rattle.event_inverse.specs.Grown.{state_of_tree}
use Rattle.machine.specs.internal.Histories.{execution, tree_of}
use Rattle.machine.proofs.public.Standing.{stands-stems, stands-tidy}
use Rattle.machine.proofs.Stepped.{chosen-of, found-answers}
use Rattle.machine.proofs.history.History.step.Goals as goal

pub take_found-requires-clause-allowed : goal.take_found-requires-clause-allowed
take_found-requires-clause-allowed c = λ e is.
    let h = c.args.self.now in
    let found = c.in-Ok.ensures.found (system_code c.args.system.now) c.requires.uses
    (stands-stems c.args.system.now (tree_of h) h.live.live h.inverses h.next c.requires.holds)
    (stands-tidy c.args.system.now (tree_of h) h.live.live h.inverses h.next c.requires.holds) in
    (chosen-of (state_of_tree (tree_of h)) c.args.choice.now c.in-Ok.found e found is).allowed

pub returns-in-Ok-clause-answers : goal.returns-in-Ok-clause-answers
returns-in-Ok-clause-answers c =
    let h = c.args.self.now in
    let found = c.in-Ok.ensures.found (system_code c.args.system.now) c.requires.uses
    (stands-stems c.args.system.now (tree_of h) h.live.live h.inverses h.next c.requires.holds)
    (stands-tidy c.args.system.now (tree_of h) h.live.live h.inverses h.next c.requires.holds) in
    found-answers (execution c.args.system.now h) (execution c.args.system.now c.take_found.new.self) c.args.choice.now
    (state_of_tree (tree_of h)) c.in-Ok.found c.take_found.result c.requires.holds.run.runs found c.take_found.ensures.taken
