use Rattle.std.proofs.Common.{ap, ◌∙◌}
use Rattle.machine.specs.AtMachine.{AtMachine}
use Rattle.dap_requests.proofs.Forward.{takes_found, takes_none}
use Rattle.dap_requests.proofs.moves.take_target.Goals as goal

pub returns-in-Some-clause-goes : goal.returns-in-Some-clause-goes
returns-in-Some-clause-goes c =
    takes_found c.args.program.now.excepts c.args.desk.now c.take.new.desk c.args.answer.now c.take.new.answer c.system-system.result.now c.args.events.now
    c.as_slice.result.now c.args.branch c.args.number c.in-Some.event.now c.args.memo.now.seen.items c.take.new.memo.seen.items
    (c.system-system.ensures ∙ c.checked.ensures ∙ ap (λ (m : AtMachine). m.checked) c.machine.ensures) c.as_slice.ensures c.in-Some.ensures
    c.take.ensures.goes

pub returns-in-None-clause-goes : goal.returns-in-None-clause-goes
returns-in-None-clause-goes c =
    takes_none c.args.program.now.excepts c.args.desk.now c.args.answer.now c.no_target.new.answer c.system-system.result.now c.args.events.now
    c.as_slice.result.now c.args.branch c.args.number c.args.memo.now.seen.items
    (c.system-system.ensures ∙ c.checked.ensures ∙ ap (λ (m : AtMachine). m.checked) c.machine.ensures) c.as_slice.ensures c.in-None.ensures
    c.no_target.ensures
