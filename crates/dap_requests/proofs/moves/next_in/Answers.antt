use Rattle.std.proofs.Common.{List, ap, sym, subst}
use Rattle.runs.specs.Ready.{ReadyList}
use Rattle.runs.specs.declared.event.Event.{Event}
use Rattle.dap_requests.proofs.Forward.{forth_listed, forth_nowhere}
use Rattle.dap_requests.proofs.moves.next_in.Goals as goal

pub returns-in-Ok-clause-goes : goal.returns-in-Ok-clause-goes
returns-in-Ok-clause-goes c =
    let listed = c.in-Ok.ensures.events in
    let ready = subst (λ (es : List Event). ReadyList listed.0 es) (sym c.from_vec-events.ensures) listed.2 in
    forth_listed c.args.program.now.excepts c.args.desk.now c.take_target.new.desk c.args.answer.now c.take_target.new.answer c.machine.result.now
    c.from_vec-events.result c.args.branch c.args.number c.args.memo.now.seen.items c.take_target.new.memo.seen.items c.machine.ensures
    (listed.0, listed.1, ready) c.take_target.ensures.goes

pub returns-in-Err-clause-goes : goal.returns-in-Err-clause-goes
returns-in-Err-clause-goes c =
    forth_nowhere c.args.program.now.excepts c.args.desk.now c.args.answer.now c.no_memory.new.answer c.args.branch c.args.number c.args.memo.now.seen.items
    c.no_memory.new.memo.seen.items (ap (λ v. v.items) c.no_memory.ensures.seen) c.no_memory.ensures.stops
