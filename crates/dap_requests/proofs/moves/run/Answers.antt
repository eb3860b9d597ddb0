use Rattle.std.proofs.Common.{List, sym, subst, ap}
use Rattle.runs.specs.declared.event.Choice.{Choice}
use Rattle.dap_requests.specs.Forth.{RunsBy, going_of, stands_at, stop_at}
use Rattle.dap_requests.proofs.Forward.{run_told}
use Rattle.dap_requests.proofs.moves.run.Goals as goal

pub returns-clause-goes : goal.returns-clause-goes
returns-clause-goes c =
    let going = going_of c.args.program.now c.args.only in
    let before = c.args.memo.now.seen.items in
    let ended = c.run_on-ended.result in
    run_told going c.args.branch c.args.desk.now c.run_on-ended.new.desk before c.tell_ended.new.memo.seen.items c.args.answer.now
    c.tell_outputs.new.answer c.tell_ended.new.answer ended c.tell_outputs.ensures c.tell_ended.ensures.stops
    (subst
    (λ (xs : List Choice). RunsBy going c.args.branch c.args.desk.now before (stop_at going.excepts ended) (stands_at c.args.branch ended)
    c.run_on-ended.new.desk xs) (sym (ap (λ v. v.items) c.tell_ended.ensures.seen)) c.run_on-ended.ensures.goes)
