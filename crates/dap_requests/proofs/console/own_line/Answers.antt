use Rattle.dap_requests.proofs.Lines.{line_backs, line_rewinds}
use Rattle.dap_requests.proofs.console.own_line.Goals as goal

pub returns-then-is_back-clause-done : goal.returns-then-is_back-clause-done
returns-then-is_back-clause-done c = λ done. c.back_in.ensures.goes.2.done (c.result.ensures.done done)

pub returns-else-is_back-clause-done : goal.returns-else-is_back-clause-done
returns-else-is_back-clause-done c = λ done. c.reverse_in.ensures.goes.2.done (c.result.ensures.done done)

pub returns-then-is_back-clause-does : goal.returns-then-is_back-clause-does
returns-then-is_back-clause-does c =
    line_backs c.args.program.now c.args.desk.now c.back_in.new.desk c.args.branch c.args.answer.now c.result.new.answer c.back_in.new.answer
    c.args.line.now c.args.memo.now.seen.items c.back_in.new.memo.seen.items (c.is_back.ensures.0 c.if-is_back.true) c.result.ensures.quiet
    c.result.ensures.lacks c.result.ensures.done c.back_in.ensures.goes

pub returns-else-is_back-clause-does : goal.returns-else-is_back-clause-does
returns-else-is_back-clause-does c =
    line_rewinds c.args.program.now c.args.desk.now c.reverse_in.new.desk c.args.branch c.args.answer.now c.result.new.answer
    c.reverse_in.new.answer c.args.line.now c.is_back.result c.args.memo.now.seen.items c.reverse_in.new.memo.seen.items c.requires
    c.if-is_back.false c.is_back.ensures.1 c.result.ensures.quiet c.result.ensures.lacks c.result.ensures.done c.reverse_in.ensures.goes
