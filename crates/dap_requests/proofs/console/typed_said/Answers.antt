use Rattle.dap_requests.proofs.Lines.{line_asks}
use Rattle.dap_requests.proofs.console.typed_said.Goals as goal

pub returns-in-Asked-clause-does : goal.returns-in-Asked-clause-does
returns-in-Asked-clause-does c =
    line_asks c.args.program.now c.args.desk.now c.ask.new.desk c.args.branch c.args.answer.now c.ask.new.answer c.args.line.now
    c.args.said.now c.in-Asked.command c.args.memo.now.seen.items c.ask.new.memo.seen.items c.in-Asked.is c.requires c.ask.ensures.does
