use Rattle.dap_requests.proofs.Listing.{tells_more}
use Rattle.dap_requests.proofs.breakpoints.tell_placed.Goals as goal

pub returns-clause-told : goal.returns-clause-told
returns-clause-told c =
    tells_more c.args.program.now.counting.lines (record c.args.one { at = c.args.placed.now.line }) c.args.making.now.shown c.push.new.self
    c.shown.result c.shown.ensures.number_is c.shown.ensures.verified c.shown.ensures.line_is c.push.ensures
