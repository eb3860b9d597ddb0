use Rattle.dap_server.proofs.Printing.{lines_are_events}
use Rattle.dap_server.proofs.ShortEvents.{short_events}
use Rattle.dap_server.proofs.ShortForms.{short_responses}
use Rattle.dap_server.proofs.laws.short_laws.Goals as goal

pub returns-clause-lines : goal.returns-clause-lines
returns-clause-lines c = lines_are_events

pub returns-clause-responses : goal.returns-clause-responses
returns-clause-responses c = short_responses

pub returns-clause-events : goal.returns-clause-events
returns-clause-events c = short_events
