use Rattle.debug_session.proofs.AskLemmas.{no-session-above}
use Rattle.debug_session.proofs.read.read_session.Goals as goal

pub returns-else-number-lt16 : goal.returns-else-number-lt16
returns-else-number-lt16 c = no-session-above c.args.rest.now c.in_ok-number.number c.in_ok-number.ensures c.if-number-lt16.false
