use Rattle.std.proofs.Common.{rules}
use Rattle.questions.proofs.waits.waiting_on.Goals as goal

pub returns : goal.returns
returns c = (c.in_ok-waiting.waiting, c.in_ok-waiting.ensures, search rules)
