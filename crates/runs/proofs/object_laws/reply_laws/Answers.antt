-- Replies.
use Rattle.runs.proofs.public.OneReplies.{one-reply}
use Rattle.runs.proofs.public.SomeReplies.{some-reply}
use Rattle.runs.proofs.object_laws.reply_laws.Goals as goal

pub returns : goal.returns
returns c = record { one = one-reply; some = some-reply }
