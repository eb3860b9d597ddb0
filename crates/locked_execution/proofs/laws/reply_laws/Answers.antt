-- Replies.
use Rattle.locked_execution.proofs.public.AskedLists.{answered-joins}
use Rattle.locked_execution.proofs.BranchSteps.{branch-is-step}
use Rattle.locked_execution.proofs.OneReplies.{one-reply-each}
use Rattle.locked_execution.proofs.SessionLists.{sessions-keep-sound, sessions-grow}
use Rattle.locked_execution.proofs.SomeReplies.{some-reply-each}
use Rattle.locked_execution.proofs.laws.reply_laws.Goals as goal

pub returns : goal.returns
returns c = record { one = one-reply-each; some = some-reply-each; branch = branch-is-step; joins = answered-joins; sound = sessions-keep-sound; grows = sessions-grow }
