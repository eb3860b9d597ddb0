-- Legal histories as lists of commands of sessions.
use Rattle.std.proofs.Common.{inl, [], ◌∷◌, map, refl}
use Rattle.runs.proofs.public.ObjectLaws.{stays-over-lists}
use Rattle.machine.proofs.public.HeadlineLaws.{headline}
use Rattle.locked_execution.specs.AtDesk.{execution}
use Rattle.locked_execution.specs.Histories.{HistoryIsAnswered, HistoryKeepsHeadline}
use Rattle.locked_execution.proofs.public.BridgeLaws.{commands_of, are-on-execution}

pub history-is-answered : HistoryIsAnswered
history-is-answered d d' [] is = (refl, is)
history-is-answered d d' (e ∷ log) (m, now, rest) =
    (e.reply, map (λ e. e.reply) log, m, refl, inl now.0, history-is-answered m d' log rest)

pub history-keeps-headline : HistoryKeepsHeadline
history-keeps-headline d d' log sound legal =
    let commands = map (λ e. (e.pass, e.command)) log in
    let replies = map (λ e. e.reply) log in
    let there = are-on-execution d d' commands replies (history-is-answered d d' log legal) in
    headline (execution d') (stays-over-lists (execution d) (execution d') (commands_of commands replies) there.0 sound there.2)
