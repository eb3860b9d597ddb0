-- Histories.
use Rattle.locked_execution.proofs.HistoryLaws.{history-is-answered, history-keeps-headline}
use Rattle.locked_execution.proofs.laws.history_laws.Goals as goal

pub returns : goal.returns
returns c = record { answered = history-is-answered; headline = history-keeps-headline }
