-- What a legal history of a shared execution is as a list of commands of sessions.
use Rattle.std.specs.Prelude.{map}
use Rattle.runs.specs.Sound.{Sound}
use Rattle.machine.specs.Headline.{Headline}
use Rattle.recorded_calls.specs.History.{Replays}
use Rattle.locked_execution.specs.AtDesk.{AtDesk, execution}
use Rattle.locked_execution.specs.Answered.{Answered}
use Rattle.locked_execution.specs.Sharing.{History, Keeps}

-- the calls of a legal history, each with the session of its pass, are answered in their order by their replies
abbrev pub HistoryIsAnswered : Type 0
HistoryIsAnswered = (d d' : AtDesk) (log : History) → Replays Keeps d log d' →
    Answered d (map (λ e. (e.pass, e.command)) log) (map (λ e. e.reply) log) d'

-- after a legal history on a sound execution one may rely on what one may rely on after any commands
abbrev pub HistoryKeepsHeadline : Type 0
HistoryKeepsHeadline =
    (d d' : AtDesk) (log : History) → Sound (execution d) → Replays Keeps d log d' → Headline (execution d')
