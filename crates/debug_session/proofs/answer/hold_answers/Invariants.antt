use Rattle.std.proofs.Common.{◌≡◌}
use Rattle.debug_session.proofs.HoldingLemmas.{Holding}
use Rattle.debug_session.proofs.SessionLemmas.{Progress}
use Rattle.debug_session.proofs.answer.hold_answers.Given as goal

-- the lines so far are answered, and nothing failed
abbrev pub invariant-loop-number : goal.invariant-loop-number
invariant-loop-number g l =
    (l.script_state.desk.machine.checked ≡ l.initial.script_state.desk.machine.checked)
    × Progress l.initial.script_state.desk.machine.checked l.initial.script_state (g.R.CountedLines.remaining l.initial.reader) (g.R.CountedLines.remaining l.reader)
    (g.W.CountedWrite.contents l.initial.writer) (g.W.CountedWrite.contents l.writer) l.pending.items l.script_state l.number
    × (g.R.CountedLines.failed l.reader ≡ g.R.CountedLines.failed l.initial.reader) × (g.W.CountedWrite.failed l.writer ≡ g.W.CountedWrite.failed l.initial.writer)
    × Holding g.R.CountedLines.buffered g.R.CountedLines.asked g.W.CountedWrite.contents g.W.CountedWrite.unsent g.W.CountedWrite.wanted l.initial.script_state.desk.machine.checked l.initial.script_state l.reader
    (g.R.CountedLines.remaining l.initial.reader) (g.R.CountedLines.remaining l.reader) l.initial.writer l.writer l.pending.items l.script_state
