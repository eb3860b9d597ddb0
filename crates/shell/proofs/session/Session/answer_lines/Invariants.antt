use Rattle.std.proofs.Common.{◌≡◌, Option, List, ℕ, Result}
use Rattle.std.specs.Io.Buffered.{reader_remaining}
use Rattle.devices.specs.Counting.{failures}
use Rattle.debug_session.specs.declared.fault.Fault.{Fault}
use Rattle.shell_desk.specs.AtBench.{AtBench}
use Rattle.shell.specs.internal.Next.{Ended}
use Rattle.shell.proofs.session.Session.answer_lines.Given as goal

-- however the lines from here on end, so do those from the beginning
abbrev pub invariant-loop-taken : goal.invariant-loop-taken
invariant-loop-taken g l =
    (failures l.reader ≡ failures l.initial.reader) × (failures l.out ≡ failures l.initial.out)
    × ((left contents : Option (List ℕ)) (r : Result (Unit {0}) Fault) (b' : AtBench)
    → Ended (g.H.Host.files l.host) l.is_terminal l.setting.texts.source.now l.setting.texts.stimulus.now l.self.bench (reader_remaining g.R.Read.remaining l.reader.device) left
    (g.O.Write.contents l.out.device) contents r b'
    → Ended (g.H.Host.files l.host) l.is_terminal l.setting.texts.source.now l.setting.texts.stimulus.now l.initial.self.bench
    (reader_remaining g.R.Read.remaining l.initial.reader.device) left (g.O.Write.contents l.initial.out.device) contents r b')
