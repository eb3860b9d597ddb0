use Rattle.std.proofs.Common.{[]}
use Rattle.std.specs.Io.Buffered.{reader_remaining}
use Rattle.devices.specs.Counting.{device}
use Rattle.shell.proofs.TakenLemmas.{ends-on, stopped-first}
use Rattle.shell.proofs.lines.run_on.Goals as goal

pub returns-in-Ok-clause-ends : goal.returns-in-Ok-clause-ends
returns-in-Ok-clause-ends g c =
    ends-on (g.H.Host.files c.args.host.now) c.args.is_terminal c.args.texts.now.source.now c.args.texts.now.stimulus.now
    c.in-Ok.setting.texts.source.now c.in-Ok.setting.texts.stimulus.now c.args.session.now.bench c.greet.new.self.bench
    (reader_remaining g.R.Read.remaining (device c.args.reader.now)) (reader_remaining g.R.Read.remaining (device c.greet.new.reader))
    (g.O.Write.contents (device c.args.out.now)) (g.O.Write.contents (device c.greet.new.out)) c.greet.result
    c.in-Ok.ensures.source c.in-Ok.ensures.stimulus c.greet.ensures.ends

pub returns-in-Err-clause-ends : goal.returns-in-Err-clause-ends
returns-in-Err-clause-ends g c = (
  [],
  stopped-first (g.H.Host.files c.args.host.now) c.args.is_terminal c.args.texts.now.source.now c.args.texts.now.stimulus.now
      c.args.session.now.bench (reader_remaining g.R.Read.remaining (device c.args.reader.now))
      (g.O.Write.contents (device c.args.out.now)) c.in-Err.fault c.in-Err.ensures.fault,
)
