use Rattle.std.proofs.Common.{inr, subst, sym}
use Rattle.std.specs.Option.{option_copied}
use Rattle.std.specs.Io.Buffered.{reader_remaining}
use Rattle.devices.specs.Counting.{failures}
use Rattle.shell.specs.Taken.{EndsAt}
use Rattle.shell_desk.specs.AtBench.{AtBench}
use Rattle.shell.proofs.BeginLemmas.{begin-reads, begin-writes}
use Rattle.shell.proofs.lines.run.Goals as goal

pub returns-in-Ok-clause-ends : goal.returns-in-Ok-clause-ends
returns-in-Ok-clause-ends g c = inr (
  c.in-Ok.ensures.0,
  c.in-Ok.ensures.1,
  (
    c.run_on-done.new.session.bench,
    subst (λ (b : AtBench). EndsAt (g.H.Host.files c.args.host.now) c.args.is_terminal c.args.texts.source.now c.args.texts.stimulus.now b (reader_remaining g.R.Read.remaining c.args.reader.now.device)
        (reader_remaining g.R.Read.remaining c.run_on-done.new.reader.device) (g.O.Write.contents c.args.out.now.device)
        (g.O.Write.contents c.run_on-done.new.out.device) c.run_on-done.result c.run_on-done.new.session.bench)
        c.in-Ok.ensures.2 c.run_on-done.ensures.ends,
    c.is_sound.ensures,
  ),
)

pub returns-in-Err-clause-read_failures : goal.returns-in-Err-clause-read_failures
returns-in-Err-clause-read_failures g c =
    sym
    (begin-reads c.args.texts.source.now c.args.texts.stimulus.now (option_copied c.args.texts.trace) c.in-Err.fault
    (failures c.args.reader.now) c.in-Err.ensures)

pub returns-in-Err-clause-write_failures : goal.returns-in-Err-clause-write_failures
returns-in-Err-clause-write_failures g c =
    sym
    (begin-writes c.args.texts.source.now c.args.texts.stimulus.now (option_copied c.args.texts.trace) c.in-Err.fault
    (failures c.args.out.now) c.in-Err.ensures)
