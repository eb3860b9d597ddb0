use Rattle.std.proofs.Common.{◌≡◌, ◌∙◌, Ok, Err, refl}
use Rattle.std.specs.Io.Buffered.{reader_remaining}
use Rattle.devices.specs.Counting.{failures}
use Rattle.debug_session.specs.Counting.{after_reading, after_writing}
use Rattle.debug_session.specs.declared.fault.Fault.{Fault}
use Rattle.shell.proofs.TakenLemmas.{ended-more, next-false, next-true, read-on, stopped-first, wrote-on}
use Rattle.shell.proofs.session.Session.answer_lines.Goals as goal

pub loop-taken-preserved : goal.loop-taken-preserved
loop-taken-preserved g c =
    let read : after_reading c.answer_next.result (failures c.loop-taken.reader) ≡ failures c.loop-taken.reader =
    read-on c.answer_next.result c.in-Ok-true.field-0 (failures c.loop-taken.reader) c.in-Ok-true.is in
    let wrote : after_writing c.answer_next.result (failures c.loop-taken.out) ≡ failures c.loop-taken.out =
    wrote-on c.answer_next.result c.in-Ok-true.field-0 (failures c.loop-taken.out) c.in-Ok-true.is in (
      c.answer_next.ensures.read_failures ∙ (read ∙ c.loop-taken.invariant.0),
      c.answer_next.ensures.write_failures ∙ (wrote ∙ c.loop-taken.invariant.1),
      λ left contents r b' rest.
          c.loop-taken.invariant.2 left contents r b'
          (ended-more (g.H.Host.files c.args.host.now) c.args.is_terminal c.args.setting.now.texts.source.now c.args.setting.now.texts.stimulus.now c.loop-taken.self.bench
          c.answer_next.new.self.bench b' (reader_remaining g.R.Read.remaining c.loop-taken.reader.device)
          (reader_remaining g.R.Read.remaining c.answer_next.new.reader.device) left (g.O.Write.contents c.loop-taken.out.device)
          (g.O.Write.contents c.answer_next.new.out.device) contents r
          (next-true (g.H.Host.files c.args.host.now) c.args.is_terminal c.args.setting.now.texts.source.now c.args.setting.now.texts.stimulus.now c.loop-taken.self.bench
          c.answer_next.new.self.bench (reader_remaining g.R.Read.remaining c.loop-taken.reader.device)
          (reader_remaining g.R.Read.remaining c.answer_next.new.reader.device) (g.O.Write.contents c.loop-taken.out.device)
          (g.O.Write.contents c.answer_next.new.out.device) c.answer_next.result c.in-Ok-true.field-0 c.in-Ok-true.is c.in-Ok-true.field-0-test
          c.answer_next.ensures.ends)
          rest),
    )

pub returns-in-Ok-false-clause-ends : goal.returns-in-Ok-false-clause-ends
returns-in-Ok-false-clause-ends g c =
    c.loop-taken.invariant.2 (reader_remaining g.R.Read.remaining c.answer_next.new.reader.device)
    (g.O.Write.contents c.answer_next.new.out.device) (Ok tt) c.answer_next.new.self.bench
    (next-false (g.H.Host.files c.args.host.now) c.args.is_terminal c.args.setting.now.texts.source.now c.args.setting.now.texts.stimulus.now c.loop-taken.self.bench
    c.answer_next.new.self.bench (reader_remaining g.R.Read.remaining c.loop-taken.reader.device)
    (reader_remaining g.R.Read.remaining c.answer_next.new.reader.device) (g.O.Write.contents c.loop-taken.out.device)
    (g.O.Write.contents c.answer_next.new.out.device) c.answer_next.result c.in-Ok-false.field-0 c.in-Ok-false.is c.in-Ok-false.field-0-test
    c.answer_next.ensures.ends)

pub returns-in-Err-clause-ends : goal.returns-in-Err-clause-ends
returns-in-Err-clause-ends g c =
    c.loop-taken.invariant.2 (reader_remaining g.R.Read.remaining c.answer_next.new.reader.device)
    (g.O.Write.contents c.answer_next.new.out.device) (Err c.in-Err.fault) c.answer_next.new.self.bench c.in-Err.ensures.ends

pub returns-clause-ends : goal.returns-clause-ends
returns-clause-ends g c =
    c.loop-taken.invariant.2 (reader_remaining g.R.Read.remaining c.loop-taken.reader.device) (g.O.Write.contents c.loop-taken.out.device)
    (Err Fault.Memory) c.loop-taken.self.bench
    (stopped-first (g.H.Host.files c.args.host.now) c.args.is_terminal c.args.setting.now.texts.source.now c.args.setting.now.texts.stimulus.now
    c.loop-taken.self.bench (reader_remaining g.R.Read.remaining c.loop-taken.reader.device)
    (g.O.Write.contents c.loop-taken.out.device) Fault.Memory refl)
