use Rattle.std.proofs.Common.{inl, refl}
use Rattle.std.specs.Io.Buffered.{reader_remaining}
use Rattle.file_answers.specs.Used.{used}
use Rattle.command_line.proofs.DebuggingLemmas.{debug-session}
use Rattle.file_answers.proofs.public.Handing.{handed-on}
use Rattle.command_line.proofs.program.debug_files.Goals as goal

pub returns-in_err-read_texts : goal.returns-in_err-read_texts
returns-in_err-read_texts g c =
    inl (
      c.in_err-read_texts.field-0.0,
      c.in_err-read_texts.ensures,
      handed-on c.from_residual.result c.in_err-read_texts.field-0.0 c.from_residual.ensures.1,
      refl,
      refl,
    )

pub returns : goal.returns
returns g c =
    debug-session (g.F.Files.holds c.args.from.now.files.now) c.args.file.now c.args.stimulus.now
    (record {
      source = c.read_texts.new.texts.source.items;
      values = c.read_texts.new.texts.values.items;
      trace = c.read_texts.new.texts.trace.items;
      said = c.debug_keeping.new.last_line.items;
    })
    c.as_slice.result.now c.as_slice-2.result.now
    (used (reader_remaining g.I.Read.remaining) c.args.reader.now c.debug_keeping.new.reader)
    (used g.O.Write.contents c.args.out.now c.debug_keeping.new.writer) c.debug_keeping.result
    c.in_ok-read_texts.ensures c.as_slice.ensures.value c.as_slice-2.ensures.value c.debug_keeping.ensures.debugged
    c.debug_keeping.ensures.read_failures c.debug_keeping.ensures.write_failures
