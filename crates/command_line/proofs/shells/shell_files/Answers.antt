use Rattle.std.proofs.Common.{◌≡◌, inl, inr, refl}
use Rattle.std.specs.Option.{option_copied}
use Rattle.std.specs.Io.Buffered.{reader_remaining}
use Rattle.devices.specs.Counting.{device}
use Rattle.command_line.specs.Shells.{any_files, text_of}
use Rattle.file_answers.proofs.public.Handing.{handed-on}
use Rattle.command_line.proofs.ShellLemmas.{session-on}
use Rattle.command_line.proofs.shells.shell_files.Goals as goal

pub returns-in_err-read_start : goal.returns-in_err-read_start
returns-in_err-read_start g c =
    inl (
      c.in_err-read_start.field-0.0,
      c.in_err-read_start.ensures,
      handed-on c.from_residual.result c.in_err-read_start.field-0.0 c.from_residual.ensures.1,
      refl,
      refl,
    )

pub returns : goal.returns
returns g c = inr (
  c.read_start.new.texts.source.items,
  c.read_start.new.texts.values.items,
  c.read_start.new.texts.trace.items,
  c.in_ok-read_start.ensures,
  (
    c.is_terminal-has_prompt.result,
    session-on any_files c.is_terminal-has_prompt.result c.read_start.new.texts.source.items c.read_start.new.texts.values.items c.as_slice.result.now
        c.as_slice-2.result.now (text_of (option_copied c.args.start.now.trace) c.read_start.new.texts.trace.items)
        (option_copied c.trace_text.result) ((c.run.new.reader ≡ c.args.reader.now) × (c.run.new.out ≡ c.args.out.now))
        (reader_remaining g.I.Read.remaining (device c.args.reader.now))
        (reader_remaining g.I.Read.remaining (device c.run.new.reader)) (g.O.Write.contents (device c.args.out.now))
        (g.O.Write.contents (device c.run.new.out)) c.run.result c.as_slice.ensures.value
        c.as_slice-2.ensures.value c.trace_text.ensures c.run.ensures.ends,
  ),
  c.run.ensures.read_failures,
  c.run.ensures.write_failures,
)
