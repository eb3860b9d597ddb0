use Rattle.std.proofs.Common.{inl, inr, ap, option_map}
use Rattle.std.specs.Option.{option_copied}
use Rattle.file_answers.proofs.public.Handing.{refused}
use Rattle.command_line.proofs.ShellLemmas.{start-had}
use Rattle.command_line.proofs.shells.read_start.Goals as goal

pub returns-in_err-read_texts : goal.returns-in_err-read_texts
returns-in_err-read_texts g c =
    refused c.from_residual.result c.in_err-read_texts.field-0.0 _ _ (inl c.in_err-read_texts.ensures)
    c.from_residual.ensures.1

pub returns-in_err-accept_first : goal.returns-in_err-accept_first
returns-in_err-accept_first g c =
    refused c.from_residual-in_err-accept_first.result c.in_err-accept_first.field-0.0 _ _
    (inr (
      c.read_texts.new.texts.source.items,
      c.read_texts.new.texts.values.items,
      c.in_ok-read_texts.ensures,
      inl c.in_err-accept_first.ensures,
    ))
    c.from_residual-in_err-accept_first.ensures.1
