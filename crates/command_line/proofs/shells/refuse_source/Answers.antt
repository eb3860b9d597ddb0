use Rattle.std.proofs.Common.{ℕ, List, subst}
use Rattle.debug_session.specs.Accepting.{IsRefused}
use Rattle.file_answers.proofs.public.Handing.{refused}
use Rattle.command_line.proofs.shells.refuse_source.Goals as goal

pub returns-in_err-accept : goal.returns-in_err-accept
returns-in_err-accept c =
    refused c.from_residual.result c.in_err-accept.field-0.0 _ _
    (subst (λ (t : List ℕ). IsRefused c.args.texts.now.source.items t c.in_err-accept.field-0.0) c.as_slice-2.ensures.value
    (subst (λ (t : List ℕ). IsRefused t c.as_slice-2.result.now c.in_err-accept.field-0.0) c.as_slice.ensures.value
    c.in_err-accept.ensures.fault))
    c.from_residual.ensures.1
