use Rattle.std.proofs.Common.{inl, refl, ap, ◌∙◌}
use Rattle.machine.specs.AtMachine.{AtMachine}
use Rattle.dap_requests.proofs.Lines.{asks_unread}
use Rattle.dap_requests.proofs.console.typed_line.Goals as goal

pub returns-in-Err-clause-does : goal.returns-in-Err-clause-does
returns-in-Err-clause-does c = inl (
  (refl, c.unread.ensures.quiet),
  refl,
  asks_unread c.args.desk.now.machine.checked c.checked.result.now c.args.line.now c.as_bytes.result.now c.in-Err.fault 1 c.unread.new.answer
      (c.checked.ensures ∙ ap (λ (m : AtMachine). m.checked) c.machine.ensures) c.as_bytes.ensures.value c.in-Err.ensures.fault c.unread.ensures.memory,
)
