use Rattle.std.proofs.Common.{ap, length, ◌∙◌}
use Rattle.dap_server.proofs.Sending.{batch_made}
use Rattle.dap_server.proofs.batch.framed_all.Goals as goal

pub returns-in-Ok : goal.returns-in-Ok
returns-in-Ok c =
    batch_made c.args.messages.items c.new-bytes.result.items _ c.new-bytes.ensures.items
    (c.count_of-count.ensures ∙ ap length c.as_slice.ensures.value) c.in-Ok.ensures
