use Rattle.std.proofs.Common.{subst}
use Rattle.std.proofs.lemmas.Result.{IfOk-weaker}
use Rattle.runs.specs.Live.{Live, events}
use Rattle.trace_file.specs.TraceText.{IsTrace}
use Rattle.trace_file.proofs.LawLemmas.{only-trace}
use Rattle.trace_file.proofs.OrderLemmas.{runs-listed}
use Rattle.trace_file.proofs.writer.write_trace.Goals as goal

pub write_events-requires : goal.write_events-requires
write_events-requires c = runs-listed c.args.machine.now c.live_events.result.now.live c.live_events.ensures.live c.is_sound.ensures.sound

pub returns-clause-equal : goal.returns-clause-equal
returns-clause-equal c =
    IfOk-weaker c.write_events.result _ _
    (λ text trace k other there back too. only-trace c.args.machine.now text.items k other c.is_sound.ensures.sound there back
    (subst (λ (l : Live). IsTrace (events l) text.items) c.live_events.ensures.live trace) too)
    c.write_events.ensures.text
