use Rattle.std.proofs.Common.{Option, ap}
use Rattle.std.specs.Prelude.{String, string_bytes}
use Rattle.std.specs.Option.{option_map}
use Rattle.std.specs.declared.alloc.Global.{Global}
use Rattle.dap.specs.Asking.{asked_by}
use Rattle.dap.proofs.Reading.{trace_named}
use Rattle.dap.proofs.texts.trace.Goals as goal

pub returns-in-Some : goal.returns-in-Some
returns-in-Some g c =
    trace_named (g.F.Sources.reads c.args.files.now) (asked_by c.args.asked.now) c.trace_at.result c.as_str.result.now (string_bytes c.in-Some.name)
    c.args.answer.now c.trace_at.new.answer
    (ap (λ (o : Option (String Global)). option_map (λ path. string_bytes path) o) c.in-Some.is) c.as_str.ensures.value c.trace_at.ensures
